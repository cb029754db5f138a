-- How deep the stack gets by statements.
use Rattle.std.proofs.Common.{◌≡◌, ◌∙◌, ap, ℕ, zero, suc, ◌+◌, max, List, [], ◌∷◌, length, take, get_or, arith}
use Rattle.scw_core.specs.TreeOf.{tree_of, trees_view}
use Rattle.scw_core.specs.declared.tree.Tree.{Tree}
use Rattle.scw_gen.specs.Around.{Around}
use Rattle.scw_gen.specs.Room.{stack_of, stack_of_effects, stack_of_statements}
use Rattle.scw_gen.specs.declared.mode.Mode.{Mode}
use Rattle.scw_gen.specs.declared.mode.Mode.TheVariants.{Effect}

max_of_three : (a b c : ℕ) → max a (max b c) ≡ max (max a b) c
max_of_three a b c = omega arith

max_nothing : (a : ℕ) → max a 0 ≡ max 0 a
max_nothing a = omega arith

-- that of the statements of a block is that of those before the last one, whose values are dropped, and of the last one
pub stack_split : (g : Around) (m : Mode) (d : Tree) (ts : List Tree) (k : ℕ) → length ts ≡ k + 1 → stack_of_statements g m (trees_view ts) ≡ max (stack_of_effects g (trees_view (take k ts))) (stack_of g m (tree_of (get_or ts k d)))
unfolding stack_of_statements stack_of_effects
stack_split g m d [] k h = absurd (omega arith)
stack_split g m d (t ∷ []) zero h = max_nothing (stack_of g m (tree_of t))
stack_split g m d (t ∷ []) (suc k) h = absurd (omega arith)
stack_split g m d (t ∷ u ∷ us) zero h = absurd (omega arith)
stack_split g m d (t ∷ u ∷ us) (suc k) h = ap (max (stack_of g Effect (tree_of t))) (stack_split g m d (u ∷ us) k (omega arith)) ∙ max_of_three (stack_of g Effect (tree_of t)) (stack_of_effects g (trees_view (take k (u ∷ us)))) (stack_of g m (tree_of (get_or (u ∷ us) k d)))
