-- Codes one behind the other.
use Rattle.std.proofs.Common.{◌≡◌, ◌∙◌, ap, refl, sym, ℕ, zero, suc, ◌+◌, List, [], ◌∷◌, Option, Some, None, length, take, get_or, append_assoc, append-nil, arith}
use Rattle.scw_core.specs.TreeOf.{tree_of, trees_view}
use Rattle.scw_core.specs.declared.tree.Tree.{Tree}
use Rattle.scw_gen.specs.Around.{Around}
use Rattle.scw_gen.specs.Code.{code, joined, operands, statements}
use Rattle.scw_gen.specs.Scope.{Scope}
use Rattle.scw_gen.specs.declared.instr.Instr.{Instr}
use Rattle.scw_gen.specs.declared.mode.Mode.{Mode}
use Rattle.scw_gen.specs.declared.mode.Mode.TheVariants.{Effect}
use Rattle.scw_gen.specs.declared.operator.Form.TheVariants.{Effects}

-- codes in a row are joined from either end
pub joined_assoc : (a b c : Option (List Instr)) → joined (joined a b) c ≡ joined a (joined b c)
joined_assoc None b c = refl
joined_assoc (Some a) None c = refl
joined_assoc (Some a) (Some b) None = refl
joined_assoc (Some a) (Some b) (Some c) = ap Some (append_assoc a b c)

-- nothing behind a code is as nothing before it
pub joined_nothing : (a : Option (List Instr)) → joined a (Some []) ≡ joined (Some []) a
joined_nothing None = refl
joined_nothing (Some a) = ap Some (append-nil a)

-- the statements of a block are those before the last one, whose values are dropped, and the last one
pub statements_split : (g : Around) (s : Scope) (m : Mode) (d : Tree) (ts : List Tree) (k : ℕ) → length ts ≡ k + 1 → statements g s m (trees_view ts) ≡ joined (operands g s Effects (trees_view (take k ts))) (code g s m (tree_of (get_or ts k d)))
unfolding statements operands
statements_split g s m d [] k h = absurd (omega arith)
statements_split g s m d (t ∷ []) zero h = joined_nothing (code g s m (tree_of t))
statements_split g s m d (t ∷ []) (suc k) h = absurd (omega arith)
statements_split g s m d (t ∷ u ∷ us) zero h = absurd (omega arith)
statements_split g s m d (t ∷ u ∷ us) (suc k) h = ap (joined (code g s Effect (tree_of t))) (statements_split g s m d (u ∷ us) k (omega arith)) ∙ sym (joined_assoc (code g s Effect (tree_of t)) (operands g s Effects (trees_view (take k (u ∷ us)))) (code g s m (tree_of (get_or (u ∷ us) k d))))
