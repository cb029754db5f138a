-- How much room code takes doesn't depend on how far its jumps lead.
use Rattle.std.proofs.Common.{◌≡◌, ℕ, max, List, [], ◌∷◌, map, Option, Some, None, true, refl, ap, ◌∙◌}
use Rattle.scw_core.specs.Tree.{Tree, Trees, info_of, strict, block, and_also, or_else, if_else, while_do, function, thunk, match_on, try_in, label, switch, none, more}
use Rattle.scw_core.specs.declared.class.Member.{Member}
use Rattle.scw_core.specs.declared.tree.Local.{Local}
use Rattle.scw_gen.specs.Outcome.{◌>>=◌}
use Rattle.scw_gen.specs.Around.{Around, kind_in}
use Rattle.scw_gen.specs.Code.{mode_before}
use Rattle.scw_gen.specs.Method.{end_of_body, far, local_of, mode_of_body, outermost, start_of, started}
use Rattle.scw_gen.specs.Operator.{form_of}
use Rattle.scw_gen.specs.Room.{left_by, locals_of, locals_of_all, mode_of_operand, of_end, of_given, of_op, slot_behind, stack_of, stack_of_operands, stack_of_statements, sum, width_at}
use Rattle.scw_gen.specs.Scope.{Scope, from, inside, placed}
use Rattle.scw_gen.specs.declared.kind.Kind.{Kind}
use Rattle.scw_gen.specs.declared.mode.Mode.{Mode}
use Rattle.scw_gen.specs.declared.mode.Mode.TheVariants.{Effect, Test}
use Rattle.scw_gen.specs.declared.operator.Form.{Form}

mutual
  unfolding stack_of stack_of_operands stack_of_statements

  pub stack-far : (g : Around) (m : Mode) (t : Tree) → stack_of (far g) m t ≡ stack_of g m t
  stack-far g m (strict i o ts) = ap (λ n. max n (of_op g m o i.type_id)) (operands-far g (form_of m o) 0 ts)
  stack-far g m (block i xs ts) = ap (λ n. max n (of_end m ts)) (statements-far g m ts)
  stack-far g m (and_also i a b) = refl
  stack-far g m (or_else i a b) = refl
  stack-far g m (if_else i a b c) = (λ k. max (stack-far g (Test true 0) a k) (max (stack-far g m b k) (stack-far g m c k)))
  stack-far g m (while_do i a b) = (λ k. max (stack-far g (Test true 0) a k) (max (stack-far g Effect b k) (of_given m 1)))
  stack-far g m (function i name xs a) = refl
  stack-far g m (thunk i a) = refl
  stack-far g m (match_on i a cs) = refl
  stack-far g m (try_in i a cs fin) = refl
  stack-far g m (label i k a) = refl
  stack-far g m (switch i a ks ts d) = refl

  operands-far : (g : Around) (form : Form) (depth : ℕ) (ts : Trees) → stack_of_operands (far g) form depth ts ≡ stack_of_operands g form depth ts
  operands-far g form depth none = refl
  operands-far g form depth (more t ts) = (λ k. max (sum depth (stack-far g (mode_of_operand form) t k)) (operands-far g form (sum depth (left_by g form (info_of t).type_id)) ts k))

  statements-far : (g : Around) (m : Mode) (ts : Trees) → stack_of_statements (far g) m ts ≡ stack_of_statements g m ts
  statements-far g m none = refl
  statements-far g m (more t ts) = (λ k. max (stack-far g (mode_before m ts) t k) (statements-far g m ts k))

slot-far : (g : Around) (next : ℕ) (xs : List Local) → slot_behind (far g) next xs ≡ slot_behind g next xs
unfolding slot_behind
slot-far g next [] = refl
slot-far g next (x ∷ xs) = slot-far g (sum next (width_at g x.type_id)) xs

mutual
  unfolding locals_of locals_of_all

  pub locals-far : (g : Around) (next : ℕ) (t : Tree) → locals_of (far g) next t ≡ locals_of g next t
  locals-far g next (strict i o ts) = ap (λ n. max n next) (all-far g next ts)
  locals-far g next (block i xs ts) =
      ap (λ n. max (locals_of_all (far g) n ts) n) (slot-far g next xs) ∙ ap (λ n. max n (slot_behind g next xs)) (all-far g (slot_behind g next xs) ts)
  locals-far g next (and_also i a b) = refl
  locals-far g next (or_else i a b) = refl
  locals-far g next (if_else i a b c) = (λ k. max (locals-far g next a k) (max (locals-far g next b k) (locals-far g next c k)))
  locals-far g next (while_do i a b) = (λ k. max (locals-far g next a k) (locals-far g next b k))
  locals-far g next (function i name xs a) = refl
  locals-far g next (thunk i a) = refl
  locals-far g next (match_on i a cs) = refl
  locals-far g next (try_in i a cs fin) = refl
  locals-far g next (label i k a) = refl
  locals-far g next (switch i a ks ts d) = refl

  all-far : (g : Around) (next : ℕ) (ts : Trees) → locals_of_all (far g) next ts ≡ locals_of_all g next ts
  all-far g next none = refl
  all-far g next (more t ts) = (λ k. max (locals-far g next t k) (all-far g next ts k))

-- ---- what a body begins with

started-far : (g : Around) (xs : List Local) (s : Scope) (k : Option Kind) → started (far g) xs s k ≡ started g xs s k
started-far g xs s None = refl
started-far g xs s (Some k) = ap (λ n. Some (record { scope = inside s (outermost g); mode = mode_of_body k; end = end_of_body k; next = n })) (slot-far g 1 xs)

bound-same : {A B : Type 0} (o : Option A) (f h : A → Option B) → ((x : A) → f x ≡ h x) → (o >>= f) ≡ (o >>= h)
bound-same None f h e = refl
bound-same (Some x) f h e = e x

pub start-far : (g : Around) (m : Member) → start_of (far g) m ≡ start_of g m
start-far g m =
    let xs = map local_of m.parameters in
    bound-same (placed g.table g.class.symbol (from 1) xs) (λ s. started (far g) xs s (kind_in g m.result)) (λ s. started g xs s (kind_in g m.result)) (λ s. started-far g xs s (kind_in g m.result))
