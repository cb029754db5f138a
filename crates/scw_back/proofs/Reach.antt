-- How the machine comes to what a step of the program comes to.
use Rattle.std.proofs.Common.{◌≡◌, sym, ap, ◌∙◌, subst, ℕ, suc, ◌+◌, ◌≤◌, ◌<◌, arith, Bool, true, false, cond, not, List, [], ◌∷◌, ◌++◌, Some, Ok, inl, inr, ⊎_elim}
use Rattle.std.specs.Prelude.{◌⊎◌, slice_get}
use Rattle.std.specs.Int.{w32}
use Rattle.scw_value.specs.Number.{compared}
use Rattle.scw_value.specs.declared.comparison.Comparison.{Comparison}
use Rattle.scw_value.specs.declared.comparison.Comparison.TheVariants.{NotEqual}
use Rattle.scw_classfile.specs.declared.pool_entry.PoolEntry.{PoolEntry}
use Rattle.scw_core.proofs.Systems.{iterate}
use Rattle.scw_core.specs.Frame.{Frame, Frames, in_block, if_test, operands, tree_task, while_test}
use Rattle.scw_core.specs.Program as core
use Rattle.scw_core.specs.Run as run
use Rattle.scw_core.specs.Run.{Config}
use Rattle.scw_core.specs.State.{Thing, Value, boolean_v, unit_v}
use Rattle.scw_core.specs.Tree.{Tree, Trees, strict, block, if_else, while_do, none, more}
use Rattle.scw_core.specs.declared.class.CoreClass.{CoreClass}
use Rattle.scw_gen.specs.declared.instr.Compared.TheVariants.{Zero}
use Rattle.scw_gen.specs.declared.kind.Kind.{Kind}
use Rattle.scw_gen.specs.declared.kind.Kind.TheVariants as kind
use Rattle.scw_gen.specs.Mode.{bit, negated}
use Rattle.scw_heap.specs.Heap.{Entity, used}
use Rattle.scw_frame.specs.declared.operation.Operation.TheVariants as operation
use Rattle.scw_frame.specs.declared.operation.BuiltIn.TheVariants as built
use Rattle.scw_frame.specs.declared.program.Method.{Method}
use Rattle.scw_frame.specs.declared.program.Program.{Program}
use Rattle.scw_frame.specs.declared.program.Target.TheVariants as target
use Rattle.scw_frame.specs.declared.value.Value.TheVariants.{Int, Reference}
use Rattle.scw_frame.specs.Frame.{places}
use Rattle.scw_frame.specs.Frame as machine_frame
use Rattle.scw_step.specs.Step.{stepping}
use Rattle.scw_step.specs.declared.event.Event.TheVariants as event
use Rattle.scw_machine.specs.Course.{Course, advance, after_step, going}
use Rattle.scw_machine.specs.Output.{said_by}
use Rattle.scw_back.proofs.Goals.{Decides, Gives, Goal, Leads, TruthAt, UnitAt, drop, drop_operation, g_drop, g_leave, g_push, g_test, leave, push, straight, t_drop, t_made, t_test, test, turned, u_drop, u_made}
use Rattle.scw_back.proofs.Grown.{alike-of, grows-by, grows-itself, holds-last}
use Rattle.scw_back.proofs.NumberLaws.{bit-true, compared-negated}
use Rattle.scw_back.proofs.Placed.{At, value_of_kind}
use Rattle.scw_back.proofs.Rows.{on, row-jump, row-pop-int, row-pop-long, row-pop-reference, row-push, row-unit-again, row-unit-first, row-zero}
use Rattle.scw_back.proofs.Stands.{Alike, Grows, IsOf, MachineState, Stands, UnitThere, Word, i_boolean, i_unit, k_boolean, k_int, k_long, k_string, k_strings, k_this, k_unit, unit_object}

-- ---- how much of a program is left to begin

unfoldable mutual
  pub size_of : Tree → ℕ
  size_of (strict i o ts) = 1 + sizes_of ts
  size_of (block i xs ts) = 1 + sizes_of ts
  size_of (if_else i a b c) = 1 + (size_of a + (size_of b + size_of c))
  size_of (while_do i a b) = 2 + (size_of a + size_of b)
  size_of _ = 1

  pub sizes_of : Trees → ℕ
  sizes_of none = 0
  sizes_of (more t ts) = size_of t + sizes_of ts

abbrev pub left_in : Frame → ℕ
left_in (operands o vs ts env) = sizes_of ts
left_in (in_block ts env) = sizes_of ts
left_in (if_test a b env) = size_of a + size_of b
left_in (while_test a b env) = 1 + size_of b
left_in _ = 0

abbrev pub left_in_all : Frames → ℕ
left_in_all [] = 0
left_in_all (f ∷ fs) = left_in f + left_in_all fs

abbrev pub measure : Config → ℕ
measure (run.at (tree_task t env) k s log) = size_of t + left_in_all k
measure _ = 0

module _ (p : core.Program) (K : CoreClass) (pool : List PoolEntry) (L : Program) (z : List Word) where
  -- after some rows the machine stands for the configuration, and the rows and those that are paid for then are at most so many;
  -- where it makes no row, less is left to begin
  abbrev pub Comes : Course → Config → ℕ → ℕ → Type 0
  Comes x d b lim = (j l : ℕ) × Stands p K pool L z d (iterate (advance L) j x) l × (j + l ≤ b) × ((0 < j) ⊎ (measure d < lim))

  pub more-time : (x : Course) (d : Config) (b b' lim lim' : ℕ) → Comes x d b lim → b ≤ b' → lim ≤ lim' → Comes x d b' lim'
  more-time x d b b' lim lim' c le lt = (c.0, c.1, c.2, omega (arith, c.3, le), ⊎_elim (λ h. inl h) (λ h. inr (omega (arith, h, lt))) c.4)

  row-of : (x y : Course) (d : Config) (b lim lim' : ℕ) → advance L x ≡ y → Comes y d b lim → Comes x d (1 + b) lim'
  unfolding iterate
  row-of x y d b lim lim' e c = (suc c.0, c.1, subst (λ a. Stands p K pool L z d (iterate (advance L) c.0 a) c.1) (sym e) c.2, omega (arith, c.3), inl (omega arith))

  -- with a row
  pub after-row : (s t : MachineState) (out : List ℕ) (d : Config) (b b' lim lim' : ℕ) → stepping L s ≡ Ok (event.On, t) → 1 + b ≤ b' → Comes (going t out) d b lim → Comes (going s out) d b' lim'
  unfolding advance
  after-row s t out d b b' lim lim' e le c = more-time (going s out) d (1 + b) b' lim' lim' (row-of (going s out) (going t out) d b lim lim' (ap (after_step s out) e) c) le (omega arith)

  pub after-said : (s t : MachineState) (r : ℕ) (bytes out : List ℕ) (d : Config) (b b' lim lim' : ℕ) → stepping L s ≡ Ok (event.Says r, t) → said_by t.heap.objects r ≡ bytes → 1 + b ≤ b' → Comes (going t (out ++ bytes)) d b lim → Comes (going s out) d b' lim'
  unfolding advance
  after-said s t r bytes out d b b' lim lim' e said le c =
      more-time (going s out) d (1 + b) b' lim' lim' (row-of (going s out) (going t (out ++ bytes)) d b lim lim' (ap (after_step s out) e ∙ ap (λ bs. going t (out ++ bs)) said) c) le (omega arith)

  pub after-halt : (x y : Course) (d : Config) (l lim : ℕ) → advance L x ≡ y → Stands p K pool L z d y l → Comes x d (1 + l) lim
  unfolding iterate
  after-halt x y d l lim e s = (1, l, subst (λ a. Stands p K pool L z d a l) (sym e) s, omega arith, inl (omega arith))

  module _ (number : ℕ) (m : Method) (there : slice_get L.methods number ≡ Some m) (fs : List machine_frame.Frame) (store : List Thing) where
    abbrev here : ℕ → List Word → List Word → List Entity → ℕ → List ℕ → Course
    here pc ws st h u out = going (on L number m there fs z pc ws st h u) out

    -- ---- goals

    -- the machine has come to the goal with a value
    pub data Arrived (ws st : List Word) (h : List Entity) (u : ℕ) : Goal → Kind → Value → MachineState → Type 0 where
      r_push : {q : ℕ} {k : Kind} {v : Value} {w : Word} → Alike h store K.symbol k v w → places (w ∷ st) ≤ m.stack → Arrived ws st h u (push q) k v (on L number m there fs z q ws (w ∷ st) h u)
      r_drop : {q : ℕ} {k : Kind} {v : Value} → IsOf store K.symbol k v → Arrived ws st h u (drop q) k v (on L number m there fs z q ws st h u)
      r_test : {on_true on_false : ℕ} {b : Bool} → Arrived ws st h u (test on_true on_false) kind.Boolean (boolean_v b) (on L number m there fs z (cond b on_true on_false) ws st h u)
      r_leave : {pc r : ℕ} {k : Kind} {v : Value} {w : Word} → Alike h store K.symbol k v w → At p.table K L m pc (operation.ReturnValue (value_of_kind k)) r → Arrived ws st h u leave k v (on L number m there fs z pc ws (w ∷ st) h u)

    -- what is to be shown where the machine comes to the goal, with a heap that may have grown
    abbrev pub Then : List Word → List Word → List Entity → ℕ → List ℕ → Goal → Kind → Value → Config → ℕ → ℕ → Type 0
    Then ws st h u out goal k v d b lim = (h' : List Entity) (u' : ℕ) → Grows h h' → UnitThere h' u' → (s : MachineState) → Arrived ws st h' u' goal k v s → Comes (going s out) d b lim

    module _ (ws st : List Word) (out : List ℕ) (d : Config) (b lim : ℕ) where
      -- a place leads to another
      pub lead : (pc q : ℕ) (st' : List Word) (h : List Entity) (u : ℕ) → Leads p K pool L m pc q → Comes (here q ws st' h u out) d b lim → Comes (here pc ws st' h u out) d (1 + b) lim
      lead pc q st' h u (inl e) c = more-time (here pc ws st' h u out) d b (1 + b) lim lim (subst (λ a. Comes (here a ws st' h u out) d b lim) (sym e) c) (omega arith) (omega arith)
      lead pc q st' h u (inr x) c = after-row (on L number m there fs z pc ws st' h u) (on L number m there fs z q ws st' h u) out d b (1 + b) lim lim (row-jump L number m there fs z pc x.0 q ws st' h u x.1) (omega arith) c

      -- a branch where a number compares so with 0
      pub decide-zero : (c : Comparison) (pc on_true on_false n : ℕ) (t : Bool) (h : List Entity) (u : ℕ) → Decides p K pool L m Zero c pc on_true on_false → compared w32 c n 0 ≡ t → Comes (here (cond t on_true on_false) ws st h u out) d b lim → Comes (here pc ws (Int n ∷ st) h u out) d (2 + b) lim
      decide-zero c pc on_true on_false n t h u (straight {y = y} {n = n'} at ly ln) is go =
          after-row (on L number m there fs z pc ws (Int n ∷ st) h u) (on L number m there fs z (cond t y n') ws st h u) out d (1 + b) (2 + b) lim lim
          (row-zero L number m there fs z pc n' y n c ws st h u at ∙ ap (λ a. Ok (event.On, on L number m there fs z (cond a y n') ws st h u)) is) (omega arith) (by_truth t go)
        where
          by_truth : (t : Bool) → Comes (here (cond t on_true on_false) ws st h u out) d b lim → Comes (here (cond t y n') ws st h u out) d (1 + b) lim
          by_truth true go = lead y on_true st h u ly go
          by_truth false go = lead n' on_false st h u ln go
      decide-zero c pc on_true on_false n t h u (turned {y = y} {n = n'} at ly ln) is go =
          after-row (on L number m there fs z pc ws (Int n ∷ st) h u) (on L number m there fs z (cond (not t) n' y) ws st h u) out d (1 + b) (2 + b) lim lim
          (row-zero L number m there fs z pc y n' n (negated c) ws st h u at ∙ ap (λ a. Ok (event.On, on L number m there fs z (cond a n' y) ws st h u)) (compared-negated w32 c n 0 ∙ ap not is)) (omega arith) (by_truth t go)
        where
          by_truth : (t : Bool) → Comes (here (cond t on_true on_false) ws st h u out) d b lim → Comes (here (cond (not t) n' y) ws st h u out) d (1 + b) lim
          by_truth true go = lead y on_true st h u ly go
          by_truth false go = lead n' on_false st h u ln go

      -- a value of the kind is on the stack
      pub gives : (goal : Goal) (k : Kind) (v : Value) (w : Word) (pc : ℕ) (h : List Entity) (u : ℕ) → Gives p K pool L m goal k pc → Alike h store K.symbol k v w → places (w ∷ st) ≤ m.stack
          → ((s : MachineState) → Arrived ws st h u goal k v s → Comes (going s out) d b lim) → Comes (here pc ws (w ∷ st) h u out) d (2 + b) lim
      gives goal k v w pc h u (g_push {q = q} l) a room go = more-time _ d (1 + b) (2 + b) lim lim (lead pc q (w ∷ st) h u l (go _ (r_push a room))) (omega arith) (omega arith)
      gives goal k v w pc h u (g_drop {q = q} {r = r} at l) a room go = dropped k v w a at (lead r q st h u l (go _ (r_drop (alike-of h store K.symbol k v w a))))
        where
          dropped : (k : Kind) (v : Value) (w : Word) → Alike h store K.symbol k v w → At p.table K L m pc (operation.Stack (drop_operation k)) r → Comes (here r ws st h u out) d (1 + b) lim → Comes (here pc ws (w ∷ st) h u out) d (2 + b) lim
          dropped k v w (k_unit q1 x) at c = after-row _ _ out d (1 + b) (2 + b) lim lim (row-pop-reference L number m there fs z pc r q1 ws st h u at) (omega arith) c
          dropped k v w (k_boolean t) at c = after-row _ _ out d (1 + b) (2 + b) lim lim (row-pop-int L number m there fs z pc r (bit t) ws st h u at) (omega arith) c
          dropped k v w (k_int n lt) at c = after-row _ _ out d (1 + b) (2 + b) lim lim (row-pop-int L number m there fs z pc r n ws st h u at) (omega arith) c
          dropped k v w (k_long n lt) at c = after-row _ _ out d (1 + b) (2 + b) lim lim (row-pop-long L number m there fs z pc r n ws st h u at) (omega arith) c
          dropped k v w (k_string us q1 t x) at c = after-row _ _ out d (1 + b) (2 + b) lim lim (row-pop-reference L number m there fs z pc r q1 ws st h u at) (omega arith) c
          dropped k v w (k_strings v2 q1) at c = after-row _ _ out d (1 + b) (2 + b) lim lim (row-pop-reference L number m there fs z pc r q1 ws st h u at) (omega arith) c
          dropped k v w (k_this q2 q1 words i x) at c = after-row _ _ out d (1 + b) (2 + b) lim lim (row-pop-reference L number m there fs z pc r q1 ws st h u at) (omega arith) c
      gives goal k v w pc h u (g_test {yes = on_true} {no = on_false} decides) (k_boolean t) room go = decide-zero NotEqual pc on_true on_false (bit t) t h u decides (bit-true t) (go _ r_test)
      gives goal k v w pc h u (g_leave at) a room go = more-time _ d b (2 + b) lim lim (go _ (r_leave a at)) (omega arith) (omega arith)

      -- the value of Unit is made, or there
      pub unit-pushed : (pc q : ℕ) (h : List Entity) (u : ℕ) → At p.table K L m pc (operation.CallStatic (target.BuiltIn built.Unit)) q → 1 + places st ≤ m.stack → UnitThere h u
          → ((h' : List Entity) (u' : ℕ) → Grows h h' → UnitThere h' u' → (w : Word) → Alike h' store K.symbol kind.Unit unit_v w → places (w ∷ st) ≤ m.stack → Comes (here q ws (w ∷ st) h' u' out) d b lim) → Comes (here pc ws st h u out) d (1 + b) lim
      unit-pushed pc q h u at room (inl e) go =
          let made = holds-last h unit_object in
          subst (λ n. Comes (here pc ws st h n out) d (1 + b) lim) (sym e)
          (after-row _ _ out d b (1 + b) lim lim (row-unit-first L number m there fs z pc q ws st h at room) (omega arith) (go (h ++ unit_object ∷ []) (1 + used h) (grows-by h (unit_object ∷ [])) (inr made) (Reference (1 + used h)) (k_unit (1 + used h) made) room))
      unit-pushed pc q h u at room (inr x) go = after-row _ _ out d b (1 + b) lim lim (row-unit-again L number m there fs z pc q u ws st h at x.some room) (omega arith) (go h u (grows-itself h) (inr x) (Reference u) (k_unit u x) room)

    module _ (ws st : List Word) (out : List ℕ) (d : Config) (b lim : ℕ) where
      pub unit-then : (goal : Goal) (pc n : ℕ) (h : List Entity) (u : ℕ) → UnitAt p K pool L m n goal pc → places st + n ≤ m.stack → UnitThere h u → Then ws st h u out goal kind.Unit unit_v d b lim → Comes (here pc ws st h u out) d (3 + b) lim
      unit-then goal pc n h u (u_drop {q = q} l) room unit go = more-time _ d (1 + b) (3 + b) lim lim (lead ws st out d b lim pc q st h u l (go h u (grows-itself h) unit _ (r_drop i_unit))) (omega arith) (omega arith)
      unit-then goal pc n h u (u_made {r = r} some at g) room unit go =
          more-time _ d (1 + (2 + b)) (3 + b) lim lim (unit-pushed ws st out d (2 + b) lim pc r h u at (omega (arith, some, room)) unit (λ h' u' grown unit' w a fits. gives ws st out d b lim goal kind.Unit unit_v w r h' u' g a fits (λ s x. go h' u' grown unit' s x))) (omega arith) (omega arith)

      pub truth-then : (goal : Goal) (t : Bool) (pc n : ℕ) (h : List Entity) (u : ℕ) → TruthAt p K pool L m n t goal pc → places st + n ≤ m.stack → UnitThere h u → Then ws st h u out goal kind.Boolean (boolean_v t) d b lim → Comes (here pc ws st h u out) d (3 + b) lim
      truth-then goal t pc n h u (t_drop {q = q} l) room unit go = more-time _ d (1 + b) (3 + b) lim lim (lead ws st out d b lim pc q st h u l (go h u (grows-itself h) unit _ (r_drop (i_boolean t)))) (omega arith) (omega arith)
      truth-then goal t pc n h u (t_test {yes = on_true} {no = on_false} l) room unit go = more-time _ d (1 + b) (3 + b) lim lim (lead ws st out d b lim pc (cond t on_true on_false) st h u l (go h u (grows-itself h) unit _ r_test)) (omega arith) (omega arith)
      truth-then goal t pc n h u (t_made {r = r} some at g) room unit go =
          after-row _ _ out d (2 + b) (3 + b) lim lim (row-push L number m there fs z pc r (Int (bit t)) ws st h u at (omega (arith, some, room))) (omega arith)
          (gives ws st out d b lim goal kind.Boolean (boolean_v t) (Int (bit t)) r h u g (k_boolean t) (omega (arith, some, room)) (λ s x. go h u (grows-itself h) unit s x))
