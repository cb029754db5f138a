-- The launcher of a linked program: it makes the object and an empty array of strings, and calls `main`.
use Rattle.std.proofs.Common.{◌≡◌, refl, sym, ap, ◌∙◌, ℕ, suc, ◌+◌, ◌≤◌, arith, true, List, [], ◌∷◌, ◌++◌, map, length, Some, None, Ok}
use Rattle.std.specs.Prelude.{drop, nat_le, reverse, slice_get, take}
use Rattle.std.proofs.lemmas.Bool.{le-leb}
use Rattle.scw_classfile.specs.declared.pool_entry.PoolEntry.{PoolEntry}
use Rattle.scw_core.specs.Program as core
use Rattle.scw_core.specs.declared.class.CoreClass.{CoreClass}
use Rattle.scw_gen.specs.declared.instr.Instr.{Instr}
use Rattle.scw_gen.specs.declared.instr.Instr.TheVariants as instr
use Rattle.scw_gen.specs.declared.kind.Word.TheVariants as word
use Rattle.scw_gen.specs.Instr.{size_of}
use Rattle.scw_heap.specs.Heap.{Entity, object_at, used}
use Rattle.scw_heap.specs.declared.kind.Kind.TheVariants as made
use Rattle.scw_frame.specs.declared.operation.BuiltIn.TheVariants as built
use Rattle.scw_frame.specs.declared.operation.Operation.{Operation}
use Rattle.scw_frame.specs.declared.operation.Operation.TheVariants as op
use Rattle.scw_frame.specs.declared.operation.StackOperation.TheVariants as stack
use Rattle.scw_frame.specs.declared.program.Class.{Class}
use Rattle.scw_frame.specs.declared.program.Method.{Method}
use Rattle.scw_frame.specs.declared.program.Program.{Program}
use Rattle.scw_frame.specs.declared.program.Target.TheVariants as target
use Rattle.scw_frame.specs.declared.value.Value.{Value}
use Rattle.scw_frame.specs.declared.value.Value.TheVariants.{Unset, Int, Reference}
use Rattle.scw_frame.specs.declared.value.ValueKind.{ValueKind}
use Rattle.scw_frame.specs.declared.value.ValueKind.TheVariants as kind
use Rattle.scw_frame.specs.Frame.{Calls, Frame, are_arguments, locals_of, places}
use Rattle.scw_frame.specs.FrameStep.{if_so, one, pushing, pushing_all, taken}
use Rattle.scw_frame.specs.FrameStep as frame
use Rattle.scw_machine.specs.Course.{advance, after_step, course, going, halted, returned}
use Rattle.scw_machine.specs.Load.{first_state, zero_of}
use Rattle.scw_machine.proofs.RowLemmas.{array-does, entered-does, made-there, new-does, object-starts, roomy-from, row, special-built-in, special-enters, static-enters}
use Rattle.scw_step.specs.declared.event.Event.TheVariants as event
use Rattle.scw_step.specs.declared.state.State.{State}
use Rattle.scw_step.specs.CallStep.{code_of, entering, fetched, fits, receiver, target_of}
use Rattle.scw_step.specs.StateStep.{framed}
use Rattle.scw_step.specs.Step.{computing, executing, going_on, operating, stepping}
use Rattle.scw_back.proofs.Loaded.{Loaded}
use Rattle.scw_back.proofs.Placed.{At, Means, StandsAt, m_arithmetic, m_back, m_branch, m_call, m_compare, m_division, m_dup, m_far_back, m_far_goto, m_goto, m_init_object, m_init_this, m_int, m_load, m_long, m_long_bit, m_new, m_number, m_pop, m_pop_two, m_return, m_return_nothing, m_static, m_store, m_text, m_to_string, m_wide_int, m_wide_text, value_of_word}
use Rattle.scw_back.proofs.Rows.{Has, Row, ends-return, frame_at, on, row-call, row-load, row-push, row-return, row-return-value, state}
use Rattle.scw_back.proofs.Stands.{Runs}

-- ---- instructions whose operations need nothing of the program

abbrev OfItself : Instr → Operation → Type 0
OfItself (instr.Load w n) o = o ≡ op.Load (value_of_word w) n
OfItself instr.Dup o = o ≡ op.Stack stack.Duplicate
OfItself (instr.Return w) o = o ≡ op.ReturnValue (value_of_word w)
OfItself instr.ReturnNothing o = o ≡ op.Return
OfItself instr.InitObject o = o ≡ op.CallSpecial (target.BuiltIn built.ObjectInit)
OfItself instr.InitThis o = o ≡ op.CallSpecial (target.Code (record { 0 = 1 }))
OfItself instr.New o = o ≡ op.New (record { 0 = 24 })
OfItself _ o = Unit {0}

of-itself : (T : core.Table) (K : CoreClass) (L : Program) (pc : ℕ) (i : Instr) (o : Operation) → Means T K L pc i o → OfItself i o
of-itself T K L pc i o (m_number n) = tt
of-itself T K L pc i o (m_int n) = tt
of-itself T K L pc i o (m_wide_int n) = tt
of-itself T K L pc i o (m_text x t) = tt
of-itself T K L pc i o (m_wide_text x t) = tt
of-itself T K L pc i o (m_long_bit b) = tt
of-itself T K L pc i o (m_long n) = tt
of-itself T K L pc i o (m_load w n) = refl
of-itself T K L pc i o (m_store w n) = tt
of-itself T K L pc i o (m_arithmetic w a) = tt
of-itself T K L pc i o (m_division w d) = tt
of-itself T K L pc i o m_compare = tt
of-itself T K L pc i o m_pop = tt
of-itself T K L pc i o m_pop_two = tt
of-itself T K L pc i o m_dup = refl
of-itself T K L pc i o (m_branch k c way) = tt
of-itself T K L pc i o (m_goto way) = tt
of-itself T K L pc i o (m_far_goto way) = tt
of-itself T K L pc i o (m_back way le) = tt
of-itself T K L pc i o (m_far_back way le) = tt
of-itself T K L pc i o (m_return w) = refl
of-itself T K L pc i o m_return_nothing = refl
of-itself T K L pc i o (m_call selector x) = tt
of-itself T K L pc i o (m_static b o2 e) = tt
of-itself T K L pc i o (m_to_string selector x) = tt
of-itself T K L pc i o m_init_object = refl
of-itself T K L pc i o m_init_this = refl
of-itself T K L pc i o m_new = refl

-- ---- more rows

module _ (L : Program) (number : ℕ) (m : Method) (there : slice_get L.methods number ≡ Some m) (fs : List Frame) (z : List Value) where
  abbrev here : ℕ → List Value → List Value → List Entity → ℕ → State
  here pc ws st h u = on L number m there fs z pc ws st h u

  abbrev Leads : State → State → Type 0
  Leads s t = Row L number m there fs z s t

  abbrev Stands : ℕ → Operation → ℕ → Type 0
  Stands pc o q = Has L number m there fs z pc o q

  fetched-here : (pc q : ℕ) (o : Operation) (ws st : List Value) (h : List Entity) (u : ℕ) → Stands pc o q → fetched L (here pc ws st h u).frames ≡ Some (record { operation = o; next = q })
  unfolding fetched
  fetched-here pc q o ws st h u e = ap (λ x. code_of x pc) there ∙ e

  pub row-new : (pc q c : ℕ) (class : Class) (ws st : List Value) (h : List Entity) (u : ℕ) → Stands pc (op.New (record { 0 = c })) q → slice_get L.classes c ≡ Some class → class.fields ≡ 0 → 1 + places st ≤ m.stack
      → Leads (here pc ws st h u) (here q ws (Reference (1 + used h) ∷ st) (h ++ record { kind = made.Object c; words = [] } ∷ []) u)
  row-new pc q c class ws st h u e classes none room =
      let s : State = here pc ws st h u in
      let t : State = here pc ws st (h ++ record { kind = made.Object c; words = [] } ∷ []) u in
      row L s _ (event.On, here q ws (Reference (1 + used h) ∷ st) (h ++ record { kind = made.Object c; words = [] } ∷ []) u) (fetched-here pc q (op.New (record { 0 = c })) ws st h u e)
      (new-does L c q class s t (1 + used h) classes none (roomy-from s (le-leb _ _ room)) (made-there (made.Object c) 0 s refl) refl)

  duplicates : (pc q r : ℕ) (ws st : List Value) (h : List Entity) (u : ℕ) → nat_le (1 + places st) m.stack ≡ true → nat_le (1 + (1 + places st)) m.stack ≡ true
      → executing L (op.Stack stack.Duplicate) q (here pc ws (Reference r ∷ st) h u) ≡ Ok (event.On, here q ws (Reference r ∷ Reference r ∷ st) h u)
  unfolding executing operating computing one taken pushing_all pushing
  duplicates pc q r ws st h u room more =
      let s : State = here pc ws (Reference r ∷ st) h u in
      let c : List Value → Calls = λ vs. (here pc ws vs h u).frames in
      ap (λ b. going_on q (framed s (frame.and_then (if_so b (Some (c (Reference r ∷ st)))) (pushing (Reference r))))) room
      ∙ ap (λ b. going_on q (framed s (if_so b (Some (c (Reference r ∷ Reference r ∷ st)))))) more

  pub row-dup : (pc q r : ℕ) (ws st : List Value) (h : List Entity) (u : ℕ) → Stands pc (op.Stack stack.Duplicate) q → 2 + places st ≤ m.stack → Leads (here pc ws (Reference r ∷ st) h u) (here q ws (Reference r ∷ Reference r ∷ st) h u)
  row-dup pc q r ws st h u e room =
      row L (here pc ws (Reference r ∷ st) h u) _ (event.On, here q ws (Reference r ∷ Reference r ∷ st) h u) (fetched-here pc q (op.Stack stack.Duplicate) ws (Reference r ∷ st) h u e)
      (duplicates pc q r ws st h u (le-leb (1 + places st) m.stack (omega (arith, room))) (le-leb (1 + (1 + places st)) m.stack (omega (arith, room))))

  pub row-init-object : (pc q r : ℕ) (o : Entity) (ws st : List Value) (h : List Entity) (u : ℕ) → Stands pc (op.CallSpecial (target.BuiltIn built.ObjectInit)) q → (r ≡ 0 → ⊥) → object_at h r ≡ Some o → Leads (here pc ws (Reference r ∷ st) h u) (here q ws st h u)
  row-init-object pc q r o ws st h u e some is =
      row L (here pc ws (Reference r ∷ st) h u) _ (event.On, here q ws st h u) (fetched-here pc q (op.CallSpecial (target.BuiltIn built.ObjectInit)) ws (Reference r ∷ st) h u e)
      (special-built-in L built.ObjectInit q (here pc ws (Reference r ∷ st) h u) (here pc ws st h u) event.On (object-starts L r o st (here pc ws st h u) some is))

  pub row-array : (pc q i : ℕ) (ws st : List Value) (h : List Entity) (u : ℕ) → Stands pc (op.NewReferences (record { 0 = i })) q → 1 + places st ≤ m.stack
      → Leads (here pc ws (Int 0 ∷ st) h u) (here q ws (Reference (1 + used h) ∷ st) (h ++ record { kind = made.Refs i; words = [] } ∷ []) u)
  row-array pc q i ws st h u e room =
      let s : State = here pc ws st h u in
      let t : State = here pc ws st (h ++ record { kind = made.Refs i; words = [] } ∷ []) u in
      row L (here pc ws (Int 0 ∷ st) h u) _ (event.On, here q ws (Reference (1 + used h) ∷ st) (h ++ record { kind = made.Refs i; words = [] } ∷ []) u) (fetched-here pc q (op.NewReferences (record { 0 = i })) ws (Int 0 ∷ st) h u e)
      (array-does L i q st s t (1 + used h) (roomy-from s (le-leb _ _ room)) (made-there (made.Refs i) 0 s refl) refl)

  -- a static method without arguments, on an empty stack
  pub row-static : (pc q n2 : ℕ) (m2 : Method) (ws : List Value) (h : List Entity) (u : ℕ) → Stands pc (op.CallStatic (target.Code (record { 0 = n2 }))) q → slice_get L.methods n2 ≡ Some m2 → m2.arguments ≡ []
      → Leads (here pc ws [] h u) (state (frame_at n2 m2 0 (locals_of m2.locals []) []) (frame_at number m pc ws [] ∷ fs) h z u)
  row-static pc q n2 m2 ws h u e there2 args =
      let s : State = here pc ws [] h u in
      let after : List ValueKind → State = λ a. state (frame_at n2 m2 0 (locals_of m2.locals (reverse (take (length a) []))) []) (frame_at number m pc ws (drop (length a) []) ∷ fs) h z u in
      let fit : fits m2.arguments m2.locals s.frames ≡ true = ap (λ a. fits a m2.locals s.frames) args ∙ le-leb 0 m2.locals (omega arith) in
      let inside : entering L (record { 0 = n2 }) s ≡ Ok (after []) = entered-does L (record { 0 = n2 }) m2 s there2 fit refl ∙ ap (λ a. Ok (after a)) args in
      row L s _ (event.On, after []) (fetched-here pc q (op.CallStatic (target.Code (record { 0 = n2 }))) ws [] h u e) (static-enters L (record { 0 = n2 }) q s (after []) inside)

  -- a method of an object that is called itself, of which there are two references on the stack
  pub row-special : (pc q n2 : ℕ) (m2 : Method) (ws : List Value) (h : List Entity) (u : ℕ) → Stands pc (op.CallSpecial (target.Code (record { 0 = n2 }))) q → slice_get L.methods n2 ≡ Some m2 → m2.arguments ≡ kind.Reference ∷ [] → 1 ≤ m2.locals
      → Leads (here pc ws (Reference 1 ∷ Reference 1 ∷ []) h u) (state (frame_at n2 m2 0 (locals_of m2.locals (Reference 1 ∷ [])) []) (frame_at number m pc ws (Reference 1 ∷ []) ∷ fs) h z u)
  unfolding receiver
  row-special pc q n2 m2 ws h u e there2 args narrow =
      let st : List Value = Reference 1 ∷ Reference 1 ∷ [] in
      let s : State = here pc ws st h u in
      let after : List ValueKind → State = λ a. state (frame_at n2 m2 0 (locals_of m2.locals (reverse (take (length a) st))) []) (frame_at number m pc ws (drop (length a) st) ∷ fs) h z u in
      let fit : fits m2.arguments m2.locals s.frames ≡ true = ap (λ a. fits a m2.locals s.frames) args ∙ le-leb 1 m2.locals narrow in
      let are : are_arguments m2.arguments s.frames ≡ true = ap (λ a. are_arguments a s.frames) args in
      let top : receiver (length m2.arguments) s.frames ≡ Some 1 = ap (λ a. receiver (length a) s.frames) args in
      let inside : entering L (record { 0 = n2 }) s ≡ Ok (after (kind.Reference ∷ [])) = entered-does L (record { 0 = n2 }) m2 s there2 fit refl ∙ ap (λ a. Ok (after a)) args in
      row L s _ (event.On, after (kind.Reference ∷ [])) (fetched-here pc q (op.CallSpecial (target.Code (record { 0 = n2 }))) ws st h u e)
      (special-enters L (record { 0 = n2 }) m2 q 0 s (after (kind.Reference ∷ [])) there2 are top inside)

-- ---- the launcher

pub then-row : (L : Program) (s : State) (k : ℕ) (t t' : State) → course L s k ≡ going t [] → stepping L t ≡ Ok (event.On, t') → course L s (suc k) ≡ going t' []
unfolding course advance
then-row L s k t t' c e = ap (advance L) c ∙ ap (after_step t []) e

-- the object, and the empty array of strings
abbrev object : Entity
object = record { kind = made.Object 24; words = [] }

abbrev pub first_objects : List Entity
first_objects = object ∷ record { kind = made.Refs 0; words = [] } ∷ []

module _ (p : core.Program) (K : CoreClass) (pool : List PoolEntry) (L : Program) (own : List ℕ) (loaded : Loaded p K pool L own) where
  abbrev launcher : Method
  launcher = loaded.launcher

  abbrev getter : Method
  getter = loaded.getter.method

  abbrev constructor : Method
  constructor = loaded.constructor.method

  pub launcher-runs : Runs p K pool L 0 launcher
  launcher-runs = record { there = loaded.launcher_there; guards = loaded.launcher_guards }

  launcher-gets : At p.table K L launcher 0 (op.CallStatic (target.Code (record { 0 = 2 }))) 1
  launcher-gets = ap (λ is. slice_get is 0) loaded.launcher_code

  launcher-zero : At p.table K L launcher 1 (op.Push (Int 0)) 2
  launcher-zero = ap (λ is. slice_get is 1) loaded.launcher_code

  launcher-array : At p.table K L launcher 2 (op.NewReferences (record { 0 = 0 })) 3
  launcher-array = ap (λ is. slice_get is 2) loaded.launcher_code

  pub launcher-calls : At p.table K L launcher 3 (op.CallVirtual (record { 0 = 0 })) 4
  launcher-calls = ap (λ is. slice_get is 3) loaded.launcher_code

  pub launcher-returns : At p.table K L launcher 4 op.Return 5
  launcher-returns = ap (λ is. slice_get is 4) loaded.launcher_code

  -- the launcher returns, and that is the end
  pub launcher-ends : (z ws st : List Value) (h : List Entity) (u : ℕ) (out : List ℕ) → advance L (going (state (frame_at 0 launcher 4 ws st) [] h z u) out) ≡ halted returned (state (frame_at 0 launcher 4 ws st) [] h z u) out
  launcher-ends z ws st h u out = ends-return L 0 launcher loaded.launcher_there [] z 4 5 ws st h u out launcher-returns refl

  stands-as : (m : Method) (pc : ℕ) (i : Instr) (o : Operation) (x : StandsAt p.table K L m pc i) → x.operation ≡ o → At p.table K L m pc o (pc + size_of i)
  stands-as m pc i o x e = x.there ∙ ap (λ o. Some (record { operation = o; next = pc + size_of i })) e

  plain-at : (m : Method) (pc : ℕ) (i : Instr) (x : StandsAt p.table K L m pc i) → OfItself i x.operation
  plain-at m pc i x = of-itself p.table K L pc i x.operation x.means

  getter-new : At p.table K L getter 0 (op.New (record { 0 = 24 })) 3
  getter-new = stands-as getter 0 instr.New _ loaded.getter.stood.0 (plain-at getter 0 instr.New loaded.getter.stood.0)

  getter-dup : At p.table K L getter 3 (op.Stack stack.Duplicate) 4
  getter-dup = stands-as getter 3 instr.Dup _ loaded.getter.stood.1.0 (plain-at getter 3 instr.Dup loaded.getter.stood.1.0)

  getter-init : At p.table K L getter 4 (op.CallSpecial (target.Code (record { 0 = 1 }))) 7
  getter-init = stands-as getter 4 instr.InitThis _ loaded.getter.stood.1.1.0 (plain-at getter 4 instr.InitThis loaded.getter.stood.1.1.0)

  getter-return : At p.table K L getter 7 (op.ReturnValue kind.Reference) 8
  getter-return = stands-as getter 7 (instr.Return word.Reference) _ loaded.getter.stood.1.1.1.0 (plain-at getter 7 (instr.Return word.Reference) loaded.getter.stood.1.1.1.0)

  constructor-load : At p.table K L constructor 0 (op.Load kind.Reference 0) 1
  constructor-load = stands-as constructor 0 (instr.Load word.Reference 0) _ loaded.constructor.stood.0 (plain-at constructor 0 (instr.Load word.Reference 0) loaded.constructor.stood.0)

  constructor-init : At p.table K L constructor 1 (op.CallSpecial (target.BuiltIn built.ObjectInit)) 4
  constructor-init = stands-as constructor 1 instr.InitObject _ loaded.constructor.stood.1.0 (plain-at constructor 1 instr.InitObject loaded.constructor.stood.1.0)

  constructor-return : At p.table K L constructor 4 op.Return 5
  constructor-return = stands-as constructor 4 instr.ReturnNothing _ loaded.constructor.stood.1.1.0 (plain-at constructor 4 instr.ReturnNothing loaded.constructor.stood.1.1.0)

  -- ---- the states before the body of `main`

  abbrev statics : List Value
  statics = map zero_of L.statics

  abbrev going_to : Frame → List Frame → List Entity → State
  going_to f fs h = state f fs h statics 0

  abbrev launch : ℕ → List Value → Frame
  launch pc st = frame_at 0 launcher pc (Unset ∷ []) st

  abbrev get : ℕ → List Value → Frame
  get pc st = frame_at 2 getter pc [] st

  abbrev init : ℕ → List Value → Frame
  init pc st = frame_at 1 constructor pc (Reference 1 ∷ []) st

  abbrev r1 : Value
  r1 = Reference 1

  abbrev one_object : List Entity
  one_object = object ∷ []

  abbrev Then : State → State → Type 0
  Then s t = stepping L s ≡ Ok (event.On, t)

  abbrev made_fully : List Frame
  made_fully = get 4 (r1 ∷ []) ∷ launch 0 [] ∷ []

  deep_get : (k : ℕ) → k ≤ 2 → k ≤ getter.stack
  deep_get k le = let e = loaded.getter.stack_is in omega (arith, e, le)

  r_call : Then (going_to (launch 0 []) [] []) (going_to (get 0 []) (launch 0 [] ∷ []) [])
  r_call =
      row-static L 0 launcher loaded.launcher_there [] statics 0 1 2 getter (Unset ∷ []) [] 0 launcher-gets loaded.getter.there loaded.getter.arguments_are
      ∙ ap (λ n. Ok (event.On, going_to (frame_at 2 getter 0 (locals_of n []) []) (launch 0 [] ∷ []) [])) loaded.getter.locals_is

  r_new : Then (going_to (get 0 []) (launch 0 [] ∷ []) []) (going_to (get 3 (r1 ∷ [])) (launch 0 [] ∷ []) one_object)
  r_new = row-new L 2 getter loaded.getter.there (launch 0 [] ∷ []) statics 0 3 24 loaded.own_class.class [] [] [] 0 getter-new loaded.own_class.there loaded.own_class.fields_are (deep_get 1 (omega arith))

  r_dup : Then (going_to (get 3 (r1 ∷ [])) (launch 0 [] ∷ []) one_object) (going_to (get 4 (r1 ∷ r1 ∷ [])) (launch 0 [] ∷ []) one_object)
  r_dup = row-dup L 2 getter loaded.getter.there (launch 0 [] ∷ []) statics 3 4 1 [] [] one_object 0 getter-dup (deep_get 2 (omega arith))

  r_special : Then (going_to (get 4 (r1 ∷ r1 ∷ [])) (launch 0 [] ∷ []) one_object) (going_to (init 0 []) made_fully one_object)
  r_special =
      let narrow : 1 ≤ constructor.locals = (let e = loaded.constructor.locals_is in omega (arith, e)) in
      row-special L 2 getter loaded.getter.there (launch 0 [] ∷ []) statics 4 7 1 constructor [] one_object 0 getter-init loaded.constructor.there loaded.constructor.arguments_are narrow
      ∙ ap (λ n. Ok (event.On, going_to (frame_at 1 constructor 0 (locals_of n (r1 ∷ [])) []) made_fully one_object)) loaded.constructor.locals_is

  r_this : Then (going_to (init 0 []) made_fully one_object) (going_to (init 1 (r1 ∷ [])) made_fully one_object)
  r_this =
      let deep : 1 ≤ constructor.stack = (let e = loaded.constructor.stack_is in omega (arith, e)) in
      row-load L 1 constructor loaded.constructor.there made_fully statics 0 1 0 kind.Reference r1 (r1 ∷ []) [] one_object 0 constructor-load refl refl deep

  r_object : Then (going_to (init 1 (r1 ∷ [])) made_fully one_object) (going_to (init 4 []) made_fully one_object)
  r_object = row-init-object L 1 constructor loaded.constructor.there made_fully statics 1 4 1 object (r1 ∷ []) [] one_object 0 constructor-init (λ e. omega (arith, e)) refl

  r_made : Then (going_to (init 4 []) made_fully one_object) (going_to (get 7 (r1 ∷ [])) (launch 0 [] ∷ []) one_object)
  r_made = row-return L 1 constructor loaded.constructor.there made_fully statics 4 5 2 4 7 getter _ (r1 ∷ []) [] [] (r1 ∷ []) (launch 0 [] ∷ []) one_object 0 constructor-return refl loaded.getter.there getter-init

  module _ (deep : launcher.stack ≡ 2) where
    deep_launch : (k : ℕ) → k ≤ 2 → k ≤ launcher.stack
    deep_launch k le = omega (arith, deep, le)

    r_given : Then (going_to (get 7 (r1 ∷ [])) (launch 0 [] ∷ []) one_object) (going_to (launch 1 (r1 ∷ [])) [] one_object)
    r_given = row-return-value L 2 getter loaded.getter.there (launch 0 [] ∷ []) statics 7 8 0 0 1 kind.Reference r1 launcher _ [] [] (Unset ∷ []) [] [] one_object 0 getter-return refl refl loaded.launcher_there launcher-gets (deep_launch 1 (omega arith))

    r_zero : Then (going_to (launch 1 (r1 ∷ [])) [] one_object) (going_to (launch 2 (Int 0 ∷ r1 ∷ [])) [] one_object)
    r_zero = row-push L 0 launcher loaded.launcher_there [] statics 1 2 (Int 0) (Unset ∷ []) (r1 ∷ []) one_object 0 launcher-zero (deep_launch 2 (omega arith))

    r_array : Then (going_to (launch 2 (Int 0 ∷ r1 ∷ [])) [] one_object) (going_to (launch 3 (Reference 2 ∷ r1 ∷ [])) [] first_objects)
    r_array = row-array L 0 launcher loaded.launcher_there [] statics 2 3 0 (Unset ∷ []) (r1 ∷ []) one_object 0 launcher-array (deep_launch 2 (omega arith))

    starts : first_state L None None None ≡ going_to (launch 0 []) [] []
    starts = ap (λ room. going_to (record { method = record { 0 = 0 }; place = 0; room = room; locals = Unset ∷ []; stack = [] }) [] []) (sym deep)

    -- the method to which `main` leads
    module _ (n : ℕ) (m : Method) (there : slice_get L.methods n ≡ Some m) (arguments : m.arguments ≡ kind.Reference ∷ kind.Reference ∷ []) (narrow : 2 ≤ m.locals) (leads : target_of L 24 0 ≡ Some (target.Code (record { 0 = n }))) where
      abbrev pub main_begins : State
      main_begins = going_to (frame_at n m 0 (locals_of m.locals (r1 ∷ Reference 2 ∷ [])) []) (launch 3 [] ∷ []) first_objects

      r_main : Then (going_to (launch 3 (Reference 2 ∷ r1 ∷ [])) [] first_objects) main_begins
      unfolding receiver
      r_main =
          row-call L 0 launcher loaded.launcher_there [] statics 3 4 0 24 1 n m (kind.Reference ∷ kind.Reference ∷ []) [] (Unset ∷ []) (Reference 2 ∷ r1 ∷ []) [] first_objects 0 launcher-calls loaded.main_kinds arguments refl refl (λ e. omega (arith, e)) refl
          leads there narrow refl

      -- 11 rows lead to the body of `main`, and nothing is put
      pub machine-launches : course L (first_state L None None None) 11 ≡ going main_begins []
      unfolding course
      machine-launches =
          let s : State = first_state L None None None in
          let c0 : course L s 0 ≡ going (going_to (launch 0 []) [] []) [] = ap (λ t. going t []) starts in
          let c1 = then-row L s 0 _ _ c0 r_call in
          let c2 = then-row L s 1 _ _ c1 r_new in
          let c3 = then-row L s 2 _ _ c2 r_dup in
          let c4 = then-row L s 3 _ _ c3 r_special in
          let c5 = then-row L s 4 _ _ c4 r_this in
          let c6 = then-row L s 5 _ _ c5 r_object in
          let c7 = then-row L s 6 _ _ c6 r_made in
          let c8 = then-row L s 7 _ _ c7 r_given in
          let c9 = then-row L s 8 _ _ c8 r_zero in
          let c10 = then-row L s 9 _ _ c9 r_array in
          then-row L s 10 _ _ c10 r_main
