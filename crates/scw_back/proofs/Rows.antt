-- What one row of generated code does to the machine.
use Rattle.std.proofs.Common.{◌≡◌, refl, ap, ◌∙◌, ℕ, ◌+◌, ◌≤◌, true, cond, List, [], ◌∷◌, ◌++◌, length, Some, None, Result, Ok, eqb}
use Rattle.std.specs.Prelude.{◌&&◌, codes, nat_le, slice_get, slice_index, drop, reverse, take}
use Rattle.std.specs.Int.{w32, w64}
use Rattle.std.proofs.lemmas.Bool.{cond-false, le-leb, ne_eqb}
use Rattle.scw_value.specs.Number.{compared, computed, divided, order}
use Rattle.scw_value.specs.declared.arithmetic.Arithmetic.{Arithmetic}
use Rattle.scw_value.specs.declared.comparison.Comparison.{Comparison}
use Rattle.scw_value.specs.declared.division.Division.{Division}
use Rattle.scw_heap.specs.Heap.{Entity, object_at, used, words_in, zeroed}
use Rattle.scw_heap.specs.declared.kind.Kind.TheVariants as made
use Rattle.scw_frame.specs.declared.operation.BuiltIn.TheVariants as built
use Rattle.scw_frame.specs.declared.operation.Operation.{Operation}
use Rattle.scw_frame.specs.declared.operation.Operation.TheVariants as op
use Rattle.scw_frame.specs.declared.operation.Primitive.{Primitive}
use Rattle.scw_frame.specs.declared.operation.Primitive.TheVariants as primitive
use Rattle.scw_frame.specs.declared.operation.StackOperation.TheVariants as stack
use Rattle.scw_frame.specs.declared.program.Method.{Method}
use Rattle.scw_frame.specs.declared.program.Program.{Program}
use Rattle.scw_frame.specs.declared.program.Target.TheVariants as target
use Rattle.scw_frame.specs.declared.value.Value.{Value}
use Rattle.scw_frame.specs.declared.value.Value.TheVariants.{Int, Long, Reference}
use Rattle.scw_frame.specs.declared.value.ValueKind.{ValueKind}
use Rattle.scw_frame.specs.declared.value.ValueKind.TheVariants as kind
use Rattle.scw_frame.specs.Frame.{Frame, Calls, are_arguments, is_of, locals_of, places, places_of, placed, with_locals, with_stack}
use Rattle.scw_frame.specs.FrameStep.{filling, if_so, local_of, one, put, pushing, taken, taken_int, taken_long, taken_of, taken_reference, two, unset_before}
use Rattle.scw_frame.specs.FrameStep as frame
use Rattle.scw_step.specs.declared.event.Event.TheVariants as event
use Rattle.scw_step.specs.declared.state.State.{State}
use Rattle.scw_step.specs.declared.object.Shape.{Shape}
use Rattle.scw_step.specs.declared.stop.Stop.{Stop}
use Rattle.scw_step.specs.BoxStep.{box_class, first_word, making_box, making_unit}
use Rattle.scw_step.specs.BuiltInStep.{built_in}
use Rattle.scw_step.specs.CallStep.{code_of, entering, fetched, first_caller, fits, left, receiver, resuming, target_of, went_on}
use Rattle.scw_step.specs.ObjectStep.{box_text, making_text_by, making_text_of, making_instance_text, making_box_text, making_class_text}
use Rattle.scw_step.specs.StateStep.{and_next, framed, giving, making, or_undefined, reference_taken, roomy, taken_with, value_taken, with_frames}
use Rattle.scw_step.specs.Step.{computing, divided_into, executing, going_on, jumping, operating, stepping}
use Rattle.scw_step.specs.TextStep.{beginning, making_text}
use Rattle.scw_step.proofs.TextLemmas.{with_word-last}
use Rattle.scw_machine.specs.Course.{going, halted, returned, advance, after_step}
use Rattle.scw_machine.proofs.RowLemmas.{IsText, arithmetic-does, built-in-does, concat-does, ends-does, entered-does, given, print-does, push-does, return-does, row, shape-there, text-does, unit-does, virtual-does, virtual-enters}

-- the machine without limits
abbrev pub state : Frame → List Frame → List Entity → List Value → ℕ → State
state f fs h statics unit = record {
  frames = record { current = f; callers = fs; most_frames = None; most_words = None };
  heap = record { objects = h; units = None };
  statics = statics;
  unit = unit;
}

abbrev pub frame_at : ℕ → Method → ℕ → List Value → List Value → Frame
frame_at number m pc ws st = record { method = record { 0 = number }; place = pc; room = m.stack; locals = ws; stack = st }

module _ (L : Program) (number : ℕ) (m : Method) (there : slice_get L.methods number ≡ Some m) (fs : List Frame) (z : List Value) where
  -- the machine in the method, at a place, with local variables, a stack, a heap and the value of Unit
  abbrev pub on : ℕ → List Value → List Value → List Entity → ℕ → State
  on pc ws st h u = state (frame_at number m pc ws st) fs h z u

  -- the instruction at the place
  abbrev pub Has : ℕ → Operation → ℕ → Type 0
  Has pc o q = slice_get m.code pc ≡ Some (record { operation = o; next = q })

  abbrev pub Row : State → State → Type 0
  Row s t = stepping L s ≡ Ok (event.On, t)

  fetched-here : (pc q : ℕ) (o : Operation) (ws st : List Value) (h : List Entity) (u : ℕ) → Has pc o q → fetched L (on pc ws st h u).frames ≡ Some (record { operation = o; next = q })
  unfolding fetched
  fetched-here pc q o ws st h u e = ap (λ x. code_of x pc) there ∙ e

  -- ---- numbers

  pub row-push : (pc q : ℕ) (v : Value) (ws st : List Value) (h : List Entity) (u : ℕ) → Has pc (op.Push v) q → places (v ∷ st) ≤ m.stack → Row (on pc ws st h u) (on q ws (v ∷ st) h u)
  row-push pc q v ws st h u e room = row L (on pc ws st h u) _ (event.On, on q ws (v ∷ st) h u) (fetched-here pc q (op.Push v) ws st h u e) (push-does L v q (on pc ws st h u) (le-leb _ _ room))

  does-arithmetic-long : (o : Arithmetic) (a b q pc : ℕ) (ws st : List Value) (h : List Entity) (u : ℕ) → nat_le (places (Long (computed w64 o a b) ∷ st)) m.stack ≡ true →
      executing L (op.LongArithmetic o) q (on pc ws (Long b ∷ Long a ∷ st) h u) ≡ Ok (event.On, on q ws (Long (computed w64 o a b) ∷ st) h u)
  unfolding executing operating computing pushing taken_long taken
  does-arithmetic-long o a b q pc ws st h u room =
      let s : State = on pc ws (Long b ∷ Long a ∷ st) h u in
      ap (λ t. going_on q (framed s (if_so t (Some (with_stack (Long (computed w64 o a b) ∷ st) s.frames))))) room

  pub row-arithmetic-int : (pc q a b : ℕ) (o : Arithmetic) (ws st : List Value) (h : List Entity) (u : ℕ) → Has pc (op.IntArithmetic o) q → 1 + places st ≤ m.stack → Row (on pc ws (Int b ∷ Int a ∷ st) h u) (on q ws (Int (computed w32 o a b) ∷ st) h u)
  row-arithmetic-int pc q a b o ws st h u e room =
      row L (on pc ws (Int b ∷ Int a ∷ st) h u) _ (event.On, on q ws (Int (computed w32 o a b) ∷ st) h u) (fetched-here pc q (op.IntArithmetic o) ws (Int b ∷ Int a ∷ st) h u e)
      (arithmetic-does L o a b q st (on pc ws st h u) (le-leb _ _ room))

  pub row-arithmetic-long : (pc q a b : ℕ) (o : Arithmetic) (ws st : List Value) (h : List Entity) (u : ℕ) → Has pc (op.LongArithmetic o) q → 2 + places st ≤ m.stack → Row (on pc ws (Long b ∷ Long a ∷ st) h u) (on q ws (Long (computed w64 o a b) ∷ st) h u)
  row-arithmetic-long pc q a b o ws st h u e room =
      row L (on pc ws (Long b ∷ Long a ∷ st) h u) _ (event.On, on q ws (Long (computed w64 o a b) ∷ st) h u) (fetched-here pc q (op.LongArithmetic o) ws (Long b ∷ Long a ∷ st) h u e)
      (does-arithmetic-long o a b q pc ws st h u (le-leb _ _ room))

  does-compare : (a b q pc : ℕ) (ws st : List Value) (h : List Entity) (u : ℕ) → nat_le (1 + places st) m.stack ≡ true →
      executing L op.CompareLongs q (on pc ws (Long b ∷ Long a ∷ st) h u) ≡ Ok (event.On, on q ws (Int (order w64 a b) ∷ st) h u)
  unfolding executing operating computing pushing taken_long taken
  does-compare a b q pc ws st h u room =
      let s : State = on pc ws (Long b ∷ Long a ∷ st) h u in
      ap (λ t. going_on q (framed s (if_so t (Some (with_stack (Int (order w64 a b) ∷ st) s.frames))))) room

  pub row-compare : (pc q a b : ℕ) (ws st : List Value) (h : List Entity) (u : ℕ) → Has pc op.CompareLongs q → 1 + places st ≤ m.stack → Row (on pc ws (Long b ∷ Long a ∷ st) h u) (on q ws (Int (order w64 a b) ∷ st) h u)
  row-compare pc q a b ws st h u e room =
      row L (on pc ws (Long b ∷ Long a ∷ st) h u) _ (event.On, on q ws (Int (order w64 a b) ∷ st) h u) (fetched-here pc q op.CompareLongs ws (Long b ∷ Long a ∷ st) h u e) (does-compare a b q pc ws st h u (le-leb _ _ room))

  does-division-int : (o : Division) (a b q pc : ℕ) (ws st : List Value) (h : List Entity) (u : ℕ) → (b ≡ 0 → ⊥) → nat_le (1 + places st) m.stack ≡ true →
      executing L (op.IntDivision o) q (on pc ws (Int b ∷ Int a ∷ st) h u) ≡ Ok (event.On, on q ws (Int (divided w32 o a b) ∷ st) h u)
  unfolding executing operating pushing taken_int taken
  does-division-int o a b q pc ws st h u some room =
      let s : State = on pc ws (Int b ∷ Int a ∷ st) h u in
      ap (λ x. going_on q (divided_into s x)) (cond-false (eqb b 0) (Some None) (frame.and_then (if_so (nat_le (1 + places st) m.stack) (Some (with_stack (Int (divided w32 o a b) ∷ st) s.frames))) (λ d. Some (Some d))) (ne_eqb b 0 some)
      ∙ ap (λ t. frame.and_then (if_so t (Some (with_stack (Int (divided w32 o a b) ∷ st) s.frames))) (λ d. Some (Some d))) room)

  pub row-division-int : (pc q a b : ℕ) (o : Division) (ws st : List Value) (h : List Entity) (u : ℕ) → Has pc (op.IntDivision o) q → (b ≡ 0 → ⊥) → 1 + places st ≤ m.stack → Row (on pc ws (Int b ∷ Int a ∷ st) h u) (on q ws (Int (divided w32 o a b) ∷ st) h u)
  row-division-int pc q a b o ws st h u e some room =
      row L (on pc ws (Int b ∷ Int a ∷ st) h u) _ (event.On, on q ws (Int (divided w32 o a b) ∷ st) h u) (fetched-here pc q (op.IntDivision o) ws (Int b ∷ Int a ∷ st) h u e) (does-division-int o a b q pc ws st h u some (le-leb _ _ room))

  does-division-long : (o : Division) (a b q pc : ℕ) (ws st : List Value) (h : List Entity) (u : ℕ) → (b ≡ 0 → ⊥) → nat_le (2 + places st) m.stack ≡ true →
      executing L (op.LongDivision o) q (on pc ws (Long b ∷ Long a ∷ st) h u) ≡ Ok (event.On, on q ws (Long (divided w64 o a b) ∷ st) h u)
  unfolding executing operating pushing taken_long taken
  does-division-long o a b q pc ws st h u some room =
      let s : State = on pc ws (Long b ∷ Long a ∷ st) h u in
      ap (λ x. going_on q (divided_into s x)) (cond-false (eqb b 0) (Some None) (frame.and_then (if_so (nat_le (2 + places st) m.stack) (Some (with_stack (Long (divided w64 o a b) ∷ st) s.frames))) (λ d. Some (Some d))) (ne_eqb b 0 some)
      ∙ ap (λ t. frame.and_then (if_so t (Some (with_stack (Long (divided w64 o a b) ∷ st) s.frames))) (λ d. Some (Some d))) room)

  pub row-division-long : (pc q a b : ℕ) (o : Division) (ws st : List Value) (h : List Entity) (u : ℕ) → Has pc (op.LongDivision o) q → (b ≡ 0 → ⊥) → 2 + places st ≤ m.stack → Row (on pc ws (Long b ∷ Long a ∷ st) h u) (on q ws (Long (divided w64 o a b) ∷ st) h u)
  row-division-long pc q a b o ws st h u e some room =
      row L (on pc ws (Long b ∷ Long a ∷ st) h u) _ (event.On, on q ws (Long (divided w64 o a b) ∷ st) h u) (fetched-here pc q (op.LongDivision o) ws (Long b ∷ Long a ∷ st) h u e) (does-division-long o a b q pc ws st h u some (le-leb _ _ room))

  -- ---- local variables and the stack

  does-load : (k : ValueKind) (i q pc : ℕ) (v : Value) (ws st : List Value) (h : List Entity) (u : ℕ) → slice_get ws i ≡ Some v → is_of k v ≡ true → nat_le (places (v ∷ st)) m.stack ≡ true →
      executing L (op.Load k i) q (on pc ws st h u) ≡ Ok (event.On, on q ws (v ∷ st) h u)
  unfolding executing operating computing local_of pushing
  does-load k i q pc v ws st h u e is room =
      let s : State = on pc ws st h u in
      ap (λ x. going_on q (framed s (frame.and_then (frame.and_then x (λ v. if_so (is_of k v) (Some v))) (λ v. if_so (nat_le (places (v ∷ st)) m.stack) (Some (with_stack (v ∷ st) s.frames)))))) e
      ∙ ap (λ b. going_on q (framed s (frame.and_then (if_so b (Some v)) (λ v. if_so (nat_le (places (v ∷ st)) m.stack) (Some (with_stack (v ∷ st) s.frames)))))) is
      ∙ ap (λ b. going_on q (framed s (if_so b (Some (with_stack (v ∷ st) s.frames))))) room

  pub row-load : (pc q i : ℕ) (k : ValueKind) (v : Value) (ws st : List Value) (h : List Entity) (u : ℕ) → Has pc (op.Load k i) q → slice_get ws i ≡ Some v → is_of k v ≡ true → places (v ∷ st) ≤ m.stack → Row (on pc ws st h u) (on q ws (v ∷ st) h u)
  row-load pc q i k v ws st h u e at is room = row L (on pc ws st h u) _ (event.On, on q ws (v ∷ st) h u) (fetched-here pc q (op.Load k i) ws st h u e) (does-load k i q pc v ws st h u at is (le-leb _ _ room))

  does-store : (k : ValueKind) (i q pc : ℕ) (v : Value) (ws st : List Value) (h : List Entity) (u : ℕ) → is_of k v ≡ true → nat_le (i + places_of v) (length ws) ≡ true →
      executing L (op.Store k i) q (on pc ws (v ∷ st) h u) ≡ Ok (event.On, on q (put v (unset_before ws i) i) st h u)
  unfolding executing operating computing taken_of taken filling
  does-store k i q pc v ws st h u is fits =
      let s : State = on pc ws (v ∷ st) h u in
      let c : Calls = (on pc ws st h u).frames in
      ap (λ b. going_on q (framed s (frame.and_then {A = Value × Calls} (if_so b (Some (v, c))) (λ x. if_so (nat_le (i + places_of x.0) (length x.1.current.locals)) (Some (with_locals (put x.0 (unset_before x.1.current.locals i) i) x.1)))))) is
      ∙ ap (λ b. going_on q (framed s (if_so b (Some (with_locals (put v (unset_before ws i) i) c))))) fits

  pub row-store : (pc q i : ℕ) (k : ValueKind) (v : Value) (ws st : List Value) (h : List Entity) (u : ℕ) → Has pc (op.Store k i) q → is_of k v ≡ true → i + places_of v ≤ length ws → Row (on pc ws (v ∷ st) h u) (on q (put v (unset_before ws i) i) st h u)
  row-store pc q i k v ws st h u e is fits = row L (on pc ws (v ∷ st) h u) _ (event.On, on q (put v (unset_before ws i) i) st h u) (fetched-here pc q (op.Store k i) ws (v ∷ st) h u e) (does-store k i q pc v ws st h u is (le-leb _ _ fits))

  does-pop-int : (n q pc : ℕ) (ws st : List Value) (h : List Entity) (u : ℕ) → executing L (op.Stack stack.Pop) q (on pc ws (Int n ∷ st) h u) ≡ Ok (event.On, on q ws st h u)
  unfolding executing operating computing one taken
  does-pop-int n q pc ws st h u = refl

  does-pop-reference : (n q pc : ℕ) (ws st : List Value) (h : List Entity) (u : ℕ) → executing L (op.Stack stack.Pop) q (on pc ws (Reference n ∷ st) h u) ≡ Ok (event.On, on q ws st h u)
  unfolding executing operating computing one taken
  does-pop-reference n q pc ws st h u = refl

  does-pop-long : (n q pc : ℕ) (ws st : List Value) (h : List Entity) (u : ℕ) → executing L (op.Stack stack.PopTwo) q (on pc ws (Long n ∷ st) h u) ≡ Ok (event.On, on q ws st h u)
  unfolding executing operating computing two taken
  does-pop-long n q pc ws st h u = refl

  pub row-pop-int : (pc q n : ℕ) (ws st : List Value) (h : List Entity) (u : ℕ) → Has pc (op.Stack stack.Pop) q → Row (on pc ws (Int n ∷ st) h u) (on q ws st h u)
  row-pop-int pc q n ws st h u e = row L (on pc ws (Int n ∷ st) h u) _ (event.On, on q ws st h u) (fetched-here pc q (op.Stack stack.Pop) ws (Int n ∷ st) h u e) (does-pop-int n q pc ws st h u)

  pub row-pop-reference : (pc q n : ℕ) (ws st : List Value) (h : List Entity) (u : ℕ) → Has pc (op.Stack stack.Pop) q → Row (on pc ws (Reference n ∷ st) h u) (on q ws st h u)
  row-pop-reference pc q n ws st h u e = row L (on pc ws (Reference n ∷ st) h u) _ (event.On, on q ws st h u) (fetched-here pc q (op.Stack stack.Pop) ws (Reference n ∷ st) h u e) (does-pop-reference n q pc ws st h u)

  pub row-pop-long : (pc q n : ℕ) (ws st : List Value) (h : List Entity) (u : ℕ) → Has pc (op.Stack stack.PopTwo) q → Row (on pc ws (Long n ∷ st) h u) (on q ws st h u)
  row-pop-long pc q n ws st h u e = row L (on pc ws (Long n ∷ st) h u) _ (event.On, on q ws st h u) (fetched-here pc q (op.Stack stack.PopTwo) ws (Long n ∷ st) h u e) (does-pop-long n q pc ws st h u)

  -- ---- jumps

  does-jump : (to q pc : ℕ) (ws st : List Value) (h : List Entity) (u : ℕ) → executing L (op.Jump to) q (on pc ws st h u) ≡ Ok (event.On, on to ws st h u)
  unfolding executing jumping
  does-jump to q pc ws st h u = refl

  pub row-jump : (pc q to : ℕ) (ws st : List Value) (h : List Entity) (u : ℕ) → Has pc (op.Jump to) q → Row (on pc ws st h u) (on to ws st h u)
  row-jump pc q to ws st h u e = row L (on pc ws st h u) _ (event.On, on to ws st h u) (fetched-here pc q (op.Jump to) ws st h u e) (does-jump to q pc ws st h u)

  does-zero : (c : Comparison) (n to q pc : ℕ) (ws st : List Value) (h : List Entity) (u : ℕ) → executing L (op.JumpIfZero c to) q (on pc ws (Int n ∷ st) h u) ≡ Ok (event.On, on (cond (compared w32 c n 0) to q) ws st h u)
  unfolding executing jumping taken_int taken
  does-zero c n to q pc ws st h u = refl

  pub row-zero : (pc q to n : ℕ) (c : Comparison) (ws st : List Value) (h : List Entity) (u : ℕ) → Has pc (op.JumpIfZero c to) q → Row (on pc ws (Int n ∷ st) h u) (on (cond (compared w32 c n 0) to q) ws st h u)
  row-zero pc q to n c ws st h u e = row L (on pc ws (Int n ∷ st) h u) _ (event.On, on (cond (compared w32 c n 0) to q) ws st h u) (fetched-here pc q (op.JumpIfZero c to) ws (Int n ∷ st) h u e) (does-zero c n to q pc ws st h u)

  does-ints : (c : Comparison) (a b to q pc : ℕ) (ws st : List Value) (h : List Entity) (u : ℕ) → executing L (op.JumpIfInts c to) q (on pc ws (Int b ∷ Int a ∷ st) h u) ≡ Ok (event.On, on (cond (compared w32 c a b) to q) ws st h u)
  unfolding executing jumping taken_int taken
  does-ints c a b to q pc ws st h u = refl

  pub row-ints : (pc q to a b : ℕ) (c : Comparison) (ws st : List Value) (h : List Entity) (u : ℕ) → Has pc (op.JumpIfInts c to) q → Row (on pc ws (Int b ∷ Int a ∷ st) h u) (on (cond (compared w32 c a b) to q) ws st h u)
  row-ints pc q to a b c ws st h u e = row L (on pc ws (Int b ∷ Int a ∷ st) h u) _ (event.On, on (cond (compared w32 c a b) to q) ws st h u) (fetched-here pc q (op.JumpIfInts c to) ws (Int b ∷ Int a ∷ st) h u e) (does-ints c a b to q pc ws st h u)

  -- ---- texts, boxes and the value of Unit

  abbrev pub text : List ℕ → Entity
  text us = record { kind = made.Text; words = us }

  abbrev pub box : Primitive → ℕ → Entity
  box p w = record { kind = made.Object (box_class p); words = w ∷ [] }

  abbrev pub unit_object : Entity
  unit_object = record { kind = made.Object 6; words = [] }

  texts-made : (pc : ℕ) (us : List ℕ) (ws st : List Value) (h : List Entity) (u : ℕ) → making_text us (on pc ws st h u) ≡ Ok (1 + used h, on pc ws st (h ++ text us ∷ []) u)
  unfolding making_text beginning making
  texts-made pc us ws st h u = refl

  has-room : (pc : ℕ) (ws st : List Value) (h : List Entity) (u : ℕ) → 1 + places st ≤ m.stack → roomy (on pc ws st h u) ≡ true
  unfolding roomy
  has-room pc ws st h u room = le-leb _ _ room

  pub row-text : (pc q x : ℕ) (us : List ℕ) (ws st : List Value) (h : List Entity) (u : ℕ) → Has pc (op.PushText (record { 0 = x })) q → slice_get L.texts x ≡ Some us → 1 + places st ≤ m.stack → Row (on pc ws st h u) (on q ws (Reference (1 + used h) ∷ st) (h ++ text us ∷ []) u)
  row-text pc q x us ws st h u e there room =
      row L (on pc ws st h u) _ (event.On, on q ws (Reference (1 + used h) ∷ st) (h ++ text us ∷ []) u) (fetched-here pc q (op.PushText (record { 0 = x })) ws st h u e)
      (text-does L x q us (on pc ws st h u) _ (1 + used h) there (has-room pc ws st h u room) (texts-made pc us ws st h u) refl)

  pub row-concat : (pc q a b : ℕ) (xs ys : List ℕ) (ws st : List Value) (h : List Entity) (u : ℕ) → Has pc (op.CallStatic (target.BuiltIn built.Concat)) q → IsText (record { objects = h; units = None }) a xs → IsText (record { objects = h; units = None }) b ys → 1 + places st ≤ m.stack →
      Row (on pc ws (Reference b ∷ Reference a ∷ st) h u) (on q ws (Reference (1 + used h) ∷ st) (h ++ text (xs ++ ys) ∷ []) u)
  row-concat pc q a b xs ys ws st h u e ha hb room =
      let s : State = on pc ws st h u in
      row L (on pc ws (Reference b ∷ Reference a ∷ st) h u) _ (event.On, on q ws (Reference (1 + used h) ∷ st) (h ++ text (xs ++ ys) ∷ []) u) (fetched-here pc q (op.CallStatic (target.BuiltIn built.Concat)) ws (Reference b ∷ Reference a ∷ st) h u e)
      (built-in-does L built.Concat q (on pc ws (Reference b ∷ Reference a ∷ st) h u) _ event.On (concat-does L a b xs ys st s _ (1 + used h) ha hb (has-room pc ws st h u room) (texts-made pc (xs ++ ys) ws st h u) refl))

  boxes-made : (p : Primitive) (pc w : ℕ) (ws st : List Value) (h : List Entity) (u : ℕ) → making_box p w (on pc ws st h u) ≡ Ok (1 + used h, on pc ws st (h ++ box p w ∷ []) u)
  unfolding making_box making
  boxes-made p pc w ws st h u = ap (λ (os : List Entity). Ok (1 + used h, on pc ws st os u)) (with_word-last h (zeroed (made.Object (box_class p)) 1) 0 w)

  boxed-int : (pc q w : ℕ) (ws st : List Value) (h : List Entity) (u : ℕ) → 1 + places st ≤ m.stack → built_in L (built.Box primitive.Int) (on pc ws (Int w ∷ st) h u) ≡ Ok (event.On, on pc ws (Reference (1 + used h) ∷ st) (h ++ box primitive.Int w ∷ []) u)
  unfolding built_in value_taken taken_of taken
  boxed-int pc q w ws st h u room = ap (λ (x : Result State Stop). and_next x (λ s. Ok (event.On, s))) (given (making_box primitive.Int w) (on pc ws st h u) _ (1 + used h) (has-room pc ws st h u room) (boxes-made primitive.Int pc w ws st h u) refl)

  boxed-boolean : (pc q w : ℕ) (ws st : List Value) (h : List Entity) (u : ℕ) → 1 + places st ≤ m.stack → built_in L (built.Box primitive.Boolean) (on pc ws (Int w ∷ st) h u) ≡ Ok (event.On, on pc ws (Reference (1 + used h) ∷ st) (h ++ box primitive.Boolean w ∷ []) u)
  unfolding built_in value_taken taken_of taken
  boxed-boolean pc q w ws st h u room = ap (λ (x : Result State Stop). and_next x (λ s. Ok (event.On, s))) (given (making_box primitive.Boolean w) (on pc ws st h u) _ (1 + used h) (has-room pc ws st h u room) (boxes-made primitive.Boolean pc w ws st h u) refl)

  boxed-long : (pc q w : ℕ) (ws st : List Value) (h : List Entity) (u : ℕ) → 1 + places st ≤ m.stack → built_in L (built.Box primitive.Long) (on pc ws (Long w ∷ st) h u) ≡ Ok (event.On, on pc ws (Reference (1 + used h) ∷ st) (h ++ box primitive.Long w ∷ []) u)
  unfolding built_in value_taken taken_of taken
  boxed-long pc q w ws st h u room = ap (λ (x : Result State Stop). and_next x (λ s. Ok (event.On, s))) (given (making_box primitive.Long w) (on pc ws st h u) _ (1 + used h) (has-room pc ws st h u room) (boxes-made primitive.Long pc w ws st h u) refl)

  pub row-box-int : (pc q w : ℕ) (ws st : List Value) (h : List Entity) (u : ℕ) → Has pc (op.CallStatic (target.BuiltIn (built.Box primitive.Int))) q → 1 + places st ≤ m.stack → Row (on pc ws (Int w ∷ st) h u) (on q ws (Reference (1 + used h) ∷ st) (h ++ box primitive.Int w ∷ []) u)
  row-box-int pc q w ws st h u e room =
      row L (on pc ws (Int w ∷ st) h u) _ (event.On, on q ws (Reference (1 + used h) ∷ st) (h ++ box primitive.Int w ∷ []) u) (fetched-here pc q _ ws (Int w ∷ st) h u e) (built-in-does L (built.Box primitive.Int) q (on pc ws (Int w ∷ st) h u) _ event.On (boxed-int pc q w ws st h u room))

  pub row-box-boolean : (pc q w : ℕ) (ws st : List Value) (h : List Entity) (u : ℕ) → Has pc (op.CallStatic (target.BuiltIn (built.Box primitive.Boolean))) q → 1 + places st ≤ m.stack → Row (on pc ws (Int w ∷ st) h u) (on q ws (Reference (1 + used h) ∷ st) (h ++ box primitive.Boolean w ∷ []) u)
  row-box-boolean pc q w ws st h u e room =
      row L (on pc ws (Int w ∷ st) h u) _ (event.On, on q ws (Reference (1 + used h) ∷ st) (h ++ box primitive.Boolean w ∷ []) u) (fetched-here pc q _ ws (Int w ∷ st) h u e) (built-in-does L (built.Box primitive.Boolean) q (on pc ws (Int w ∷ st) h u) _ event.On (boxed-boolean pc q w ws st h u room))

  pub row-box-long : (pc q w : ℕ) (ws st : List Value) (h : List Entity) (u : ℕ) → Has pc (op.CallStatic (target.BuiltIn (built.Box primitive.Long))) q → 1 + places st ≤ m.stack → Row (on pc ws (Long w ∷ st) h u) (on q ws (Reference (1 + used h) ∷ st) (h ++ box primitive.Long w ∷ []) u)
  row-box-long pc q w ws st h u e room =
      row L (on pc ws (Long w ∷ st) h u) _ (event.On, on q ws (Reference (1 + used h) ∷ st) (h ++ box primitive.Long w ∷ []) u) (fetched-here pc q _ ws (Long w ∷ st) h u e) (built-in-does L (built.Box primitive.Long) q (on pc ws (Long w ∷ st) h u) _ event.On (boxed-long pc q w ws st h u room))

  -- ---- the texts of objects

  -- the text that an object of the machine's own class has
  class-text : (pc r : ℕ) (ws st : List Value) (h : List Entity) (u : ℕ) (o : Entity) (us : List ℕ) → (r ≡ 0 → ⊥) → object_at h r ≡ Some o → making_text_by L o.kind r (record { kind = o.kind; length = length o.words }) (on pc ws st h u) ≡ making_text us (on pc ws st h u) →
      making_text_of L r (on pc ws st h u) ≡ Ok (1 + used h, on pc ws st (h ++ text us ∷ []) u)
  unfolding making_text_of
  class-text pc r ws st h u o us some there e =
      ap (λ (x : Result Shape Stop). and_next x (λ y. making_text_by L y.kind r y (on pc ws st h u))) (shape-there r (record { objects = h; units = None }) o some there) ∙ e ∙ texts-made pc us ws st h u

  asked : (pc q r c x : ℕ) (ws ks st : List Value) (words us : List ℕ) (h : List Entity) (u : ℕ) → Has pc (op.CallVirtual (record { 0 = x })) q → slice_get L.selectors x ≡ Some (kind.Reference ∷ []) → target_of L c x ≡ Some (target.BuiltIn built.ToString)
      → (r ≡ 0 → ⊥) → object_at h r ≡ Some (record { kind = made.Object c; words = words }) → 1 + places st ≤ m.stack → making_text_of L r (on pc ws st h u) ≡ Ok (1 + used h, on pc ws st (h ++ text us ∷ []) u)
      → Row (on pc ws (Reference r ∷ st) h u) (on q ws (Reference (1 + used h) ∷ st) (h ++ text us ∷ []) u)
  unfolding built_in reference_taken taken_reference taken
  asked pc q r c x ws ks st words us h u e kinds tgt some there room texted =
      row L (on pc ws (Reference r ∷ st) h u) _ (event.On, on q ws (Reference (1 + used h) ∷ st) (h ++ text us ∷ []) u) (fetched-here pc q (op.CallVirtual (record { 0 = x })) ws (Reference r ∷ st) h u e)
      (virtual-does L x q r built.ToString (made.Object c) words st (on pc ws st h u) _ event.On kinds some there tgt
      (ap (λ (y : Result State Stop). and_next y (λ s. Ok (event.On, s))) (given (making_text_of L r) (on pc ws st h u) _ (1 + used h) (has-room pc ws st h u room) texted refl)))

  unit-text : (pc r : ℕ) (ws st : List Value) (h : List Entity) (u : ℕ) → making_text_by L (made.Object 6) r (record { kind = made.Object 6; length = 0 }) (on pc ws st h u) ≡ making_text (codes "()") (on pc ws st h u)
  unfolding making_text_by making_instance_text making_class_text
  unit-text pc r ws st h u = refl

  pub row-unit-text : (pc q r x : ℕ) (ws st : List Value) (h : List Entity) (u : ℕ) → Has pc (op.CallVirtual (record { 0 = x })) q → slice_get L.selectors x ≡ Some (kind.Reference ∷ []) → target_of L 6 x ≡ Some (target.BuiltIn built.ToString)
      → (r ≡ 0 → ⊥) → object_at h r ≡ Some unit_object → 1 + places st ≤ m.stack → Row (on pc ws (Reference r ∷ st) h u) (on q ws (Reference (1 + used h) ∷ st) (h ++ text (codes "()") ∷ []) u)
  row-unit-text pc q r x ws st h u e kinds tgt some there room = asked pc q r 6 x ws [] st [] (codes "()") h u e kinds tgt some there room (class-text pc r ws st h u unit_object (codes "()") some there (unit-text pc r ws st h u))

  box-text : (p : Primitive) (pc r w : ℕ) (ws st : List Value) (h : List Entity) (u : ℕ) → object_at h r ≡ Some (box p w) → making_text_by L (made.Object (box_class p)) r (record { kind = made.Object (box_class p); length = 1 }) (on pc ws st h u) ≡ making_text (box_text p w) (on pc ws st h u)
  unfolding making_text_by making_instance_text making_box_text first_word
  box-text primitive.Boolean pc r w ws st h u e = ap (λ o. making_text (box_text primitive.Boolean (slice_index (words_in o) 0)) (on pc ws st h u)) e
  box-text primitive.Char pc r w ws st h u e = ap (λ o. making_text (box_text primitive.Char (slice_index (words_in o) 0)) (on pc ws st h u)) e
  box-text primitive.Int pc r w ws st h u e = ap (λ o. making_text (box_text primitive.Int (slice_index (words_in o) 0)) (on pc ws st h u)) e
  box-text primitive.Long pc r w ws st h u e = ap (λ o. making_text (box_text primitive.Long (slice_index (words_in o) 0)) (on pc ws st h u)) e

  pub row-box-text : (p : Primitive) (pc q r w x : ℕ) (ws st : List Value) (h : List Entity) (u : ℕ) → Has pc (op.CallVirtual (record { 0 = x })) q → slice_get L.selectors x ≡ Some (kind.Reference ∷ []) → target_of L (box_class p) x ≡ Some (target.BuiltIn built.ToString)
      → (r ≡ 0 → ⊥) → object_at h r ≡ Some (box p w) → 1 + places st ≤ m.stack → Row (on pc ws (Reference r ∷ st) h u) (on q ws (Reference (1 + used h) ∷ st) (h ++ text (box_text p w) ∷ []) u)
  row-box-text p pc q r w x ws st h u e kinds tgt some there room =
      asked pc q r (box_class p) x ws [] st (w ∷ []) (box_text p w) h u e kinds tgt some there room (class-text pc r ws st h u (box p w) (box_text p w) some there (box-text p pc r w ws st h u there))

  -- ---- the value of Unit

  made-unit : (pc : ℕ) (ws st : List Value) (h : List Entity) → making_unit (on pc ws st h 0) ≡ Ok (1 + used h, on pc ws st (h ++ unit_object ∷ []) (1 + used h))
  unfolding making_unit making
  made-unit pc ws st h = refl

  pub row-unit-first : (pc q : ℕ) (ws st : List Value) (h : List Entity) → Has pc (op.CallStatic (target.BuiltIn built.Unit)) q → 1 + places st ≤ m.stack → Row (on pc ws st h 0) (on q ws (Reference (1 + used h) ∷ st) (h ++ unit_object ∷ []) (1 + used h))
  row-unit-first pc q ws st h e room =
      row L (on pc ws st h 0) _ (event.On, on q ws (Reference (1 + used h) ∷ st) (h ++ unit_object ∷ []) (1 + used h)) (fetched-here pc q _ ws st h 0 e)
      (built-in-does L built.Unit q (on pc ws st h 0) _ event.On (unit-does L (on pc ws st h 0) _ (1 + used h) (has-room pc ws st h 0 room) (made-unit pc ws st h) refl))

  kept-unit : (pc u : ℕ) (ws st : List Value) (h : List Entity) → (u ≡ 0 → ⊥) → making_unit (on pc ws st h u) ≡ Ok (u, on pc ws st h u)
  unfolding making_unit
  kept-unit pc u ws st h some = cond-false (eqb u 0) _ _ (ne_eqb u 0 some)

  pub row-unit-again : (pc q u : ℕ) (ws st : List Value) (h : List Entity) → Has pc (op.CallStatic (target.BuiltIn built.Unit)) q → (u ≡ 0 → ⊥) → 1 + places st ≤ m.stack → Row (on pc ws st h u) (on q ws (Reference u ∷ st) h u)
  row-unit-again pc q u ws st h e some room =
      row L (on pc ws st h u) _ (event.On, on q ws (Reference u ∷ st) h u) (fetched-here pc q _ ws st h u e)
      (built-in-does L built.Unit q (on pc ws st h u) _ event.On (unit-does L (on pc ws st h u) _ u (has-room pc ws st h u room) (kept-unit pc u ws st h some) refl))

  -- ---- output

  pub row-print : (pc q r : ℕ) (us : List ℕ) (ws st : List Value) (h : List Entity) (u : ℕ) → Has pc (op.CallStatic (target.BuiltIn built.Print)) q → IsText (record { objects = h; units = None }) r us → stepping L (on pc ws (Reference r ∷ st) h u) ≡ Ok (event.Says r, on q ws st h u)
  row-print pc q r us ws st h u e t =
      row L (on pc ws (Reference r ∷ st) h u) _ (event.Says r, on q ws st h u) (fetched-here pc q _ ws (Reference r ∷ st) h u e)
      (built-in-does L built.Print q (on pc ws (Reference r ∷ st) h u) _ (event.Says r) (print-does L r us st (on pc ws st h u) t))

  -- ---- returns

  pub row-return : (pc q n2 pc2 q2 : ℕ) (m2 : Method) (o2 : Operation) (ws st ws2 st2 : List Value) (gs : List Frame) (h : List Entity) (u : ℕ) → Has pc op.Return q → fs ≡ frame_at n2 m2 pc2 ws2 st2 ∷ gs → slice_get L.methods n2 ≡ Some m2
      → slice_get m2.code pc2 ≡ Some (record { operation = o2; next = q2 }) → Row (on pc ws st h u) (state (frame_at n2 m2 q2 ws2 st2) gs h z u)
  unfolding fetched
  row-return pc q n2 pc2 q2 m2 o2 ws st ws2 st2 gs h u e waits there2 e2 =
      row L (on pc ws st h u) _ (event.On, state (frame_at n2 m2 q2 ws2 st2) gs h z u) (fetched-here pc q op.Return ws st h u e)
      (return-does L (on pc ws st h u) (frame_at n2 m2 pc2 ws2 st2) gs q (record { operation = o2; next = q2 }) waits (ap (λ x. code_of x pc2) there2 ∙ e2))

  -- the first frame returns
  pub ends-return : (pc q : ℕ) (ws st : List Value) (h : List Entity) (u : ℕ) (out : List ℕ) → Has pc op.Return q → fs ≡ [] → advance L (going (on pc ws st h u) out) ≡ halted returned (on pc ws st h u) out
  unfolding advance
  ends-return pc q ws st h u out e none = ap (after_step (on pc ws st h u) out) (row L (on pc ws st h u) (record { operation = op.Return; next = q }) (event.Ended, on pc ws st h u) (fetched-here pc q op.Return ws st h u e) (ends-does L q (on pc ws st h u) none))

  does-return-value : (k : ValueKind) (v : Value) (q pc n2 pc2 q2 : ℕ) (m2 : Method) (o2 : Operation) (ws st ws2 st2 : List Value) (gs : List Frame) (h : List Entity) (u : ℕ) → is_of k v ≡ true → fs ≡ frame_at n2 m2 pc2 ws2 st2 ∷ gs → slice_get L.methods n2 ≡ Some m2
      → slice_get m2.code pc2 ≡ Some (record { operation = o2; next = q2 }) → nat_le (places (v ∷ st2)) m2.stack ≡ true → executing L (op.ReturnValue k) q (on pc ws (v ∷ st) h u) ≡ Ok (event.On, state (frame_at n2 m2 q2 ws2 (v ∷ st2)) gs h z u)
  unfolding executing value_taken taken_of taken left giving pushing resuming fetched
  does-return-value k v q pc n2 pc2 q2 m2 o2 ws st ws2 st2 gs h u is waits there2 e2 room =
      let s : State = on pc ws (v ∷ st) h u in
      let below : List Frame → State = λ l. state (frame_at number m pc ws st) l h z u in
      let back : State = state (frame_at n2 m2 pc2 ws2 st2) gs h z u in
      let top : State = state (frame_at n2 m2 pc2 ws2 (v ∷ st2)) gs h z u in
      ap (λ b. and_next (taken_with s (if_so b (Some (v, (on pc ws st h u).frames)))) (λ v. and_next (framed v.1 (left v.1.frames)) (λ c. and_next (giving v.0 c) (λ t. went_on (resuming L t))))) is
      ∙ ap (λ l. and_next (framed (below fs) (first_caller l (below fs).frames)) (λ c. and_next (giving v c) (λ t. went_on (resuming L t)))) waits
      ∙ ap (λ b. and_next (framed back (if_so b (Some top.frames))) (λ t. went_on (resuming L t))) room
      ∙ ap (λ x. went_on (and_next (or_undefined x) (λ i. Ok (with_frames top (placed i.next top.frames))))) (ap (λ x. code_of x pc2) there2 ∙ e2)

  pub row-return-value : (pc q n2 pc2 q2 : ℕ) (k : ValueKind) (v : Value) (m2 : Method) (o2 : Operation) (ws st ws2 st2 : List Value) (gs : List Frame) (h : List Entity) (u : ℕ) → Has pc (op.ReturnValue k) q → is_of k v ≡ true → fs ≡ frame_at n2 m2 pc2 ws2 st2 ∷ gs → slice_get L.methods n2 ≡ Some m2
      → slice_get m2.code pc2 ≡ Some (record { operation = o2; next = q2 }) → places (v ∷ st2) ≤ m2.stack → Row (on pc ws (v ∷ st) h u) (state (frame_at n2 m2 q2 ws2 (v ∷ st2)) gs h z u)
  row-return-value pc q n2 pc2 q2 k v m2 o2 ws st ws2 st2 gs h u e is waits there2 e2 room =
      row L (on pc ws (v ∷ st) h u) _ (event.On, state (frame_at n2 m2 q2 ws2 (v ∷ st2)) gs h z u) (fetched-here pc q (op.ReturnValue k) ws (v ∷ st) h u e) (does-return-value k v q pc n2 pc2 q2 m2 o2 ws st ws2 st2 gs h u is waits there2 e2 (le-leb _ _ room))

  -- ---- calls

  -- a virtual call of a method with code, with its arguments on the stack, the object deepest
  pub row-call : (pc q x c r n2 : ℕ) (m2 : Method) (ks : List ValueKind) (words : List ℕ) (ws st rest : List Value) (h : List Entity) (u : ℕ) → Has pc (op.CallVirtual (record { 0 = x })) q → slice_get L.selectors x ≡ Some ks → m2.arguments ≡ ks
      → are_arguments ks (on pc ws st h u).frames ≡ true → receiver (length ks) (on pc ws st h u).frames ≡ Some r → (r ≡ 0 → ⊥) → object_at h r ≡ Some (record { kind = made.Object c; words = words }) → target_of L c x ≡ Some (target.Code (record { 0 = n2 }))
      → slice_get L.methods n2 ≡ Some m2 → places (reverse (take (length ks) st)) ≤ m2.locals → drop (length ks) st ≡ rest
      → Row (on pc ws st h u) (state (frame_at n2 m2 0 (locals_of m2.locals (reverse (take (length ks) st))) []) (frame_at number m pc ws rest ∷ fs) h z u)
  row-call pc q x c r n2 m2 ks words ws st rest h u e kinds args are on_top some there tgt there2 narrow drops =
      let s : State = on pc ws st h u in
      let fit : fits m2.arguments m2.locals s.frames ≡ true = ap (λ a. fits a m2.locals s.frames) args ∙ ap (λ b. b && nat_le (places (reverse (take (length ks) st))) m2.locals) are ∙ le-leb _ _ narrow in
      let after : List ValueKind → List Value → State = λ a l. state (frame_at n2 m2 0 (locals_of m2.locals (reverse (take (length a) st))) []) (frame_at number m pc ws l ∷ fs) h z u in
      let inside : entering L (record { 0 = n2 }) s ≡ Ok (after ks rest) = entered-does L (record { 0 = n2 }) m2 s there2 fit refl ∙ ap (λ a. Ok (after a (drop (length a) st))) args ∙ ap (λ l. Ok (after ks l)) drops in
      row L s _ (event.On, after ks rest) (fetched-here pc q (op.CallVirtual (record { 0 = x })) ws st h u e) (virtual-enters L x q r (record { 0 = n2 }) (made.Object c) words ks s (after ks rest) kinds are on_top some there tgt inside)
