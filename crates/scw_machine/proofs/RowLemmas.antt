-- What one row of the machine does, instruction by instruction, where all that it needs is there.
use Rattle.std.proofs.Common.{◌≡◌, ℕ, suc, ◌+◌, ◌%◌, ◌^◌, true, cond, List, [], ◌∷◌, ◌++◌, map, length, Option, Some, Result, Ok, Err, ap, ◌∙◌, arith, eqb}
use Rattle.std.specs.Prelude.{◌==◌, ◌&&◌, codes, slice_get, slice_index}
use Rattle.std.specs.Int.{w32, cast_signed}
use Rattle.std.proofs.lemmas.Bool.{cond-false, le-leb, ne_eqb}
use Rattle.scw_value.specs.Number.{computed}
use Rattle.scw_value.specs.Text.{number_text, utf8}
use Rattle.scw_value.specs.declared.arithmetic.Arithmetic.{Arithmetic}
use Rattle.scw_heap.specs.Heap.{Content, Entity, can_have, object_at, used, units_of, within, words_in, zeroed}
use Rattle.scw_heap.specs.declared.kind.Kind.{Kind}
use Rattle.scw_heap.specs.declared.kind.Kind.TheVariants as made
use Rattle.scw_frame.specs.declared.operation.BuiltIn.{BuiltIn}
use Rattle.scw_frame.specs.declared.operation.BuiltIn.TheVariants as built
use Rattle.scw_frame.specs.declared.operation.Instruction.{Instruction}
use Rattle.scw_frame.specs.declared.operation.Operation.TheVariants as op
use Rattle.scw_frame.specs.declared.operation.Primitive.TheVariants as primitive
use Rattle.scw_frame.specs.declared.program.Class.{Class}
use Rattle.scw_frame.specs.declared.program.Method.{Method}
use Rattle.scw_frame.specs.declared.program.MethodNumber.{MethodNumber}
use Rattle.scw_frame.specs.declared.program.Program.{Program}
use Rattle.scw_frame.specs.declared.program.Target.TheVariants as target
use Rattle.scw_frame.specs.declared.value.Value.{Value}
use Rattle.scw_frame.specs.declared.value.Value.TheVariants.{Int, Reference}
use Rattle.scw_frame.specs.declared.value.ValueKind.{ValueKind}
use Rattle.scw_frame.specs.declared.value.ValueKind.TheVariants as kind
use Rattle.scw_frame.specs.Frame.{Frame, Calls, are_arguments, can_enter, entered, has_room, placed, pushed, with_stack}
use Rattle.scw_frame.specs.FrameStep.{pushing, taken, taken_int, taken_reference, taken_of, if_so}
use Rattle.scw_step.specs.declared.event.Event.{Event}
use Rattle.scw_step.specs.declared.event.Event.TheVariants as event
use Rattle.scw_step.specs.declared.state.State.{State}
use Rattle.scw_step.specs.declared.object.Shape.{Shape}
use Rattle.scw_step.specs.declared.stop.Fault.TheVariants as fault
use Rattle.scw_step.specs.declared.stop.Stop.{Stop}
use Rattle.scw_step.specs.declared.stop.Stop.TheVariants.{Undefined, Throws, HeapFull, TooManyFrames}
use Rattle.scw_step.specs.BoxStep.{making_box, making_unit}
use Rattle.scw_step.specs.BuiltInStep.{built_in, saying, said_at, quiet}
use Rattle.scw_machine.specs.Output.{bytes_in, said_by}
use Rattle.scw_step.specs.CallStep.{calling_method, calling_special, calling_virtual, class_of, entering, entering_method, fetched, first_caller, fits, left, receiver, resuming, returned, running, running_built_in, selecting, target_of, unless_null, went_on}
use Rattle.scw_step.specs.HeapStep.{giving_new, with_word_at}
use Rattle.scw_step.specs.StringStep.{giving_made}
use Rattle.scw_step.proofs.TextLemmas.{with_word-last}
use Rattle.scw_step.specs.ObjectStep.{making_text_of, making_text_by, making_instance_text, making_box_text}
use Rattle.scw_step.specs.BoxStep.{first_word}
use Rattle.scw_step.specs.StateStep.{and_next, int_taken, or_undefined, provided, framed, giving, making, with_frames, with_object, roomy, reference_taken, value_taken, shape_at, shape_of}
use Rattle.scw_step.specs.Step.{computing, operating, going_on, executing, settled, stepping}
use Rattle.scw_step.specs.TextStep.{beginning, making_text, making_joined, text_at, text_in, text_of, text_or_null, is_text, unit_of, with_text}

-- a row is its instruction, if nothing goes wrong
pub row : (p : Program) (s : State) (i : Instruction) (x : Event × State) → fetched p s.frames ≡ Some i → executing p i.operation i.next s ≡ Ok x → stepping p s ≡ Ok x
unfolding stepping
row p s i x f e = ap (λ (o : Option Instruction). and_next (or_undefined o) (λ j. settled p s (executing p j.operation j.next s))) f ∙ ap (settled p s) e

-- ---- numbers

pub push-does : (p : Program) (v : Value) (next : ℕ) (s : State) → has_room v s.frames ≡ true → executing p (op.Push v) next s ≡ Ok (event.On, with_frames s (placed next (pushed v s.frames)))
unfolding executing operating computing pushing
push-does p v next s h = ap (λ b. going_on next (framed s (if_so b (Some (pushed v s.frames))))) h

-- the frames, with another stack
abbrev pub stacked : State → List Value → State
stacked s vs = with_frames s (with_stack vs s.frames)

pub arithmetic-does : (p : Program) (o : Arithmetic) (a b next : ℕ) (vs : List Value) (s : State) → has_room (Int (computed w32 o a b)) (with_stack vs s.frames) ≡ true → executing p (op.IntArithmetic o) next (stacked s (Int b ∷ Int a ∷ vs)) ≡ Ok (event.On, with_frames s (placed next (with_stack (Int (computed w32 o a b) ∷ vs) s.frames)))
unfolding executing operating computing pushing taken_int taken
arithmetic-does p o a b next vs s h = ap (λ q. going_on next (framed (stacked s (Int b ∷ Int a ∷ vs)) (if_so q (Some (with_stack (Int (computed w32 o a b) ∷ vs) s.frames))))) h

-- ---- objects

-- a new object, where the heap has room
pub made-there : (k : Kind) (n : ℕ) (s : State) → within s.heap.units (used s.heap.objects + units_of k n) ≡ true → making k n s ≡ Ok (1 + used s.heap.objects, with_object k n s)
unfolding making
made-there k n s h = ap (λ b. provided b (HeapFull (units_of k n)) (Ok (1 + used s.heap.objects, with_object k n s))) h

-- a new text
pub text-made : (us : List ℕ) (s : State) → can_have s.heap.units (length us) ≡ true → making made.Text (length us) s ≡ Ok (1 + used s.heap.objects, with_object made.Text (length us) s) → making_text us s ≡ Ok (1 + used s.heap.objects, with_text us s)
unfolding making_text beginning
text-made us s short m =
    ap (λ (x : Result (ℕ × State) Stop). and_next x (λ y. Ok (y.0, with_text us s)))
    (ap (λ b. provided b (HeapFull (units_of made.Text (length us))) (making made.Text (length us) s)) short ∙ m)

pub roomy-from : (s : State) → has_room (Reference 0) s.frames ≡ true → roomy s ≡ true
unfolding roomy
roomy-from s h = h

-- a reference is pushed to the object that was made
pub given : (make : State → Result (ℕ × State) Stop) (s t : State) (r : ℕ) → roomy s ≡ true → make s ≡ Ok (r, t) → t.frames ≡ s.frames → giving_made make s ≡ Ok (with_frames t (pushed (Reference r) t.frames))
unfolding giving pushing roomy
given make s t r room m same =
    ap (λ b. provided b Undefined (and_next (make s) (λ x. giving (Reference x.0) x.1))) room
    ∙ ap (λ (x : Result (ℕ × State) Stop). and_next x (λ y. giving (Reference y.0) y.1)) m
    ∙ ap (λ b. framed t (if_so b (Some (pushed (Reference r) t.frames)))) (ap (λ (c : Calls). has_room (Reference 0) c) same ∙ room)

-- the object of a number
pub shape-there : (r : ℕ) (h : Content) (o : Entity) → (r ≡ 0 → ⊥) → object_at h.objects r ≡ Some o → shape_at r h ≡ Ok (record { kind = o.kind; length = length o.words })
unfolding shape_at
shape-there r h o some e =
    cond-false (eqb r 0) (Err (Throws fault.NullPointer)) (or_undefined (shape_of (object_at h.objects r))) (ne_eqb r 0 some)
    ∙ ap (λ x. or_undefined (shape_of x)) e

-- the object with the number is a string of these units
pub record IsText (h : Content) (r : ℕ) (us : List ℕ) : Type 0 where
  pub some : r ≡ 0 → ⊥
  pub there : object_at h.objects r ≡ Some (record { kind = made.Text; words = us })
  pub narrow : map unit_of us ≡ us

pub text-there : (h : Content) (r : ℕ) (us : List ℕ) → IsText h r us → text_at r h ≡ Ok us
unfolding text_at text_in
text-there h r us t =
    ap (λ (x : Result Shape Stop). and_next x (λ y. cond (is_text y.kind) (Ok (text_of (object_at h.objects r))) (Err Undefined))) (shape-there r h (record { kind = made.Text; words = us }) t.some t.there)
    ∙ ap (λ x. Ok (text_of x)) t.there
    ∙ ap (λ (x : List ℕ). Ok x) t.narrow

text-not-null : (h : Content) (r : ℕ) (us : List ℕ) → IsText h r us → text_or_null r h ≡ Ok us
unfolding text_or_null
text-not-null h r us t = cond-false (eqb r 0) (Ok (codes "null")) (text_at r h) (ne_eqb r 0 t.some) ∙ text-there h r us t

joined-made : (a b : ℕ) (xs ys : List ℕ) (s t : State) (r : ℕ) → IsText s.heap a xs → IsText s.heap b ys → making_text (xs ++ ys) s ≡ Ok (r, t) → making_joined a b s ≡ Ok (r, t)
unfolding making_joined
joined-made a b xs ys s t r ha hb m =
    ap (λ (x : Result (List ℕ) Stop). and_next x (λ u. and_next (text_or_null b s.heap) (λ v. making_text (u ++ v) s))) (text-not-null s.heap a xs ha)
    ∙ ap (λ (x : Result (List ℕ) Stop). and_next x (λ v. making_text (xs ++ v) s)) (text-not-null s.heap b ys hb)
    ∙ m

-- a box of an Int, which has one word
pub box-made : (n : ℕ) (s : State) → making (made.Object 2) 1 s ≡ Ok (1 + used s.heap.objects, with_object (made.Object 2) 1 s) → making_box primitive.Int n s ≡ Ok (1 + used s.heap.objects, record s { heap = record s.heap { objects = s.heap.objects ++ record { kind = made.Object 2; words = n ∷ [] } ∷ [] } })
unfolding making_box
box-made n s m =
    ap (λ (x : Result (ℕ × State) Stop). and_next x (λ y. Ok (y.0, with_word_at y.0 0 n y.1))) m
    ∙ ap (λ (os : List Entity). Ok (1 + used s.heap.objects, record s { heap = record s.heap { objects = os } })) (with_word-last s.heap.objects (zeroed (made.Object 2) 1) 0 n)

-- ---- built-in methods

pub built-in-does : (p : Program) (b : BuiltIn) (next : ℕ) (s t : State) (e : Event) → built_in p b s ≡ Ok (e, t) → executing p (op.CallStatic (target.BuiltIn b)) next s ≡ Ok (e, with_frames t (placed next t.frames))
unfolding executing running running_built_in
built-in-does p b next s t e h = ap (λ (x : Result (Event × State) Stop). and_next x (λ y. Ok (y.0, with_frames y.1 (placed next y.1.frames)))) h

pub concat-does : (p : Program) (a b : ℕ) (xs ys : List ℕ) (vs : List Value) (s t : State) (r : ℕ) → IsText s.heap a xs → IsText s.heap b ys → roomy (stacked s vs) ≡ true → making_text (xs ++ ys) (stacked s vs) ≡ Ok (r, t) → t.frames ≡ (stacked s vs).frames →
    built_in p built.Concat (stacked s (Reference b ∷ Reference a ∷ vs)) ≡ Ok (event.On, with_frames t (pushed (Reference r) t.frames))
unfolding built_in reference_taken taken_reference taken
concat-does p a b xs ys vs s t r ha hb room m same = ap quiet (given (making_joined a b) (stacked s vs) t r room (joined-made a b xs ys (stacked s vs) t r ha hb m) same)

pub box-does : (p : Program) (n : ℕ) (vs : List Value) (s t : State) (r : ℕ) → roomy (stacked s vs) ≡ true → making_box primitive.Int n (stacked s vs) ≡ Ok (r, t) → t.frames ≡ (stacked s vs).frames →
    built_in p (built.Box primitive.Int) (stacked s (Int n ∷ vs)) ≡ Ok (event.On, with_frames t (pushed (Reference r) t.frames))
unfolding built_in value_taken taken_of taken
box-does p n vs s t r room m same = ap quiet (given (making_box primitive.Int n) (stacked s vs) t r room m same)

pub print-does : (p : Program) (r : ℕ) (us : List ℕ) (vs : List Value) (s : State) → IsText s.heap r us → built_in p built.Print (stacked s (Reference r ∷ vs)) ≡ Ok (event.Says r, stacked s vs)
unfolding built_in saying said_at reference_taken taken_reference taken
print-does p r us vs s t =
    ap (λ (x : Result Event Stop). and_next x (λ e. Ok (e, stacked s vs)))
    (cond-false (eqb r 0) (Ok (event.Says 0)) (and_next (text_at r s.heap) (λ t. Ok (event.Says r))) (ne_eqb r 0 t.some)
    ∙ ap (λ (x : Result (List ℕ) Stop). and_next x (λ t. Ok (event.Says r))) (text-there s.heap r us t))

pub unit-does : (p : Program) (s t : State) (r : ℕ) → roomy s ≡ true → making_unit s ≡ Ok (r, t) → t.frames ≡ s.frames → built_in p built.Unit s ≡ Ok (event.On, with_frames t (pushed (Reference r) t.frames))
unfolding built_in
unit-does p s t r room m same = ap quiet (given making_unit s t r room m same)

-- the text of a box of an Int
box-text-made : (p : Program) (r n : ℕ) (s t : State) (q : ℕ) → (r ≡ 0 → ⊥) → object_at s.heap.objects r ≡ Some (record { kind = made.Object 2; words = n ∷ [] }) → making_text (number_text (cast_signed w32 (n % 2 ^ 32))) s ≡ Ok (q, t) → making_text_of p r s ≡ Ok (q, t)
unfolding making_text_of making_text_by making_instance_text making_box_text first_word
box-text-made p r n s t q some e m =
    ap (λ (x : Result Shape Stop). and_next x (λ y. making_text_by p y.kind r y s)) (shape-there r s.heap (record { kind = made.Object 2; words = n ∷ [] }) some e)
    ∙ ap (λ (x : Option Entity). making_text (number_text (cast_signed w32 (slice_index (words_in x) 0 % 2 ^ 32))) s) e
    ∙ m

pub to-string-does : (p : Program) (r n : ℕ) (vs : List Value) (s t : State) (q : ℕ) → (r ≡ 0 → ⊥) → object_at s.heap.objects r ≡ Some (record { kind = made.Object 2; words = n ∷ [] }) → roomy (stacked s vs) ≡ true →
    making_text (number_text (cast_signed w32 (n % 2 ^ 32))) (stacked s vs) ≡ Ok (q, t) → t.frames ≡ (stacked s vs).frames → built_in p built.ToString (stacked s (Reference r ∷ vs)) ≡ Ok (event.On, with_frames t (pushed (Reference q) t.frames))
unfolding built_in reference_taken taken_reference taken
to-string-does p r n vs s t q some e room m same = ap quiet (given (making_text_of p r) (stacked s vs) t q room (box-text-made p r n (stacked s vs) t q some e m) same)

-- a virtual call without arguments, of a built-in method
pub virtual-does : (p : Program) (x next r : ℕ) (b : BuiltIn) (k : Kind) (ws : List ℕ) (vs : List Value) (s t : State) (e : Event) → slice_get p.selectors x ≡ Some (kind.Reference ∷ []) → (r ≡ 0 → ⊥) → object_at s.heap.objects r ≡ Some (record { kind = k; words = ws }) →
    target_of p (class_of k) x ≡ Some (target.BuiltIn b) → built_in p b (stacked s (Reference r ∷ vs)) ≡ Ok (e, t) →
    executing p (op.CallVirtual (record { 0 = x })) next (stacked s (Reference r ∷ vs)) ≡ Ok (e, with_frames t (placed next t.frames))
unfolding executing calling_virtual receiver running running_built_in
virtual-does p x next r b k ws vs s t e sel some there tgt h =
    let z : State = stacked s (Reference r ∷ vs) in
    ap (λ o. and_next (or_undefined o) (λ ks. selecting p next x ks z)) sel
    ∙ ap (λ q. provided (q && true) Undefined (and_next (Ok r) (λ r. and_next (shape_at r s.heap) (λ y. and_next (or_undefined (target_of p (class_of y.kind) x)) (λ t. running p next t z))))) (le-leb 1 (length (Reference r ∷ vs)) (omega arith))
    ∙ ap (λ (y : Result Shape Stop). and_next y (λ y. and_next (or_undefined (target_of p (class_of y.kind) x)) (λ t. running p next t z))) (shape-there r s.heap (record { kind = k; words = ws }) some there)
    ∙ ap (λ o. and_next (or_undefined o) (λ t. running p next t z)) tgt
    ∙ ap (λ (x : Result (Event × State) Stop). and_next x (λ y. Ok (y.0, with_frames y.1 (placed next y.1.frames)))) h

-- ldc of a string
pub text-does : (p : Program) (i next : ℕ) (us : List ℕ) (s t : State) (r : ℕ) → slice_get p.texts i ≡ Some us → roomy s ≡ true → making_text us s ≡ Ok (r, t) → t.frames ≡ s.frames → executing p (op.PushText (record { 0 = i })) next s ≡ Ok (event.On, with_frames t (placed next (pushed (Reference r) t.frames)))
unfolding executing operating
text-does p i next us s t r there room m same =
    ap (λ o. going_on next (and_next (or_undefined o) (λ text. giving_made (making_text text) s))) there
    ∙ ap (going_on next) (given (making_text us) s t r room m same)

-- the one value of Unit, when it is first asked for
pub unit-made : (s : State) → s.unit ≡ 0 → making (made.Object 6) 0 s ≡ Ok (1 + used s.heap.objects, with_object (made.Object 6) 0 s) → making_unit s ≡ Ok (1 + used s.heap.objects, record (with_object (made.Object 6) 0 s) { unit = 1 + used s.heap.objects })
unfolding making_unit
unit-made s none m =
    ap (λ (u : ℕ). cond (u == 0) (and_next (making (made.Object 6) 0 s) (λ x. Ok (x.0, record x.1 { unit = x.0 }))) (Ok (s.unit, s))) none
    ∙ ap (λ (x : Result (ℕ × State) Stop). and_next x (λ y. Ok (y.0, record y.1 { unit = y.0 }))) m

-- what is put for a string
pub said-text : (h : Content) (r : ℕ) (us : List ℕ) → IsText h r us → said_by h.objects r ≡ utf8 us
unfolding said_by
said-text h r us t = cond-false (eqb r 0) (codes "null") (bytes_in (object_at h.objects r)) (ne_eqb r 0 t.some) ∙ ap bytes_in t.there

-- return, to a frame that waits at its call
pub return-does : (p : Program) (s : State) (f : Frame) (fs : List Frame) (next : ℕ) (i : Instruction) → s.frames.callers ≡ f ∷ fs → fetched p (record s.frames { current = f; callers = fs }) ≡ Some i →
    executing p op.Return next s ≡ Ok (event.On, with_frames s (placed i.next (record s.frames { current = f; callers = fs })))
unfolding executing left resuming
return-does p s f fs next i waits there =
    ap (λ (l : List Frame). returned p s (first_caller l s.frames)) waits
    ∙ ap (λ o. went_on (and_next (or_undefined o) (λ i. Ok (with_frames s (placed i.next (record s.frames { current = f; callers = fs })))))) there

-- ---- calls of methods with code

-- a frame for the method acts
pub entered-does : (p : Program) (m : MethodNumber) (method : Method) (s : State) → slice_get p.methods m.0 ≡ Some method → fits method.arguments method.locals s.frames ≡ true → can_enter method.stack method.locals s.frames ≡ true →
    entering p m s ≡ Ok (with_frames s (entered m method.stack method.locals (length method.arguments) s.frames))
unfolding entering
entered-does p m method s there fit room =
    ap (λ o. and_next (or_undefined o) (λ x. entering_method m x s)) there
    ∙ ap (λ b. provided b Undefined (provided (can_enter method.stack method.locals s.frames) TooManyFrames (Ok (with_frames s (entered m method.stack method.locals (length method.arguments) s.frames))))) fit
    ∙ ap (λ b. provided b TooManyFrames (Ok (with_frames s (entered m method.stack method.locals (length method.arguments) s.frames)))) room

pub static-enters : (p : Program) (m : MethodNumber) (next : ℕ) (s t : State) → entering p m s ≡ Ok t → executing p (op.CallStatic (target.Code m)) next s ≡ Ok (event.On, t)
unfolding executing running
static-enters p m next s t e = ap went_on e

pub special-enters : (p : Program) (m : MethodNumber) (method : Method) (next r : ℕ) (s t : State) → slice_get p.methods m.0 ≡ Some method → are_arguments method.arguments s.frames ≡ true → receiver (length method.arguments) s.frames ≡ Some (suc r) → entering p m s ≡ Ok t →
    executing p (op.CallSpecial (target.Code m)) next s ≡ Ok (event.On, t)
unfolding executing calling_special
special-enters p m method next r s t there fit on e =
    ap (λ o. and_next (or_undefined o) (λ x. calling_method p m x s)) there
    ∙ ap (λ b. provided b Undefined (and_next (or_undefined (receiver (length method.arguments) s.frames)) (λ r. unless_null r (went_on (entering p m s))))) fit
    ∙ ap (λ o. and_next (or_undefined o) (λ r. unless_null r (went_on (entering p m s)))) on
    ∙ cond-false (eqb (suc r) 0) (Err (Throws fault.NullPointer)) (went_on (entering p m s)) (ne_eqb (suc r) 0 (λ e. omega (arith, e)))
    ∙ ap went_on e

pub special-built-in : (p : Program) (b : BuiltIn) (next : ℕ) (s t : State) (e : Event) → built_in p b s ≡ Ok (e, t) → executing p (op.CallSpecial (target.BuiltIn b)) next s ≡ Ok (e, with_frames t (placed next t.frames))
unfolding executing calling_special running_built_in
special-built-in p b next s t e h = ap (λ (x : Result (Event × State) Stop). and_next x (λ y. Ok (y.0, with_frames y.1 (placed next y.1.frames)))) h

pub virtual-enters : (p : Program) (x next r : ℕ) (m : MethodNumber) (k : Kind) (ws : List ℕ) (ks : List ValueKind) (s t : State) → slice_get p.selectors x ≡ Some ks → are_arguments ks s.frames ≡ true → receiver (length ks) s.frames ≡ Some r → (r ≡ 0 → ⊥) →
    object_at s.heap.objects r ≡ Some (record { kind = k; words = ws }) → target_of p (class_of k) x ≡ Some (target.Code m) → entering p m s ≡ Ok t → executing p (op.CallVirtual (record { 0 = x })) next s ≡ Ok (event.On, t)
unfolding executing calling_virtual running
virtual-enters p x next r m k ws ks s t sel fit on some there tgt e =
    ap (λ o. and_next (or_undefined o) (λ ks. selecting p next x ks s)) sel
    ∙ ap (λ b. provided b Undefined (and_next (or_undefined (receiver (length ks) s.frames)) (λ r. and_next (shape_at r s.heap) (λ y. and_next (or_undefined (target_of p (class_of y.kind) x)) (λ t. running p next t s))))) fit
    ∙ ap (λ o. and_next (or_undefined o) (λ r. and_next (shape_at r s.heap) (λ y. and_next (or_undefined (target_of p (class_of y.kind) x)) (λ t. running p next t s)))) on
    ∙ ap (λ (y : Result Shape Stop). and_next y (λ y. and_next (or_undefined (target_of p (class_of y.kind) x)) (λ t. running p next t s))) (shape-there r s.heap (record { kind = k; words = ws }) some there)
    ∙ ap (λ o. and_next (or_undefined o) (λ t. running p next t s)) tgt
    ∙ ap went_on e

-- ---- what the launcher and the accessor of an object need

pub new-does : (p : Program) (c next : ℕ) (class : Class) (s t : State) (r : ℕ) → slice_get p.classes c ≡ Some class → class.fields ≡ 0 → roomy s ≡ true → making (made.Object c) 0 s ≡ Ok (r, t) → t.frames ≡ s.frames →
    executing p (op.New (record { 0 = c })) next s ≡ Ok (event.On, with_frames t (placed next (pushed (Reference r) t.frames)))
unfolding executing operating giving_new
new-does p c next class s t r there none room m same =
    ap (λ o. going_on next (and_next (or_undefined o) (λ x. giving_new (made.Object c) x.fields s))) there
    ∙ ap (λ n. going_on next (giving_new (made.Object c) n s)) none
    ∙ ap (going_on next) (given (making (made.Object c) 0) s t r room m same)

pub array-does : (p : Program) (i next : ℕ) (vs : List Value) (s t : State) (r : ℕ) → roomy (stacked s vs) ≡ true → making (made.Refs i) 0 (stacked s vs) ≡ Ok (r, t) → t.frames ≡ (stacked s vs).frames →
    executing p (op.NewReferences (record { 0 = i })) next (stacked s (Int 0 ∷ vs)) ≡ Ok (event.On, with_frames t (placed next (pushed (Reference r) t.frames)))
unfolding executing operating giving_new int_taken taken_int taken
array-does p i next vs s t r room m same = ap (going_on next) (given (making (made.Refs i) 0) (stacked s vs) t r room m same)

pub object-starts : (p : Program) (r : ℕ) (o : Entity) (vs : List Value) (s : State) → (r ≡ 0 → ⊥) → object_at s.heap.objects r ≡ Some o → built_in p built.ObjectInit (stacked s (Reference r ∷ vs)) ≡ Ok (event.On, stacked s vs)
unfolding built_in reference_taken taken_reference taken
object-starts p r o vs s some there = ap (λ (x : Result Shape Stop). quiet (and_next x (λ y. Ok (stacked s vs)))) (shape-there r s.heap o some there)

-- return of the first frame
pub ends-does : (p : Program) (next : ℕ) (s : State) → s.frames.callers ≡ [] → executing p op.Return next s ≡ Ok (event.Ended, s)
unfolding executing left
ends-does p next s none = ap (λ (l : List Frame). returned p s (first_caller l s.frames)) none
