-- What instructions take from a state and leave in it, and why they stop.
use Rattle.std.specs.Prelude.{◌≡◌, ℕ, ◌+◌, ◌%◌, ◌^◌, Bool, true, false, cond, [], ◌∷◌, ◌++◌, length, Option, Some, None, Result, Ok, Err, ◌==◌}
use Rattle.scw_heap.specs.Heap.{Content, Entity, object_at, used, units_of, within, zeroed}
use Rattle.scw_heap.specs.declared.kind.Kind.{Kind}
use Rattle.scw_step.specs.declared.object.Shape.{Shape}
use Rattle.scw_step.specs.declared.state.State.{State}
use Rattle.scw_step.specs.declared.stop.Fault.TheVariants as fault
use Rattle.scw_step.specs.declared.stop.Stop.{Stop}
use Rattle.scw_step.specs.declared.stop.Stop.TheVariants.{Undefined, Throws, ThrowsObject, HeapFull, TooManyFrames}
use Rattle.scw_frame.specs.declared.value.Value.{Value}
use Rattle.scw_frame.specs.declared.value.Value.TheVariants.{Unset, Int, Long, Reference}
use Rattle.scw_frame.specs.declared.value.ValueKind.{ValueKind}
use Rattle.scw_frame.specs.declared.value.ValueKind.TheVariants as kind
use Rattle.scw_frame.specs.Frame.{Calls, with_stack, has_room}
use Rattle.scw_frame.specs.FrameStep.{pushing, taken_int, taken_reference, taken_of}

abbrev pub and_next : {A B : Type 0} → Result A Stop → (A → Result B Stop) → Result B Stop
and_next (Err e) k = Err e
and_next (Ok x) k = k x

abbrev pub or_undefined : {A : Type 0} → Option A → Result A Stop
or_undefined None = Err Undefined
or_undefined (Some x) = Ok x

abbrev pub provided : {A : Type 0} → Bool → Stop → Result A Stop → Result A Stop
provided true e r = r
provided false e r = Err e

-- ---- the frame that acts

abbrev pub with_frames : State → Calls → State
with_frames s c = record s { frames = c }

abbrev pub framed : State → Option Calls → Result State Stop
framed s None = Err Undefined
framed s (Some c) = Ok (with_frames s c)

abbrev pub taken_with : {A : Type 0} → State → Option (A × Calls) → Result (A × State) Stop
taken_with s None = Err Undefined
taken_with s (Some x) = Ok (x.0, with_frames s x.1)

unfoldable pub int_taken : State → Result (ℕ × State) Stop
int_taken s = taken_with s (taken_int s.frames)

unfoldable pub reference_taken : State → Result (ℕ × State) Stop
reference_taken s = taken_with s (taken_reference s.frames)

unfoldable pub value_taken : ValueKind → State → Result (Value × State) Stop
value_taken k s = taken_with s (taken_of k s.frames)

unfoldable pub giving : Value → State → Result State Stop
giving v s = framed s (pushing v s.frames)

-- the state, but for the stack of the frame that acts, which an exception empties
abbrev pub calm : State → State
calm s = with_frames s (with_stack [] s.frames)

-- what an exception leaves as it was
abbrev pub Keeps : Stop → State → State → Type 0
Keeps Undefined old new = Unit {0}
Keeps (Throws f) old new = calm new ≡ calm old
Keeps (ThrowsObject r) old new = calm new ≡ calm old
Keeps (HeapFull n) old new = Unit {0}
Keeps TooManyFrames old new = Unit {0}

-- the state is this one now, or the instruction stops
abbrev pub Runs : {A : Type 0} → Result A Stop → State → State → Result State Stop → Type 0
Runs (Ok x) old new wanted = wanted ≡ Ok new
Runs (Err e) old new wanted = (wanted ≡ Err e) × Keeps e old new

-- the same with an answer
abbrev pub Gives : {A : Type 0} → Result A Stop → State → State → Result (A × State) Stop → Type 0
Gives (Ok x) old new wanted = wanted ≡ Ok (x, new)
Gives (Err e) old new wanted = (wanted ≡ Err e) × Keeps e old new

-- the same, where nothing more is said of the state in which it stops
abbrev pub Comes : {A : Type 0} → Result A Stop → State → Result (A × State) Stop → Type 0
Comes (Ok x) new wanted = wanted ≡ Ok (x, new)
Comes (Err e) new wanted = wanted ≡ Err e

-- ---- the heap

abbrev pub shape_of : Option Entity → Option Shape
shape_of None = None
shape_of (Some o) = Some (record { kind = o.kind; length = length o.words })

-- the kind of the object with the number, and how many words it has; null has none
unfoldable pub shape_at : ℕ → Content → Result Shape Stop
shape_at r h = cond (r == 0) (Err (Throws fault.NullPointer)) (or_undefined (shape_of (object_at h.objects r)))

abbrev pub value_of : ValueKind → ℕ → Value
value_of kind.Int word = Int (word % 2 ^ 32)
value_of kind.Long word = Long word
value_of kind.Reference word = Reference word

abbrev pub word_of : Value → ℕ
word_of Unset = 0
word_of (Int n) = n
word_of (Long n) = n
word_of (Reference r) = r

abbrev pub with_object : Kind → ℕ → State → State
with_object k n s = record s { heap = record s.heap { objects = s.heap.objects ++ zeroed k n ∷ [] } }

-- a new object, and its number; a heap without a limit has room for each
unfoldable pub making : Kind → ℕ → State → Result (ℕ × State) Stop
making k n s =
    provided (within s.heap.units (used s.heap.objects + units_of k n)) (HeapFull (units_of k n))
    (Ok (1 + used s.heap.objects, with_object k n s))

-- the stack has room for one more place
unfoldable pub roomy : State → Bool
roomy s = has_room (Reference 0) s.frames
