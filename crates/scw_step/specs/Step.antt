-- One step of the machine: the table of instructions (JVMS 6.5), by what they change.
use Rattle.std.specs.Prelude.{ℕ, Option, Some, None, Result, Ok, Err, slice_get}
use Rattle.scw_heap.specs.declared.kind.Kind.TheVariants as made
use Rattle.scw_step.specs.declared.event.Event.{Event}
use Rattle.scw_step.specs.declared.event.Event.TheVariants.{On}
use Rattle.scw_frame.specs.declared.operation.Operation.{Operation}
use Rattle.scw_frame.specs.declared.operation.Operation.TheVariants as op
use Rattle.scw_frame.specs.declared.program.Program.{Program}
use Rattle.scw_step.specs.declared.state.State.{State}
use Rattle.scw_step.specs.declared.stop.Fault.TheVariants as fault
use Rattle.scw_step.specs.declared.stop.Stop.{Stop}
use Rattle.scw_step.specs.declared.stop.Stop.TheVariants.{Undefined, Throws, ThrowsObject, HeapFull, TooManyFrames}
use Rattle.scw_frame.specs.Frame.{Calls, placed}
use Rattle.scw_frame.specs.FrameStep as frame
use Rattle.scw_frame.specs.NumberStep as number
use Rattle.scw_frame.specs.JumpStep as jump
use Rattle.scw_step.specs.HeapStep as heap
use Rattle.scw_step.specs.CallStep as call
use Rattle.scw_step.specs.CallStep.{went_on, fetched}
use Rattle.scw_step.specs.RaiseStep.{raising}
use Rattle.scw_step.specs.StateStep.{and_next, calm, framed, or_undefined, with_frames}
use Rattle.scw_step.specs.UnwindStep.{unwinding}

-- instructions on numbers, local variables and the stack
unfoldable pub computing : Operation → Calls → Option Calls
computing op.Nothing c = Some c
computing (op.Push v) c = frame.pushing v c
computing (op.Load k i) c = frame.loading k i c
computing (op.Store k i) c = frame.storing k i c
computing (op.Increment i by) c = frame.incrementing i by c
computing (op.Stack o) c = frame.rearranging o c
computing (op.IntArithmetic o) c = number.computing_ints o c
computing (op.LongArithmetic o) c = number.computing_longs o c
computing (op.IntShift o) c = number.shifting_int o c
computing (op.LongShift o) c = number.shifting_long o c
computing op.IntNegate c = number.negating_int c
computing op.LongNegate c = number.negating_long c
computing (op.Convert o) c = number.converting o c
computing op.Widen c = number.widening c
computing op.Narrow c = number.narrowing c
computing op.CompareLongs c = number.comparing c
computing _ c = None

abbrev pub divided_into : State → Option (Option Calls) → Result State Stop
divided_into s None = Err Undefined
divided_into s (Some None) = Err (Throws fault.DividedByZero)
divided_into s (Some (Some c)) = Ok (with_frames s c)

-- instructions on the heap, and others that can throw
unfoldable pub operating : Program → Operation → State → Result State Stop
operating p (op.IntDivision o) s = divided_into s (number.dividing_ints o s.frames)
operating p (op.LongDivision o) s = divided_into s (number.dividing_longs o s.frames)
operating p (op.PushText i) s = heap.pushing_text p i.0 s
operating p (op.LoadElement e) s = heap.loading_element e s
operating p (op.StoreElement e) s = heap.storing_element p e s
operating p (op.GetStatic i) s = heap.getting_static i.0 s
operating p (op.PutStatic i) s = heap.putting_static i.0 s
operating p (op.GetField c i k) s = heap.getting_field p c.0 i k s
operating p (op.PutField c i k) s = heap.putting_field p c.0 i k s
operating p (op.New c) s = heap.making_object p c.0 s
operating p (op.NewNumbers x) s = heap.making_array (heap.array_kind x) s
operating p (op.NewReferences t) s = heap.making_array (made.Refs t.0) s
operating p op.ArrayLength s = heap.taking_length s
operating p op.Throw s = heap.throwing p s
operating p (op.CheckCast t) s = heap.casting p t.0 s
operating p (op.InstanceOf t) s = heap.testing p t.0 s
operating p o s = framed s (computing o s.frames)

-- the machine goes on at the place
abbrev pub going_on : ℕ → Result State Stop → Result (Event × State) Stop
going_on next r = and_next r (λ s. Ok (On, with_frames s (placed next s.frames)))

-- jumps, each with the place behind it
unfoldable pub jumping : Program → Operation → ℕ → Calls → Option Calls
jumping p (op.Jump target) next c = Some (placed target c)
jumping p (op.JumpIfZero k target) next c = jump.jumping_if_zero k target next c
jumping p (op.JumpIfInts k target) next c = jump.jumping_if_ints k target next c
jumping p (op.JumpIfSame same target) next c = jump.jumping_if_same same target next c
jumping p (op.JumpIfNull null target) next c = jump.jumping_if_null null target next c
jumping p (op.Switch n) next c = frame.and_then (slice_get p.switches n.0) (λ x. jump.switching x c)
jumping p _ next c = None

abbrev pub jumped : State → Option Calls → Result (Event × State) Stop
jumped s c = went_on (framed s c)

-- instructions that choose where the machine goes on, and all others, which go on behind themselves
unfoldable pub executing : Program → Operation → ℕ → State → Result (Event × State) Stop
executing p op.Undefined next s = Err Undefined
executing p (op.Jump target) next s = jumped s (jumping p (op.Jump target) next s.frames)
executing p (op.JumpIfZero k target) next s = jumped s (jumping p (op.JumpIfZero k target) next s.frames)
executing p (op.JumpIfInts k target) next s = jumped s (jumping p (op.JumpIfInts k target) next s.frames)
executing p (op.JumpIfSame same target) next s = jumped s (jumping p (op.JumpIfSame same target) next s.frames)
executing p (op.JumpIfNull null target) next s = jumped s (jumping p (op.JumpIfNull null target) next s.frames)
executing p (op.Switch n) next s = jumped s (jumping p (op.Switch n) next s.frames)
executing p op.Return next s = call.returning p s
executing p (op.ReturnValue k) next s = call.returning_value p k s
executing p (op.CallStatic t) next s = call.running p next t s
executing p (op.CallSpecial t) next s = call.calling_special p next t s
executing p (op.CallVirtual x) next s = call.calling_virtual p next x.0 s
executing p o next s = going_on next (operating p o s)

-- an exception goes up through the frames
abbrev pub settled : Program → State → Result (Event × State) Stop → Result (Event × State) Stop
settled p s (Ok x) = Ok x
settled p s (Err Undefined) = Err Undefined
settled p s (Err (Throws f)) = raising p f (calm s)
settled p s (Err (ThrowsObject r)) = unwinding p r (calm s)
settled p s (Err (HeapFull n)) = Err (HeapFull n)
settled p s (Err TooManyFrames) = Err TooManyFrames

-- one step: the instruction of the frame that acts, with all that follows from it before the next one
unfoldable pub stepping : Program → State → Result (Event × State) Stop
stepping p s = and_next (or_undefined (fetched p s.frames)) (λ i. settled p s (executing p i.operation i.next s))
