-- Calls and returns: JVMS 2.6.4, 2.11.8 and 6.5. A frame that waits keeps the place of its call.
use Rattle.std.specs.Prelude.{ℕ, ◌-◌, Bool, cond, ◌&&◌, Option, Some, None, Result, Ok, Err, List, [], ◌∷◌, length, slice_get, nat_le, ◌==◌}
use Rattle.scw_heap.specs.declared.kind.Kind.{Kind}
use Rattle.scw_heap.specs.declared.kind.Kind.TheVariants as made
use Rattle.scw_step.specs.declared.event.Event.{Event}
use Rattle.scw_step.specs.declared.event.Event.TheVariants.{On, Ended}
use Rattle.scw_frame.specs.declared.operation.BuiltIn.{BuiltIn}
use Rattle.scw_frame.specs.declared.operation.Instruction.{Instruction}
use Rattle.scw_frame.specs.declared.program.Class.{Class}
use Rattle.scw_frame.specs.declared.program.Method.{Method}
use Rattle.scw_frame.specs.declared.program.MethodNumber.{MethodNumber}
use Rattle.scw_frame.specs.declared.program.Program.{Program}
use Rattle.scw_frame.specs.declared.program.Target.{Target}
use Rattle.scw_frame.specs.declared.program.Target.TheVariants as target
use Rattle.scw_step.specs.declared.state.State.{State}
use Rattle.scw_step.specs.declared.stop.Fault.TheVariants as fault
use Rattle.scw_step.specs.declared.stop.Stop.{Stop}
use Rattle.scw_step.specs.declared.stop.Stop.TheVariants.{Undefined, Throws, TooManyFrames}
use Rattle.scw_frame.specs.declared.value.ValueKind.{ValueKind}
use Rattle.scw_frame.specs.Frame.{Frame, Calls, are_arguments, arguments, can_enter, entered, placed, places}
use Rattle.scw_frame.specs.FrameStep.{and_then, reference_in}
use Rattle.scw_step.specs.StateStep.{and_next, framed, or_undefined, provided, shape_at, value_taken, giving, with_frames}
use Rattle.scw_step.specs.BuiltInStep.{built_in}

-- ---- calls, each with the place behind it

-- the arguments are of their kinds, and the local variables have room for them
abbrev pub fits : List ValueKind → ℕ → Calls → Bool
fits kinds locals c = are_arguments kinds c && nat_le (places (arguments (length kinds) c)) locals

abbrev pub entering_method : MethodNumber → Method → State → Result State Stop
entering_method m method s =
    provided (fits method.arguments method.locals s.frames) Undefined
    (provided (can_enter method.stack method.locals s.frames) TooManyFrames
    (Ok (with_frames s (entered m method.stack method.locals (length method.arguments) s.frames))))

-- a frame for the method acts, and its arguments are taken from the stack
unfoldable pub entering : Program → MethodNumber → State → Result State Stop
entering p m s = and_next (or_undefined (slice_get p.methods m.0)) (λ method. entering_method m method s)

abbrev pub went_on : Result State Stop → Result (Event × State) Stop
went_on r = and_next r (λ s. Ok (On, s))

-- a built-in method needs no frame, and the machine goes on at the place
unfoldable pub running_built_in : Program → ℕ → BuiltIn → State → Result (Event × State) Stop
running_built_in p next b s = and_next (built_in p b s) (λ x. Ok (x.0, with_frames x.1 (placed next x.1.frames)))

unfoldable pub running : Program → ℕ → Target → State → Result (Event × State) Stop
running p next (target.Code m) s = went_on (entering p m s)
running p next (target.BuiltIn b) s = running_built_in p next b s

-- the first of so many arguments, which is a reference
unfoldable pub receiver : ℕ → Calls → Option ℕ
receiver n c = cond (n == 0) None (and_then (slice_get c.current.stack (n - 1)) reference_in)

abbrev pub unless_null : ℕ → Result (Event × State) Stop → Result (Event × State) Stop
unless_null r next = cond (r == 0) (Err (Throws fault.NullPointer)) next

abbrev pub calling_method : Program → MethodNumber → Method → State → Result (Event × State) Stop
calling_method p m method s =
    provided (are_arguments method.arguments s.frames) Undefined
    (and_next (or_undefined (receiver (length method.arguments) s.frames)) (λ r. unless_null r (went_on (entering p m s))))

-- invokespecial: this method itself, on an object
unfoldable pub calling_special : Program → ℕ → Target → State → Result (Event × State) Stop
calling_special p next (target.Code m) s = and_next (or_undefined (slice_get p.methods m.0)) (λ method. calling_method p m method s)
calling_special p next (target.BuiltIn b) s = running_built_in p next b s

-- the class in which virtual calls are looked up: that of strings has the number 1, and arrays have the methods of Object
abbrev pub class_of : Kind → ℕ
class_of (made.Object c) = c
class_of made.Text = 1
class_of made.Booleans = 0
class_of made.Chars = 0
class_of made.Ints = 0
class_of made.Longs = 0
class_of (made.Refs t) = 0

abbrev pub target_in : Option Class → ℕ → Option (Option Target)
target_in None selector = None
target_in (Some class) selector = slice_get class.targets selector

abbrev pub found : Option (Option Target) → Option Target
found None = None
found (Some t) = t

-- the method that the class has for the selector
unfoldable pub target_of : Program → ℕ → ℕ → Option Target
target_of p class selector = found (target_in (slice_get p.classes class) selector)

abbrev pub selecting : Program → ℕ → ℕ → List ValueKind → State → Result (Event × State) Stop
selecting p next selector kinds s =
    provided (are_arguments kinds s.frames) Undefined
    (and_next (or_undefined (receiver (length kinds) s.frames)) (λ r.
    and_next (shape_at r s.heap) (λ x. and_next (or_undefined (target_of p (class_of x.kind) selector)) (λ t. running p next t s))))

-- invokevirtual, invokeinterface: the method that the object's class has
unfoldable pub calling_virtual : Program → ℕ → ℕ → State → Result (Event × State) Stop
calling_virtual p next selector s = and_next (or_undefined (slice_get p.selectors selector)) (λ kinds. selecting p next selector kinds s)

-- ---- returns

abbrev pub first_caller : List Frame → Calls → Option Calls
first_caller [] c = None
first_caller (f ∷ fs) c = Some (record c { current = f; callers = fs })

-- the caller acts again
unfoldable pub left : Calls → Option Calls
left c = first_caller c.callers c

abbrev pub code_of : Option Method → ℕ → Option Instruction
code_of None place = None
code_of (Some method) place = slice_get method.code place

-- the instruction of the frame that acts
unfoldable pub fetched : Program → Calls → Option Instruction
fetched p c = code_of (slice_get p.methods c.current.method.0) c.current.place

-- the frame goes on behind its instruction
unfoldable pub resuming : Program → State → Result State Stop
resuming p s = and_next (or_undefined (fetched p s.frames)) (λ i. Ok (with_frames s (placed i.next s.frames)))

abbrev pub returned : Program → State → Option Calls → Result (Event × State) Stop
returned p s None = Ok (Ended, s)
returned p s (Some c) = went_on (resuming p (with_frames s c))

-- return
abbrev pub returning : Program → State → Result (Event × State) Stop
returning p s = returned p s (left s.frames)

-- ireturn, lreturn, areturn
abbrev pub returning_value : Program → ValueKind → State → Result (Event × State) Stop
returning_value p k s =
    and_next (value_taken k s) (λ v. and_next (framed v.1 (left v.1.frames)) (λ c. and_next (giving v.0 c) (λ t. went_on (resuming p t))))
