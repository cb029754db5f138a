-- Calls, returns, exceptions, and whole steps do the same without limits.
use Rattle.std.proofs.Common.{ℕ, List, [], ◌∷◌, Option, Some, None, Result, length, slice_get, ◌==◌}
use Rattle.scw_heap.specs.declared.kind.Kind.TheVariants as made
use Rattle.scw_frame.specs.declared.operation.BuiltIn.{BuiltIn}
use Rattle.scw_frame.specs.declared.operation.Operation.{Operation}
use Rattle.scw_frame.specs.declared.operation.Operation.TheVariants as op
use Rattle.scw_frame.specs.declared.program.Method.{Method}
use Rattle.scw_frame.specs.declared.program.MethodNumber.{MethodNumber}
use Rattle.scw_frame.specs.declared.program.Program.{Program}
use Rattle.scw_frame.specs.declared.program.Target.{Target}
use Rattle.scw_frame.specs.declared.program.Target.TheVariants as target
use Rattle.scw_frame.specs.declared.value.Value.TheVariants.{Reference}
use Rattle.scw_frame.specs.declared.value.ValueKind.{ValueKind}
use Rattle.scw_frame.specs.Frame.{Calls, Frame, are_arguments, entered, placed, with_stack}
use Rattle.scw_step.specs.declared.event.Event.{Event}
use Rattle.scw_step.specs.declared.event.Event.TheVariants.{On, Ended, Thrown}
use Rattle.scw_step.specs.declared.state.State.{State}
use Rattle.scw_step.specs.declared.stop.Fault.{Fault}
use Rattle.scw_step.specs.declared.stop.Fault.TheVariants as fault
use Rattle.scw_step.specs.declared.stop.Stop.{Stop}
use Rattle.scw_step.specs.declared.stop.Stop.TheVariants.{Undefined, Throws, ThrowsObject, HeapFull, TooManyFrames}
use Rattle.scw_step.specs.CallStep.{calling_method, calling_special, calling_virtual, class_of, entering, entering_method, fetched, first_caller, fits, left, receiver, resuming, returned, returning, returning_value, running, running_built_in, selecting, target_of, went_on}
use Rattle.scw_step.specs.HeapStep.{array_kind, with_word_at}
use Rattle.scw_step.specs.RaiseStep.{class_of_fault, exception, exception_by, message_of, raising, room_for, with_message}
use Rattle.scw_step.specs.StateStep.{and_next, calm, shape_at, with_frames}
use Rattle.scw_step.specs.Step.{divided_into, executing, going_on, jumped, jumping, operating, settled, stepping}
use Rattle.scw_step.specs.TextStep.{making_text}
use Rattle.scw_step.specs.Unlimited.{unlimited, unlimited_frames}
use Rattle.scw_step.specs.UnwindStep.{caught, unwinding, unwound, with_unwound}
use Rattle.scw_step.proofs.FrameFollowLemmas.{Mirrors, none, some, maybe_unlimited, computing-mirrors, dividing_ints-mirrors, dividing_longs-mirrors, jumping-mirrors}
use Rattle.scw_step.proofs.PlainLemmas.{shape_at-plain}
use Rattle.scw_step.proofs.FollowLemmas.{follows-option, Free, goes, ends, free-of, Follows, beside, done, stops, full, crowded, follows-next, follows-same, follows-provided, follows-cond, follows-full, follows-crowded, framed-follows, value_taken-follows, giving-follows, making-follows, making_text-follows}
use Rattle.scw_step.proofs.HeapFollowLemmas.{getting_field-follows, putting_field-follows, getting_static-follows, putting_static-follows, loading_element-follows, storing_element-follows, taking_length-follows, making_object-follows, pushing_text-follows, making_array-follows, casting-follows, testing-follows, throwing-follows}
use Rattle.scw_step.proofs.BuiltInFollowLemmas.{built_in-follows}

-- ---- calls

entering_method-follows : (m : MethodNumber) (method : Method) (s : State) → Follows unlimited (entering_method m method s) (entering_method m method (unlimited s))
entering_method-follows m method s =
    follows-provided (fits method.arguments method.locals s.frames) _ _ _ tt (follows-crowded _ _ _
    (done (with_frames s (entered m method.stack method.locals (length method.arguments) s.frames))))

entering-follows : (p : Program) (m : MethodNumber) (s : State) → Follows unlimited (entering p m s) (entering p m (unlimited s))
unfolding entering
entering-follows p m s = follows-next _ _ _ _ (follows-option (slice_get p.methods m.0)) (λ method. entering_method-follows m method s)

went_on-follows : (r r' : Result State Stop) → Follows unlimited r r' → Follows beside (went_on r) (went_on r')
went_on-follows r r' f = follows-next _ _ _ _ f (λ s. done (On, s))

running_built_in-follows : (p : Program) (next : ℕ) (b : BuiltIn) (s : State) → Follows beside (running_built_in p next b s) (running_built_in p next b (unlimited s))
unfolding running_built_in
running_built_in-follows p next b s = follows-next _ _ _ _ (built_in-follows p b s) (λ x. done (x.0, with_frames x.1 (placed next x.1.frames)))

running-follows : (p : Program) (next : ℕ) (t : Target) (s : State) → Follows beside (running p next t s) (running p next t (unlimited s))
unfolding running
running-follows p next (target.Code m) s = went_on-follows _ _ (entering-follows p m s)
running-follows p next (target.BuiltIn b) s = running_built_in-follows p next b s

calling_method-follows : (p : Program) (m : MethodNumber) (method : Method) (s : State) → Follows beside (calling_method p m method s) (calling_method p m method (unlimited s))
unfolding receiver
calling_method-follows p m method s =
    follows-provided (are_arguments method.arguments s.frames) _ _ _ tt
    (follows-next _ _ _ _ (follows-option (receiver (length method.arguments) s.frames)) (λ r.
    follows-cond (r == 0) _ _ _ _ (stops (Throws fault.NullPointer) tt) (went_on-follows _ _ (entering-follows p m s))))

calling_special-follows : (p : Program) (next : ℕ) (t : Target) (s : State) → Follows beside (calling_special p next t s) (calling_special p next t (unlimited s))
unfolding calling_special
calling_special-follows p next (target.Code m) s = follows-next _ _ _ _ (follows-option (slice_get p.methods m.0)) (λ method. calling_method-follows p m method s)
calling_special-follows p next (target.BuiltIn b) s = running_built_in-follows p next b s

selecting-follows : (p : Program) (next selector : ℕ) (kinds : List ValueKind) (s : State) → Follows beside (selecting p next selector kinds s) (selecting p next selector kinds (unlimited s))
unfolding receiver shape_at
selecting-follows p next selector kinds s =
    follows-provided (are_arguments kinds s.frames) _ _ _ tt
    (follows-next _ _ _ _ (follows-option (receiver (length kinds) s.frames)) (λ r. follows-next _ _ _ _ (follows-same (shape_at-plain r s.heap)) (λ x.
    follows-next _ _ _ _ (follows-option (target_of p (class_of x.kind) selector)) (λ t. running-follows p next t s))))

calling_virtual-follows : (p : Program) (next selector : ℕ) (s : State) → Follows beside (calling_virtual p next selector s) (calling_virtual p next selector (unlimited s))
unfolding calling_virtual
calling_virtual-follows p next selector s =
    follows-next _ _ _ _ (follows-option (slice_get p.selectors selector)) (λ kinds. selecting-follows p next selector kinds s)

-- ---- returns

first_caller-mirrors : (fs : List Frame) (c : Calls) → Mirrors unlimited_frames (first_caller fs c) (first_caller fs (unlimited_frames c))
first_caller-mirrors [] c = none
first_caller-mirrors (f ∷ fs) c = some (record c { current = f; callers = fs })

left-mirrors : (c : Calls) → Mirrors unlimited_frames (left c) (left (unlimited_frames c))
unfolding left
left-mirrors c = first_caller-mirrors c.callers c

resuming-follows : (p : Program) (s : State) → Follows unlimited (resuming p s) (resuming p (unlimited s))
unfolding resuming fetched
resuming-follows p s = follows-next _ _ _ _ (follows-option (fetched p s.frames)) (λ i. done (with_frames s (placed i.next s.frames)))

returned-follows : (p : Program) (s : State) (o o' : Option Calls) → Mirrors unlimited_frames o o' → Follows beside (returned p s o) (returned p (unlimited s) o')
returned-follows p s o o' none = done (Ended, s)
returned-follows p s o o' (some c) = went_on-follows _ _ (resuming-follows p (with_frames s c))

returning-follows : (p : Program) (s : State) → Follows beside (returning p s) (returning p (unlimited s))
returning-follows p s = returned-follows p s _ _ (left-mirrors s.frames)

returning_value-follows : (p : Program) (k : ValueKind) (s : State) → Follows beside (returning_value p k s) (returning_value p k (unlimited s))
returning_value-follows p k s =
    follows-next _ _ _ _ (value_taken-follows k s) (λ v. follows-next _ _ _ _ (framed-follows v.1 _ _ (left-mirrors v.1.frames)) (λ c.
    follows-next _ _ _ _ (giving-follows v.0 c) (λ t. went_on-follows _ _ (resuming-follows p t))))

-- ---- exceptions

caught-follows : (r : ℕ) (o : Option ℕ) (s : State) → Follows beside (caught r o s) (caught r o (unlimited s))
caught-follows r None s = done (Thrown r, s)
caught-follows r (Some at) s = went_on-follows _ _ (giving-follows (Reference r) (with_frames s (placed at (with_stack [] s.frames))))

unwinding-follows : (p : Program) (r : ℕ) (s : State) → Follows beside (unwinding p r s) (unwinding p r (unlimited s))
unfolding unwinding shape_at
unwinding-follows p r s =
    follows-next _ _ _ _ (follows-same (shape_at-plain r s.heap)) (λ x.
    let up = unwound p (class_of x.kind) s.frames.current s.frames.callers in
    caught-follows r up.0 (with_frames s (with_unwound up.1 s.frames)))

room_for-follows : (class n : ℕ) (s : State) → Follows (λ x. x) (room_for class n s) (room_for class n (unlimited s))
room_for-follows class n s = follows-full _ _ _ _ (done tt)

with_message-follows : (class m : ℕ) (s : State) → Follows beside (with_message class m s) (with_message class m (unlimited s))
unfolding with_message
with_message-follows class m s = follows-next _ _ _ _ (making-follows (made.Object class) 1 s) (λ e. done (e.0, with_word_at e.0 0 m e.1))

abbrev message_then : ℕ → List ℕ → State → Result (ℕ × State) Stop
message_then class text s = and_next (making_text text s) (λ m. with_message class m.0 m.1)

exception_by-follows : (class : ℕ) (text : Option (List ℕ)) (s : State) → Follows beside (exception_by class text s) (exception_by class text (unlimited s))
unfolding exception_by
exception_by-follows class None s = making-follows (made.Object class) 1 s
exception_by-follows class (Some text) s =
    follows-next _ _ (λ _. message_then class text s) (λ _. message_then class text (unlimited s)) (room_for-follows class (length text) s) (λ _.
    follows-next _ _ _ _ (making_text-follows text s) (λ m. with_message-follows class m.0 m.1))

raising-follows : (p : Program) (f : Fault) (s : State) → Follows beside (raising p f s) (raising p f (unlimited s))
unfolding raising exception
raising-follows p f s = follows-next _ _ _ _ (exception_by-follows (class_of_fault f) (message_of f) s) (λ e. unwinding-follows p e.0 e.1)

-- ---- instructions

divided_into-follows : (s : State) (o o' : Option (Option Calls)) → Mirrors maybe_unlimited o o' → Follows unlimited (divided_into s o) (divided_into (unlimited s) o')
divided_into-follows s o o' none = stops Undefined tt
divided_into-follows s o o' (some None) = stops (Throws fault.DividedByZero) tt
divided_into-follows s o o' (some (Some c)) = done (with_frames s c)

operating-follows : (p : Program) (o : Operation) (s : State) → Follows unlimited (operating p o s) (operating p o (unlimited s))
unfolding operating
operating-follows p (op.IntDivision o) s = divided_into-follows s _ _ (dividing_ints-mirrors o s.frames)
operating-follows p (op.LongDivision o) s = divided_into-follows s _ _ (dividing_longs-mirrors o s.frames)
operating-follows p (op.PushText i) s = pushing_text-follows p i.0 s
operating-follows p (op.LoadElement e) s = loading_element-follows e s
operating-follows p (op.StoreElement e) s = storing_element-follows p e s
operating-follows p (op.GetStatic i) s = getting_static-follows i.0 s
operating-follows p (op.PutStatic i) s = putting_static-follows i.0 s
operating-follows p (op.GetField c i k) s = getting_field-follows p c.0 i k s
operating-follows p (op.PutField c i k) s = putting_field-follows p c.0 i k s
operating-follows p (op.New c) s = making_object-follows p c.0 s
operating-follows p (op.NewNumbers x) s = making_array-follows (array_kind x) s
operating-follows p (op.NewReferences t) s = making_array-follows (made.Refs t.0) s
operating-follows p op.ArrayLength s = taking_length-follows s
operating-follows p op.Throw s = throwing-follows p s
operating-follows p (op.CheckCast t) s = casting-follows p t.0 s
operating-follows p (op.InstanceOf t) s = testing-follows p t.0 s
operating-follows p o s = framed-follows s _ _ (computing-mirrors o s.frames)

going_on-follows : (next : ℕ) (r r' : Result State Stop) → Follows unlimited r r' → Follows beside (going_on next r) (going_on next r')
going_on-follows next r r' f = follows-next _ _ _ _ f (λ s. done (On, with_frames s (placed next s.frames)))

jumped-follows : (p : Program) (o : Operation) (next : ℕ) (s : State) → Follows beside (jumped s (jumping p o next s.frames)) (jumped (unlimited s) (jumping p o next (unlimited s).frames))
jumped-follows p o next s = went_on-follows _ _ (framed-follows s _ _ (jumping-mirrors p o next s.frames))

executing-follows : (p : Program) (o : Operation) (next : ℕ) (s : State) → Follows beside (executing p o next s) (executing p o next (unlimited s))
unfolding executing
executing-follows p op.Undefined next s = stops Undefined tt
executing-follows p (op.Jump target) next s = jumped-follows p (op.Jump target) next s
executing-follows p (op.JumpIfZero k target) next s = jumped-follows p (op.JumpIfZero k target) next s
executing-follows p (op.JumpIfInts k target) next s = jumped-follows p (op.JumpIfInts k target) next s
executing-follows p (op.JumpIfSame same target) next s = jumped-follows p (op.JumpIfSame same target) next s
executing-follows p (op.JumpIfNull null target) next s = jumped-follows p (op.JumpIfNull null target) next s
executing-follows p (op.Switch n) next s = jumped-follows p (op.Switch n) next s
executing-follows p op.Return next s = returning-follows p s
executing-follows p (op.ReturnValue k) next s = returning_value-follows p k s
executing-follows p (op.CallStatic t) next s = running-follows p next t s
executing-follows p (op.CallSpecial t) next s = calling_special-follows p next t s
executing-follows p (op.CallVirtual x) next s = calling_virtual-follows p next x.0 s
executing-follows p o next s = going_on-follows next _ _ (operating-follows p o s)

settled-free : (p : Program) (s : State) (r : Result (Event × State) Stop) → Free beside r → Free beside (settled p (unlimited s) r)
settled-free p s r (goes x) = goes x
settled-free p s r (ends Undefined h) = ends Undefined tt
settled-free p s r (ends (Throws f) h) = free-of (raising-follows p f (calm s))
settled-free p s r (ends (ThrowsObject o) h) = free-of (unwinding-follows p o (calm s))
settled-free p s r (ends (HeapFull n) h) = absurd h
settled-free p s r (ends TooManyFrames h) = absurd h

settled-follows : (p : Program) (s : State) (r r' : Result (Event × State) Stop) → Follows beside r r' → Follows beside (settled p s r) (settled p (unlimited s) r')
settled-follows p s r r' (done x) = done x
settled-follows p s r r' (stops Undefined h) = stops Undefined tt
settled-follows p s r r' (stops (Throws f) h) = raising-follows p f (calm s)
settled-follows p s r r' (stops (ThrowsObject o) h) = unwinding-follows p o (calm s)
settled-follows p s r r' (stops (HeapFull n) h) = absurd h
settled-follows p s r r' (stops TooManyFrames h) = absurd h
settled-follows p s r r' (full n q h) = full n (settled p (unlimited s) q) (settled-free p s q h)
settled-follows p s r r' (crowded q h) = crowded (settled p (unlimited s) q) (settled-free p s q h)

-- A step does the same without limits, unless a limit stops it.
pub stepping-follows : (p : Program) (s : State) → Follows beside (stepping p s) (stepping p (unlimited s))
unfolding stepping fetched
stepping-follows p s =
    follows-next _ _ _ _ (follows-option (fetched p s.frames)) (λ i. settled-follows p s _ _ (executing-follows p i.operation i.next s))
