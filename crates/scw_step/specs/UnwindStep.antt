-- Exceptions: JVMS 2.10. The handlers of a frame are searched in order at the place of its instruction, then those of its
-- callers; the stack of the frame that catches holds the exception alone.
use Rattle.std.specs.Prelude.{ℕ, Bool, true, false, cond, ◌&&◌, Option, Some, None, Result, Ok, List, [], ◌∷◌, slice_get, nat_le, nat_lt}
use Rattle.scw_step.specs.declared.event.Event.{Event}
use Rattle.scw_step.specs.declared.event.Event.TheVariants.{Thrown}
use Rattle.scw_frame.specs.declared.program.Catch.{Catch}
use Rattle.scw_frame.specs.declared.program.Catch.TheVariants as catch
use Rattle.scw_frame.specs.declared.program.Guard.{Guard}
use Rattle.scw_frame.specs.declared.program.Method.{Method}
use Rattle.scw_frame.specs.declared.program.Program.{Program}
use Rattle.scw_step.specs.declared.state.State.{State}
use Rattle.scw_step.specs.declared.stop.Stop.{Stop}
use Rattle.scw_frame.specs.declared.value.Value.TheVariants.{Reference}
use Rattle.scw_step.specs.CallStep.{class_of, went_on}
use Rattle.scw_frame.specs.Frame.{Frame, Calls, placed, with_stack}
use Rattle.scw_step.specs.StateStep.{and_next, giving, shape_at, with_frames}
use Rattle.scw_step.specs.TypeStep.{derives}

abbrev pub catches : Program → Catch → ℕ → Bool
catches p catch.All class = true
catches p (catch.Class d) class = derives p class d.0
catches p catch.Nothing class = false

abbrev pub guards : Program → Guard → ℕ → ℕ → Bool
guards p g place class = (nat_le g.from place && nat_lt place g.to) && catches p g.catch class

-- where the first handler that guards the place against the class begins
abbrev pub handler_in : Program → List Guard → ℕ → ℕ → Option ℕ
handler_in p [] place class = None
handler_in p (g ∷ more) place class = cond (guards p g place class) (Some g.at) (handler_in p more place class)

abbrev pub handler_of : Program → Option Method → ℕ → ℕ → Option ℕ
handler_of p None place class = None
handler_of p (Some method) place class = handler_in p method.guards place class

abbrev pub handler : Program → ℕ → Frame → Option ℕ
handler p class f = handler_of p (slice_get p.methods f.method.0) f.place class

-- the frame that catches, which acts then, and its handler; or the first frame, where none does
abbrev pub by_handler : Option ℕ → Frame → List Frame → (List Frame → Option ℕ × (Frame × List Frame)) → Option ℕ × (Frame × List Frame)
by_handler (Some at) f callers up = (Some at, (f, callers))
by_handler None f callers up = up callers

unfoldable pub unwound : Program → ℕ → Frame → List Frame → Option ℕ × (Frame × List Frame)
unwound p class f [] = by_handler (handler p class f) f [] (λ none. (None, (f, [])))
unwound p class f (g ∷ more) = by_handler (handler p class f) f (g ∷ more) (λ all. unwound p class g more)

abbrev pub with_unwound : Frame × List Frame → Calls → Calls
with_unwound x c = record c { current = x.0; callers = x.1 }

abbrev pub caught : ℕ → Option ℕ → State → Result (Event × State) Stop
caught r None s = Ok (Thrown r, s)
caught r (Some at) s = went_on (giving (Reference r) (with_frames s (placed at (with_stack [] s.frames))))

abbrev pub unwinding_from : ℕ → Option ℕ × (Frame × List Frame) → State → Result (Event × State) Stop
unwinding_from r x s = caught r x.0 (with_frames s (with_unwound x.1 s.frames))

-- the object with the number is thrown
unfoldable pub unwinding : Program → ℕ → State → Result (Event × State) Stop
unwinding p r s = and_next (shape_at r s.heap) (λ x. unwinding_from r (unwound p (class_of x.kind) s.frames.current s.frames.callers) s)
