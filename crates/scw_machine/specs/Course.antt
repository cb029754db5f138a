-- The course of a run: steps one after another, and what they put (JVMS 2.5 and 2.10). The limits are those of the state.
use Rattle.std.specs.Prelude.{ℕ, zero, suc, List, [], ◌++◌, Result, Ok, Err}
use Rattle.scw_frame.specs.declared.program.Program.{Program}
use Rattle.scw_step.specs.declared.event.Event.{Event}
use Rattle.scw_step.specs.declared.event.Event.TheVariants as event
use Rattle.scw_step.specs.declared.state.State.{State}
use Rattle.scw_step.specs.declared.stop.Stop.{Stop}
use Rattle.scw_step.specs.declared.stop.Stop.TheVariants as stop
use Rattle.scw_step.specs.Step.{stepping}
use Rattle.scw_machine.specs.Output.{said_by}

-- why a run goes on no further
pub data Halt : Type 0 where
  -- the first frame returned
  returned : Halt
  -- no frame caught the exception with the number
  uncaught : ℕ → Halt
  -- the next step isn't defined
  stuck : Halt
  -- the next step needs so many units of the heap, which has fewer left
  full : ℕ → Halt
  -- the next step needs a frame for which the limits leave no room
  crowded : Halt

pub data Course : Type 0 where
  -- a state, and all that was put before it
  going : State → List ℕ → Course
  -- the same, at which it halted
  halted : Halt → State → List ℕ → Course

abbrev pub after_event : Event → State → List ℕ → Course
after_event event.On t out = going t out
after_event (event.Says r) t out = going t (out ++ said_by t.heap.objects r)
after_event event.Ended t out = halted returned t out
after_event (event.Thrown r) t out = halted (uncaught r) t out

-- a step that isn't done leaves the state as it was
abbrev pub after_stop : Stop → State → List ℕ → Course
after_stop stop.Undefined s out = halted stuck s out
after_stop (stop.Throws f) s out = halted stuck s out
after_stop (stop.ThrowsObject r) s out = halted stuck s out
after_stop (stop.HeapFull n) s out = halted (full n) s out
after_stop stop.TooManyFrames s out = halted crowded s out

abbrev pub after_step : State → List ℕ → Result (Event × State) Stop → Course
after_step s out (Ok x) = after_event x.0 x.1 out
after_step s out (Err e) = after_stop e s out

-- one step more; what has halted stays
unfoldable pub advance : Program → Course → Course
advance p (going s out) = after_step s out (stepping p s)
advance p (halted h s out) = halted h s out

-- the run from a state, after so many steps
unfoldable pub course : Program → State → ℕ → Course
course p s zero = going s []
course p s (suc n) = advance p (course p s n)

-- all that was put
abbrev pub output_of : Course → List ℕ
output_of (going s out) = out
output_of (halted h s out) = out
