-- The run without limits: that of the same state, whose frames and heap may grow for ever. It is the meaning of class
-- files (JVMS 2.5 and 6.5); a limit on the heap, on frames or on rows is the runner's own, and only ends a run.
use Rattle.std.specs.Prelude.{◌≡◌, ℕ, ◌+◌, ◌<◌, Bool, true, false, List, Option}
use Rattle.std.specs.Io.KnownBytes.{append_known}
use Rattle.scw_frame.specs.declared.program.Program.{Program}
use Rattle.scw_step.specs.declared.state.State.{State}
use Rattle.scw_step.specs.Unlimited.{unlimited}
use Rattle.scw_machine.specs.declared.end.End.{End}
use Rattle.scw_machine.specs.declared.end.End.TheVariants as why
use Rattle.scw_machine.specs.Course.{Course, Halt, returned, uncaught, stuck, full, crowded, going, halted, course}
use Rattle.scw_machine.specs.Run.{Came, Running}

-- a limit ended the run
abbrev pub is_limit : Halt → Bool
is_limit returned = false
is_limit (uncaught r) = false
is_limit stuck = false
is_limit (full need) = true
is_limit crowded = true

abbrev pub is_limited : Course → Bool
is_limited (going s out) = false
is_limited (halted halt s out) = is_limit halt

-- A limit forbids the next row. The run without limits has done the same rows by then, which put the same, and its next
-- row meets no limit.
pub record Passes (steps rows : ℕ) (p : Program) (s : State) (before now : Option (List ℕ)) : Type 0 where
  pub within : rows < steps
  pub last : State
  pub out : List ℕ
  pub limited : course p s rows ≡ going last out
  pub run : course p (unlimited s) rows ≡ going (unlimited last) out
  pub next : is_limited (course p (unlimited s) (rows + 1)) ≡ false
  pub taken : now ≡ append_known before out

-- What an answer says of the run without limits: the same as of the run within limits, but where a limit was met.
abbrev pub CameUnlimited : End → ℕ → ℕ → Program → State → State → Option (List ℕ) → Option (List ℕ) → Option ℕ → Type 0
CameUnlimited why.Ended steps rows p s t before now room = Came why.Ended steps rows p (unlimited s) (unlimited t) before now room
CameUnlimited (why.Thrown r) steps rows p s t before now room = Came (why.Thrown r) steps rows p (unlimited s) (unlimited t) before now room
CameUnlimited why.Steps steps rows p s t before now room = Came why.Steps steps rows p (unlimited s) (unlimited t) before now room
CameUnlimited (why.HeapFull need) steps rows p s t before now room = Passes steps rows p s before now
CameUnlimited why.Frames steps rows p s t before now room = Passes steps rows p s before now
CameUnlimited why.SinkFault steps rows p s t before now room = Came why.SinkFault steps rows p (unlimited s) (unlimited t) before now room
CameUnlimited (why.Stuck place) steps rows p s t before now room = Came (why.Stuck place) steps rows p (unlimited s) (unlimited t) before now room

-- A machine was asked for so many rows, and answers so: those that it did are the rows of the run without limits.
pub record RanUnlimited (end : End) (steps : ℕ) (old new : Running) (before now : Option (List ℕ)) (room : Option ℕ) : Type 0 where
  pub rows : ℕ
  pub done : new.done ≡ old.done + rows
  pub came : CameUnlimited end steps rows old.program old.state new.state before now room
