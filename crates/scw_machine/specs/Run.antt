-- What the answers of a machine say of its run.
use Rattle.std.specs.Prelude.{◌≡◌, ℕ, ◌+◌, ◌-◌, ◌^◌, ◌≤◌, ◌<◌, ◌==◌, cond, min, Bool, true, false, List, length, Option, Some, None, IfSome, slice_get}
use Rattle.std.specs.Io.KnownBytes.{append_known}
use Rattle.scw_outside.specs.Puts.{TookPart}
use Rattle.scw_frame.specs.Frame.{Calls}
use Rattle.scw_frame.specs.declared.program.Method.{Method}
use Rattle.scw_frame.specs.declared.program.Program.{Program}
use Rattle.scw_step.specs.declared.state.State.{State}
use Rattle.scw_machine.specs.declared.end.End.{End}
use Rattle.scw_machine.specs.declared.end.End.TheVariants as why
use Rattle.scw_machine.specs.declared.end.Place.{Place}
use Rattle.scw_machine.specs.declared.end.Turn.{Turn}
use Rattle.scw_machine.specs.declared.end.Turn.TheVariants as turn
use Rattle.scw_machine.specs.Course.{Halt, returned, uncaught, stuck, full, crowded, going, halted, course, output_of}

-- what callers see of a machine: its program, its state, how many rows it did, and whether it may go on
pub record Running : Type 0 where
  pub program : Program
  pub state : State
  pub done : ℕ
  pub live : Bool

-- ---- where the instruction that acts stands in the files

-- The method 0 starts the program. No file has its code, so all its places are at its start.
abbrev pub byte_of : ℕ → ℕ → ℕ → ℕ
byte_of method start place = cond (method == 0) start (min (start + place) (2 ^ 32 - 1))

abbrev pub place_in : Option Method → ℕ → ℕ → Place
place_in None method place = record { class = 0; method = 0; at = 0 }
place_in (Some m) method place = record { class = m.origin.file; method = m.origin.method; at = byte_of method m.origin.start place }

abbrev pub place_at : Program → ℕ → ℕ → Place
place_at p method place = place_in (slice_get p.methods method) method place

abbrev pub place_of : Program → Calls → Place
place_of p c = place_at p c.current.method.0 c.current.place

-- ---- a run of at most so many rows from a state, of which so many were done, and what a sink had taken before and has now

-- the run stands at the state, and all that it put was taken
pub record Stands (rows : ℕ) (p : Program) (s t : State) (before now : Option (List ℕ)) : Type 0 where
  pub out : List ℕ
  pub run : course p s rows ≡ going t out
  pub taken : now ≡ append_known before out

-- with the last row the run halted at the state, and all that it put was taken
pub record Halts (halt : Halt) (steps rows : ℕ) (p : Program) (s t : State) (before now : Option (List ℕ)) : Type 0 where
  pub earlier : ℕ
  pub count : rows ≡ earlier + 1
  pub within : earlier < steps
  pub last : State
  pub out : List ℕ
  pub run : course p s earlier ≡ going last out
  pub over : course p s (earlier + 1) ≡ halted halt t out
  pub taken : now ≡ append_known before out

-- the next row halts the run, and isn't done; all that was put before it was taken
pub record Stops (halt : Halt) (steps rows : ℕ) (p : Program) (s : State) (before now : Option (List ℕ)) : Type 0 where
  pub within : rows < steps
  pub last : State
  pub out : List ℕ
  pub run : course p s rows ≡ going last out
  pub over : course p s (rows + 1) ≡ halted halt last out
  pub taken : now ≡ append_known before out

-- the same, since the instruction at the place isn't defined
pub record Sticks (place : Place) (steps rows : ℕ) (p : Program) (s : State) (before now : Option (List ℕ)) : Type 0 where
  pub stops : Stops stuck steps rows p s before now
  pub at : place ≡ place_of p stops.last.frames

-- The sink took a front of what was put, and not all of it; where it told a room, that was less. All of these rows were
-- done: the run went on after them, or after all but the last.
pub record Breaks (steps rows : ℕ) (p : Program) (s : State) (before now : Option (List ℕ)) (room : Option ℕ) : Type 0 where
  pub within : rows ≤ steps
  pub earlier : ℕ
  pub count : rows ≤ earlier + 1
  pub last : State
  pub out : List ℕ
  pub run : course p s earlier ≡ going last out
  pub part : TookPart before now (output_of (course p s rows))
  pub short : IfSome room (λ r. r < length (output_of (course p s rows)))

abbrev pub Came : End → ℕ → ℕ → Program → State → State → Option (List ℕ) → Option (List ℕ) → Option ℕ → Type 0
Came why.Ended steps rows p s t before now room = Halts returned steps rows p s t before now
Came (why.Thrown r) steps rows p s t before now room = Halts (uncaught r.0) steps rows p s t before now
Came why.Steps steps rows p s t before now room = (rows ≡ steps) × Stands rows p s t before now
Came (why.HeapFull need) steps rows p s t before now room = Stops (full need) steps rows p s before now
Came why.Frames steps rows p s t before now room = Stops crowded steps rows p s before now
Came why.SinkFault steps rows p s t before now room = Breaks steps rows p s before now room
Came (why.Stuck place) steps rows p s t before now room = Sticks place steps rows p s before now

-- the machine may go on
abbrev pub is_live : End → Bool
is_live why.Ended = false
is_live (why.Thrown r) = false
is_live why.Steps = true
is_live (why.HeapFull need) = false
is_live why.Frames = false
is_live why.SinkFault = false
is_live (why.Stuck place) = false

-- a machine was asked for so many rows, and answers so
pub record Ran (end : End) (steps : ℕ) (old new : Running) (before now : Option (List ℕ)) (room : Option ℕ) : Type 0 where
  pub rows : ℕ
  pub program : new.program ≡ old.program
  pub done : new.done ≡ old.done + rows
  pub live : new.live ≡ is_live end
  pub came : Came end steps rows old.program old.state new.state before now room

abbrev pub end_of : Turn → End
end_of turn.On = why.Steps
end_of (turn.Done end) = end
