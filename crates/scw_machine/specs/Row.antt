-- What a row adds to the bytes that wait, and how far a run has come with them.
use Rattle.std.specs.Prelude.{◌≡◌, ℕ, ◌<◌, ◌⊎◌, List, [], ◌++◌, length, Option, Some, None, IfSome, Result, Ok, Err}
use Rattle.std.specs.Io.KnownBytes.{append_known}
use Rattle.scw_outside.specs.Causes.{Rose}
use Rattle.scw_outside.specs.Puts.{TookPart}
use Rattle.scw_outside.specs.declared.sink.SinkFailed.{SinkFailed}
use Rattle.scw_frame.specs.declared.program.Program.{Program}
use Rattle.scw_step.specs.declared.state.State.{State}
use Rattle.scw_step.specs.declared.stop.Stop.{Stop}
use Rattle.scw_step.specs.declared.stop.Stop.TheVariants as stop
use Rattle.scw_machine.specs.declared.end.End.{End}
use Rattle.scw_machine.specs.declared.end.End.TheVariants as why
use Rattle.scw_machine.specs.declared.end.Place.{Place}
use Rattle.scw_machine.specs.Course.{Halt, returned, uncaught, stuck, full, crowded, going, halted, advance, course}
use Rattle.scw_machine.specs.Output.{IsParted}
use Rattle.scw_machine.specs.Run.{place_of}

-- with one row the machine goes on at the state, and puts these bytes behind all others
pub record Goes (p : Program) (s t : State) (said : List ℕ) : Type 0 where
  pub goes : (out : List ℕ) → advance p (going s out) ≡ going t (out ++ said)

-- with one row the run halts at the state
pub record Ends (halt : Halt) (p : Program) (s t : State) : Type 0 where
  pub ends : (out : List ℕ) → advance p (going s out) ≡ halted halt t out

-- the row from the first state ends the run so, at the second state if the row is done
abbrev pub HaltsBy : End → Program → State → State → Type 0
HaltsBy why.Ended p s t = Ends returned p s t
HaltsBy (why.Thrown r) p s t = Ends (uncaught r.0) p s t
HaltsBy why.Steps p s t = ⊥
HaltsBy (why.HeapFull need) p s t = Ends (full need) p s s
HaltsBy why.Frames p s t = Ends crowded p s s
HaltsBy why.SinkFault p s t = ⊥
HaltsBy (why.Stuck place) p s t = Ends stuck p s s × (place ≡ place_of p s.frames)

-- why a run is over that stopped at the place
abbrev pub end_by : Stop → Place → End
end_by stop.Undefined place = why.Stuck place
end_by (stop.Throws f) place = why.Stuck place
end_by (stop.ThrowsObject r) place = why.Stuck place
end_by (stop.HeapFull need) place = why.HeapFull need
end_by stop.TooManyFrames place = why.Frames

-- the run goes on, and what the row said is put or waits behind the bytes that waited
pub record More (p : Program) (s t : State) (before now : Option (List ℕ)) (room left : Option ℕ) (waiting behind : List ℕ) : Type 0 where
  pub said : List ℕ
  pub goes : Goes p s t said
  pub parted : IsParted before now room left (waiting ++ said) behind

-- the run is over
pub record Over (end : End) (p : Program) (s t : State) (before now : Option (List ℕ)) (room left : Option ℕ) (waiting behind : List ℕ) : Type 0 where
  pub halts : HaltsBy end p s t
  pub parted : IsParted before now room left waiting behind

-- the run goes on, but the sink failed
pub record Fails (p : Program) (s t : State) (before now : Option (List ℕ)) (room : Option ℕ) (waiting : List ℕ) : Type 0 where
  pub said : List ℕ
  pub goes : Goes p s t said
  pub part : TookPart before now (waiting ++ said)
  pub short : IfSome room (λ r. r < length (waiting ++ said))

abbrev pub Turned : Result (Option End) SinkFailed → Program → State → State → Option (List ℕ) → Option (List ℕ) → Option ℕ → Option ℕ → List ℕ → List ℕ → Type 0
Turned (Ok None) p s t before now room left waiting behind = More p s t before now room left waiting behind
Turned (Ok (Some end)) p s t before now room left waiting behind = Over end p s t before now room left waiting behind
Turned (Err e) p s t before now room left waiting behind = Fails p s t before now room waiting

-- after so many rows the run stands at the state, and what it put was taken or waits
pub record Gathers (rows : ℕ) (p : Program) (s t : State) (before now : Option (List ℕ)) (room left : Option ℕ) (waiting : List ℕ) : Type 0 where
  pub out : List ℕ
  pub run : course p s rows ≡ going t out
  pub parted : IsParted before now room left out waiting

-- how many rows were done with one that ended the run so
abbrev pub rows_of : End → ℕ
rows_of why.Ended = 1
rows_of (why.Thrown r) = 1
rows_of why.Steps = 0
rows_of (why.HeapFull need) = 0
rows_of why.Frames = 0
rows_of why.SinkFault = 0
rows_of (why.Stuck place) = 0

-- all that waited was put, and the answer stays
pub record Clears (wanted end : End) (before now : Option (List ℕ)) (waiting behind : List ℕ) : Type 0 where
  pub same : end ≡ wanted
  pub taken : now ≡ append_known before waiting
  pub none : behind ≡ []

-- the sink failed
pub record Loses (end : End) (before now : Option (List ℕ)) (room : Option ℕ) (faults more : ℕ) (waiting : List ℕ) : Type 0 where
  pub fault : end ≡ why.SinkFault
  pub part : TookPart before now waiting
  pub short : IfSome room (λ r. r < length waiting)
  pub rose : Rose faults more

abbrev pub Closed : End → End → Option (List ℕ) → Option (List ℕ) → Option ℕ → ℕ → ℕ → List ℕ → List ℕ → Type 0
Closed wanted end before now room faults more waiting behind = Clears wanted end before now waiting behind ⊎ Loses end before now room faults more waiting
