-- What a run of the machine says of the program whose class file it runs: SLS 6, JVMS 2.
use Rattle.std.specs.Prelude.{◌≡◌, ℕ, ◌+◌, ◌*◌, ◌≤◌, List, Option}
use Rattle.std.specs.Io.KnownBytes.{append_known}
use Rattle.scw_text.specs.declared.number.SymId.{SymId}
use Rattle.scw_outside.specs.Puts.{TookPart}
use Rattle.scw_core.specs.Entry.{main_of, source_run}
use Rattle.scw_core.specs.Program as core
use Rattle.scw_core.specs.Seen as seen
use Rattle.scw_core.specs.Seen.{Covers, IsPrefix}
use Rattle.scw_frame.specs.declared.program.Program.{Program}
use Rattle.scw_machine.specs.declared.end.End.{End}
use Rattle.scw_machine.specs.declared.end.End.TheVariants as why
use Rattle.scw_machine.specs.Run.{Running}
use Rattle.scw_back.specs.MachineSeen.{exception_at}

-- `main` of the object ends so, and all that it puts was taken
pub record Ends (p : core.Program) (o : SymId) (end : seen.End) (before now : Option (List ℕ)) : Type 0 where
  pub nodes : ℕ
  pub out : List ℕ
  pub run : source_run p (main_of o) nodes ≡ record { out = out; end = end }
  pub taken : now ≡ append_known before out

-- What was taken is a front of what `main` puts. As many nodes as the rows suffice for have been evaluated, which put no more
-- than that, and it hasn't ended by then.
pub record GoesOn (p : core.Program) (o : SymId) (rows : ℕ) (before now : Option (List ℕ)) : Type 0 where
  pub nodes : ℕ
  pub out : List ℕ
  pub front : IsPrefix out (source_run p (main_of o) nodes).out
  pub taken : now ≡ append_known before out
  pub behind : (n : ℕ) → 64 * n + 31 ≤ rows → Covers (source_run p (main_of o) n) (record { out = out; end = seen.running })

-- the sink took a part of what `main` puts
pub record Breaks (p : core.Program) (o : SymId) (before now : Option (List ℕ)) : Type 0 where
  pub nodes : ℕ
  pub out : List ℕ
  pub front : IsPrefix out (source_run p (main_of o) nodes).out
  pub part : TookPart before now out

-- the answer of a machine that was asked for so many rows, before the first of which nothing was done
abbrev pub Shows : core.Program → SymId → Program → ℕ → End → Running → Option (List ℕ) → Option (List ℕ) → Type 0
Shows p o l steps why.Ended new before now = Ends p o seen.normal before now
Shows p o l steps (why.Thrown r) new before now = Ends p o (exception_at l new.state.heap.objects r.0) before now
Shows p o l steps why.Steps new before now = (new.done ≡ steps) × GoesOn p o new.done before now
Shows p o l steps (why.HeapFull need) new before now = GoesOn p o new.done before now
Shows p o l steps why.Frames new before now = GoesOn p o new.done before now
Shows p o l steps why.SinkFault new before now = Breaks p o before now
Shows p o l steps (why.Stuck place) new before now = ⊥
