use Rattle.std.proofs.Common.{◌≡◌, drop, map}
use Rattle.scw_core.specs.Program.{look}
use Rattle.scw_core.specs.ProgramOf.{entry_of}
use Rattle.scw_back.proofs.begin.is_reached.Given as goal

abbrev pub invariant-loop-entry : goal.invariant-loop-entry
invariant-loop-entry l = look (map entry_of (drop l.entry-index l.entries)) l.s ≡ look (map entry_of l.entries) l.s
