use Rattle.std.proofs.Common.{◌≡◌, drop}
use Rattle.scw_outside.specs.Entries.{held}
use Rattle.scw_outside.proofs.mem_store.find.Given as goal

abbrev pub invariant-loop-entry : goal.invariant-loop-entry
invariant-loop-entry l = held l.entries l.name ≡ held (drop l.entry-index l.entries) l.name
