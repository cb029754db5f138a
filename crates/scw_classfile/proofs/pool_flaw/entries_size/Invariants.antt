use Rattle.std.proofs.Common.{◌≡◌, length, take}
use Rattle.std.specs.List.{flat_map}
use Rattle.scw_classfile.specs.Pool.{entry_bytes}
use Rattle.scw_classfile.proofs.pool_flaw.entries_size.Given as goal

abbrev pub invariant-loop-entry : goal.invariant-loop-entry
invariant-loop-entry l = l.size ≡ length (flat_map entry_bytes (take l.entry-index l.entries))
