use Rattle.std.proofs.Common.{◌≡◌, ◌+◌, length, take, drop}
use Rattle.std.specs.List.{flat_map}
use Rattle.scw_classfile.specs.Pool.{entries_flaw, entry_bytes}
use Rattle.scw_classfile.proofs.pool_flaw.entries_fault.Given as goal

abbrev pub invariant-loop-i : goal.invariant-loop-i
invariant-loop-i l = entries_flaw l.major l.kinds 2 l.entries ≡ entries_flaw l.major l.kinds (2 + length (flat_map entry_bytes (take l.i l.entries))) (drop l.i l.entries)
