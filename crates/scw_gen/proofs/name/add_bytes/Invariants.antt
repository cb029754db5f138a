use Rattle.std.proofs.Common.{◌≡◌, ◌++◌, take}
use Rattle.scw_gen.proofs.name.add_bytes.Given as goal

abbrev pub invariant-loop-byte : goal.invariant-loop-byte
invariant-loop-byte l = l.units ≡ l.initial.units ++ take l.byte-index l.bytes
