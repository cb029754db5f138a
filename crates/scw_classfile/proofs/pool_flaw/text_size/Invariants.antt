use Rattle.std.proofs.Common.{◌≡◌, length, take}
use Rattle.std.specs.List.{flat_map}
use Rattle.scw_text.specs.Modified.{unit_bytes}
use Rattle.scw_classfile.proofs.pool_flaw.text_size.Given as goal

abbrev pub invariant-loop-unit : goal.invariant-loop-unit
invariant-loop-unit l = l.size ≡ length (flat_map unit_bytes (take l.unit-index l.units))
