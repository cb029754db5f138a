use Rattle.std.proofs.Common.{◌≡◌, ◌++◌, take}
use Rattle.std.specs.List.{flat_map}
use Rattle.scw_classfile.specs.Format.{own_bytes}
use Rattle.scw_classfile.proofs.attribute.write_own_each.Given as goal

abbrev pub invariant-loop-attribute : goal.invariant-loop-attribute
invariant-loop-attribute l = l.out.items ≡ l.fn.out.items ++ flat_map own_bytes (take l.attribute-index l.attributes)
