use Rattle.std.proofs.Common.{◌≡◌, ◌++◌, take}
use Rattle.std.specs.List.{flat_map}
use Rattle.scw_dis.specs.Code.{attribute_code}
use Rattle.scw_dis.proofs.code.write_own_code.Given as goal

abbrev pub invariant-loop-attribute : goal.invariant-loop-attribute
invariant-loop-attribute l = l.out.items ≡ l.fn.out.items ++ flat_map (attribute_code l.pool) (take l.attribute-index l.attributes)
