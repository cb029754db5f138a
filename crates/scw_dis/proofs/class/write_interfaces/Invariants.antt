use Rattle.std.proofs.Common.{◌≡◌, ◌++◌, take}
use Rattle.std.specs.List.{flat_map}
use Rattle.scw_dis.specs.Class.{interface_line}
use Rattle.scw_dis.proofs.class.write_interfaces.Given as goal

abbrev pub invariant-loop-interface : goal.invariant-loop-interface
invariant-loop-interface l = l.out.items ≡ l.fn.out.items ++ flat_map (interface_line l.pool) (take l.interface-index l.interfaces)
