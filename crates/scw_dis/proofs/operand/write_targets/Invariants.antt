use Rattle.std.proofs.Common.{◌≡◌, ◌++◌, take}
use Rattle.std.specs.List.{flat_map}
use Rattle.scw_dis.specs.Instruction.{target_text}
use Rattle.scw_dis.proofs.operand.write_targets.Given as goal

abbrev pub invariant-loop-distance : goal.invariant-loop-distance
invariant-loop-distance l = l.out.items ≡ l.fn.out.items ++ flat_map (target_text l.at) (take l.distance-index l.distances)
