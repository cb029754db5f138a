use Rattle.std.proofs.Common.{◌≡◌, take, true}
use Rattle.std.specs.List.{list_all}
use Rattle.scw_code.specs.Jump.{target_is}
use Rattle.scw_code.proofs.jump.targets_are.Given as goal

abbrev pub invariant-loop-distance : goal.invariant-loop-distance
invariant-loop-distance l = list_all (target_is l.starts l.at) (take l.distance-index l.distances) ≡ true
