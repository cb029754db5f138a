use Rattle.std.proofs.Common.{◌≡◌, take, map}
use Rattle.scw_link.specs.Code.{switch_target}
use Rattle.scw_link.proofs.code.targets_of.Given as goal

abbrev pub invariant-loop-distance : goal.invariant-loop-distance
invariant-loop-distance l = l.targets ≡ map (switch_target l.place) (take l.distance-index l.distances)
