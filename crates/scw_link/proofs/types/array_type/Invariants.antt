use Rattle.std.proofs.Common.{◌≡◌, length}
use Rattle.scw_link.specs.Types.{array_type}
use Rattle.scw_link.proofs.types.array_type.Given as goal

abbrev pub invariant-loop-rest : goal.invariant-loop-rest
invariant-loop-rest l = array_type l.files l.dimensions l.rest ≡ array_type l.files 1 l.units

abbrev pub decreases-loop-rest : goal.decreases-loop-rest
decreases-loop-rest l = length l.rest
