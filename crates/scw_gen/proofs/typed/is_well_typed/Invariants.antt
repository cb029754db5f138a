use Rattle.std.proofs.Common.{◌≡◌, length, map}
use Rattle.scw_core.specs.ProgramOf.{body_of}
use Rattle.scw_gen.specs.Around.{around_of}
use Rattle.scw_gen.specs.Typed.{is_well_typed}
use Rattle.scw_gen.proofs.typed.is_well_typed.Given as goal

abbrev pub invariant-loop-rest : goal.invariant-loop-rest
invariant-loop-rest l = is_well_typed (around_of l.g) (map body_of l.bodies) l.rest ≡ is_well_typed (around_of l.g) (map body_of l.bodies) l.members

abbrev pub decreases-loop-rest : goal.decreases-loop-rest
decreases-loop-rest l = length l.rest
