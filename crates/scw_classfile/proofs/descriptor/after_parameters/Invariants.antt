use Rattle.std.proofs.Common.{◌≡◌, length}
use Rattle.scw_classfile.specs.Descriptor.{after_parameters}
use Rattle.scw_classfile.proofs.descriptor.after_parameters.Given as goal

abbrev pub invariant-loop-rest : goal.invariant-loop-rest
invariant-loop-rest l = after_parameters (length l.rest) l.rest ≡ after_parameters (length l.units) l.units

abbrev pub decreases-loop-rest : goal.decreases-loop-rest
decreases-loop-rest l = length l.rest
