use Rattle.std.proofs.Common.{◌≡◌, false, length}
use Rattle.scw_classfile.specs.Descriptor.{after_name}
use Rattle.scw_classfile.proofs.descriptor.after_name.Given as goal

abbrev pub invariant-loop-rest : goal.invariant-loop-rest
invariant-loop-rest l = after_name l.some l.rest ≡ after_name false l.units

abbrev pub decreases-loop-rest : goal.decreases-loop-rest
decreases-loop-rest l = length l.rest
