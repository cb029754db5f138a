use Rattle.std.proofs.Common.{◌≡◌, length}
use Rattle.scw_classfile.specs.Descriptor.{after_field}
use Rattle.scw_classfile.proofs.descriptor.after_field.Given as goal

abbrev pub invariant-loop-rest : goal.invariant-loop-rest
invariant-loop-rest l = after_field l.rest ≡ after_field l.units

abbrev pub decreases-loop-rest : goal.decreases-loop-rest
decreases-loop-rest l = length l.rest
