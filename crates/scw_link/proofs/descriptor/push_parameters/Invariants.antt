use Rattle.std.proofs.Common.{◌≡◌, ◌++◌, drop}
use Rattle.scw_link.specs.declared.descriptor.Part.TheVariants as part
use Rattle.scw_link.specs.Descriptor.{kinds_from}
use Rattle.scw_link.proofs.descriptor.push_parameters.Given as goal

abbrev pub invariant-loop-unit : goal.invariant-loop-unit
invariant-loop-unit l = l.fn.kinds ++ kinds_from part.Start l.units ≡ l.kinds ++ kinds_from l.part (drop l.unit-index l.units)
