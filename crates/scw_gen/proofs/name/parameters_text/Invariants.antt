use Rattle.std.proofs.Common.{◌≡◌, drop}
use Rattle.scw_gen.specs.Around.{around_of}
use Rattle.scw_gen.specs.Name.{opened, parameters_text}
use Rattle.scw_gen.proofs.name.parameters_text.Given as goal

abbrev pub invariant-loop-x : goal.invariant-loop-x
invariant-loop-x l = parameters_text (around_of l.g) l.units (drop l.x-index l.parameters) ≡ parameters_text (around_of l.g) opened l.parameters
