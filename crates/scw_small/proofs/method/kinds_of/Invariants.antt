use Rattle.std.proofs.Common.{◌≡◌, take}
use Rattle.scw_small.specs.Whole.{kinds_of}
use Rattle.scw_small.proofs.method.kinds_of.Given as goal

abbrev pub invariant-loop-parameter : goal.invariant-loop-parameter
invariant-loop-parameter l = l.kinds ≡ kinds_of (take l.parameter-index l.parameters)
