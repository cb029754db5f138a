use Rattle.std.proofs.Common.{◌≡◌, max, drop, map}
use Rattle.scw_reader.specs.View.{method_of}
use Rattle.scw_reader.specs.Limits.{most_parameters}
use Rattle.scw_reader.proofs.source.most_parameters.Given as goal

abbrev pub invariant-loop-method : goal.invariant-loop-method
invariant-loop-method l = max l.most (most_parameters (map method_of (drop l.method-index l.methods))) ≡ most_parameters (map method_of l.methods)
