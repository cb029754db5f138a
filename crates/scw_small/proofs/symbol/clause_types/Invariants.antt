use Rattle.std.proofs.Common.{◌≡◌, take, map}
use Rattle.scw_small.specs.Symbol.{parameter_type}
use Rattle.scw_small.specs.TypeView.{parameter_of}
use Rattle.scw_small.proofs.symbol.clause_types.Given as goal

abbrev pub invariant-loop-parameter : goal.invariant-loop-parameter
invariant-loop-parameter l = map parameter_of l.clause.items ≡ map parameter_type (take l.parameter-index l.parameters)
