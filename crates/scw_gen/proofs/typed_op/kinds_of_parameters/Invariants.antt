use Rattle.std.proofs.Common.{◌≡◌, ◌++◌, option_map, drop}
use Rattle.scw_gen.specs.Around.{around_of}
use Rattle.scw_gen.specs.Typed.{kinds_of_parameters}
use Rattle.scw_gen.proofs.typed_op.kinds_of_parameters.Given as goal

abbrev pub invariant-loop-x : goal.invariant-loop-x
invariant-loop-x l = option_map (λ ks. l.kinds.items ++ ks) (kinds_of_parameters (around_of l.g) (drop l.x-index l.parameters)) ≡ kinds_of_parameters (around_of l.g) l.parameters
