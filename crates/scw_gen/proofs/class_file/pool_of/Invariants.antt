use Rattle.std.proofs.Common.{◌≡◌, drop, map}
use Rattle.scw_gen.specs.Around.{around_of}
use Rattle.scw_gen.specs.Generate.{first_pool, with_methods}
use Rattle.scw_gen.specs.Method.{method_of_rust}
use Rattle.scw_gen.proofs.class_file.pool_of.Given as goal

abbrev pub invariant-loop-m : goal.invariant-loop-m
invariant-loop-m l = with_methods (around_of l.g) l.pool (map method_of_rust (drop l.m-index l.methods)) ≡ with_methods (around_of l.g) (first_pool (around_of l.g)) (map method_of_rust l.methods)
