use Rattle.std.proofs.Common.{◌≡◌, length, map}
use Rattle.scw_gen.specs.Generate.{are_distinct}
use Rattle.scw_gen.specs.Method.{method_of_rust}
use Rattle.scw_gen.proofs.class_file.are_distinct.Given as goal

abbrev pub invariant-loop-rest : goal.invariant-loop-rest
invariant-loop-rest l = are_distinct (map method_of_rust l.rest) ≡ are_distinct (map method_of_rust l.methods)

abbrev pub decreases-loop-rest : goal.decreases-loop-rest
decreases-loop-rest l = length l.rest
