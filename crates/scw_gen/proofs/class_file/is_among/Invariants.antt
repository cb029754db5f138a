use Rattle.std.proofs.Common.{◌≡◌, drop, map}
use Rattle.scw_gen.specs.Generate.{is_among}
use Rattle.scw_gen.specs.Method.{method_of_rust}
use Rattle.scw_gen.proofs.class_file.is_among.Given as goal

abbrev pub invariant-loop-n : goal.invariant-loop-n
invariant-loop-n l = is_among (method_of_rust l.m) (map method_of_rust (drop l.n-index l.methods)) ≡ is_among (method_of_rust l.m) (map method_of_rust l.methods)
