use Rattle.std.proofs.Common.{◌≡◌, [], drop, map}
use Rattle.scw_gen.specs.Around.{around_of}
use Rattle.scw_gen.specs.Generate.{member_infos}
use Rattle.scw_gen.specs.Method.{method_of_rust}
use Rattle.scw_gen.proofs.class_file.member_infos.Given as goal

abbrev pub invariant-loop-m : goal.invariant-loop-m
invariant-loop-m l = member_infos (around_of l.g) l.infos (map method_of_rust (drop l.m-index l.methods)) ≡ member_infos (around_of l.g) [] (map method_of_rust l.methods)
