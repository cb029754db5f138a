use Rattle.std.proofs.Common.{◌≡◌, drop, map}
use Rattle.scw_core.specs.ProgramOf.{body_of}
use Rattle.scw_gen.specs.Around.{around_of}
use Rattle.scw_gen.specs.Method.{method_of_rust, methods_from, methods_of}
use Rattle.scw_gen.proofs.method.methods_of.Given as goal

abbrev pub invariant-loop-m : goal.invariant-loop-m
invariant-loop-m l =
    methods_from (around_of l.g) (map body_of l.bodies) (map method_of_rust l.methods.items) (drop l.m-index l.g.class.now.members)
    ≡ methods_of (around_of l.g) (map body_of l.bodies)
