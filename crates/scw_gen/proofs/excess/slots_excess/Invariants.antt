use Rattle.std.proofs.Common.{◌≡◌, drop, map}
use Rattle.scw_gen.specs.Excess.{slots_excess}
use Rattle.scw_gen.specs.Method.{method_of_rust}
use Rattle.scw_gen.proofs.excess.slots_excess.Given as goal

abbrev pub invariant-loop-m : goal.invariant-loop-m
invariant-loop-m l = slots_excess (map method_of_rust (drop l.m-index l.methods)) ≡ slots_excess (map method_of_rust l.methods)
