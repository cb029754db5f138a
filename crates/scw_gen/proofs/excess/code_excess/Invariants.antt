use Rattle.std.proofs.Common.{◌≡◌, drop, map}
use Rattle.scw_gen.specs.Excess.{code_excess}
use Rattle.scw_gen.specs.Method.{method_of_rust}
use Rattle.scw_gen.proofs.excess.code_excess.Given as goal

abbrev pub invariant-loop-m : goal.invariant-loop-m
invariant-loop-m l = code_excess (map method_of_rust (drop l.m-index l.methods)) ≡ code_excess (map method_of_rust l.methods)
