use Rattle.std.proofs.Common.{◌≡◌, ◌++◌, drop}
use Rattle.scw_machine.specs.Load as spec
use Rattle.scw_machine.proofs.loading.units_of.Given as goal

abbrev pub invariant-loop-c : goal.invariant-loop-c
invariant-loop-c l = spec.units_of l.text ≡ l.units ++ spec.units_of (drop l.c-index l.text)
