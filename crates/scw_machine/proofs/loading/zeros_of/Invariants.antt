use Rattle.std.proofs.Common.{◌≡◌, map, take}
use Rattle.scw_machine.specs.Load as spec
use Rattle.scw_machine.proofs.loading.zeros_of.Given as goal

abbrev pub invariant-loop-kind : goal.invariant-loop-kind
invariant-loop-kind l = l.values ≡ map spec.zero_of (take l.kind-index l.kinds)
