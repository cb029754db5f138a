use Rattle.std.proofs.Common.{◌≡◌, ◌++◌, drop}
use Rattle.scw_core.specs.Text.{units_of_name}
use Rattle.scw_gen.proofs.name.add_name.Given as goal

abbrev pub invariant-loop-c : goal.invariant-loop-c
invariant-loop-c l = l.units ++ units_of_name (drop l.c-index l.name) ≡ l.initial.units ++ units_of_name l.name
