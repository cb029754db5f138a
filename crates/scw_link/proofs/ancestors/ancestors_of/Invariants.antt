use Rattle.std.proofs.Common.{◌≡◌}
use Rattle.scw_link.specs.Ancestors.{all_reached}
use Rattle.scw_link.proofs.ancestors.ancestors_of.Given as goal

abbrev pub invariant-loop : goal.invariant-loop
invariant-loop l = l.rows ≡ all_reached l.supers l.counter
