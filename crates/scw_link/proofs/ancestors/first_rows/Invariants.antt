use Rattle.std.proofs.Common.{◌≡◌, map}
use Rattle.std.specs.List.{range_with_len}
use Rattle.scw_link.specs.Ancestors.{reached}
use Rattle.scw_link.proofs.ancestors.first_rows.Given as goal

abbrev pub invariant-loop-c : goal.invariant-loop-c
invariant-loop-c l = l.rows ≡ map (reached l.supers 0) (range_with_len 0 l.c)
