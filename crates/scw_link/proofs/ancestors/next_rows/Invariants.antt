use Rattle.std.proofs.Common.{◌≡◌, map}
use Rattle.std.specs.List.{range_with_len}
use Rattle.scw_link.specs.AncestorRows.{next_row}
use Rattle.scw_link.proofs.ancestors.next_rows.Given as goal

abbrev pub invariant-loop-c : goal.invariant-loop-c
invariant-loop-c l = l.next ≡ map (next_row l.supers l.rows) (range_with_len 0 l.c)
