use Rattle.std.proofs.Common.{◌≡◌, map}
use Rattle.std.specs.List.{range_with_len}
use Rattle.scw_link.specs.AncestorRows.{next_bit}
use Rattle.scw_link.proofs.ancestors.next_row.Given as goal

abbrev pub invariant-loop-d : goal.invariant-loop-d
invariant-loop-d l = l.row ≡ map (next_bit l.rows l.supers l.c) (range_with_len 0 l.d)
