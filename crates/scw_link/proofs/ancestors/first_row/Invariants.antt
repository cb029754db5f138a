use Rattle.std.proofs.Common.{◌≡◌, map, nat_eq}
use Rattle.std.specs.List.{range_with_len}
use Rattle.scw_link.proofs.ancestors.first_row.Given as goal

abbrev pub invariant-loop-d : goal.invariant-loop-d
invariant-loop-d l = l.row ≡ map (λ d. nat_eq l.c d) (range_with_len 0 l.d)
