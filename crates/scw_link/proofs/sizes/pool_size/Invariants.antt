use Rattle.std.proofs.Common.{◌≡◌, take}
use Rattle.scw_link.specs.Sizes.{entry_size}
use Rattle.std.specs.List.{sum_by}
use Rattle.scw_link.proofs.sizes.pool_size.Given as goal

abbrev pub invariant-loop-entry : goal.invariant-loop-entry
invariant-loop-entry l = l.size ≡ sum_by entry_size (take l.entry-index l.pool)
