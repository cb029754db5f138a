use Rattle.std.proofs.Common.{◌≡◌, take}
use Rattle.scw_link.specs.Sizes.{own_size}
use Rattle.std.specs.List.{sum_by}
use Rattle.scw_link.proofs.sizes.own_sizes.Given as goal

abbrev pub invariant-loop-attribute : goal.invariant-loop-attribute
invariant-loop-attribute l = l.size ≡ sum_by own_size (take l.attribute-index l.attributes)
