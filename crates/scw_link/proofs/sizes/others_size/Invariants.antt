use Rattle.std.proofs.Common.{◌≡◌, take}
use Rattle.scw_link.specs.Sizes.{other_size}
use Rattle.std.specs.List.{sum_by}
use Rattle.scw_link.proofs.sizes.others_size.Given as goal

abbrev pub invariant-loop-attribute : goal.invariant-loop-attribute
invariant-loop-attribute l = l.size ≡ sum_by other_size (take l.attribute-index l.attributes)
