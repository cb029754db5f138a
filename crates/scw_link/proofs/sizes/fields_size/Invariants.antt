use Rattle.std.proofs.Common.{◌≡◌, take}
use Rattle.scw_link.specs.Sizes.{field_size}
use Rattle.std.specs.List.{sum_by}
use Rattle.scw_link.proofs.sizes.fields_size.Given as goal

abbrev pub invariant-loop-field : goal.invariant-loop-field
invariant-loop-field l = l.size ≡ sum_by field_size (take l.field-index l.fields)
