use Rattle.std.proofs.Common.{◌≡◌, ◌≤◌, take}
use Rattle.std.specs.List.{count_by}
use Rattle.scw_link.specs.Classes.{is_instance}
use Rattle.scw_link.proofs.classes.instance_fields.Given as goal

abbrev pub invariant-loop-field : goal.invariant-loop-field
invariant-loop-field l = record { counted : l.count ≡ count_by is_instance (take l.field-index l.fields); few : l.count ≤ l.field-index }
