use Rattle.std.proofs.Common.{◌≡◌, take}
use Rattle.std.specs.List.{sum_by, count_by}
use Rattle.scw_link.specs.Classes.{is_static}
use Rattle.scw_link.proofs.members.first_static.Given as goal

abbrev pub invariant-loop-file : goal.invariant-loop-file
invariant-loop-file l = l.number ≡ sum_by (λ c. count_by is_static c.fields) (take l.file-index (take l.k l.files))
