use Rattle.std.proofs.Common.{◌≡◌, take, length}
use Rattle.std.specs.List.{sum_by}
use Rattle.scw_link.proofs.members.first_number.Given as goal

abbrev pub invariant-loop-file : goal.invariant-loop-file
invariant-loop-file l = l.number ≡ sum_by (λ c. length c.methods) (take l.file-index (take l.k l.files))
