use Rattle.std.proofs.Common.{◌≡◌, length}
use Rattle.scw_link.specs.Members.{place_in}
use Rattle.scw_link.proofs.members.place_in.Given as goal

abbrev pub invariant-loop-rest : goal.invariant-loop-rest
invariant-loop-rest l = place_in l.files l.name l.descriptor l.line ≡ place_in l.files l.name l.descriptor l.rest

abbrev pub decreases-loop-rest : goal.decreases-loop-rest
decreases-loop-rest l = length l.rest
