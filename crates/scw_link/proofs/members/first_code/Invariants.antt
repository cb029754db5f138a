use Rattle.std.proofs.Common.{◌≡◌, drop}
use Rattle.scw_link.specs.Members.{first_code}
use Rattle.scw_link.proofs.members.first_code.Given as goal

abbrev pub invariant-loop-attribute : goal.invariant-loop-attribute
invariant-loop-attribute l = first_code l.attributes ≡ first_code (drop l.attribute-index l.attributes)
