use Rattle.std.proofs.Common.{◌≡◌, drop}
use Rattle.scw_link.specs.Members.{static_in}
use Rattle.scw_link.proofs.members.static_in.Given as goal

abbrev pub invariant-loop-class : goal.invariant-loop-class
invariant-loop-class l = static_in l.files l.name l.descriptor l.line ≡ static_in l.files l.name l.descriptor (drop l.class-index l.line)
