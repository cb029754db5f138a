use Rattle.std.proofs.Common.{◌≡◌, drop}
use Rattle.scw_link.specs.Members.{first_in, declared}
use Rattle.scw_link.proofs.members.target_in.Given as goal

abbrev pub invariant-loop-class : goal.invariant-loop-class
invariant-loop-class l = first_in (declared l.files l.wants_static l.name l.descriptor) l.line ≡ first_in (declared l.files l.wants_static l.name l.descriptor) (drop l.class-index l.line)
