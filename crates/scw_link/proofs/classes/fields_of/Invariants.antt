use Rattle.std.proofs.Common.{◌≡◌, take}
use Rattle.scw_link.specs.Classes.{fields_of}
use Rattle.scw_link.proofs.classes.fields_of.Given as goal

abbrev pub invariant-loop-class : goal.invariant-loop-class
invariant-loop-class l = l.fields ≡ fields_of l.files (take l.class-index l.line)
