use Rattle.std.proofs.Common.{◌≡◌, ◌++◌, take, map}
use Rattle.scw_link.specs.declared.built_in_class.TheConstants.{CLASSES}
use Rattle.scw_link.specs.Classes.{named_class}
use Rattle.scw_link.proofs.classes.parents.Given as goal

abbrev pub invariant-loop-class : goal.invariant-loop-class
invariant-loop-class l = l.parents ≡ map (λ c. c.parent) (take l.class-index CLASSES)

abbrev pub invariant-loop-file : goal.invariant-loop-file
invariant-loop-file l = l.parents ≡ map (λ c. c.parent) CLASSES ++ map (λ c. named_class l.files c c.parent) (take l.file-index l.files)
