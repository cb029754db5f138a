use Rattle.std.proofs.Common.{◌≡◌, ◌++◌, take, map}
use Rattle.std.specs.Option.{option_to_list}
use Rattle.scw_link.specs.declared.built_in_class.TheConstants.{CLASSES}
use Rattle.scw_link.specs.Ancestors.{supers_in}
use Rattle.scw_link.proofs.ancestors.supers_of.Given as goal

abbrev pub invariant-loop-class : goal.invariant-loop-class
invariant-loop-class l = l.supers ≡ map (λ c. option_to_list c.parent) (take l.class-index CLASSES)

abbrev pub invariant-loop-file : goal.invariant-loop-file
invariant-loop-file l = l.supers ≡ map (λ c. option_to_list c.parent) CLASSES ++ map (supers_in l.files) (take l.file-index l.files)
