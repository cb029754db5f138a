use Rattle.std.proofs.Common.{◌≡◌, ◌++◌, drop}
use Rattle.std.specs.List.{filter_map}
use Rattle.scw_link.specs.Classes.{named_class}
use Rattle.scw_link.proofs.ancestors.push_interfaces.Given as goal

abbrev pub invariant-loop-interface : goal.invariant-loop-interface
invariant-loop-interface l = l.fn.supers ++ filter_map (named_class l.files l.file) l.file.interfaces ≡ l.supers ++ filter_map (named_class l.files l.file) (drop l.interface-index l.file.interfaces)
