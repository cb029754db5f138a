use Rattle.std.proofs.Common.{◌≡◌, ◌++◌, take}
use Rattle.std.specs.List.{flat_map}
use Rattle.scw_link.specs.Methods.{method_switches}
use Rattle.scw_link.proofs.methods.push_file_switches.Given as goal

abbrev pub invariant-loop-method : goal.invariant-loop-method
invariant-loop-method l = l.switches ≡ l.fn.switches ++ flat_map method_switches (take l.method-index l.methods)
