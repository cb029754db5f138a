use Rattle.std.proofs.Common.{◌≡◌, take}
use Rattle.std.specs.List.{sum_by}
use Rattle.scw_link.specs.Methods.{instrs_of}
use Rattle.scw_link.specs.Code.{switch_count}
use Rattle.scw_link.proofs.methods.file_switches.Given as goal

abbrev pub invariant-loop-method : goal.invariant-loop-method
invariant-loop-method l = l.count ≡ sum_by (λ m. switch_count (instrs_of m)) (take l.method-index l.file.methods)
