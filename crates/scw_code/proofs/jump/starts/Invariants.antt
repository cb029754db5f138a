use Rattle.std.proofs.Common.{◌≡◌, take}
use Rattle.scw_code.specs.Jump.{starts_from}
use Rattle.scw_code.proofs.jump.starts.Given as goal

abbrev pub invariant-loop-instr : goal.invariant-loop-instr
invariant-loop-instr l = l.starts.items ≡ starts_from 0 (take l.instr-index l.instrs)
