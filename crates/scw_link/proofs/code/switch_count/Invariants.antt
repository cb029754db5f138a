use Rattle.std.proofs.Common.{◌≡◌, take}
use Rattle.scw_link.specs.Code.{switch_count}
use Rattle.scw_link.proofs.code.switch_count.Given as goal

abbrev pub invariant-loop-instr : goal.invariant-loop-instr
invariant-loop-instr l = l.count ≡ switch_count (take l.instr-index l.instrs)
