use Rattle.std.proofs.Common.{◌≡◌, ◌++◌, drop}
use Rattle.scw_link.specs.Code.{switches_from}
use Rattle.scw_link.proofs.code.push_switches.Given as goal

abbrev pub invariant-loop-instr : goal.invariant-loop-instr
invariant-loop-instr l = l.fn.switches ++ switches_from 0 l.instrs ≡ l.switches ++ switches_from l.place (drop l.instr-index l.instrs)
