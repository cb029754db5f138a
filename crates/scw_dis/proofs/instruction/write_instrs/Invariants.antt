use Rattle.std.proofs.Common.{◌≡◌, ◌+◌, ◌≤◌, ◌++◌, length, drop}
use Rattle.scw_code.specs.Jump.{starts_from}
use Rattle.scw_dis.specs.Instruction.{instr_lines}
use Rattle.scw_dis.proofs.instruction.write_instrs.Given as goal

abbrev pub invariant-loop-instr : goal.invariant-loop-instr
invariant-loop-instr l = record {
  text : l.out.items ++ instr_lines l.pool l.at (drop l.instr-index l.instrs) ≡ l.fn.out.items ++ instr_lines l.pool 0 l.instrs;
  room : l.at + length (starts_from l.at (drop l.instr-index l.instrs)) ≤ l.size;
}
