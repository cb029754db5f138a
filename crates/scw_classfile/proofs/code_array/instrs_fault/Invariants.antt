use Rattle.std.proofs.Common.{◌≡◌, ◌+◌, ◌≤◌, length, drop}
use Rattle.scw_code.specs.Jump.{starts_from}
use Rattle.scw_classfile.specs.Code.{code_flaw, instrs_flaw}
use Rattle.scw_classfile.proofs.code_array.instrs_fault.Given as goal

abbrev pub invariant-loop-instr : goal.invariant-loop-instr
invariant-loop-instr l =
    (code_flaw l.context.major l.context.kinds.now l.marks l.instrs ≡ instrs_flaw l.context.major l.context.kinds.now l.marks l.at (drop l.instr-index l.instrs))
    × (l.at + length (starts_from l.at (drop l.instr-index l.instrs)) ≤ length l.marks)
