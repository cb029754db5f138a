use Rattle.std.proofs.Common.{◌≡◌, ◌++◌, take, length}
use Rattle.scw_code.specs.Code.{code_bytes}
use Rattle.scw_code.proofs.encoding.write_code.Given as goal

abbrev pub invariant-loop-instr : goal.invariant-loop-instr
invariant-loop-instr l = record { bytes : l.out.items ≡ l.fn.out.items ++ code_bytes (take l.instr-index l.instrs); begin : l.start ≡ length l.fn.out.items }
