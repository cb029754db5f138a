use Rattle.std.proofs.Common.{◌≡◌, ◌+◌, ◌-◌, ◌^◌, ◌≤◌, min, drop}
use Rattle.scw_gen.specs.Instr.{bytes_of}
use Rattle.scw_gen.proofs.instr.bytes_of.Given as goal

abbrev pub invariant-loop-instr : goal.invariant-loop-instr
invariant-loop-instr l = record {
  small : l.bytes ≤ 2 ^ 64 - 1;
  whole : min (l.bytes + bytes_of (drop l.instr-index l.instrs)) (2 ^ 64 - 1) ≡ min (bytes_of l.instrs) (2 ^ 64 - 1);
}
