use Rattle.std.proofs.Common.{◌≡◌, drop}
use Rattle.scw_gen.specs.Around.{around_of}
use Rattle.scw_gen.specs.Named.{with_instrs}
use Rattle.scw_gen.proofs.named.with_instrs.Given as goal

abbrev pub invariant-loop-instr : goal.invariant-loop-instr
invariant-loop-instr l = with_instrs (around_of l.g) l.pool (drop l.instr-index l.instrs) ≡ with_instrs (around_of l.g) l.initial.pool l.instrs
