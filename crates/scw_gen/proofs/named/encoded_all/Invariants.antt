use Rattle.std.proofs.Common.{◌≡◌, [], drop}
use Rattle.scw_gen.specs.Around.{around_of}
use Rattle.scw_gen.specs.Named.{encoded_from}
use Rattle.scw_gen.proofs.named.encoded_all.Given as goal

abbrev pub invariant-loop-instr : goal.invariant-loop-instr
invariant-loop-instr l = encoded_from (around_of l.g) l.code (drop l.instr-index l.instrs) ≡ encoded_from (around_of l.g) [] l.instrs
