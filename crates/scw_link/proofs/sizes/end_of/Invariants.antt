use Rattle.std.proofs.Common.{◌≡◌, drop}
use Rattle.scw_link.specs.Sizes.{end_of}
use Rattle.scw_link.proofs.sizes.end_of.Given as goal

abbrev pub invariant-loop-instr : goal.invariant-loop-instr
invariant-loop-instr l = end_of 0 l.instrs ≡ end_of l.place (drop l.instr-index l.instrs)
