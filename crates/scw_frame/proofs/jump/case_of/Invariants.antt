use Rattle.std.proofs.Common.{◌≡◌, drop}
use Rattle.scw_frame.specs.JumpStep.{case_of}
use Rattle.scw_frame.proofs.jump.case_of.Given as goal

abbrev pub invariant-loop-case : goal.invariant-loop-case
invariant-loop-case l = case_of l.key l.cases ≡ case_of l.key (drop l.case-index l.cases)
