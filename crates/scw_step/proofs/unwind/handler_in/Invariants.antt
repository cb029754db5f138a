use Rattle.std.proofs.Common.{◌≡◌, drop}
use Rattle.scw_step.specs.UnwindStep.{handler_in}
use Rattle.scw_step.proofs.unwind.handler_in.Given as goal

abbrev pub invariant-loop-guard : goal.invariant-loop-guard
invariant-loop-guard l = handler_in l.program l.guards l.place l.class ≡ handler_in l.program (drop l.guard-index l.guards) l.place l.class
