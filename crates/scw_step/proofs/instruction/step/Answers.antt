use Rattle.std.proofs.Common.{◌≡◌, Some, rules}
use Rattle.scw_step.specs.declared.state.State.{State}
use Rattle.scw_step.specs.CallStep.{fetched}
use Rattle.scw_step.specs.Step.{stepping}
use Rattle.scw_step.proofs.instruction.step.Goals as goal

pub returns-in-Err-Throws : goal.returns-in-Err-Throws
unfolding stepping
returns-in-Err-Throws c =
    let s : State = c.args.state.now in
    let there : fetched c.args.program.now s.frames ≡ Some c.in_ok-instruction.instruction = search rules in
    let done = rw (c.in-Err-Throws.is, c.in-Err-Throws.field-0-is) at c.execute.ensures in
    rw (there, done.0, ← done.1) (rw (← c.clear.ensures) c.raise.ensures)
