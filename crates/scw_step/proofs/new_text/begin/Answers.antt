use Rattle.scw_step.proofs.TextLemmas.{length-made}
use Rattle.scw_step.proofs.new_text.begin.Goals as goal

pub returns-then-can_have-clause-room : goal.returns-then-can_have-clause-room
returns-then-can_have-clause-room c = length-made c.make.result c.args.units c.args.state.now c.make.new.state c.make.ensures.gives
