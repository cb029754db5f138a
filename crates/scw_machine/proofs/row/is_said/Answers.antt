use Rattle.scw_machine.proofs.OutputLemmas.{said_by-other}
use Rattle.scw_machine.proofs.row.is_said.Goals as goal

pub returns-else-r-eq0-clause-other : goal.returns-else-r-eq0-clause-other
returns-else-r-eq0-clause-other c = λ no. said_by-other c.args.heap.now.objects c.args.r c.if-r-eq0.false (c.is_text.ensures.other no)
