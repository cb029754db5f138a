use Rattle.std.proofs.Common.{append-nil}
use Rattle.scw_machine.proofs.OutputLemmas.{parted-none, said_by-text}
use Rattle.scw_machine.proofs.row.say.Goals as goal

pub returns-then-is_said-clause-parted : goal.returns-then-is_said-clause-parted
returns-then-is_said-clause-parted g c = rw (said_by-text c.args.heap.now.objects c.args.r (c.is_said.ensures.text c.if-is_said.true)) c.add_text.ensures.parted

pub returns-then-is_said-clause-part : goal.returns-then-is_said-clause-part
returns-then-is_said-clause-part g c = rw (said_by-text c.args.heap.now.objects c.args.r (c.is_said.ensures.text c.if-is_said.true)) c.add_text.ensures.part

pub returns-then-is_said-clause-sure : goal.returns-then-is_said-clause-sure
returns-then-is_said-clause-sure g c = rw (said_by-text c.args.heap.now.objects c.args.r (c.is_said.ensures.text c.if-is_said.true)) c.add_text.ensures.sure

pub returns-clause-parted : goal.returns-clause-parted
returns-clause-parted g c =
    rw (c.is_said.ensures.other c.if-is_said.false, append-nil)
    (parted-none (g.O.Sink.taken c.args.out.now) (g.O.Sink.room c.args.out.now) c.args.output.now)
