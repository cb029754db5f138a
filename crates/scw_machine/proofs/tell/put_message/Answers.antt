use Rattle.std.proofs.Common.{[]}
use Rattle.std.specs.Prelude.{codes}
use Rattle.scw_heap.specs.Heap.{words_at}
use Rattle.scw_value.specs.Text.{utf8}
use Rattle.scw_machine.proofs.OutputLemmas.{parted-none, part-front, room-front, on_err, room-never}
use Rattle.scw_machine.proofs.RunLemmas.{parted-all}
use Rattle.scw_machine.proofs.TellLemmas.{message-none, message-some, last-parted, last-part, last-room}
use Rattle.scw_machine.proofs.tell.put_message.Goals as goal

pub returns-then-not-is_text-clause-parted : goal.returns-then-not-is_text-clause-parted
returns-then-not-is_text-clause-parted g c =
    rw (message-none c.args.heap.now.objects c.args.message (c.is_text.ensures.message c.if-not-is_text.true)) (parted-none (g.O.Sink.taken c.args.out.now) (g.O.Sink.room c.args.out.now) [])

pub returns-in_err-put_all-clause-part : goal.returns-in_err-put_all-clause-part
returns-in_err-put_all-clause-part g c =
    on_err c.from_residual.result (rw (← message-some c.args.heap.now.objects c.args.message (c.is_text.ensures.text c.if-not-is_text.false))
    (part-front _ _ (codes ": ") (utf8 (words_at c.args.heap.now.objects c.args.message)) c.in_err-put_all.ensures.part))

pub returns-in_err-put_all-clause-sure : goal.returns-in_err-put_all-clause-sure
returns-in_err-put_all-clause-sure g c =
    room-never _ _ _ (rw (← message-some c.args.heap.now.objects c.args.message (c.is_text.ensures.text c.if-not-is_text.false))
    (room-front _ _ (codes ": ") (utf8 (words_at c.args.heap.now.objects c.args.message)) c.in_err-put_all.ensures.sure))

pub returns-clause-parted : goal.returns-clause-parted
returns-clause-parted g c =
    last-parted c.put_text.result _ _ _ _ _ _ (codes ": ") (utf8 (words_at c.args.heap.now.objects c.args.message)) _
    (parted-all _ _ _ _ _ c.in_ok-put_all.ensures.done c.in_ok-put_all.ensures.left)
    (message-some c.args.heap.now.objects c.args.message (c.is_text.ensures.text c.if-not-is_text.false)) c.put_text.ensures.parted

pub returns-clause-part : goal.returns-clause-part
returns-clause-part g c =
    last-part c.put_text.result _ _ _ _ _ (codes ": ") (utf8 (words_at c.args.heap.now.objects c.args.message)) _
    (parted-all _ _ _ _ _ c.in_ok-put_all.ensures.done c.in_ok-put_all.ensures.left)
    (message-some c.args.heap.now.objects c.args.message (c.is_text.ensures.text c.if-not-is_text.false)) c.put_text.ensures.part

pub returns-clause-sure : goal.returns-clause-sure
returns-clause-sure g c =
    last-room _ _ _ _ _ (codes ": ") (utf8 (words_at c.args.heap.now.objects c.args.message)) _
    (parted-all _ _ _ _ _ c.in_ok-put_all.ensures.done c.in_ok-put_all.ensures.left)
    (message-some c.args.heap.now.objects c.args.message (c.is_text.ensures.text c.if-not-is_text.false)) c.put_text.ensures.sure
