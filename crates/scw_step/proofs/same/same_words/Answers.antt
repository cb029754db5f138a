use Rattle.std.proofs.Common.{sym, ◌∙◌, arith}
use Rattle.scw_heap.specs.Heap.{words_at}
use Rattle.scw_step.proofs.BoxLemmas.{same_words-next, same_words-differ, same_words-end, same_words-lengths}
use Rattle.scw_step.proofs.same.same_words.Goals as goal

pub returns-then-m-n : goal.returns-then-m-n
returns-then-m-n c =
    sym (same_words-lengths (words_at c.args.heap.now.objects c.args.a) (words_at c.args.heap.now.objects c.args.b) (λ q. c.if-m-n.true (omega arith)))

pub returns-then-x-y : goal.returns-then-x-y
returns-then-x-y c =
    sym (c.loop-i.invariant ∙ same_words-differ (words_at c.args.heap.now.objects c.args.a) (words_at c.args.heap.now.objects c.args.b) c.loop-i.i c.get-x.result c.get-y.result (omega arith) (omega arith) c.get-x.ensures.value c.get-y.ensures.value c.if-x-y.true)

pub loop-i-preserved : goal.loop-i-preserved
loop-i-preserved c =
    c.loop-i.invariant ∙ same_words-next (words_at c.args.heap.now.objects c.args.a) (words_at c.args.heap.now.objects c.args.b) c.loop-i.i c.get-x.result c.get-y.result (omega arith) (omega arith) c.get-x.ensures.value c.get-y.ensures.value c.if-x-y.false

pub returns : goal.returns
returns c =
    sym (c.loop-i.invariant ∙ same_words-end (words_at c.args.heap.now.objects c.args.a) (words_at c.args.heap.now.objects c.args.b) c.loop-i.i (omega arith) (omega arith))
