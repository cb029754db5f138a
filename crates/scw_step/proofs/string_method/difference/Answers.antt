use Rattle.std.proofs.Common.{◌≡◌, ◌⊎◌, Some, ap, sym, ◌∙◌, inl, inr, arith}
use Rattle.scw_step.specs.TextStep.{text_in}
use Rattle.scw_step.proofs.StringLemmas.{difference-same, difference-here, difference-end}
use Rattle.scw_step.proofs.string_method.difference.Goals as goal
use Rattle.scw_step.proofs.string_method.difference.Goals.{then-m-n, else-m-n}

pub returns-then-x-y : goal.returns-then-x-y
returns-then-x-y c =
    let h = difference-here (text_in c.args.a c.args.heap.now) (text_in c.args.b c.args.heap.now) c.loop-i.i c.unit_at-x.result c.unit_at-y.result (omega arith) (omega arith) c.unit_at-x.ensures c.unit_at-y.ensures c.if-x-y.true in
    sym (c.loop-i.invariant ∙ (h ∙ ap Some (sym c.int_computed.ensures)))

pub loop-i-preserved : goal.loop-i-preserved
loop-i-preserved c =
    c.loop-i.invariant ∙ difference-same (text_in c.args.a c.args.heap.now) (text_in c.args.b c.args.heap.now) c.loop-i.i c.unit_at-x.result c.unit_at-y.result (omega arith) (omega arith) c.unit_at-x.ensures c.unit_at-y.ensures c.if-x-y.false

pub returns : goal.returns
returns c =
    let e : (c.if-m-n.both ≡ c.args.m) ⊎ (c.if-m-n.both ≡ c.args.n) = elim c.if-m-n.branch [ then-m-n w ↦ inl w.both-is | else-m-n w ↦ inr w.both-is ] in
    sym (c.loop-i.invariant ∙ difference-end (text_in c.args.a c.args.heap.now) (text_in c.args.b c.args.heap.now) c.loop-i.i c.args.m c.args.n c.if-m-n.both c.requires.first c.requires.second (omega arith) e)
