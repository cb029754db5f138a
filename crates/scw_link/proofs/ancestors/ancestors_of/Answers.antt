use Rattle.std.proofs.Common.{ap, sym, ◌∙◌, arith}
use Rattle.scw_link.proofs.AncestorLemmas.{rows-next, rows-settled}
use Rattle.scw_link.specs.AncestorRows.{next_rows}
use Rattle.scw_link.proofs.ancestors.ancestors_of.Goals as goal

pub loop-preserved : goal.loop-preserved
loop-preserved c = c.in_ok-next.ensures ∙ (ap (next_rows c.args.supers.now) (c.as_slice.ensures ∙ c.loop.invariant) ∙ rows-next c.args.supers.now c.loop.counter)

pub returns-then-same_rows : goal.returns-then-same_rows
returns-then-same_rows c =
    let made = c.in_ok-next.ensures ∙ ap (next_rows c.args.supers.now) c.as_slice.ensures in
    let same = sym c.as_slice-in-loop.ensures ∙ (c.same_rows.ensures c.if-same_rows.true ∙ c.as_slice-in-loop-2.ensures) in
    rows-settled c.args.supers.now c.loop.rows c.in_ok-next.next c.loop.counter (omega arith) c.loop.invariant made same
