use Rattle.scw_link.proofs.ListLemmas.{range_more}
use Rattle.scw_link.specs.AncestorRows.{next_bit}
use Rattle.scw_link.proofs.ancestors.next_row.Goals as goal

pub loop-d-preserved : goal.loop-d-preserved
loop-d-preserved c = range_more (next_bit c.args.rows.now c.args.supers.now c.args.c) c.loop-d.d c.loop-d.row c.push.new.self _ c.loop-d.invariant c.next_bit.ensures c.in_ok-push.ensures.ok
