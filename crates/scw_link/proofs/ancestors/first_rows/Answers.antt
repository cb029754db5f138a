use Rattle.scw_link.proofs.ListLemmas.{range_more}
use Rattle.scw_link.specs.Ancestors.{reached}
use Rattle.scw_link.proofs.ancestors.first_rows.Goals as goal

pub loop-c-preserved : goal.loop-c-preserved
loop-c-preserved c = range_more (reached c.args.supers.now 0) c.loop-c.c c.loop-c.rows c.push.new.self _ c.loop-c.invariant c.in_ok-first_row.ensures c.in_ok-push.ensures.ok
