use Rattle.std.proofs.Common.{refl, nat_eq}
use Rattle.scw_link.proofs.ListLemmas.{range_more}
use Rattle.scw_link.proofs.ancestors.first_row.Goals as goal

pub loop-d-preserved : goal.loop-d-preserved
loop-d-preserved c = range_more (λ d. nat_eq c.args.c d) c.loop-d.d c.loop-d.row c.push.new.self _ c.loop-d.invariant refl c.in_ok-push.ensures.ok
