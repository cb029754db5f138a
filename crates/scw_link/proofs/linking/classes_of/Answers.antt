use Rattle.std.proofs.Common.{map}
use Rattle.scw_link.proofs.ListLemmas.{range_more}
use Rattle.scw_link.specs.SiteView.{selector_view}
use Rattle.scw_link.specs.Linked.{class_at}
use Rattle.scw_link.proofs.linking.classes_of.Goals as goal

pub loop-class-preserved : goal.loop-class-preserved
loop-class-preserved c = range_more (class_at c.args.files.now c.args.parents.now (map selector_view c.args.selectors.now) c.args.rows.now) c.loop-class.class c.loop-class.classes c.push.new.self _ c.loop-class.invariant c.in_ok-class_at.ensures c.in_ok-push.ensures.ok
