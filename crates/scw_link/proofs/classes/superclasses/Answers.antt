use Rattle.std.proofs.Common.{length}
use Rattle.scw_link.proofs.ClassLemmas.{line_more}
use Rattle.scw_link.proofs.classes.superclasses.Goals as goal

pub loop-preserved : goal.loop-preserved
loop-preserved c = rw c.in_ok-push.ensures.ok (line_more c.args.parents.now (length c.args.parents.now) c.loop.counter c.loop.next c.in-Some.parent c.loop.line _ c.loop-test.true c.in-Some.ensures c.loop.invariant)
