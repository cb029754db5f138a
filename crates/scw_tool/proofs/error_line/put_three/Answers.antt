use Rattle.scw_tool.proofs.PutLemmas.{three_put}
use Rattle.scw_tool.proofs.error_line.put_three.Goals as goal

pub returns-clause-done : goal.returns-clause-done
returns-clause-done g c = three_put _ _ _ _ c.put_all-3.result c.args.first.now c.args.second.now c.args.third.now c.in_ok-put_all.ensures.done c.in_ok-put_all-2.ensures.done c.put_all-3.ensures.done
