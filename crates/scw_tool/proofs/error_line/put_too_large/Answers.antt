use Rattle.scw_tool.proofs.PutLemmas.{two_put}
use Rattle.scw_tool.proofs.error_line.put_too_large.Goals as goal

pub returns-clause-done : goal.returns-clause-done
returns-clause-done g c =
    two_put _ _ _ c.put_three-2.result _ _ (rw (c.as_bytes.ensures.value, c.kind_name.ensures) at c.in_ok-put_three.ensures.done)
    (rw (c.as_bytes-2.ensures.value, c.format.ensures.text) at c.put_three-2.ensures.done)
