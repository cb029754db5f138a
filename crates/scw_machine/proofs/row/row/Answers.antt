use Rattle.scw_machine.proofs.RunLemmas.{more-put, fails-put, short-of}
use Rattle.scw_machine.proofs.row.row.Goals as goal

pub returns-in-Ok-clause-turned : goal.returns-in-Ok-clause-turned
returns-in-Ok-clause-turned g c =
    more-put _ _ _ _ _ _ _ _ _ _ _ _ (rw c.in-Ok-None.field-0-is at c.in-Ok-None.ensures.turned) c.in-Ok.ensures.ok c.in-Ok.ensures.left c.in-Ok.ensures.empty

pub returns-in-Err-flush-clause-turned : goal.returns-in-Err-flush-clause-turned
returns-in-Err-flush-clause-turned g c =
    fails-put _ _ _ _ _ _ _ _ _ _ (rw c.in-Ok-None.field-0-is at c.in-Ok-None.ensures.turned) c.in-Err-flush.ensures.part (short-of _ _ c.in-Err-flush.ensures.sure)
