use Rattle.scw_classfile.proofs.PoolLemmas.{text_gives, text_fails}
use Rattle.scw_classfile.proofs.pool.units_in.Goals as goal

pub returns-in-Ok : goal.returns-in-Ok
returns-in-Ok c = λ rest. text_gives c.args.left c.args.front.now rest c.in-Ok.units c.in-Ok.ensures.read

pub returns-in-Err : goal.returns-in-Err
returns-in-Err c = λ rest. rw c.text_fault.ensures (text_fails c.args.left c.args.front.now rest c.in-Err.fault c.requires c.in-Err.ensures.read)
