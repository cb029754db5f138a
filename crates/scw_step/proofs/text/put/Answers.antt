use Rattle.std.proofs.Common.{arith}
use Rattle.scw_step.specs.TextStep.{put_unit}
use Rattle.scw_step.proofs.TextLemmas.{word-text_in, narrow-text_in, length-put_unit}
use Rattle.scw_step.proofs.text.put.Goals as goal

pub set-requires-clause-within : goal.set-requires-clause-within
set-requires-clause-within c = word-text_in c.args.heap.now c.args.r c.args.i c.requires.room

pub set-requires-clause-narrow : goal.set-requires-clause-narrow
set-requires-clause-narrow c =
    narrow-text_in c.args.heap.now c.args.r c.args.i c.args.unit c.requires.room (omega arith)

pub returns-clause-units : goal.returns-clause-units
unfolding put_unit
returns-clause-units c = c.set.ensures

pub returns-clause-room : goal.returns-clause-room
unfolding put_unit
returns-clause-room c =
    rw c.set.ensures (length-put_unit c.args.heap.now c.args.r c.args.i c.args.unit c.requires.room)
