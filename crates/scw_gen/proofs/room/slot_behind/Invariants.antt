use Rattle.std.proofs.Common.{◌≡◌, drop}
use Rattle.scw_gen.specs.Around.{around_of}
use Rattle.scw_gen.specs.Room.{slot_behind}
use Rattle.scw_gen.proofs.room.slot_behind.Given as goal

abbrev pub invariant-loop-x : goal.invariant-loop-x
invariant-loop-x l = slot_behind (around_of l.g) l.next (drop l.x-index l.locals) ≡ slot_behind (around_of l.g) l.fn.next l.locals
