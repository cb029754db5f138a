use Rattle.std.proofs.Common.{arith, length-drop}
use Rattle.std.proofs.lemmas.List.{take_rest}
use Rattle.scw_outside.proofs.PutsLemmas.{append_known-take, room-lowered}
use Rattle.scw_outside.proofs.puts.put_all.Goals as goal

pub loop-count-preserved : goal.loop-count-preserved
loop-count-preserved g c = record {
  within = let most = rw (take_rest c.args.bytes.now c.loop-count.count, length-drop c.loop-count.count c.args.bytes.now) at c.in_ok-count.ensures.some.1 in omega arith;
  taken = append_known-take _ _ _ c.args.bytes.now c.loop-count.count c.in_ok-count.field-0 c.loop-count.invariant.taken (rw (take_rest c.args.bytes.now c.loop-count.count) at c.in_ok-count.ensures.front);
  room = room-lowered _ _ _ c.loop-count.count c.in_ok-count.field-0 c.loop-count.invariant.room c.in_ok-count.ensures.left;
  later = omega (arith, c.loop-count.invariant.later, c.in_ok-count.ensures.cause.later);
}
