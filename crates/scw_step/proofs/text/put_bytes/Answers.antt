use Rattle.std.proofs.Common.{◌∙◌, arith}
use Rattle.scw_step.proofs.TextLemmas.{putting-more, putting-all}
use Rattle.scw_step.proofs.text.put_bytes.Goals as goal

pub loop-byte-preserved : goal.loop-byte-preserved
loop-byte-preserved c = record {
  place = omega arith;
  units = putting-more c.args.bytes.now c.loop-byte.heap c.put-place.new.heap _ c.args.r c.loop-byte.place c.put-place.result c.loop-byte.byte-index c.from.result c.loop-byte.invariant.units c.loop-byte-test.true c.from.ensures c.put-place.ensures.place c.put-place.ensures.units;
  room = c.put-place.ensures.room ∙ c.loop-byte.invariant.room;
}

pub returns-clause-units : goal.returns-clause-units
returns-clause-units c =
    putting-all c.args.bytes.now c.loop-byte.heap _ c.args.r c.loop-byte.place c.loop-byte.byte-index c.loop-byte.invariant.units (omega arith)
