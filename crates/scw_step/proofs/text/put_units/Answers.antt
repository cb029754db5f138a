use Rattle.std.proofs.Common.{refl, ◌∙◌, arith}
use Rattle.scw_step.proofs.TextLemmas.{putting-more, putting-all}
use Rattle.scw_step.proofs.text.put_units.Goals as goal

pub loop-unit-preserved : goal.loop-unit-preserved
loop-unit-preserved c = record {
  place = omega arith;
  units = putting-more c.args.units.now c.loop-unit.heap c.put-place.new.heap _ c.args.r c.loop-unit.place c.put-place.result c.loop-unit.unit-index _ c.loop-unit.invariant.units c.loop-unit-test.true refl c.put-place.ensures.place c.put-place.ensures.units;
  room = c.put-place.ensures.room ∙ c.loop-unit.invariant.room;
}

pub returns-clause-units : goal.returns-clause-units
returns-clause-units c =
    putting-all c.args.units.now c.loop-unit.heap _ c.args.r c.loop-unit.place c.loop-unit.unit-index c.loop-unit.invariant.units (omega arith)
