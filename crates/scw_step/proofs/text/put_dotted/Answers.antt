use Rattle.std.proofs.Common.{◌≡◌, length, get_or, map, sym, ◌∙◌, arith}
use Rattle.std.proofs.lemmas.List.{length-map, get_or-map}
use Rattle.scw_step.specs.TextStep.{dotted}
use Rattle.scw_step.proofs.TextLemmas.{putting-more, putting-all}
use Rattle.scw_step.proofs.text.put_dotted.Goals as goal

pub loop-unit-preserved : goal.loop-unit-preserved
loop-unit-preserved c =
    let i = c.loop-unit.unit-index in
    let l : length (map dotted c.args.units.now) ≡ length c.args.units.now = length-map c.args.units.now dotted in
    let e : c.dotted.result ≡ get_or (map dotted c.args.units.now) i 0 =
    c.dotted.ensures ∙ sym (get_or-map dotted c.args.units.now i 0 0 c.loop-unit-test.true) in
    record {
      place = omega arith;
      units = putting-more (map dotted c.args.units.now) c.loop-unit.heap c.put-place.new.heap _ c.args.r c.loop-unit.place c.put-place.result i c.dotted.result c.loop-unit.invariant.units (omega arith) e c.put-place.ensures.place c.put-place.ensures.units;
      room = c.put-place.ensures.room ∙ c.loop-unit.invariant.room;
    }

pub returns-clause-units : goal.returns-clause-units
returns-clause-units c =
    putting-all (map dotted c.args.units.now) c.loop-unit.heap _ c.args.r c.loop-unit.place c.loop-unit.unit-index c.loop-unit.invariant.units (omega (arith, length-map c.args.units.now dotted))
