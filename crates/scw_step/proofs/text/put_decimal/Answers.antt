use Rattle.std.proofs.Common.{◌≡◌, get_or, ◌∙◌, arith}
use Rattle.scw_step.proofs.TextLemmas.{putting-more, putting-all}
use Rattle.scw_step.proofs.text.put_decimal.Goals as goal

pub loop-i-preserved : goal.loop-i-preserved
loop-i-preserved c =
    let us = c.args.number.now in
    let e : c.from.result ≡ get_or us c.loop-i.i 0 = c.from.ensures ∙ c.at.ensures.value in
    record {
      place = omega arith;
      units = putting-more us c.loop-i.heap c.put-place.new.heap _ c.args.r c.loop-i.place c.put-place.result c.loop-i.i c.from.result c.loop-i.invariant.units (omega arith) e c.put-place.ensures.place c.put-place.ensures.units;
      room = c.put-place.ensures.room ∙ c.loop-i.invariant.room;
    }

pub returns-clause-units : goal.returns-clause-units
returns-clause-units c =
    putting-all c.args.number.now c.loop-i.heap _ c.args.r c.loop-i.place c.loop-i.i c.loop-i.invariant.units (omega arith)
