use Rattle.std.proofs.Common.{◌≡◌, ◌-◌, ◌+◌, ◌≤◌, length, get_or, sym, ◌∙◌, ap, arith}
use Rattle.scw_step.specs.TextStep.{part, text_in}
use Rattle.scw_step.proofs.TextLemmas.{putting-more, putting-all, length-part, get-part, text_in-put_unit_other}
use Rattle.scw_step.proofs.text.put_part.Goals as goal

pub loop-i-preserved : goal.loop-i-preserved
loop-i-preserved c =
    let text = text_in c.args.other c.args.heap.now in
    let us = part c.args.from c.args.to text in
    let from : c.args.from ≤ c.loop-i.i = omega arith in
    let l : length us ≡ c.args.to - c.args.from = length-part c.args.from c.args.to text c.requires.ordered c.requires.within in
    let e : c.unit_at-unit.result ≡ get_or us (c.loop-i.i - c.args.from) 0 =
    c.unit_at-unit.ensures ∙ (ap (λ t. get_or t c.loop-i.i 0) c.loop-i.invariant.other ∙ sym (get-part c.args.from c.args.to c.loop-i.i text from c.loop-i-test.true)) in
    let n : c.loop-i.i - c.args.from + 1 ≡ c.loop-i.i + 1 - c.args.from = omega arith in
    record {
      place = omega arith;
      units = rw n at (putting-more us c.loop-i.heap c.put-place.new.heap _ c.args.r c.loop-i.place c.put-place.result (c.loop-i.i - c.args.from) c.unit_at-unit.result c.loop-i.invariant.units (omega arith) e c.put-place.ensures.place c.put-place.ensures.units);
      room = c.put-place.ensures.room ∙ c.loop-i.invariant.room;
      other = ap (text_in c.args.other) c.put-place.ensures.units ∙ (text_in-put_unit_other c.loop-i.heap c.args.r c.loop-i.place c.unit_at-unit.result c.args.other c.requires.other ∙ c.loop-i.invariant.other);
    }

pub returns-clause-units : goal.returns-clause-units
returns-clause-units c =
    putting-all (part c.args.from c.args.to (text_in c.args.other c.args.heap.now)) c.loop-i.heap _ c.args.r c.loop-i.place (c.loop-i.i - c.args.from) c.loop-i.invariant.units
    (omega (arith, length-part c.args.from c.args.to (text_in c.args.other c.args.heap.now) c.requires.ordered c.requires.within))
