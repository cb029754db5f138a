use Rattle.std.proofs.Common.{ℕ, List, ◌≡◌, length, get_or, replicate, sym, ◌∙◌, arith}
use Rattle.std.proofs.lemmas.List.{length-replicate, get_or-replicate}
use Rattle.scw_step.proofs.TextLemmas.{putting-more, putting-all}
use Rattle.scw_step.proofs.text.put_brackets.Goals as goal

pub loop-i-preserved : goal.loop-i-preserved
loop-i-preserved c =
    let us : List ℕ = replicate c.args.count 0x5b in
    let l : length us ≡ c.args.count = length-replicate c.args.count 0x5b in
    let e : 0x5b ≡ get_or us c.loop-i.i 0 = sym (get_or-replicate c.args.count c.loop-i.i 0x5b 0 c.loop-i-test.true) in
    record {
      place = omega arith;
      units = putting-more us c.loop-i.heap c.put-place.new.heap _ c.args.r c.loop-i.place c.put-place.result c.loop-i.i 0x5b c.loop-i.invariant.units (omega arith) e c.put-place.ensures.place c.put-place.ensures.units;
      room = c.put-place.ensures.room ∙ c.loop-i.invariant.room;
    }

pub returns-clause-units : goal.returns-clause-units
returns-clause-units c =
    putting-all (replicate c.args.count 0x5b) c.loop-i.heap _ c.args.r c.loop-i.place c.loop-i.i c.loop-i.invariant.units (omega (arith, length-replicate {A = ℕ}))
