use Rattle.std.proofs.Common.{rules, arith, map}
use Rattle.std.proofs.lemmas.Grind.{common_steps}
use Rattle.scw_reader.specs.ReadingSource.{before_from}
use Rattle.scw_reader.specs.View.{method_of}
use Rattle.scw_reader.proofs.TurnLemmas.{one_more, no_more}
use Rattle.scw_reader.proofs.method.read_before.Goals as goal

pub returns-in_err-expect_word : goal.returns-in_err-expect_word
unfolding before_from
returns-in_err-expect_word c =
    let e = one_more (λ n. before_from n (map method_of c.loop-turn.found.items) c.loop-turn.tokens.rest.now) _ c.loop-turn._turn c.loop-turn-test.true c.loop-turn.invariant in
    first_of (search rules, grind (arith, common_steps))

pub returns-then-eat_word : goal.returns-then-eat_word
unfolding before_from
returns-then-eat_word c =
    let e = one_more (λ n. before_from n (map method_of c.loop-turn.found.items) c.loop-turn.tokens.rest.now) _ c.loop-turn._turn c.loop-turn-test.true c.loop-turn.invariant in
    first_of (search rules, grind (arith, common_steps))

pub returns-in_err-method : goal.returns-in_err-method
unfolding before_from
returns-in_err-method c =
    let e = one_more (λ n. before_from n (map method_of c.loop-turn.found.items) c.loop-turn.tokens.rest.now) _ c.loop-turn._turn c.loop-turn-test.true c.loop-turn.invariant in
    first_of (search rules, grind (arith, common_steps))

pub returns-in_err-expect_sign : goal.returns-in_err-expect_sign
unfolding before_from
returns-in_err-expect_sign c =
    let e = one_more (λ n. before_from n (map method_of c.loop-turn.found.items) c.loop-turn.tokens.rest.now) _ c.loop-turn._turn c.loop-turn-test.true c.loop-turn.invariant in
    first_of (search rules, grind (arith, common_steps))

pub loop-turn-preserved : goal.loop-turn-preserved
unfolding before_from
loop-turn-preserved c =
    let e = one_more (λ n. before_from n (map method_of c.loop-turn.found.items) c.loop-turn.tokens.rest.now) _ c.loop-turn._turn c.loop-turn-test.true c.loop-turn.invariant in
    first_of (search rules, grind (arith, common_steps))

pub returns : goal.returns
unfolding before_from
returns c =
    let e = no_more (λ n. before_from n (map method_of c.loop-turn.found.items) c.loop-turn.tokens.rest.now) _ c.loop-turn._turn c.loop-turn-test.false c.loop-turn.invariant in
    first_of (search rules, grind (arith, common_steps))
