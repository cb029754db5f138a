use Rattle.std.proofs.Common.{rules, arith}
use Rattle.std.proofs.lemmas.Grind.{common_steps}
use Rattle.scw_reader.specs.declared.token.Sign.TheVariants as s
use Rattle.scw_reader.specs.Parser.{chain, chain_from}
use Rattle.scw_reader.specs.ReadingSource.{parameter_at}
use Rattle.scw_reader.proofs.TurnLemmas.{one_more, no_more}
use Rattle.scw_reader.proofs.method.read_more_parameters.Goals as goal

pub loop-turn-init : goal.loop-turn-init
unfolding chain
loop-turn-init c = first_of (search rules, grind (arith, common_steps))

pub returns-in_err-read_parameter : goal.returns-in_err-read_parameter
unfolding chain_from
returns-in_err-read_parameter c =
    let e = one_more (λ n. chain_from s.Comma parameter_at n c.loop-turn.found.items c.loop-turn.tokens.rest.now) _ c.loop-turn._turn c.loop-turn-test.true c.loop-turn.invariant in
    first_of (search rules, grind (arith, common_steps))

pub returns-then-not-eat_sign : goal.returns-then-not-eat_sign
unfolding chain_from
returns-then-not-eat_sign c =
    let e = one_more (λ n. chain_from s.Comma parameter_at n c.loop-turn.found.items c.loop-turn.tokens.rest.now) _ c.loop-turn._turn c.loop-turn-test.true c.loop-turn.invariant in
    first_of (search rules, grind (arith, common_steps))

pub loop-turn-preserved : goal.loop-turn-preserved
unfolding chain_from
loop-turn-preserved c =
    let e = one_more (λ n. chain_from s.Comma parameter_at n c.loop-turn.found.items c.loop-turn.tokens.rest.now) _ c.loop-turn._turn c.loop-turn-test.true c.loop-turn.invariant in
    first_of (search rules, grind (arith, common_steps))

pub returns : goal.returns
unfolding chain_from
returns c =
    let e = no_more (λ n. chain_from s.Comma parameter_at n c.loop-turn.found.items c.loop-turn.tokens.rest.now) _ c.loop-turn._turn c.loop-turn-test.false c.loop-turn.invariant in
    first_of (search rules, grind (arith, common_steps))
