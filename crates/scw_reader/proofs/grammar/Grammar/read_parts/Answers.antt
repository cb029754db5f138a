use Rattle.std.proofs.Common.{rules, arith, map}
use Rattle.std.proofs.lemmas.Grind.{common_steps}
use Rattle.scw_reader.specs.Reading.{expression_at, parts_from}
use Rattle.scw_reader.specs.declared.tree.Atom.{the_lemmas}
use Rattle.scw_reader.specs.View.{statement_of}
use Rattle.scw_reader.proofs.TurnLemmas.{one_more, no_more}
use Rattle.scw_reader.proofs.grammar.Grammar.read_parts.Goals as goal

pub returns-in_err-statement : goal.returns-in_err-statement
unfolding parts_from
returns-in_err-statement g c =
    let e = one_more (λ n. parts_from (expression_at c.args.self.now.levels) n (map statement_of c.loop-turn.found.items) c.loop-turn.tokens.rest.now) _ c.loop-turn._turn c.loop-turn-test.true c.loop-turn.invariant in
    first_of (search rules, grind (arith, common_steps))

pub returns-in-Last : goal.returns-in-Last
unfolding parts_from
returns-in-Last g c =
    let e = one_more (λ n. parts_from (expression_at c.args.self.now.levels) n (map statement_of c.loop-turn.found.items) c.loop-turn.tokens.rest.now) _ c.loop-turn._turn c.loop-turn-test.true c.loop-turn.invariant in
    first_of (search rules, grind (arith, common_steps), search (rules, the_lemmas), grind (arith, common_steps, the_lemmas))

pub loop-turn-preserved : goal.loop-turn-preserved
unfolding parts_from
loop-turn-preserved g c =
    let e = one_more (λ n. parts_from (expression_at c.args.self.now.levels) n (map statement_of c.loop-turn.found.items) c.loop-turn.tokens.rest.now) _ c.loop-turn._turn c.loop-turn-test.true c.loop-turn.invariant in
    first_of (search rules, grind (arith, common_steps))

pub returns : goal.returns
unfolding parts_from
returns g c =
    let e = no_more (λ n. parts_from (expression_at c.args.self.now.levels) n (map statement_of c.loop-turn.found.items) c.loop-turn.tokens.rest.now) _ c.loop-turn._turn c.loop-turn-test.false c.loop-turn.invariant in
    first_of (search rules, grind (arith, common_steps))
