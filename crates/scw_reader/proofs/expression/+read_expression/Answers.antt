use Rattle.std.proofs.Common.{◌≡◌, ap, arith}
use Rattle.scw_reader.specs.Reading.{expression_at}
use Rattle.scw_reader.proofs.TurnLemmas.{deeper}
use Rattle.scw_reader.proofs.expression.+read_expression.Goals as goal

pub returns-then-levels-eq0 : goal.returns-then-levels-eq0
unfolding expression_at
returns-then-levels-eq0 t c = let none : c.args.levels ≡ 0 = omega arith in ap (λ n. expression_at n c.args.tokens.now.rest.now) none

pub returns : goal.returns
unfolding expression_at
returns t c = rw (deeper (λ n. expression_at n c.args.tokens.now.rest.now) c.args.levels (omega arith)) c.read_level.ensures
