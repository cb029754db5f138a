use Rattle.scw_lex.proofs.NumberLemmas.{value_at_end}
use Rattle.scw_lex.proofs.number.value_of.Goals as goal

pub returns : goal.returns
returns c = value_at_end c.args.radix c.loop-rest.value c.loop-rest.rest.now c.args.digits.now c.in_default.len_below c.loop-rest.invariant.0 c.loop-rest.invariant.1
