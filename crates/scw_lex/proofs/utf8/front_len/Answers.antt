use Rattle.std.proofs.Common.{arith}
use Rattle.scw_lex.proofs.BytesLemmas.{front_fits, front_and_rest}
use Rattle.scw_lex.proofs.utf8.front_len.Goals as goal

pub byte_len-requires : goal.byte_len-requires
byte_len-requires c = front_fits c.args.count c.args.text.now c.split_at.result.0.now c.split_at.ensures.front c.requires.fits

pub returns-clause-rest : goal.returns-clause-rest
returns-clause-rest c = rw (c.byte_len.ensures, c.split_at.ensures.front) (front_and_rest c.args.count c.args.text.now)

pub overflow_cast-result : goal.overflow_cast-result
overflow_cast-result c =
    let b = front_and_rest c.args.count c.args.text.now in
    rw (c.byte_len.ensures, c.split_at.ensures.front) (omega (arith, b, c.requires.fits))
