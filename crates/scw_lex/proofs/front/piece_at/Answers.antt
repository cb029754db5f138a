use Rattle.scw_lex.proofs.NameLemmas.{word_at_front, digit_at_front}
use Rattle.scw_lex.proofs.front.piece_at.Goals as goal

pub name_piece-requires-clause-any : goal.name_piece-requires-clause-any
name_piece-requires-clause-any c = word_at_front c.args.text.now c.c-item.result c.in-len1-up.len_at_least c.c-item.is c.in-Letter.ensures

pub number_piece-requires-clause-digit : goal.number_piece-requires-clause-digit
number_piece-requires-clause-digit c = digit_at_front c.args.text.now c.c-item.result c.in-len1-up.len_at_least c.c-item.is c.in-Digit.ensures
