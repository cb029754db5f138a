use Rattle.std.proofs.Common.{◌≡◌, length}
use Rattle.std.specs.Str.{chars}
use Rattle.scw_lex.proofs.LexLemmas.{ReadInto}
use Rattle.scw_lex.proofs.lexer.lex.Given as goal

abbrev pub invariant-loop-lexeme : goal.invariant-loop-lexeme
invariant-loop-lexeme l = (l.lexer.file ≡ l.source.file) × ReadInto l.source.file (chars l.source.bytes) l.filter l.lexer.at l.lexer.text.now

abbrev pub decreases-loop-lexeme : goal.decreases-loop-lexeme
decreases-loop-lexeme l = length l.lexer.text.now
