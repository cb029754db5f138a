-- The tokens of a text, with the newlines that end statements: SLS 1.
use Rattle.std.specs.Prelude.{ℕ, List}
use Rattle.scw_lex.specs.declared.token.Token.{Token}
use Rattle.scw_lex.specs.declared.token.Lexeme.{Lexeme}
use Rattle.scw_lex.specs.Lexing.{Lexes}
use Rattle.scw_lex.specs.Newline.{WithNewlines}

-- the text of the source with this number has these tokens: those that stand in it, with the newlines between them
pub record HasTokens (file : ℕ) (text : List ℕ) (tokens : List Token) : Type 0 where
  pub lexemes : List Lexeme
  pub lexes : Lexes file 0 text lexemes
  pub filled : WithNewlines lexemes tokens
