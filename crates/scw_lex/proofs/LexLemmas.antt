-- How the tokens of a source are read, with the newlines among them.
use Rattle.std.proofs.Common.{ℕ, List, [], ◌∷◌, ◌++◌}
use Rattle.scw_lex.specs.declared.token.Token.{Token}
use Rattle.scw_lex.specs.declared.token.Lexeme.{Lexeme}
use Rattle.scw_lex.specs.declared.newline.NewlineFilter.{NewlineFilter}
use Rattle.scw_lex.specs.Newline.{WithNewlines}
use Rattle.scw_lex.specs.Read.{HasRead}
use Rattle.scw_lex.specs.Lexing.{Found, Next}
use Rattle.scw_lex.specs.Tokens.{HasTokens}
use Rattle.scw_lex.proofs.LexesLemmas.{LexesSoFar, lexes_none, lexes_more, lexes_to_the_end}

-- the filter has read the tokens before the text that is left
pub record ReadInto (file : ℕ) (whole : List ℕ) (filter : NewlineFilter) (at : ℕ) (text : List ℕ) : Type 0 where
  pub lexemes : List Lexeme
  pub lexes : LexesSoFar file whole lexemes at text
  pub read : HasRead filter lexemes

pub into_none : (file : ℕ) (whole : List ℕ) (filter : NewlineFilter) → HasRead filter [] → ReadInto file whole filter 0 whole
into_none file whole filter read = record { lexemes = []; lexes = lexes_none file whole; read = read }

pub into_more : (file : ℕ) (whole : List ℕ) (old new : NewlineFilter) (at : ℕ) (text : List ℕ) (lexeme : Lexeme) (end : ℕ) (rest : List ℕ) → ReadInto file whole old at text
    → Next file at [] at text (Found.Taken lexeme end rest) → ((lexemes : List Lexeme) → HasRead old lexemes → HasRead new (lexemes ++ lexeme ∷ [])) → ReadInto file whole new end rest
into_more file whole old new at text lexeme end rest into next read = record {
  lexemes = into.lexemes ++ lexeme ∷ [];
  lexes = lexes_more file whole into.lexemes at text lexeme end rest into.lexes next;
  read = read into.lexemes into.read;
}

pub into_tokens : (file : ℕ) (whole : List ℕ) (old new : NewlineFilter) (at : ℕ) (text : List ℕ) (lexeme : Lexeme) (tokens : List Token) → ReadInto file whole old at text
    → Next file at [] at text (Found.Ended lexeme) → ((lexemes : List Lexeme) → HasRead old lexemes → HasRead new (lexemes ++ lexeme ∷ []))
    → ((lexemes : List Lexeme) → HasRead new lexemes → WithNewlines lexemes tokens) → HasTokens file whole tokens
into_tokens file whole old new at text lexeme tokens into next read filled = record {
  lexemes = into.lexemes ++ lexeme ∷ [];
  lexes = lexes_to_the_end file whole into.lexemes at text lexeme into.lexes next;
  filled = filled (into.lexemes ++ lexeme ∷ []) (read into.lexemes into.read);
}
