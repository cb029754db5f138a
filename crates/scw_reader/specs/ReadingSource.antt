-- How methods and the object are read from tokens. No public clause cites this file.
use Rattle.std.specs.Prelude.{ℕ, zero, suc, if◌then◌else◌, List, [], ◌∷◌, ◌++◌, length, Option, Some, None}
use Rattle.scw_reader.specs.declared.token.Word.TheVariants as w
use Rattle.scw_reader.specs.declared.token.Sign.TheVariants as s
use Rattle.scw_reader.specs.declared.token.Token.{Token}
use Rattle.scw_reader.specs.declared.tree.Parameter.{Parameter}
use Rattle.scw_reader.specs.declared.limit.TheConstants.{MAX_NESTING}
use Rattle.scw_reader.specs.Syntax.{Expression, Method, Source}
use Rattle.scw_reader.specs.Parser.{Parser, ◌>>=◌, ◌>>◌, pure, refuse, expect_word, expect_sign, eat_word, eat_sign, expect_name, expect_type, chain}
use Rattle.scw_reader.specs.Reading.{expression_at}

abbrev pub body_at : Parser Expression
body_at = expression_at MAX_NESTING

unfoldable pub parameter_at : Parser Parameter
parameter_at = do
  x ← expect_name
  expect_sign s.Colon
  t ← expect_type
  pure (record { name = x; kind = t })

abbrev pub more_parameters : Parameter → Parser (List Parameter)
more_parameters p = chain s.Comma parameter_at (p ∷ [])

-- behind the parenthesis
unfoldable pub parameters_at : Parser (List Parameter)
parameters_at = do
  is_empty ← eat_sign s.CloseParen
  if is_empty then pure [] else (do p ← parameter_at; ps ← more_parameters p; expect_sign s.CloseParen; pure ps)

-- behind `def`
unfoldable pub method_at : Parser Method
method_at = do
  x ← expect_name
  expect_sign s.OpenParen
  ps ← parameters_at
  expect_sign s.Colon
  t ← expect_type
  expect_sign s.Assign
  e ← body_at
  pure (record { name = x; parameters = ps; result = t; body = e })

-- `(args: Array[String])`
unfoldable pub main_clause : Parser (Unit {0})
main_clause = do
  expect_sign s.OpenParen
  expect_word w.Args
  expect_sign s.Colon
  expect_word w.Array
  expect_sign s.OpenBracket
  expect_word w.String
  expect_sign s.CloseBracket
  expect_sign s.CloseParen

-- behind `def main`
unfoldable pub main_at : Parser Expression
main_at = do
  main_clause
  expect_sign s.Colon
  expect_word w.Unit
  expect_sign s.Assign
  body_at

-- the methods before `main`, with `def main`
unfoldable pub before_from : ℕ → List Method → Parser (List Method)
before_from zero found = refuse
before_from (suc n) found = do
  expect_word w.Def
  is_main ← eat_word w.MainMethod
  if is_main then pure found else (do m ← method_at; expect_sign s.Semicolon; before_from n (found ++ m ∷ []))

unfoldable pub before_at : Parser (List Method)
before_at = λ tokens. before_from (length tokens) [] tokens

unfoldable pub def_at : Parser Method
def_at = expect_word w.Def >> method_at

unfoldable pub object_at : Parser Source
object_at = do
  expect_word w.Object
  expect_word w.MainObject
  expect_sign s.OpenBrace
  before ← before_at
  main ← main_at
  after ← chain s.Semicolon def_at []
  expect_sign s.CloseBrace
  pure (record { before = before; main = main; after = after })

abbrev pub at_end : Option (Source × List Token) → Option Source
at_end None = None
at_end (Some (e, [])) = Some e
at_end (Some (e, t ∷ ts)) = None

-- all tokens
unfoldable pub source_in : List Token → Option Source
source_in tokens = at_end (object_at tokens)
