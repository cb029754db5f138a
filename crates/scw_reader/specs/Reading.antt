-- How a tree is read from tokens. No public clause cites this file: it says of each step of the reader what it gives, and
-- proofs/ReadingLemmas.antt says that this is the tree whose tokens they are.
use Rattle.std.specs.Prelude.{ℕ, zero, suc, true, false, if◌then◌else◌, List, [], ◌∷◌, ◌++◌, length, Option, Some, None}
use Rattle.scw_reader.specs.declared.token.Word.{Word}
use Rattle.scw_reader.specs.declared.token.Word.TheVariants as w
use Rattle.scw_reader.specs.declared.token.Sign.{Sign}
use Rattle.scw_reader.specs.declared.token.Sign.TheVariants as s
use Rattle.scw_reader.specs.declared.token.Token.{Token}
use Rattle.scw_reader.specs.declared.token.Token.TheVariants as token
use Rattle.scw_reader.specs.declared.tree.TypeName.{TypeName}
use Rattle.scw_reader.specs.declared.tree.Operator.{Operator}
use Rattle.scw_reader.specs.declared.cursor.Start.{Start}
use Rattle.scw_reader.specs.declared.cursor.Start.TheVariants as start
use Rattle.scw_reader.specs.Syntax.{Name, Expression, Product, Atom, Statement}
use Rattle.scw_reader.specs.Syntax.{sum, operation, if_else, while_do, block, assign, product, int, long, truth, text, name, call, print, paren, val_def, var_def, plain}
use Rattle.scw_reader.specs.View.{products_of, atoms_of, expressions_of, statements_of}
use Rattle.scw_reader.specs.Parser.{Parser, ◌>>=◌, ◌>>◌, ◌<$>◌, pure, refuse, is_sign, next, expect_word, expect_sign, eat_sign, expect_name, expect_type, eat_operator, chain}

-- ---- the form of expression or statement that the tokens begin

abbrev pub word_start : Word → Start
word_start w.If = start.If
word_start w.While = start.While
word_start w.Val = start.Val
word_start w.Var = start.Var
word_start _ = start.Other

abbrev pub sign_start : Sign → Start
sign_start s.OpenBrace = start.Block
sign_start _ = start.Other

-- what follows a name
abbrev pub name_start : List Token → Start
name_start [] = start.Other
name_start (t ∷ ts) = if is_sign s.Assign t then start.Assign else start.Other

abbrev pub token_start : Token → List Token → Start
token_start (token.Word w) ts = word_start w
token_start (token.Sign s) ts = sign_start s
token_start (token.Name x) ts = name_start ts
token_start _ ts = start.Other

unfoldable pub start_of : List Token → Start
start_of [] = start.Other
start_of (t ∷ ts) = token_start t ts

abbrev pub peek : Parser Start
peek = λ tokens. Some (start_of tokens, tokens)

-- ---- expressions

-- a statement, or the last expression of a block
pub data Part : Type 0 where
  statement_part : Statement → Part
  last_part : Expression → Part

module _ (expression : Parser Expression) where
  -- `{, E}`, behind the first
  abbrev pub more_arguments : Expression → Parser (List Expression)
  more_arguments e = chain s.Comma expression (e ∷ [])

  -- behind the parenthesis
  unfoldable pub arguments : Parser (List Expression)
  arguments = do
    is_empty ← eat_sign s.CloseParen
    if is_empty then pure [] else (do e ← expression; es ← more_arguments e; expect_sign s.CloseParen; pure es)

  unfoldable pub inner : Parser Expression
  inner = do
    e ← expression
    expect_sign s.CloseParen
    pure e

  unfoldable pub in_parens : Parser Expression
  in_parens = expect_sign s.OpenParen >> inner

  unfoldable pub name_atom : Name → Parser Atom
  name_atom x = do
    is_call ← eat_sign s.OpenParen
    if is_call then (do es ← arguments; pure (call x (expressions_of es))) else pure (name x)

  abbrev pub word_atom : Word → Parser Atom
  word_atom w.True = pure (truth true)
  word_atom w.False = pure (truth false)
  word_atom w.Println = print <$> in_parens
  word_atom _ = refuse

  abbrev pub sign_atom : Sign → Parser Atom
  sign_atom s.OpenParen = paren <$> inner
  sign_atom _ = refuse

  abbrev pub atom_by : Token → Parser Atom
  atom_by (token.Word w) = word_atom w
  atom_by (token.Sign s) = sign_atom s
  atom_by (token.Name x) = name_atom x
  atom_by (token.Int n) = pure (int n)
  atom_by (token.Long n) = pure (long n)
  atom_by (token.Text characters) = pure (text characters)

  unfoldable pub atom : Parser Atom
  atom = next >>= atom_by

  unfoldable pub product_from : Atom → Parser Product
  product_from a = do
    more ← chain s.Times atom []
    pure (product a (atoms_of more))

  unfoldable pub product_at : Parser Product
  product_at = atom >>= product_from

  unfoldable pub sum_from : Atom → Parser Expression
  sum_from a = do
    p ← product_from a
    more ← chain s.Plus product_at []
    pure (sum p (products_of more))

  abbrev pub operation_by : Atom → Option Operator → Parser Expression
  operation_by a (Some o) = operation o a <$> atom
  operation_by a None = sum_from a

  unfoldable pub operation_at : Parser Expression
  operation_at = do
    a ← atom
    o ← eat_operator
    operation_by a o

  unfoldable pub conditional : Parser Expression
  conditional = do
    expect_word w.If
    a ← in_parens
    b ← expression
    expect_word w.Else
    c ← expression
    pure (if_else a b c)

  unfoldable pub repetition : Parser Expression
  repetition = do
    expect_word w.While
    a ← in_parens
    b ← expression
    pure (while_do a b)

  unfoldable pub assignment : Parser Expression
  assignment = do
    x ← expect_name
    expect_sign s.Assign
    e ← expression
    pure (assign x e)

  -- `x: T = e`, behind its word
  unfoldable pub definition : Parser (Name × TypeName × Expression)
  definition = do
    x ← expect_name
    expect_sign s.Colon
    t ← expect_type
    expect_sign s.Assign
    e ← expression
    expect_sign s.Semicolon
    pure (x, t, e)

  unfoldable pub last_or_plain : Parser Part
  last_or_plain = do
    e ← expression
    is_statement ← eat_sign s.Semicolon
    if is_statement then pure (statement_part (plain e)) else (do expect_sign s.CloseBrace; pure (last_part e))

  unfoldable pub val : Parser Part
  val = do
    expect_word w.Val
    d ← definition
    pure (statement_part (val_def d.0 d.1 d.2))

  unfoldable pub var : Parser Part
  var = do
    expect_word w.Var
    d ← definition
    pure (statement_part (var_def d.0 d.1 d.2))

  abbrev pub part_by : Start → Parser Part
  part_by start.Val = val
  part_by start.Var = var
  part_by start.If = last_or_plain
  part_by start.While = last_or_plain
  part_by start.Block = last_or_plain
  part_by start.Assign = last_or_plain
  part_by start.Other = last_or_plain

  unfoldable pub part : Parser Part
  part = peek >>= part_by

  abbrev pub parts_by : (List Statement → Parser Expression) → List Statement → Part → Parser Expression
  parts_by go found (statement_part t) = go (found ++ t ∷ [])
  parts_by go found (last_part e) = pure (block (statements_of found) e)

  unfoldable pub parts_from : ℕ → List Statement → Parser Expression
  parts_from zero found = refuse
  parts_from (suc n) found = do
    x ← part
    parts_by (parts_from n) found x

  unfoldable pub parts : Parser Expression
  parts = λ tokens. parts_from (length tokens) [] tokens

  unfoldable pub block_at : Parser Expression
  block_at = expect_sign s.OpenBrace >> parts

  abbrev pub level_by : Start → Parser Expression
  level_by start.If = conditional
  level_by start.While = repetition
  level_by start.Block = block_at
  level_by start.Assign = assignment
  level_by start.Val = refuse
  level_by start.Var = refuse
  level_by start.Other = operation_at

  unfoldable pub level : Parser Expression
  level = peek >>= level_by

-- an expression that fits so many levels
unfoldable pub expression_at : ℕ → Parser Expression
expression_at zero = refuse
expression_at (suc n) = level (expression_at n)
