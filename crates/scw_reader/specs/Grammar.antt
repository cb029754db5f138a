-- The grammar: the tokens of each tree, one equation for each form of a production. `f · g` is f and then g.
use Rattle.std.specs.Prelude.{Bool, true, false, List, [], ◌∷◌}
use Rattle.scw_reader.specs.declared.token.Word.{Word}
use Rattle.scw_reader.specs.declared.token.Word.TheVariants as w
use Rattle.scw_reader.specs.declared.token.Sign.{Sign}
use Rattle.scw_reader.specs.declared.token.Sign.TheVariants as s
use Rattle.scw_reader.specs.declared.token.Token.{Token}
use Rattle.scw_reader.specs.declared.token.Token.TheVariants as token
use Rattle.scw_reader.specs.declared.tree.TypeName.{TypeName}
use Rattle.scw_reader.specs.declared.tree.TypeName.TheVariants as type
use Rattle.scw_reader.specs.declared.tree.Operator.{Operator}
use Rattle.scw_reader.specs.declared.tree.Operator.TheVariants as operator
use Rattle.scw_reader.specs.declared.tree.Parameter.{Parameter}
use Rattle.scw_reader.specs.Syntax.{Name, Expression, Product, Products, Atom, Atoms, Expressions, Statement, Statements, Method, Source}
use Rattle.scw_reader.specs.Syntax.{sum, operation, if_else, while_do, block, assign, product, int, long, truth, text, name, call, print, paren, val_def, var_def, plain}
use Rattle.scw_reader.specs.Syntax.{no_products, more_products, no_atoms, more_atoms, no_expressions, more_expressions, no_statements, more_statements}

-- some tokens, before others
abbrev pub Tokens : Type 0
Tokens = List Token → List Token

infixr 20 ◌·◌
abbrev pub ◌·◌ : Tokens → Tokens → Tokens
(f · g) rest = f (g rest)

abbrev pub nothing : Tokens
nothing rest = rest

abbrev pub word : Word → Tokens
word w rest = token.Word w ∷ rest

abbrev pub sign : Sign → Tokens
sign s rest = token.Sign s ∷ rest

abbrev pub named : Name → Tokens
named x rest = token.Name x ∷ rest

-- T ::= Unit | Boolean | Int | Long | String
abbrev pub type_word : TypeName → Word
type_word type.Unit = w.Unit
type_word type.Boolean = w.Boolean
type_word type.Int = w.Int
type_word type.Long = w.Long
type_word type.String = w.String

abbrev pub type_tokens : TypeName → Tokens
type_tokens t = word (type_word t)

-- op ::= - | / | % | < | <= | > | >= | == | != | && | ||
abbrev pub operator_sign : Operator → Sign
operator_sign operator.Subtract = s.Minus
operator_sign operator.Divide = s.Divide
operator_sign operator.Remainder = s.Remainder
operator_sign operator.Less = s.Less
operator_sign operator.LessOrEqual = s.LessOrEqual
operator_sign operator.Greater = s.Greater
operator_sign operator.GreaterOrEqual = s.GreaterOrEqual
operator_sign operator.Equal = s.Equal
operator_sign operator.Unequal = s.Unequal
operator_sign operator.And = s.And
operator_sign operator.Or = s.Or

abbrev pub truth_word : Bool → Word
truth_word true = w.True
truth_word false = w.False

abbrev mutual
  -- E ::= P {+ P} | A op A | if (E) E else E | while (E) E | { {S ;} E } | x = E
  pub expression_tokens : Expression → Tokens
  expression_tokens (sum p ps) = product_tokens p · products_tokens ps
  expression_tokens (operation o a b) = atom_tokens a · sign (operator_sign o) · atom_tokens b
  expression_tokens (if_else a b c) = word w.If · sign s.OpenParen · expression_tokens a · sign s.CloseParen · expression_tokens b · word w.Else · expression_tokens c
  expression_tokens (while_do a b) = word w.While · sign s.OpenParen · expression_tokens a · sign s.CloseParen · expression_tokens b
  expression_tokens (block ss e) = sign s.OpenBrace · statements_tokens ss · expression_tokens e · sign s.CloseBrace
  expression_tokens (assign x e) = named x · sign s.Assign · expression_tokens e

  -- {+ P}
  pub products_tokens : Products → Tokens
  products_tokens no_products = nothing
  products_tokens (more_products p ps) = sign s.Plus · product_tokens p · products_tokens ps

  -- P ::= A {* A}
  pub product_tokens : Product → Tokens
  product_tokens (product a as') = atom_tokens a · atoms_tokens as'

  -- {* A}
  pub atoms_tokens : Atoms → Tokens
  atoms_tokens no_atoms = nothing
  atoms_tokens (more_atoms a as') = sign s.Times · atom_tokens a · atoms_tokens as'

  -- A ::= number | numberL | true | false | "text" | x | m([E {, E}]) | println(E) | (E)
  pub atom_tokens : Atom → Tokens
  atom_tokens (int n) rest = token.Int n ∷ rest
  atom_tokens (long n) rest = token.Long n ∷ rest
  atom_tokens (truth b) rest = word (truth_word b) rest
  atom_tokens (text characters) rest = token.Text characters ∷ rest
  atom_tokens (name x) rest = named x rest
  atom_tokens (call m es) rest = (named m · sign s.OpenParen · arguments_tokens es · sign s.CloseParen) rest
  atom_tokens (print e) rest = (word w.Println · sign s.OpenParen · expression_tokens e · sign s.CloseParen) rest
  atom_tokens (paren e) rest = (sign s.OpenParen · expression_tokens e · sign s.CloseParen) rest

  -- [E {, E}]
  pub arguments_tokens : Expressions → Tokens
  arguments_tokens no_expressions = nothing
  arguments_tokens (more_expressions e es) = expression_tokens e · more_arguments_tokens es

  -- {, E}
  pub more_arguments_tokens : Expressions → Tokens
  more_arguments_tokens no_expressions = nothing
  more_arguments_tokens (more_expressions e es) = sign s.Comma · expression_tokens e · more_arguments_tokens es

  -- {S ;}
  pub statements_tokens : Statements → Tokens
  statements_tokens no_statements = nothing
  statements_tokens (more_statements t ts) = statement_tokens t · sign s.Semicolon · statements_tokens ts

  -- S ::= val x: T = E | var x: T = E | E
  pub statement_tokens : Statement → Tokens
  statement_tokens (val_def x t e) = word w.Val · named x · sign s.Colon · type_tokens t · sign s.Assign · expression_tokens e
  statement_tokens (var_def x t e) = word w.Var · named x · sign s.Colon · type_tokens t · sign s.Assign · expression_tokens e
  statement_tokens (plain e) = expression_tokens e

-- x: T
abbrev pub parameter_tokens : Parameter → Tokens
parameter_tokens p = named p.name · sign s.Colon · type_tokens p.kind

-- {, x: T}
abbrev pub more_parameters_tokens : List Parameter → Tokens
more_parameters_tokens [] = nothing
more_parameters_tokens (p ∷ ps) = sign s.Comma · parameter_tokens p · more_parameters_tokens ps

-- [x: T {, x: T}]
abbrev pub parameters_tokens : List Parameter → Tokens
parameters_tokens [] = nothing
parameters_tokens (p ∷ ps) = parameter_tokens p · more_parameters_tokens ps

-- D ::= def m([x: T {, x: T}]): T = E
abbrev pub method_tokens : Method → Tokens
method_tokens m =
    word w.Def · named m.name · sign s.OpenParen · parameters_tokens m.parameters · sign s.CloseParen · sign s.Colon · type_tokens m.result
    · sign s.Assign · expression_tokens m.body

-- def main(args: Array[String]): Unit = E
abbrev pub main_tokens : Expression → Tokens
main_tokens e =
    word w.Def · word w.MainMethod · sign s.OpenParen · word w.Args · sign s.Colon · word w.Array · sign s.OpenBracket · word w.String · sign s.CloseBracket
    · sign s.CloseParen · sign s.Colon · word w.Unit · sign s.Assign · expression_tokens e

-- {D ;}
abbrev pub before_tokens : List Method → Tokens
before_tokens [] = nothing
before_tokens (m ∷ ms) = method_tokens m · sign s.Semicolon · before_tokens ms

-- {; D}
abbrev pub after_tokens : List Method → Tokens
after_tokens [] = nothing
after_tokens (m ∷ ms) = sign s.Semicolon · method_tokens m · after_tokens ms

-- source ::= object Main { D {; D} }, where one method is `main`
abbrev pub source_tokens : Source → Tokens
source_tokens e = word w.Object · word w.MainObject · sign s.OpenBrace · before_tokens e.before · main_tokens e.main · after_tokens e.after · sign s.CloseBrace
