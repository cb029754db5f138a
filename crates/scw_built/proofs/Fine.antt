-- The parts of a syntax tree that is read from tokens: numbers that fit, characters of texts, and names.
use Rattle.std.proofs.Common.{◌≡◌, refl, ℕ, Bool, true, false, List, [], ◌∷◌}
use Rattle.std.proofs.lemmas.Bool.{and_parts, and_from}
use Rattle.std.specs.List.{list_all}
use Rattle.scw_reader.specs.declared.token.Sign.TheVariants as s
use Rattle.scw_reader.specs.declared.token.Token.{Token}
use Rattle.scw_reader.specs.declared.token.Token.TheVariants as token
use Rattle.scw_reader.specs.declared.tree.Parameter.{Parameter}
use Rattle.scw_reader.specs.Grammar.{word, sign, named, parameter_tokens, more_parameters_tokens, parameters_tokens, expression_tokens, products_tokens, product_tokens, atoms_tokens, atom_tokens, arguments_tokens, more_arguments_tokens, statements_tokens, statement_tokens, method_tokens, main_tokens, before_tokens, after_tokens, source_tokens}
use Rattle.scw_reader.specs.Grammar as grammar
use Rattle.scw_reader.specs.Layout.{AreFrom, Spelled, is_before_lines}
use Rattle.scw_reader.specs.Syntax.{Expression, Product, Products, Atom, Atoms, Expressions, Statement, Statements, Method, Source}
use Rattle.scw_reader.specs.Syntax.{sum, operation, if_else, while_do, block, assign, product, int, long, truth, text, name, call, print, paren, val_def, var_def, plain}
use Rattle.scw_reader.specs.Syntax.{no_products, more_products, no_atoms, more_atoms, no_expressions, more_expressions, no_statements, more_statements}
use Rattle.scw_reader.specs.Token.{is_name, is_token}

-- ---- trees

abbrev mutual
  pub FineExpression : Expression → Type 0
  FineExpression (sum p ps) = FineProduct p × FineProducts ps
  FineExpression (operation o a b) = FineAtom a × FineAtom b
  FineExpression (if_else a b c) = FineExpression a × FineExpression b × FineExpression c
  FineExpression (while_do a b) = FineExpression a × FineExpression b
  FineExpression (block ss e) = FineStatements ss × FineExpression e
  FineExpression (assign x e) = FineExpression e

  pub FineProducts : Products → Type 0
  FineProducts no_products = Unit {0}
  FineProducts (more_products p ps) = FineProduct p × FineProducts ps

  pub FineProduct : Product → Type 0
  FineProduct (product a as') = FineAtom a × FineAtoms as'

  pub FineAtoms : Atoms → Type 0
  FineAtoms no_atoms = Unit {0}
  FineAtoms (more_atoms a as') = FineAtom a × FineAtoms as'

  pub FineAtom : Atom → Type 0
  FineAtom (int n) = is_token (token.Int n) ≡ true
  FineAtom (long n) = is_token (token.Long n) ≡ true
  FineAtom (truth b) = Unit {0}
  FineAtom (text characters) = is_token (token.Text characters) ≡ true
  FineAtom (name x) = Unit {0}
  FineAtom (call m es) = FineExpressions es
  FineAtom (print e) = FineExpression e
  FineAtom (paren e) = FineExpression e

  pub FineExpressions : Expressions → Type 0
  FineExpressions no_expressions = Unit {0}
  FineExpressions (more_expressions e es) = FineExpression e × FineExpressions es

  pub FineStatements : Statements → Type 0
  FineStatements no_statements = Unit {0}
  FineStatements (more_statements t ts) = FineStatement t × FineStatements ts

  pub FineStatement : Statement → Type 0
  FineStatement (val_def x t e) = FineExpression e
  FineStatement (var_def x t e) = FineExpression e
  FineStatement (plain e) = FineExpression e

pub record FineMethod (m : Method) : Type 0 where
  pub name : is_name m.name ≡ true
  pub body : FineExpression m.body

abbrev pub FineMethods : List Method → Type 0
FineMethods [] = Unit {0}
FineMethods (m ∷ ms) = FineMethod m × FineMethods ms

pub record FineSource (e : Source) : Type 0 where
  pub before : FineMethods e.before
  pub main : FineExpression e.main
  pub after : FineMethods e.after

-- ---- tokens

abbrev AllTokens : List Token → Type 0
AllTokens ts = list_all is_token ts ≡ true

mutual
  fine-expression : (e : Expression) (rest : List Token) → AllTokens (expression_tokens e rest) → FineExpression e × AllTokens rest
  fine-expression (sum p ps) rest h =
      let a = fine-product p (products_tokens ps rest) h in
      let b = fine-products ps rest a.1 in
      ((a.0, b.0), b.1)
  fine-expression (operation o a b) rest h =
      let x = fine-atom a (sign (grammar.operator_sign o) (atom_tokens b rest)) h in
      let y = fine-atom b rest x.1 in
      ((x.0, y.0), y.1)
  fine-expression (if_else a b c) rest h =
      let x = fine-expression a _ h in
      let y = fine-expression b _ x.1 in
      let z = fine-expression c rest y.1 in
      ((x.0, y.0, z.0), z.1)
  fine-expression (while_do a b) rest h =
      let x = fine-expression a (sign s.CloseParen (expression_tokens b rest)) h in
      let y = fine-expression b rest x.1 in
      ((x.0, y.0), y.1)
  fine-expression (block ss e) rest h =
      let x = fine-statements ss (expression_tokens e (sign s.CloseBrace rest)) h in
      let y = fine-expression e (sign s.CloseBrace rest) x.1 in
      ((x.0, y.0), y.1)
  fine-expression (assign x e) rest h = fine-expression e rest (and_parts (is_name x) _ h).1

  fine-products : (ps : Products) (rest : List Token) → AllTokens (products_tokens ps rest) → FineProducts ps × AllTokens rest
  fine-products no_products rest h = (tt, h)
  fine-products (more_products p ps) rest h =
      let a = fine-product p (products_tokens ps rest) h in
      let b = fine-products ps rest a.1 in
      ((a.0, b.0), b.1)

  fine-product : (p : Product) (rest : List Token) → AllTokens (product_tokens p rest) → FineProduct p × AllTokens rest
  fine-product (product a as') rest h =
      let x = fine-atom a (atoms_tokens as' rest) h in
      let y = fine-atoms as' rest x.1 in
      ((x.0, y.0), y.1)

  fine-atoms : (as' : Atoms) (rest : List Token) → AllTokens (atoms_tokens as' rest) → FineAtoms as' × AllTokens rest
  fine-atoms no_atoms rest h = (tt, h)
  fine-atoms (more_atoms a as') rest h =
      let x = fine-atom a (atoms_tokens as' rest) h in
      let y = fine-atoms as' rest x.1 in
      ((x.0, y.0), y.1)

  fine-atom : (a : Atom) (rest : List Token) → AllTokens (atom_tokens a rest) → FineAtom a × AllTokens rest
  fine-atom (int n) rest h = and_parts (is_token (token.Int n)) _ h
  fine-atom (long n) rest h = and_parts (is_token (token.Long n)) _ h
  fine-atom (truth b) rest h = (tt, h)
  fine-atom (text characters) rest h = and_parts (is_token (token.Text characters)) _ h
  fine-atom (name x) rest h = (tt, (and_parts (is_name x) _ h).1)
  fine-atom (call m es) rest h = fine-arguments es (sign s.CloseParen rest) (and_parts (is_name m) _ h).1
  fine-atom (print e) rest h = fine-expression e (sign s.CloseParen rest) h
  fine-atom (paren e) rest h = fine-expression e (sign s.CloseParen rest) h

  fine-arguments : (es : Expressions) (rest : List Token) → AllTokens (arguments_tokens es rest) → FineExpressions es × AllTokens rest
  fine-arguments no_expressions rest h = (tt, h)
  fine-arguments (more_expressions e es) rest h =
      let x = fine-expression e (more_arguments_tokens es rest) h in
      let y = fine-more es rest x.1 in
      ((x.0, y.0), y.1)

  fine-more : (es : Expressions) (rest : List Token) → AllTokens (more_arguments_tokens es rest) → FineExpressions es × AllTokens rest
  fine-more no_expressions rest h = (tt, h)
  fine-more (more_expressions e es) rest h =
      let x = fine-expression e (more_arguments_tokens es rest) h in
      let y = fine-more es rest x.1 in
      ((x.0, y.0), y.1)

  fine-statements : (ss : Statements) (rest : List Token) → AllTokens (statements_tokens ss rest) → FineStatements ss × AllTokens rest
  fine-statements no_statements rest h = (tt, h)
  fine-statements (more_statements t ts) rest h =
      let x = fine-statement t (sign s.Semicolon (statements_tokens ts rest)) h in
      let y = fine-statements ts rest x.1 in
      ((x.0, y.0), y.1)

  fine-statement : (t : Statement) (rest : List Token) → AllTokens (statement_tokens t rest) → FineStatement t × AllTokens rest
  fine-statement (val_def x t e) rest h = fine-expression e rest (and_parts (is_name x) _ h).1
  fine-statement (var_def x t e) rest h = fine-expression e rest (and_parts (is_name x) _ h).1
  fine-statement (plain e) rest h = fine-expression e rest h

-- ---- methods

more-parameters : (ps : List Parameter) (rest : List Token) → AllTokens (more_parameters_tokens ps rest) → AllTokens rest
more-parameters [] rest h = h
more-parameters (p ∷ ps) rest h = more-parameters ps rest (and_parts (is_name p.name) _ h).1

behind-parameters : (ps : List Parameter) (rest : List Token) → AllTokens (parameters_tokens ps rest) → AllTokens rest
behind-parameters [] rest h = h
behind-parameters (p ∷ ps) rest h = more-parameters ps rest (and_parts (is_name p.name) _ h).1

fine-method : (m : Method) (rest : List Token) → AllTokens (method_tokens m rest) → FineMethod m × AllTokens rest
fine-method m rest h =
    let n = and_parts (is_name m.name) _ h in
    let p = behind-parameters m.parameters _ n.1 in
    let e = fine-expression m.body rest p in
    (record { name = n.0; body = e.0 }, e.1)

fine-before : (ms : List Method) (rest : List Token) → AllTokens (before_tokens ms rest) → FineMethods ms × AllTokens rest
fine-before [] rest h = (tt, h)
fine-before (m ∷ ms) rest h =
    let x = fine-method m (sign s.Semicolon (before_tokens ms rest)) h in
    let y = fine-before ms rest x.1 in
    ((x.0, y.0), y.1)

fine-after : (ms : List Method) (rest : List Token) → AllTokens (after_tokens ms rest) → FineMethods ms × AllTokens rest
fine-after [] rest h = (tt, h)
fine-after (m ∷ ms) rest h =
    let x = fine-method m (after_tokens ms rest) h in
    let y = fine-after ms rest x.1 in
    ((x.0, y.0), y.1)

fine-source : (e : Source) → AllTokens (source_tokens e []) → FineSource e
fine-source e h =
    let b = fine-before e.before (main_tokens e.main (after_tokens e.after (sign s.CloseBrace []))) h in
    let m = fine-expression e.main (after_tokens e.after (sign s.CloseBrace [])) b.1 in
    let a = fine-after e.after (sign s.CloseBrace []) m.1 in
    record { before = b.0; main = m.0; after = a.0 }

-- ---- bytes

all-tokens : (lines : Bool) (ts : List Token) (bytes : List ℕ) → AreFrom lines bytes ts → AllTokens ts
all-tokens lines [] bytes h = refl
all-tokens lines (t ∷ ts) bytes h = and_from (is_token t) (list_all is_token ts) h.token (all-tokens (is_before_lines t) ts h.rest h.follows)

pub fine-spelled : (bytes : List ℕ) (e : Source) → Spelled bytes (source_tokens e []) → FineSource e
fine-spelled bytes e h = fine-source e (all-tokens false (source_tokens e []) bytes h)
