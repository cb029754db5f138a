-- The lists inside trees: their tokens, how far they nest, and that tokens only grow.
use Rattle.std.proofs.Common.{◌≡◌, ℕ, ◌≤◌, max, List, [], ◌∷◌, length, refl, ap, arith}
use Rattle.scw_reader.specs.declared.token.Word.TheVariants as w
use Rattle.scw_reader.specs.declared.token.Sign.TheVariants as s
use Rattle.scw_reader.specs.declared.token.Token.{Token}
use Rattle.scw_reader.specs.declared.token.Token.TheVariants as token
use Rattle.scw_reader.specs.Syntax.{Expression, Product, Products, Atom, Atoms, Expressions, Statement, Statements}
use Rattle.scw_reader.specs.Syntax.{sum, operation, if_else, while_do, block, assign, product, int, long, truth, text, name, call, print, paren, val_def, var_def, plain}
use Rattle.scw_reader.specs.Syntax.{no_products, more_products, no_atoms, more_atoms, no_expressions, more_expressions, no_statements, more_statements}
use Rattle.scw_reader.specs.View.{products_of, atoms_of, expressions_of, statements_of}
use Rattle.scw_reader.specs.Grammar.{operator_sign, expression_tokens, products_tokens, product_tokens, atoms_tokens, atom_tokens, arguments_tokens, more_arguments_tokens, statements_tokens, statement_tokens}
use Rattle.scw_reader.specs.Limits.{expression_nesting, products_nesting, product_nesting, atoms_nesting, atom_nesting, expressions_nesting, statements_nesting, statement_nesting}
use Rattle.scw_reader.proofs.ChainLemmas.{chain_tokens, AllWithin}

-- ---- the largest of a list

abbrev pub most : {A : Type 0} → (A → ℕ) → List A → ℕ
most size [] = 0
most size (x ∷ xs) = max (size x) (most size xs)

pub most-within : {A : Type 0} (size : A → ℕ) (n : ℕ) (xs : List A) → AllWithin size n xs → most size xs ≤ n
most-within size n [] h = omega arith
most-within size n (x ∷ xs) h = let rest = most-within size n xs h.1 in omega (arith, h.0, rest)

pub within-most : {A : Type 0} (size : A → ℕ) (n : ℕ) (xs : List A) → most size xs ≤ n → AllWithin size n xs
within-most size n [] h = tt
within-most size n (x ∷ xs) h = (omega arith, within-most size n xs (omega arith))

-- ---- atoms

abbrev pub atoms_list : Atoms → List Atom
atoms_list no_atoms = []
atoms_list (more_atoms a as') = a ∷ atoms_list as'

pub atoms_of-list : (as' : Atoms) → atoms_of (atoms_list as') ≡ as'
atoms_of-list no_atoms = refl
atoms_of-list (more_atoms a as') = ap (more_atoms a) (atoms_of-list as')

pub atoms_tokens-of : (xs : List Atom) (rest : List Token) → atoms_tokens (atoms_of xs) rest ≡ chain_tokens s.Times atom_tokens xs rest
atoms_tokens-of [] rest = refl
atoms_tokens-of (x ∷ xs) rest = ap (λ r. token.Sign s.Times ∷ atom_tokens x r) (atoms_tokens-of xs rest)

pub atoms_nesting-of : (xs : List Atom) → atoms_nesting (atoms_of xs) ≡ most atom_nesting xs
atoms_nesting-of [] = refl
atoms_nesting-of (x ∷ xs) = ap (max (atom_nesting x)) (atoms_nesting-of xs)

-- ---- products

abbrev pub products_list : Products → List Product
products_list no_products = []
products_list (more_products p ps) = p ∷ products_list ps

pub products_of-list : (ps : Products) → products_of (products_list ps) ≡ ps
products_of-list no_products = refl
products_of-list (more_products p ps) = ap (more_products p) (products_of-list ps)

pub products_tokens-of : (xs : List Product) (rest : List Token) → products_tokens (products_of xs) rest ≡ chain_tokens s.Plus product_tokens xs rest
products_tokens-of [] rest = refl
products_tokens-of (x ∷ xs) rest = ap (λ r. token.Sign s.Plus ∷ product_tokens x r) (products_tokens-of xs rest)

pub products_nesting-of : (xs : List Product) → products_nesting (products_of xs) ≡ most product_nesting xs
products_nesting-of [] = refl
products_nesting-of (x ∷ xs) = ap (max (product_nesting x)) (products_nesting-of xs)

-- ---- expressions

abbrev pub expressions_list : Expressions → List Expression
expressions_list no_expressions = []
expressions_list (more_expressions e es) = e ∷ expressions_list es

pub expressions_of-list : (es : Expressions) → expressions_of (expressions_list es) ≡ es
expressions_of-list no_expressions = refl
expressions_of-list (more_expressions e es) = ap (more_expressions e) (expressions_of-list es)

pub more_arguments_tokens-of : (xs : List Expression) (rest : List Token) → more_arguments_tokens (expressions_of xs) rest ≡ chain_tokens s.Comma expression_tokens xs rest
more_arguments_tokens-of [] rest = refl
more_arguments_tokens-of (x ∷ xs) rest = ap (λ r. token.Sign s.Comma ∷ expression_tokens x r) (more_arguments_tokens-of xs rest)

pub expressions_nesting-of : (xs : List Expression) → expressions_nesting (expressions_of xs) ≡ most expression_nesting xs
expressions_nesting-of [] = refl
expressions_nesting-of (x ∷ xs) = ap (max (expression_nesting x)) (expressions_nesting-of xs)

-- ---- statements

abbrev pub statements_list : Statements → List Statement
statements_list no_statements = []
statements_list (more_statements t ts) = t ∷ statements_list ts

pub statements_of-list : (ts : Statements) → statements_of (statements_list ts) ≡ ts
statements_of-list no_statements = refl
statements_of-list (more_statements t ts) = ap (more_statements t) (statements_of-list ts)

pub statements_nesting-of : (xs : List Statement) → statements_nesting (statements_of xs) ≡ most statement_nesting xs
statements_nesting-of [] = refl
statements_nesting-of (x ∷ xs) = ap (max (statement_nesting x)) (statements_nesting-of xs)

-- ---- tokens only grow

mutual
  pub expression_grows : (e : Expression) (rest : List Token) → length rest ≤ length (expression_tokens e rest)
  expression_grows (sum p ps) rest = omega (arith, products_grows ps rest, product_grows p (products_tokens ps rest))
  expression_grows (operation o a b) rest = omega (arith, atom_grows b rest, atom_grows a (token.Sign (operator_sign o) ∷ atom_tokens b rest))
  expression_grows (if_else a b c) rest =
      omega (arith, expression_grows c rest, expression_grows b (token.Word w.Else ∷ expression_tokens c rest), expression_grows a (token.Sign s.CloseParen ∷ expression_tokens b (token.Word w.Else ∷ expression_tokens c rest)))
  expression_grows (while_do a b) rest = omega (arith, expression_grows b rest, expression_grows a (token.Sign s.CloseParen ∷ expression_tokens b rest))
  expression_grows (block ts e) rest = omega (arith, expression_grows e (token.Sign s.CloseBrace ∷ rest), statements_grows ts (expression_tokens e (token.Sign s.CloseBrace ∷ rest)))
  expression_grows (assign x e) rest = omega (arith, expression_grows e rest)

  pub products_grows : (ps : Products) (rest : List Token) → length rest ≤ length (products_tokens ps rest)
  products_grows no_products rest = omega arith
  products_grows (more_products p ps) rest = omega (arith, products_grows ps rest, product_grows p (products_tokens ps rest))

  pub product_grows : (p : Product) (rest : List Token) → length rest ≤ length (product_tokens p rest)
  product_grows (product a as') rest = omega (arith, atoms_grows as' rest, atom_grows a (atoms_tokens as' rest))

  pub atoms_grows : (as' : Atoms) (rest : List Token) → length rest ≤ length (atoms_tokens as' rest)
  atoms_grows no_atoms rest = omega arith
  atoms_grows (more_atoms a as') rest = omega (arith, atoms_grows as' rest, atom_grows a (atoms_tokens as' rest))

  pub atom_grows : (a : Atom) (rest : List Token) → length rest ≤ length (atom_tokens a rest)
  atom_grows (int n) rest = omega arith
  atom_grows (long n) rest = omega arith
  atom_grows (truth b) rest = omega arith
  atom_grows (text characters) rest = omega arith
  atom_grows (name x) rest = omega arith
  atom_grows (call m es) rest = omega (arith, arguments_grow es (token.Sign s.CloseParen ∷ rest))
  atom_grows (print e) rest = omega (arith, expression_grows e (token.Sign s.CloseParen ∷ rest))
  atom_grows (paren e) rest = omega (arith, expression_grows e (token.Sign s.CloseParen ∷ rest))

  pub arguments_grow : (es : Expressions) (rest : List Token) → length rest ≤ length (arguments_tokens es rest)
  arguments_grow no_expressions rest = omega arith
  arguments_grow (more_expressions e es) rest = omega (arith, more_arguments_grow es rest, expression_grows e (more_arguments_tokens es rest))

  pub more_arguments_grow : (es : Expressions) (rest : List Token) → length rest ≤ length (more_arguments_tokens es rest)
  more_arguments_grow no_expressions rest = omega arith
  more_arguments_grow (more_expressions e es) rest = omega (arith, more_arguments_grow es rest, expression_grows e (more_arguments_tokens es rest))

  pub statements_grows : (ts : Statements) (rest : List Token) → length rest ≤ length (statements_tokens ts rest)
  statements_grows no_statements rest = omega arith
  statements_grows (more_statements t ts) rest = omega (arith, statements_grows ts rest, statement_grows t (token.Sign s.Semicolon ∷ statements_tokens ts rest))

  pub statement_grows : (t : Statement) (rest : List Token) → length rest ≤ length (statement_tokens t rest)
  statement_grows (val_def x t e) rest = omega (arith, expression_grows e rest)
  statement_grows (var_def x t e) rest = omega (arith, expression_grows e rest)
  statement_grows (plain e) rest = omega (arith, expression_grows e rest)
