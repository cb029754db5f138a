-- The limits of a source. Trees are counted twice: expressions that stand in expressions, since the reader descends
-- through these, and nodes by the grammar of the whole language (SLS 13), in which a source has more of them.
use Rattle.std.specs.Prelude.{ℕ, suc, ◌+◌, ◌≤◌, max, List, [], ◌∷◌, length}
use Rattle.scw_reader.specs.declared.tree.Parameter.{Parameter}
use Rattle.scw_reader.specs.declared.limit.TheConstants.{MAX_NESTING, MAX_DEPTH, MAX_PARAMETERS}
use Rattle.scw_reader.specs.Syntax.{Expression, Product, Products, Atom, Atoms, Expressions, Statement, Statements, Method, Source}
use Rattle.scw_reader.specs.Syntax.{sum, operation, if_else, while_do, block, assign, product, int, long, truth, text, name, call, print, paren, val_def, var_def, plain}
use Rattle.scw_reader.specs.Syntax.{no_products, more_products, no_atoms, more_atoms, no_expressions, more_expressions, no_statements, more_statements}

-- ---- how many expressions are open at a place, at most

abbrev mutual
  pub expression_nesting : Expression → ℕ
  expression_nesting (sum p ps) = suc (max (product_nesting p) (products_nesting ps))
  expression_nesting (operation o a b) = suc (max (atom_nesting a) (atom_nesting b))
  expression_nesting (if_else a b c) = suc (max (expression_nesting a) (max (expression_nesting b) (expression_nesting c)))
  expression_nesting (while_do a b) = suc (max (expression_nesting a) (expression_nesting b))
  expression_nesting (block ss e) = suc (max (statements_nesting ss) (expression_nesting e))
  expression_nesting (assign x e) = suc (expression_nesting e)

  pub products_nesting : Products → ℕ
  products_nesting no_products = 0
  products_nesting (more_products p ps) = max (product_nesting p) (products_nesting ps)

  pub product_nesting : Product → ℕ
  product_nesting (product a as') = max (atom_nesting a) (atoms_nesting as')

  pub atoms_nesting : Atoms → ℕ
  atoms_nesting no_atoms = 0
  atoms_nesting (more_atoms a as') = max (atom_nesting a) (atoms_nesting as')

  pub atom_nesting : Atom → ℕ
  atom_nesting (int n) = 0
  atom_nesting (long n) = 0
  atom_nesting (truth b) = 0
  atom_nesting (text characters) = 0
  atom_nesting (name x) = 0
  atom_nesting (call m es) = expressions_nesting es
  atom_nesting (print e) = expression_nesting e
  atom_nesting (paren e) = expression_nesting e

  pub expressions_nesting : Expressions → ℕ
  expressions_nesting no_expressions = 0
  expressions_nesting (more_expressions e es) = max (expression_nesting e) (expressions_nesting es)

  pub statements_nesting : Statements → ℕ
  statements_nesting no_statements = 0
  statements_nesting (more_statements t ts) = max (statement_nesting t) (statements_nesting ts)

  pub statement_nesting : Statement → ℕ
  statement_nesting (val_def x t e) = expression_nesting e
  statement_nesting (var_def x t e) = expression_nesting e
  statement_nesting (plain e) = expression_nesting e

abbrev pub methods_nesting : List Method → ℕ
methods_nesting [] = 0
methods_nesting (m ∷ ms) = max (expression_nesting m.body) (methods_nesting ms)

abbrev pub source_nesting : Source → ℕ
source_nesting s = max (methods_nesting s.before) (max (expression_nesting s.main) (methods_nesting s.after))

-- ---- how many nodes of the whole language stand one in the other

-- A literal, a name and a pair of parentheses are a node each. So are each operator, which has what stands before it in
-- its chain on its left, a call and its arguments, a block and its braces, and an `if`, a `while` and an assignment. A
-- definition in a block is two nodes: the statement and the definition. Its name and its type are no deeper than its
-- expression.
abbrev mutual
  pub expression_depth : Expression → ℕ
  expression_depth (sum p ps) = products_depth (product_depth p) ps
  expression_depth (operation o a b) = suc (max (atom_depth a) (atom_depth b))
  expression_depth (if_else a b c) = suc (max (expression_depth a) (max (expression_depth b) (expression_depth c)))
  expression_depth (while_do a b) = suc (max (expression_depth a) (expression_depth b))
  expression_depth (block ss e) = suc (suc (max (statements_depth ss) (expression_depth e)))
  expression_depth (assign x e) = suc (expression_depth e)

  -- of a chain, whose part so far is so deep
  pub products_depth : ℕ → Products → ℕ
  products_depth depth no_products = depth
  products_depth depth (more_products p ps) = products_depth (suc (max depth (product_depth p))) ps

  pub product_depth : Product → ℕ
  product_depth (product a as') = atoms_depth (atom_depth a) as'

  -- of a chain, whose part so far is so deep
  pub atoms_depth : ℕ → Atoms → ℕ
  atoms_depth depth no_atoms = depth
  atoms_depth depth (more_atoms a as') = atoms_depth (suc (max depth (atom_depth a))) as'

  pub atom_depth : Atom → ℕ
  atom_depth (int n) = 1
  atom_depth (long n) = 1
  atom_depth (truth b) = 1
  atom_depth (text characters) = 1
  atom_depth (name x) = 1
  atom_depth (call m es) = suc (suc (expressions_depth es))
  atom_depth (print e) = suc (suc (expression_depth e))
  atom_depth (paren e) = suc (expression_depth e)

  pub expressions_depth : Expressions → ℕ
  expressions_depth no_expressions = 0
  expressions_depth (more_expressions e es) = max (expression_depth e) (expressions_depth es)

  pub statements_depth : Statements → ℕ
  statements_depth no_statements = 0
  statements_depth (more_statements t ts) = max (statement_depth t) (statements_depth ts)

  pub statement_depth : Statement → ℕ
  statement_depth (val_def x t e) = suc (suc (expression_depth e))
  statement_depth (var_def x t e) = suc (suc (expression_depth e))
  statement_depth (plain e) = expression_depth e

-- the parameters in their parentheses: the clause, a parameter, its type
abbrev pub clause_depth : List Parameter → ℕ
clause_depth [] = 1
clause_depth (p ∷ ps) = 3

-- a statement of the object's body, and the definition
abbrev pub method_depth : Method → ℕ
method_depth m = suc (suc (max (clause_depth m.parameters) (expression_depth m.body)))

-- the same of `main`: in its clause `Array[String]` is two nodes
abbrev pub main_depth : Expression → ℕ
main_depth e = suc (suc (max 4 (expression_depth e)))

abbrev pub methods_depth : List Method → ℕ
methods_depth [] = 0
methods_depth (m ∷ ms) = max (method_depth m) (methods_depth ms)

-- The unit, its one statement, the object, what the object extends, which is nothing, with its body, and the body.
abbrev pub source_depth : Source → ℕ
source_depth s = 5 + max (methods_depth s.before) (max (main_depth s.main) (methods_depth s.after))

-- ---- how many parameters the methods have

abbrev pub most_parameters : List Method → ℕ
most_parameters [] = 0
most_parameters (m ∷ ms) = max (length m.parameters) (most_parameters ms)

-- ---- all

-- the source is within the limits of its tree
pub record Fits (s : Source) : Type 0 where
  pub nesting : source_nesting s ≤ MAX_NESTING
  pub depth : source_depth s ≤ MAX_DEPTH
  pub parameters : max (most_parameters s.before) (most_parameters s.after) ≤ MAX_PARAMETERS
