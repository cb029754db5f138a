-- The syntax tree that a value of the program stands for.
use Rattle.std.specs.Prelude.{List, [], ◌∷◌, map}
use Rattle.scw_reader.specs.Syntax as syntax
use Rattle.scw_reader.specs.Syntax.{Products, no_products, more_products, Atoms, no_atoms, more_atoms, Expressions, no_expressions, more_expressions, Statements, no_statements, more_statements}
use Rattle.scw_reader.specs.declared.tree.Expression.{Expression}
use Rattle.scw_reader.specs.declared.tree.Product.{Product}
use Rattle.scw_reader.specs.declared.tree.Atom.{Atom}
use Rattle.scw_reader.specs.declared.tree.Statement.{Statement}
use Rattle.scw_reader.specs.declared.tree.Method.{Method}
use Rattle.scw_reader.specs.declared.tree.Source.{Source}
use Rattle.scw_reader.specs.declared.tree.Atom.TheOpen.{Atom-F, Expression-F, Product-F, Statement-F}
use Rattle.scw_reader.specs.declared.tree.Atom.TheFolds.{fold-Atom, fold-Expression, fold-Product, fold-Statement}

abbrev pub products_of : List syntax.Product → Products
products_of [] = no_products
products_of (p ∷ ps) = more_products p (products_of ps)

abbrev pub atoms_of : List syntax.Atom → Atoms
atoms_of [] = no_atoms
atoms_of (a ∷ as') = more_atoms a (atoms_of as')

abbrev pub expressions_of : List syntax.Expression → Expressions
expressions_of [] = no_expressions
expressions_of (e ∷ es) = more_expressions e (expressions_of es)

abbrev pub statements_of : List syntax.Statement → Statements
statements_of [] = no_statements
statements_of (s ∷ ss) = more_statements s (statements_of ss)

abbrev pub atom_step : Atom-F syntax.Atom syntax.Expression syntax.Statement syntax.Product → syntax.Atom
atom_step (Atom-F.Int n) = syntax.int n
atom_step (Atom-F.Long n) = syntax.long n
atom_step (Atom-F.Truth b) = syntax.truth b
atom_step (Atom-F.Text text) = syntax.text text
atom_step (Atom-F.Name name) = syntax.name name
atom_step (Atom-F.Call name es) = syntax.call name (expressions_of es.items)
atom_step (Atom-F.Print e) = syntax.print e.value
atom_step (Atom-F.Paren e) = syntax.paren e.value

abbrev pub expression_step : Expression-F syntax.Atom syntax.Expression syntax.Statement syntax.Product → syntax.Expression
expression_step (Expression-F.Sum p ps) = syntax.sum p (products_of ps.items)
expression_step (Expression-F.Operation o a b) = syntax.operation o a b
expression_step (Expression-F.If a b c) = syntax.if_else a.value b.value c.value
expression_step (Expression-F.While a b) = syntax.while_do a.value b.value
expression_step (Expression-F.Block ss e) = syntax.block (statements_of ss.items) e.value
expression_step (Expression-F.Assign name e) = syntax.assign name e.value

abbrev pub statement_step : Statement-F syntax.Atom syntax.Expression syntax.Statement syntax.Product → syntax.Statement
statement_step (Statement-F.Val name t e) = syntax.val_def name t e
statement_step (Statement-F.Var name t e) = syntax.var_def name t e
statement_step (Statement-F.Plain e) = syntax.plain e

abbrev pub product_step : Product-F syntax.Atom syntax.Expression syntax.Statement syntax.Product → syntax.Product
product_step p = syntax.product p.first (atoms_of p.more.items)

abbrev pub atom_of : Atom → syntax.Atom
atom_of = fold-Atom syntax.Atom syntax.Expression syntax.Statement syntax.Product atom_step expression_step statement_step product_step

abbrev pub expression_of : Expression → syntax.Expression
expression_of = fold-Expression syntax.Atom syntax.Expression syntax.Statement syntax.Product atom_step expression_step statement_step product_step

abbrev pub statement_of : Statement → syntax.Statement
statement_of = fold-Statement syntax.Atom syntax.Expression syntax.Statement syntax.Product atom_step expression_step statement_step product_step

abbrev pub product_of : Product → syntax.Product
product_of = fold-Product syntax.Atom syntax.Expression syntax.Statement syntax.Product atom_step expression_step statement_step product_step

abbrev pub method_of : Method → syntax.Method
method_of m = record { name = m.name; parameters = m.parameters.items; result = m.result; body = expression_of m.body }

abbrev pub source_of : Source → syntax.Source
source_of s = record { before = map method_of s.before.items; main = expression_of s.main; after = map method_of s.after.items }
