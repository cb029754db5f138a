-- Where an expression ends, and what its first tokens say of its form.
use Rattle.std.proofs.Common.{◌≡◌, true, false, List, ◌∷◌, refl, Some, None}
use Rattle.scw_reader.specs.declared.token.Word.TheVariants as w
use Rattle.scw_reader.specs.declared.token.Sign.TheVariants as s
use Rattle.scw_reader.specs.declared.token.Token.{Token}
use Rattle.scw_reader.specs.declared.token.Token.TheVariants as token
use Rattle.scw_reader.specs.declared.tree.Operator.{Operator}
use Rattle.scw_reader.specs.declared.tree.Operator.TheVariants as operator
use Rattle.scw_reader.specs.declared.cursor.Start.{Start}
use Rattle.scw_reader.specs.declared.cursor.Start.TheVariants as start
use Rattle.scw_reader.specs.Syntax.{Expression, Products, Atom, Atoms}
use Rattle.scw_reader.specs.Syntax.{sum, operation, if_else, while_do, block, assign, product, int, long, truth, text, name, call, print, paren}
use Rattle.scw_reader.specs.Syntax.{no_products, more_products, no_atoms, more_atoms}
use Rattle.scw_reader.specs.Grammar.{operator_sign, expression_tokens, products_tokens, product_tokens, atoms_tokens, atom_tokens}
use Rattle.scw_reader.specs.Parser.{eat_sign, eat_operator}
use Rattle.scw_reader.specs.Reading.{name_start, start_of}
use Rattle.scw_reader.proofs.ChainLemmas.{Lacks}

-- no operator comes next
abbrev pub NoOperator : List Token → Type 0
NoOperator rest = eat_operator rest ≡ Some (None, rest)

-- no parenthesis comes next, which would make a call of a name
abbrev pub EndsAtom : List Token → Type 0
EndsAtom rest = Lacks s.OpenParen rest

pub record EndsProduct (rest : List Token) : Type 0 where
  pub atom : EndsAtom rest
  pub times : Lacks s.Times rest

-- an expression does not go on with what comes next
pub record Ends (rest : List Token) : Type 0 where
  pub product : EndsProduct rest
  pub plus : Lacks s.Plus rest
  pub operator : NoOperator rest
  pub assign : name_start rest ≡ start.Other

pub times_ends_atom : (ts : List Token) → EndsAtom (token.Sign s.Times ∷ ts)
unfolding eat_sign
times_ends_atom ts = refl

pub plus_ends_product : (ts : List Token) → EndsProduct (token.Sign s.Plus ∷ ts)
unfolding eat_sign
plus_ends_product ts = record { atom = refl; times = refl }

pub operator_ends_atom : (o : Operator) (ts : List Token) → EndsAtom (token.Sign (operator_sign o) ∷ ts)
unfolding eat_sign
operator_ends_atom operator.Subtract ts = refl
operator_ends_atom operator.Divide ts = refl
operator_ends_atom operator.Remainder ts = refl
operator_ends_atom operator.Less ts = refl
operator_ends_atom operator.LessOrEqual ts = refl
operator_ends_atom operator.Greater ts = refl
operator_ends_atom operator.GreaterOrEqual ts = refl
operator_ends_atom operator.Equal ts = refl
operator_ends_atom operator.Unequal ts = refl
operator_ends_atom operator.And ts = refl
operator_ends_atom operator.Or ts = refl

operator_is_no_assign : (o : Operator) (ts : List Token) → name_start (token.Sign (operator_sign o) ∷ ts) ≡ start.Other
operator_is_no_assign operator.Subtract ts = refl
operator_is_no_assign operator.Divide ts = refl
operator_is_no_assign operator.Remainder ts = refl
operator_is_no_assign operator.Less ts = refl
operator_is_no_assign operator.LessOrEqual ts = refl
operator_is_no_assign operator.Greater ts = refl
operator_is_no_assign operator.GreaterOrEqual ts = refl
operator_is_no_assign operator.Equal ts = refl
operator_is_no_assign operator.Unequal ts = refl
operator_is_no_assign operator.And ts = refl
operator_is_no_assign operator.Or ts = refl

-- ---- the tokens that stand behind expressions

pub close_paren_ends : (ts : List Token) → Ends (token.Sign s.CloseParen ∷ ts)
unfolding eat_sign eat_operator
close_paren_ends ts = record { product = record { atom = refl; times = refl }; plus = refl; operator = refl; assign = refl }

pub comma_ends : (ts : List Token) → Ends (token.Sign s.Comma ∷ ts)
unfolding eat_sign eat_operator
comma_ends ts = record { product = record { atom = refl; times = refl }; plus = refl; operator = refl; assign = refl }

pub semicolon_ends : (ts : List Token) → Ends (token.Sign s.Semicolon ∷ ts)
unfolding eat_sign eat_operator
semicolon_ends ts = record { product = record { atom = refl; times = refl }; plus = refl; operator = refl; assign = refl }

pub close_brace_ends : (ts : List Token) → Ends (token.Sign s.CloseBrace ∷ ts)
unfolding eat_sign eat_operator
close_brace_ends ts = record { product = record { atom = refl; times = refl }; plus = refl; operator = refl; assign = refl }

pub else_ends : (ts : List Token) → Ends (token.Word w.Else ∷ ts)
unfolding eat_sign eat_operator
else_ends ts = record { product = record { atom = refl; times = refl }; plus = refl; operator = refl; assign = refl }

-- ---- chains go on with no operator, and with no `=`

pub products_lack_operator : (ps : Products) (rest : List Token) → NoOperator rest → NoOperator (products_tokens ps rest)
unfolding eat_operator
products_lack_operator no_products rest h = h
products_lack_operator (more_products p ps) rest h = refl

pub atoms_lack_operator : (as' : Atoms) (rest : List Token) → NoOperator rest → NoOperator (atoms_tokens as' rest)
unfolding eat_operator
atoms_lack_operator no_atoms rest h = h
atoms_lack_operator (more_atoms a as') rest h = refl

products_lack_assign : (ps : Products) (rest : List Token) → name_start rest ≡ start.Other → name_start (products_tokens ps rest) ≡ start.Other
products_lack_assign no_products rest h = h
products_lack_assign (more_products p ps) rest h = refl

atoms_lack_assign : (as' : Atoms) (rest : List Token) → name_start rest ≡ start.Other → name_start (atoms_tokens as' rest) ≡ start.Other
atoms_lack_assign no_atoms rest h = h
atoms_lack_assign (more_atoms a as') rest h = refl

-- ---- the form that the first tokens begin

start_of-atom : (a : Atom) (rest : List Token) → name_start rest ≡ start.Other → start_of (atom_tokens a rest) ≡ start.Other
unfolding start_of
start_of-atom (int n) rest h = refl
start_of-atom (long n) rest h = refl
start_of-atom (truth true) rest h = refl
start_of-atom (truth false) rest h = refl
start_of-atom (text characters) rest h = refl
start_of-atom (name x) rest h = h
start_of-atom (call m es) rest h = refl
start_of-atom (print e) rest h = refl
start_of-atom (paren e) rest h = refl

-- the form of an expression
abbrev pub form : Expression → Start
form (sum p ps) = start.Other
form (operation o a b) = start.Other
form (if_else a b c) = start.If
form (while_do a b) = start.While
form (block ss e) = start.Block
form (assign x e) = start.Assign

pub start_of-expression : (e : Expression) (rest : List Token) → Ends rest → start_of (expression_tokens e rest) ≡ form e
unfolding start_of
start_of-expression (sum (product a as') ps) rest ends = start_of-atom a (atoms_tokens as' (products_tokens ps rest)) (atoms_lack_assign as' (products_tokens ps rest) (products_lack_assign ps rest ends.assign))
start_of-expression (operation o a b) rest ends = start_of-atom a (token.Sign (operator_sign o) ∷ atom_tokens b rest) (operator_is_no_assign o (atom_tokens b rest))
start_of-expression (if_else a b c) rest ends = refl
start_of-expression (while_do a b) rest ends = refl
start_of-expression (block ss e) rest ends = refl
start_of-expression (assign x e) rest ends = refl

-- ---- what ends an atom and a product in a chain

pub atoms_end_atom : (as' : Atoms) (rest : List Token) → EndsAtom rest → EndsAtom (atoms_tokens as' rest)
atoms_end_atom no_atoms rest h = h
atoms_end_atom (more_atoms a as') rest h = times_ends_atom (atom_tokens a (atoms_tokens as' rest))

pub products_end_product : (ps : Products) (rest : List Token) → EndsProduct rest → EndsProduct (products_tokens ps rest)
products_end_product no_products rest h = h
products_end_product (more_products p ps) rest h = plus_ends_product (product_tokens p (products_tokens ps rest))

-- ---- no expression begins with `)`

atom_lacks_close : (a : Atom) (rest : List Token) → Lacks s.CloseParen (atom_tokens a rest)
unfolding eat_sign
atom_lacks_close (int n) rest = refl
atom_lacks_close (long n) rest = refl
atom_lacks_close (truth true) rest = refl
atom_lacks_close (truth false) rest = refl
atom_lacks_close (text characters) rest = refl
atom_lacks_close (name x) rest = refl
atom_lacks_close (call m es) rest = refl
atom_lacks_close (print e) rest = refl
atom_lacks_close (paren e) rest = refl

pub expression_lacks_close : (e : Expression) (rest : List Token) → Lacks s.CloseParen (expression_tokens e rest)
unfolding eat_sign
expression_lacks_close (sum (product a as') ps) rest = atom_lacks_close a (atoms_tokens as' (products_tokens ps rest))
expression_lacks_close (operation o a b) rest = atom_lacks_close a (token.Sign (operator_sign o) ∷ atom_tokens b rest)
expression_lacks_close (if_else a b c) rest = refl
expression_lacks_close (while_do a b) rest = refl
expression_lacks_close (block ss e) rest = refl
expression_lacks_close (assign x e) rest = refl
