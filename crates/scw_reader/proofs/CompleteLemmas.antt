-- An expression that fits the levels is read from its tokens, before a rest that ends it.
use Rattle.std.proofs.Common.{◌≡◌, ℕ, zero, suc, ◌<◌, ◌≤◌, true, false, List, [], ◌∷◌, ◌++◌, length, refl, sym, ap, subst, ◌∙◌, arith, Some, None, append_assoc, append-nil}
use Rattle.scw_reader.specs.declared.token.Word.TheVariants as w
use Rattle.scw_reader.specs.declared.token.Sign.TheVariants as s
use Rattle.scw_reader.specs.declared.token.Token.{Token}
use Rattle.scw_reader.specs.declared.token.Token.TheVariants as token
use Rattle.scw_reader.specs.declared.tree.TypeName.{TypeName}
use Rattle.scw_reader.specs.declared.tree.Operator.{Operator}
use Rattle.scw_reader.specs.Syntax.{Name, Expression, Product, Products, Atom, Atoms, Statement, Statements}
use Rattle.scw_reader.specs.Syntax.{sum, operation, if_else, while_do, block, assign, product, int, long, truth, text, name, call, print, paren, val_def, var_def, plain}
use Rattle.scw_reader.specs.View.{expressions_of, statements_of}
use Rattle.scw_reader.specs.Grammar.{operator_sign, type_word, expression_tokens, products_tokens, product_tokens, atoms_tokens, atom_tokens}
use Rattle.scw_reader.specs.Limits.{expression_nesting, products_nesting, product_nesting, atoms_nesting, atom_nesting, expressions_nesting, statements_nesting, statement_nesting}
use Rattle.scw_reader.specs.Parser.{Parser, eat_sign, chain}
use Rattle.scw_reader.specs.Reading.{start_of, arguments, inner, in_parens, name_atom, atom, product_from, product_at, sum_from, operation_at, conditional, repetition, assignment, definition, last_or_plain, val, var, part_by, part, parts_from, parts, block_at, level_by, level, expression_at, Part, statement_part, last_part}
use Rattle.scw_reader.proofs.ParserLemmas.{then_step, takes_word, takes_sign, takes_name, expect_type-word, eat_operator-sign}
use Rattle.scw_reader.proofs.ChainLemmas.{Complete, Lacks, chain_tokens, AllWithin, chain_found, sign_sees, ends_item}
use Rattle.scw_reader.proofs.TreeLemmas.{within-most, atoms_list, atoms_of-list, atoms_tokens-of, atoms_nesting-of, products_list, products_of-list, products_tokens-of, products_nesting-of, expressions_list, expressions_of-list, more_arguments_tokens-of, expressions_nesting-of, statements_list, statements_of-list, statements_nesting-of, expression_grows, atom_grows, product_grows, statement_grows}
use Rattle.scw_reader.proofs.EndLemmas.{EndsAtom, EndsProduct, Ends, times_ends_atom, plus_ends_product, operator_ends_atom, close_paren_ends, comma_ends, semicolon_ends, close_brace_ends, else_ends, products_lack_operator, atoms_lack_operator, atoms_end_atom, products_end_product, expression_lacks_close, form, start_of-expression}
use Rattle.scw_reader.proofs.SoundLemmas.{closed_tokens, parens_tokens, closed_arguments_tokens, definition_tokens, part_tokens, part_nesting, parts_tokens}

module _ (e : Parser Expression) (n : ℕ) (complete : Complete e expression_tokens expression_nesting n Ends) where
  -- ---- atoms

  inner_found : (x : Expression) (rest : List Token) → expression_nesting x ≤ n → inner e (closed_tokens x rest) ≡ Some (x, rest)
  unfolding inner
  inner_found x rest fits =
      then_step _ _ x (token.Sign s.CloseParen ∷ rest) (x, rest) (complete.found x (token.Sign s.CloseParen ∷ rest) fits (close_paren_ends rest))
      (then_step _ _ tt rest (x, rest) (takes_sign s.CloseParen rest refl) refl)

  in_parens_found : (x : Expression) (rest : List Token) → expression_nesting x ≤ n → in_parens e (parens_tokens x rest) ≡ Some (x, rest)
  unfolding in_parens
  in_parens_found x rest fits = then_step _ _ tt (closed_tokens x rest) (x, rest) (takes_sign s.OpenParen (closed_tokens x rest) refl) (inner_found x rest fits)

  close_paren_lacks_comma : (rest : List Token) → Lacks s.Comma (token.Sign s.CloseParen ∷ rest)
  unfolding eat_sign
  close_paren_lacks_comma rest = refl

  some_arguments : (x : Expression) (xs : List Expression) (rest : List Token) → expression_nesting x ≤ n → AllWithin expression_nesting n xs
      → arguments e (expression_tokens x (chain_tokens s.Comma expression_tokens xs (token.Sign s.CloseParen ∷ rest))) ≡ Some (x ∷ xs, rest)
  unfolding arguments
  some_arguments x xs rest fits within =
      let close = token.Sign s.CloseParen ∷ rest in
      let more = chain_tokens s.Comma expression_tokens xs close in
      then_step _ _ false (expression_tokens x more) (x ∷ xs, rest) (expression_lacks_close x more)
      (then_step _ _ x more (x ∷ xs, rest) (complete.found x more fits (ends_item s.Comma expression_tokens Ends comma_ends xs close (close_paren_ends rest)))
      (then_step _ _ (x ∷ xs) close (x ∷ xs, rest)
      (chain_found s.Comma e expression_tokens expression_nesting n Ends complete comma_ends refl expression_grows xs (x ∷ []) close within (close_paren_ends rest) (close_paren_lacks_comma rest))
      (then_step _ _ tt rest (x ∷ xs, rest) (takes_sign s.CloseParen rest refl) refl)))

  arguments_found : (xs : List Expression) (rest : List Token) → AllWithin expression_nesting n xs → arguments e (closed_arguments_tokens xs rest) ≡ Some (xs, rest)
  unfolding arguments
  arguments_found [] rest within = then_step _ _ true rest ([], rest) (sign_sees s.CloseParen rest refl) refl
  arguments_found (x ∷ xs) rest within =
      ap (λ ts. arguments e (expression_tokens x ts)) (more_arguments_tokens-of xs (token.Sign s.CloseParen ∷ rest)) ∙ some_arguments x xs rest within.0 within.1

  call_found : (m : Name) (xs : List Expression) (rest : List Token) → AllWithin expression_nesting n xs → atom e (atom_tokens (call m (expressions_of xs)) rest) ≡ Some (call m (expressions_of xs), rest)
  unfolding atom name_atom
  call_found m xs rest within =
      then_step _ _ true (closed_arguments_tokens xs rest) (call m (expressions_of xs), rest) (sign_sees s.OpenParen (closed_arguments_tokens xs rest) refl)
      (then_step _ _ xs rest (call m (expressions_of xs), rest) (arguments_found xs rest within) refl)

  atom_found : (a : Atom) (rest : List Token) → atom_nesting a ≤ n → EndsAtom rest → atom e (atom_tokens a rest) ≡ Some (a, rest)
  unfolding atom name_atom
  atom_found (int k) rest fits ends = refl
  atom_found (long k) rest fits ends = refl
  atom_found (truth true) rest fits ends = refl
  atom_found (truth false) rest fits ends = refl
  atom_found (text characters) rest fits ends = refl
  atom_found (name x) rest fits ends = then_step _ _ false rest (name x, rest) ends refl
  atom_found (call m es) rest fits ends =
      let same = expressions_of-list es in
      let within = within-most expression_nesting n (expressions_list es) (subst (λ k. k ≤ n) (expressions_nesting-of (expressions_list es)) (subst (λ x. expressions_nesting x ≤ n) (sym same) fits)) in
      subst (λ x. atom e (atom_tokens (call m x) rest) ≡ Some (call m x, rest)) same (call_found m (expressions_list es) rest within)
  atom_found (print x) rest fits ends = then_step _ _ x rest (print x, rest) (in_parens_found x rest fits) refl
  atom_found (paren x) rest fits ends = then_step _ _ x rest (paren x, rest) (inner_found x rest fits) refl

  atom_complete : Complete (atom e) atom_tokens atom_nesting n EndsAtom
  atom_complete = record { found = atom_found }

  -- ---- products, sums and operations

  -- the chain of atoms
  atoms_found : (as' : Atoms) (rest : List Token) → atoms_nesting as' ≤ n → EndsProduct rest → chain s.Times (atom e) [] (atoms_tokens as' rest) ≡ Some (atoms_list as', rest)
  atoms_found as' rest fits ends =
      let xs = atoms_list as' in
      let same = atoms_of-list as' in
      let within = within-most atom_nesting n xs (subst (λ k. k ≤ n) (atoms_nesting-of xs) (subst (λ x. atoms_nesting x ≤ n) (sym same) fits)) in
      ap (λ x. chain s.Times (atom e) [] (atoms_tokens x rest)) (sym same) ∙ ap (chain s.Times (atom e) []) (atoms_tokens-of xs rest)
      ∙ chain_found s.Times (atom e) atom_tokens atom_nesting n EndsAtom atom_complete times_ends_atom refl atom_grows xs [] rest within ends.atom ends.times

  product_from_found : (a : Atom) (as' : Atoms) (rest : List Token) → atoms_nesting as' ≤ n → EndsProduct rest → product_from e a (atoms_tokens as' rest) ≡ Some (product a as', rest)
  unfolding product_from
  product_from_found a as' rest fits ends =
      then_step _ _ (atoms_list as') rest (product a as', rest) (atoms_found as' rest fits ends) (ap (λ x. let p : Product × List Token = (product a x, rest) in Some p) (atoms_of-list as'))

  product_at_found : (p : Product) (rest : List Token) → product_nesting p ≤ n → EndsProduct rest → product_at e (product_tokens p rest) ≡ Some (p, rest)
  unfolding product_at
  product_at_found (product a as') rest fits ends =
      then_step _ _ a (atoms_tokens as' rest) (product a as', rest) (atom_found a (atoms_tokens as' rest) (omega arith) (atoms_end_atom as' rest ends.atom)) (product_from_found a as' rest (omega arith) ends)

  product_complete : Complete (product_at e) product_tokens product_nesting n EndsProduct
  product_complete = record { found = product_at_found }

  products_found : (ps : Products) (rest : List Token) → products_nesting ps ≤ n → Ends rest → chain s.Plus (product_at e) [] (products_tokens ps rest) ≡ Some (products_list ps, rest)
  products_found ps rest fits ends =
      let xs = products_list ps in
      let same = products_of-list ps in
      let within = within-most product_nesting n xs (subst (λ k. k ≤ n) (products_nesting-of xs) (subst (λ x. products_nesting x ≤ n) (sym same) fits)) in
      ap (λ x. chain s.Plus (product_at e) [] (products_tokens x rest)) (sym same) ∙ ap (chain s.Plus (product_at e) []) (products_tokens-of xs rest)
      ∙ chain_found s.Plus (product_at e) product_tokens product_nesting n EndsProduct product_complete plus_ends_product refl product_grows xs [] rest within ends.product ends.plus

  sum_found : (a : Atom) (as' : Atoms) (ps : Products) (rest : List Token) → expression_nesting (sum (product a as') ps) ≤ suc n → Ends rest
      → operation_at e (expression_tokens (sum (product a as') ps) rest) ≡ Some (sum (product a as') ps, rest)
  unfolding operation_at sum_from
  sum_found a as' ps rest fits ends =
      let more = products_tokens ps rest in
      let all = atoms_tokens as' more in
      let product_ends = products_end_product ps rest ends.product in
      let whole : Expression × List Token = (sum (product a as') ps, rest) in
      then_step _ _ a all whole (atom_found a all (omega arith) (atoms_end_atom as' more product_ends.atom))
      (then_step _ _ None all whole (atoms_lack_operator as' more (products_lack_operator ps rest ends.operator))
      (then_step _ _ (product a as') more whole (product_from_found a as' more (omega arith) product_ends)
      (then_step _ _ (products_list ps) rest whole (products_found ps rest (omega arith) ends) (ap (λ x. let p : Expression × List Token = (sum (product a as') x, rest) in Some p) (products_of-list ps)))))

  operation_found : (o : Operator) (a b : Atom) (rest : List Token) → expression_nesting (operation o a b) ≤ suc n → Ends rest → operation_at e (expression_tokens (operation o a b) rest) ≡ Some (operation o a b, rest)
  unfolding operation_at
  operation_found o a b rest fits ends =
      let second = atom_tokens b rest in
      let whole : Expression × List Token = (operation o a b, rest) in
      then_step _ _ a (token.Sign (operator_sign o) ∷ second) whole (atom_found a (token.Sign (operator_sign o) ∷ second) (omega arith) (operator_ends_atom o second))
      (then_step _ _ (Some o) second whole (eat_operator-sign o second)
      (then_step _ _ b rest whole (atom_found b rest (omega arith) ends.product.atom) refl))

  -- ---- the other forms

  conditional_found : (a b c : Expression) (rest : List Token) → expression_nesting (if_else a b c) ≤ suc n → Ends rest → conditional e (expression_tokens (if_else a b c) rest) ≡ Some (if_else a b c, rest)
  unfolding conditional
  conditional_found a b c rest fits ends =
      let last = expression_tokens c rest in
      let second = expression_tokens b (token.Word w.Else ∷ last) in
      let whole : Expression × List Token = (if_else a b c, rest) in
      then_step _ _ tt (parens_tokens a second) whole (takes_word w.If (parens_tokens a second) refl)
      (then_step _ _ a second whole (in_parens_found a second (omega arith))
      (then_step _ _ b (token.Word w.Else ∷ last) whole (complete.found b (token.Word w.Else ∷ last) (omega arith) (else_ends last))
      (then_step _ _ tt last whole (takes_word w.Else last refl)
      (then_step _ _ c rest whole (complete.found c rest (omega arith) ends) refl))))

  repetition_found : (a b : Expression) (rest : List Token) → expression_nesting (while_do a b) ≤ suc n → Ends rest → repetition e (expression_tokens (while_do a b) rest) ≡ Some (while_do a b, rest)
  unfolding repetition
  repetition_found a b rest fits ends =
      let second = expression_tokens b rest in
      let whole : Expression × List Token = (while_do a b, rest) in
      then_step _ _ tt (parens_tokens a second) whole (takes_word w.While (parens_tokens a second) refl)
      (then_step _ _ a second whole (in_parens_found a second (omega arith))
      (then_step _ _ b rest whole (complete.found b rest (omega arith) ends) refl))

  assignment_found : (x : Name) (a : Expression) (rest : List Token) → expression_nesting (assign x a) ≤ suc n → Ends rest → assignment e (expression_tokens (assign x a) rest) ≡ Some (assign x a, rest)
  unfolding assignment
  assignment_found x a rest fits ends =
      let value = expression_tokens a rest in
      let whole : Expression × List Token = (assign x a, rest) in
      then_step _ _ x (token.Sign s.Assign ∷ value) whole (takes_name x (token.Sign s.Assign ∷ value))
      (then_step _ _ tt value whole (takes_sign s.Assign value refl)
      (then_step _ _ a rest whole (complete.found a rest (omega arith) ends) refl))

  -- ---- blocks

  definition_found : (x : Name) (t : TypeName) (a : Expression) (rest : List Token) → expression_nesting a ≤ n → definition e (definition_tokens (x, t, a) rest) ≡ Some ((x, t, a), rest)
  unfolding definition
  definition_found x t a rest fits =
      let end = token.Sign s.Semicolon ∷ rest in
      let value = expression_tokens a end in
      let assigned = token.Sign s.Assign ∷ value in
      let kind = token.Word (type_word t) ∷ assigned in
      let whole : (Name × TypeName × Expression) × List Token = ((x, t, a), rest) in
      then_step _ _ x (token.Sign s.Colon ∷ kind) whole (takes_name x (token.Sign s.Colon ∷ kind))
      (then_step _ _ tt kind whole (takes_sign s.Colon kind refl)
      (then_step _ _ t assigned whole (expect_type-word t assigned)
      (then_step _ _ tt value whole (takes_sign s.Assign value refl)
      (then_step _ _ a end whole (complete.found a end fits (semicolon_ends rest))
      (then_step _ _ tt rest whole (takes_sign s.Semicolon rest refl) refl)))))

  close_brace_lacks_semicolon : (rest : List Token) → Lacks s.Semicolon (token.Sign s.CloseBrace ∷ rest)
  unfolding eat_sign
  close_brace_lacks_semicolon rest = refl

  plain_found : (x : Expression) (rest : List Token) → expression_nesting x ≤ n → last_or_plain e (part_tokens (statement_part (plain x)) rest) ≡ Some (statement_part (plain x), rest)
  unfolding last_or_plain
  plain_found x rest fits =
      let whole : Part × List Token = (statement_part (plain x), rest) in
      then_step _ _ x (token.Sign s.Semicolon ∷ rest) whole (complete.found x (token.Sign s.Semicolon ∷ rest) fits (semicolon_ends rest))
      (then_step _ _ true rest whole (sign_sees s.Semicolon rest refl) refl)

  last_found : (x : Expression) (rest : List Token) → expression_nesting x ≤ n → last_or_plain e (part_tokens (last_part x) rest) ≡ Some (last_part x, rest)
  unfolding last_or_plain
  last_found x rest fits =
      let close = token.Sign s.CloseBrace ∷ rest in
      let whole : Part × List Token = (last_part x, rest) in
      then_step _ _ x close whole (complete.found x close fits (close_brace_ends rest))
      (then_step _ _ false close whole (close_brace_lacks_semicolon rest)
      (then_step _ _ tt rest whole (takes_sign s.CloseBrace rest refl) refl))

  -- no expression begins as a definition
  by_form : (x : Expression) (ts : List Token) → part_by e (form x) ts ≡ last_or_plain e ts
  by_form (sum p ps) ts = refl
  by_form (operation o a b) ts = refl
  by_form (if_else a b c) ts = refl
  by_form (while_do a b) ts = refl
  by_form (block ss a) ts = refl
  by_form (assign x a) ts = refl

  part_found : (p : Part) (rest : List Token) → part_nesting p ≤ n → part e (part_tokens p rest) ≡ Some (p, rest)
  unfolding part val var start_of
  part_found (statement_part (val_def x t a)) rest fits =
      let d = definition_tokens (x, t, a) rest in
      let whole : Part × List Token = (statement_part (val_def x t a), rest) in
      then_step _ _ tt d whole (takes_word w.Val d refl) (then_step _ _ (x, t, a) rest whole (definition_found x t a rest fits) refl)
  part_found (statement_part (var_def x t a)) rest fits =
      let d = definition_tokens (x, t, a) rest in
      let whole : Part × List Token = (statement_part (var_def x t a), rest) in
      then_step _ _ tt d whole (takes_word w.Var d refl) (then_step _ _ (x, t, a) rest whole (definition_found x t a rest fits) refl)
  part_found (statement_part (plain x)) rest fits =
      let ts = part_tokens (statement_part (plain x)) rest in
      ap (λ o. part_by e o ts) (start_of-expression x (token.Sign s.Semicolon ∷ rest) (semicolon_ends rest)) ∙ by_form x ts ∙ plain_found x rest fits
  part_found (last_part x) rest fits =
      let ts = part_tokens (last_part x) rest in
      ap (λ o. part_by e o ts) (start_of-expression x (token.Sign s.CloseBrace ∷ rest) (close_brace_ends rest)) ∙ by_form x ts ∙ last_found x rest fits

  parts_from_found : (ts found : List Statement) (x : Expression) (rest : List Token) (k : ℕ) → AllWithin statement_nesting n ts → expression_nesting x ≤ n → length ts < k
      → parts_from e k found (parts_tokens ts x rest) ≡ Some (block (statements_of (found ++ ts)) x, rest)
  unfolding parts_from
  parts_from_found [] found x rest zero within fits few = absurd (omega arith)
  parts_from_found [] found x rest (suc k) within fits few =
      then_step _ _ (last_part x) rest (block (statements_of (found ++ [])) x, rest) (part_found (last_part x) rest fits)
      (ap (λ ts. let p : Expression × List Token = (block (statements_of ts) x, rest) in Some p) (sym (append-nil found)))
  parts_from_found (t ∷ ts) found x rest zero within fits few = absurd (omega arith)
  parts_from_found (t ∷ ts) found x rest (suc k) within fits few =
      then_step _ _ (statement_part t) (parts_tokens ts x rest) (block (statements_of (found ++ t ∷ ts)) x, rest) (part_found (statement_part t) (parts_tokens ts x rest) within.0)
      (parts_from_found ts (found ++ t ∷ []) x rest k within.1 fits (omega arith)
      ∙ ap (λ us. let p : Expression × List Token = (block (statements_of us) x, rest) in Some p) (append_assoc found (t ∷ []) ts))

  -- each statement has a `;`, and the block a `}`
  few_statements : (ts : List Statement) (x : Expression) (rest : List Token) → length ts < length (parts_tokens ts x rest)
  few_statements [] x rest = omega (arith, expression_grows x (token.Sign s.CloseBrace ∷ rest))
  few_statements (t ∷ ts) x rest = omega (arith, few_statements ts x rest, statement_grows t (token.Sign s.Semicolon ∷ parts_tokens ts x rest))

  parts_found : (ts : List Statement) (x : Expression) (rest : List Token) → AllWithin statement_nesting n ts → expression_nesting x ≤ n
      → block_at e (expression_tokens (block (statements_of ts) x) rest) ≡ Some (block (statements_of ts) x, rest)
  unfolding block_at parts
  parts_found ts x rest within fits =
      let inside = parts_tokens ts x rest in
      then_step _ _ tt inside (block (statements_of ts) x, rest) (takes_sign s.OpenBrace inside refl)
      (parts_from_found ts [] x rest (length inside) within fits (few_statements ts x rest))

  block_found : (ss : Statements) (x : Expression) (rest : List Token) → expression_nesting (block ss x) ≤ suc n → block_at e (expression_tokens (block ss x) rest) ≡ Some (block ss x, rest)
  block_found ss x rest fits =
      let ts = statements_list ss in
      let same = statements_of-list ss in
      let few : statements_nesting ss ≤ n = omega arith in
      let within = within-most statement_nesting n ts (subst (λ k. k ≤ n) (statements_nesting-of ts) (subst (λ y. statements_nesting y ≤ n) (sym same) few)) in
      subst (λ y. block_at e (expression_tokens (block y x) rest) ≡ Some (block y x, rest)) same (parts_found ts x rest within (omega arith))

  -- ---- all

  level_by_found : (x : Expression) (rest : List Token) → expression_nesting x ≤ suc n → Ends rest → level_by e (form x) (expression_tokens x rest) ≡ Some (x, rest)
  level_by_found (sum (product a as') ps) rest fits ends = sum_found a as' ps rest fits ends
  level_by_found (operation o a b) rest fits ends = operation_found o a b rest fits ends
  level_by_found (if_else a b c) rest fits ends = conditional_found a b c rest fits ends
  level_by_found (while_do a b) rest fits ends = repetition_found a b rest fits ends
  level_by_found (block ss x) rest fits ends = block_found ss x rest fits
  level_by_found (assign x a) rest fits ends = assignment_found x a rest fits ends

  pub level_found : (x : Expression) (rest : List Token) → expression_nesting x ≤ suc n → Ends rest → level e (expression_tokens x rest) ≡ Some (x, rest)
  unfolding level
  level_found x rest fits ends = ap (λ o. level_by e o (expression_tokens x rest)) (start_of-expression x rest ends) ∙ level_by_found x rest fits ends

-- each expression nests once at least
some_nesting : (x : Expression) → 0 < expression_nesting x
some_nesting (sum p ps) = omega arith
some_nesting (operation o a b) = omega arith
some_nesting (if_else a b c) = omega arith
some_nesting (while_do a b) = omega arith
some_nesting (block ss x) = omega arith
some_nesting (assign x a) = omega arith

-- an expression that fits the levels is read from its tokens, before a rest that ends it
pub expression_complete : (n : ℕ) → Complete (expression_at n) expression_tokens expression_nesting n Ends
unfolding expression_at
expression_complete zero = record { found = λ x rest fits ends. absurd (omega (arith, some_nesting x)) }
expression_complete (suc n) = record { found = level_found (expression_at n) n (expression_complete n) }
