-- What is read of an expression has the tokens that were taken, and fits the levels.
use Rattle.std.proofs.Common.{◌≡◌, ℕ, zero, suc, ◌≤◌, true, false, List, [], ◌∷◌, ◌++◌, length, refl, sym, ap, subst, ◌∙◌, arith, Option, Some, None, inl, inr, append_assoc, append-nil}
use Rattle.std.proofs.lemmas.Option.{same_Some}
use Rattle.scw_reader.specs.declared.token.Word.{Word}
use Rattle.scw_reader.specs.declared.token.Word.TheVariants as w
use Rattle.scw_reader.specs.declared.token.Sign.{Sign}
use Rattle.scw_reader.specs.declared.token.Sign.TheVariants as s
use Rattle.scw_reader.specs.declared.token.Token.{Token}
use Rattle.scw_reader.specs.declared.token.Token.TheVariants as token
use Rattle.scw_reader.specs.declared.tree.TypeName.{TypeName}
use Rattle.scw_reader.specs.declared.tree.Operator.{Operator}
use Rattle.scw_reader.specs.declared.cursor.Start.{Start}
use Rattle.scw_reader.specs.declared.cursor.Start.TheVariants as start
use Rattle.scw_reader.specs.Syntax.{Name, Expression, Product, Atom, Statement}
use Rattle.scw_reader.specs.Syntax.{sum, operation, if_else, while_do, block, assign, product, int, long, truth, text, name, call, print, paren, val_def, var_def, plain}
use Rattle.scw_reader.specs.View.{products_of, atoms_of, expressions_of, statements_of}
use Rattle.scw_reader.specs.Grammar.{Tokens, ◌·◌, word, sign, named, type_tokens, operator_sign, expression_tokens, product_tokens, atom_tokens, arguments_tokens, more_arguments_tokens, statements_tokens, statement_tokens}
use Rattle.scw_reader.specs.Limits.{expression_nesting, product_nesting, atom_nesting, statement_nesting}
use Rattle.scw_reader.specs.Parser.{Parser, ◌>>=◌, pure, expect_word, expect_sign, eat_sign, expect_name, expect_type, eat_operator, chain}
use Rattle.scw_reader.specs.Reading.{start_of, arguments, inner, in_parens, name_atom, word_atom, sign_atom, atom_by, atom, product_from, product_at, sum_from, operation_by, operation_at, conditional, repetition, assignment, definition, last_or_plain, val, var, part_by, part, parts_by, parts_from, parts, block_at, level_by, level, expression_at, Part, statement_part, last_part}
use Rattle.scw_reader.proofs.ParserLemmas.{after_step, Eaten, eat_sign_is, expect_sign_is, expect_word_is, expect_name_is, expect_type_is, Operates, eat_operator_is}
use Rattle.scw_reader.proofs.ChainLemmas.{Sound, turned, AllWithin, chain_is}
use Rattle.scw_reader.proofs.TreeLemmas.{most, most-within, atoms_tokens-of, atoms_nesting-of, products_tokens-of, products_nesting-of, more_arguments_tokens-of, expressions_nesting-of, statements_nesting-of}

-- the tokens are those of what was given, before the rest, and it is no larger than n
abbrev pub Taken : {A : Type 0} → (A → Tokens) → (A → ℕ) → ℕ → List Token → A × List Token → Type 0
Taken put size n ts r = (ts ≡ put r.0 r.1) × (size r.0 ≤ n)

-- what the last step gives is what all give
pub finish : {A : Type 0} (P : A × List Token → Type 0) (a : A) (ts : List Token) (r : A × List Token) → ◌≡◌ {A = Option (A × List Token)} (Some (a, ts)) (Some r) → P (a, ts) → P r
finish P a ts r h p = subst P (same_Some _ _ h) p

-- an expression in its closing parenthesis, and in both
abbrev pub closed_tokens : Expression → Tokens
closed_tokens e = expression_tokens e · sign s.CloseParen

abbrev pub parens_tokens : Expression → Tokens
parens_tokens e = sign s.OpenParen · closed_tokens e

abbrev pub closed_arguments_tokens : List Expression → Tokens
closed_arguments_tokens es = arguments_tokens (expressions_of es) · sign s.CloseParen

-- `x: T = E ;`
abbrev pub definition_tokens : Name × TypeName × Expression → Tokens
definition_tokens d = named d.0 · sign s.Colon · type_tokens d.1 · sign s.Assign · expression_tokens d.2 · sign s.Semicolon

abbrev pub part_tokens : Part → Tokens
part_tokens (statement_part t) = statement_tokens t · sign s.Semicolon
part_tokens (last_part e) = expression_tokens e · sign s.CloseBrace

abbrev pub part_nesting : Part → ℕ
part_nesting (statement_part t) = statement_nesting t
part_nesting (last_part e) = expression_nesting e

-- `{S ;} E }`
abbrev pub parts_tokens : List Statement → Expression → Tokens
parts_tokens ts e = statements_tokens (statements_of ts) · expression_tokens e · sign s.CloseBrace

module _ (e : Parser Expression) (n : ℕ) (sound : Sound e expression_tokens expression_nesting n) where
  -- ---- atoms

  inner_is : (ts : List Token) (r : Expression × List Token) → inner e ts ≡ Some r → Taken closed_tokens expression_nesting n ts r
  unfolding inner
  inner_is ts r h =
      let a = after_step (e ts) _ r h in
      let b = after_step (expect_sign s.CloseParen a.0.1) _ r a.2 in
      let t = sound.is ts a.0 a.1 in
      finish (Taken closed_tokens expression_nesting n ts) _ _ r b.2 (t.0 ∙ ap (expression_tokens a.0.0) (expect_sign_is s.CloseParen a.0.1 b.0 b.1), t.1)

  in_parens_is : (ts : List Token) (r : Expression × List Token) → in_parens e ts ≡ Some r → Taken parens_tokens expression_nesting n ts r
  unfolding in_parens
  in_parens_is ts r h =
      let a = after_step (expect_sign s.OpenParen ts) _ r h in
      let i = inner_is a.0.1 r a.2 in
      (expect_sign_is s.OpenParen ts a.0 a.1 ∙ ap (sign s.OpenParen) i.0, i.1)

  arguments_is : (ts : List Token) (r : List Expression × List Token) → arguments e ts ≡ Some r → Taken closed_arguments_tokens (most expression_nesting) n ts r
  unfolding arguments
  arguments_is ts r h =
      let a = after_step (eat_sign s.CloseParen ts) _ r h in
      let eats = eat_sign_is s.CloseParen ts a.0 a.1 in
      elim (turned a.0.0 _ _ a.0.1 r a.2) [
        | inl w ↦ finish (Taken closed_arguments_tokens (most expression_nesting) n ts) [] a.0.1 r w.1 (subst (λ t. Eaten (token.Sign s.CloseParen) ts t a.0.1) w.0 eats, omega arith)
        | inr w ↦
            let same : ts ≡ a.0.1 = subst (λ t. Eaten (token.Sign s.CloseParen) ts t a.0.1) w.0 eats in
            let b = after_step (e a.0.1) _ r w.1 in
            let t = sound.is a.0.1 b.0 b.1 in
            let d = after_step (chain s.Comma e (b.0.0 ∷ []) b.0.1) _ r b.2 in
            let c = chain_is s.Comma e expression_tokens expression_nesting n sound (b.0.0 ∷ []) b.0.1 d.0 d.1 in
            let f = after_step (expect_sign s.CloseParen d.0.1) _ r d.2 in
            let all : b.0.0 ∷ c.more ≡ d.0.0 = sym c.all in
            finish (Taken closed_arguments_tokens (most expression_nesting) n ts) d.0.0 f.0.1 r f.2
            (subst (λ es. Taken closed_arguments_tokens (most expression_nesting) n ts (es, f.0.1)) all (
              same ∙ t.0 ∙ ap (expression_tokens b.0.0) (c.tokens ∙ sym (more_arguments_tokens-of c.more d.0.1) ∙ ap (more_arguments_tokens (expressions_of c.more)) (expect_sign_is s.CloseParen d.0.1 f.0 f.1)),
              most-within expression_nesting n (b.0.0 ∷ c.more) (t.1, c.within),
            ))
      ]

  -- what is read behind a token, with it
  abbrev IsAtom : Token → List Token → Atom × List Token → Type 0
  IsAtom t ts r = Taken atom_tokens atom_nesting n (t ∷ ts) r

  name_atom_is : (x : Name) (ts : List Token) (r : Atom × List Token) → name_atom e x ts ≡ Some r → IsAtom (token.Name x) ts r
  unfolding name_atom
  name_atom_is x ts r h =
      let a = after_step (eat_sign s.OpenParen ts) _ r h in
      let eats = eat_sign_is s.OpenParen ts a.0 a.1 in
      elim (turned a.0.0 _ _ a.0.1 r a.2) [
        | inl w ↦
            let same : ts ≡ token.Sign s.OpenParen ∷ a.0.1 = subst (λ t. Eaten (token.Sign s.OpenParen) ts t a.0.1) w.0 eats in
            let b = after_step (arguments e a.0.1) _ r w.1 in
            let t = arguments_is a.0.1 b.0 b.1 in
            finish (IsAtom (token.Name x) ts) (call x (expressions_of b.0.0)) b.0.1 r b.2
            (ap (λ u. token.Name x ∷ u) same ∙ ap (λ u. token.Name x ∷ (token.Sign s.OpenParen ∷ u)) t.0, subst (λ k. k ≤ n) (sym (expressions_nesting-of b.0.0)) t.1)
        | inr w ↦
            let same : ts ≡ a.0.1 = subst (λ t. Eaten (token.Sign s.OpenParen) ts t a.0.1) w.0 eats in
            finish (IsAtom (token.Name x) ts) (name x) a.0.1 r w.1 (ap (λ u. token.Name x ∷ u) same, omega arith)
      ]

  println_is : (ts : List Token) (r : Atom × List Token) → (in_parens e >>= λ x. pure (print x)) ts ≡ Some r → IsAtom (token.Word w.Println) ts r
  println_is ts r h =
      let a = after_step (in_parens e ts) _ r h in
      let i = in_parens_is ts a.0 a.1 in
      finish (IsAtom (token.Word w.Println) ts) (print a.0.0) a.0.1 r a.2 (ap (word w.Println) i.0, i.1)

  paren_is : (ts : List Token) (r : Atom × List Token) → (inner e >>= λ x. pure (paren x)) ts ≡ Some r → IsAtom (token.Sign s.OpenParen) ts r
  paren_is ts r h =
      let a = after_step (inner e ts) _ r h in
      let i = inner_is ts a.0 a.1 in
      finish (IsAtom (token.Sign s.OpenParen) ts) (paren a.0.0) a.0.1 r a.2 (ap (sign s.OpenParen) i.0, i.1)

  word_atom_is : (v : Word) (ts : List Token) (r : Atom × List Token) → word_atom e v ts ≡ Some r → IsAtom (token.Word v) ts r
  word_atom_is w.True ts r h = finish (IsAtom (token.Word w.True) ts) (truth true) ts r h (refl, omega arith)
  word_atom_is w.False ts r h = finish (IsAtom (token.Word w.False) ts) (truth false) ts r h (refl, omega arith)
  word_atom_is w.Println ts r h = println_is ts r h
  word_atom_is w.Object ts r h = absurd cc
  word_atom_is w.Def ts r h = absurd cc
  word_atom_is w.If ts r h = absurd cc
  word_atom_is w.Else ts r h = absurd cc
  word_atom_is w.While ts r h = absurd cc
  word_atom_is w.Val ts r h = absurd cc
  word_atom_is w.Var ts r h = absurd cc
  word_atom_is w.MainObject ts r h = absurd cc
  word_atom_is w.MainMethod ts r h = absurd cc
  word_atom_is w.Args ts r h = absurd cc
  word_atom_is w.Array ts r h = absurd cc
  word_atom_is w.Unit ts r h = absurd cc
  word_atom_is w.Boolean ts r h = absurd cc
  word_atom_is w.Int ts r h = absurd cc
  word_atom_is w.Long ts r h = absurd cc
  word_atom_is w.String ts r h = absurd cc

  sign_atom_is : (v : Sign) (ts : List Token) (r : Atom × List Token) → sign_atom e v ts ≡ Some r → IsAtom (token.Sign v) ts r
  sign_atom_is s.OpenParen ts r h = paren_is ts r h
  sign_atom_is s.CloseParen ts r h = absurd cc
  sign_atom_is s.OpenBracket ts r h = absurd cc
  sign_atom_is s.CloseBracket ts r h = absurd cc
  sign_atom_is s.OpenBrace ts r h = absurd cc
  sign_atom_is s.CloseBrace ts r h = absurd cc
  sign_atom_is s.Comma ts r h = absurd cc
  sign_atom_is s.Semicolon ts r h = absurd cc
  sign_atom_is s.Colon ts r h = absurd cc
  sign_atom_is s.Assign ts r h = absurd cc
  sign_atom_is s.Plus ts r h = absurd cc
  sign_atom_is s.Times ts r h = absurd cc
  sign_atom_is s.Minus ts r h = absurd cc
  sign_atom_is s.Divide ts r h = absurd cc
  sign_atom_is s.Remainder ts r h = absurd cc
  sign_atom_is s.Less ts r h = absurd cc
  sign_atom_is s.LessOrEqual ts r h = absurd cc
  sign_atom_is s.Greater ts r h = absurd cc
  sign_atom_is s.GreaterOrEqual ts r h = absurd cc
  sign_atom_is s.Equal ts r h = absurd cc
  sign_atom_is s.Unequal ts r h = absurd cc
  sign_atom_is s.And ts r h = absurd cc
  sign_atom_is s.Or ts r h = absurd cc

  atom_by_is : (t : Token) (ts : List Token) (r : Atom × List Token) → atom_by e t ts ≡ Some r → IsAtom t ts r
  atom_by_is (token.Word v) ts r h = word_atom_is v ts r h
  atom_by_is (token.Sign v) ts r h = sign_atom_is v ts r h
  atom_by_is (token.Name x) ts r h = name_atom_is x ts r h
  atom_by_is (token.Int k) ts r h = finish (IsAtom (token.Int k) ts) (int k) ts r h (refl, omega arith)
  atom_by_is (token.Long k) ts r h = finish (IsAtom (token.Long k) ts) (long k) ts r h (refl, omega arith)
  atom_by_is (token.Text characters) ts r h = finish (IsAtom (token.Text characters) ts) (text characters) ts r h (refl, omega arith)

  atom_is : (ts : List Token) (r : Atom × List Token) → atom e ts ≡ Some r → Taken atom_tokens atom_nesting n ts r
  unfolding atom
  atom_is [] r h = absurd cc
  atom_is (t ∷ ts) r h = atom_by_is t ts r h

  atom_sound : Sound (atom e) atom_tokens atom_nesting n
  atom_sound = record { is = atom_is }

  -- ---- products, sums and operations

  product_from_is : (a : Atom) (ts : List Token) (r : Product × List Token) → atom_nesting a ≤ n → product_from e a ts ≡ Some r → Taken product_tokens product_nesting n (atom_tokens a ts) r
  unfolding product_from
  product_from_is a ts r fits h =
      let b = after_step (chain s.Times (atom e) [] ts) _ r h in
      let c = chain_is s.Times (atom e) atom_tokens atom_nesting n atom_sound [] ts b.0 b.1 in
      let within = subst (λ k. k ≤ n) (sym (atoms_nesting-of c.more)) (most-within atom_nesting n c.more c.within) in
      finish (Taken product_tokens product_nesting n (atom_tokens a ts)) (product a (atoms_of b.0.0)) b.0.1 r b.2
      (subst (λ xs. Taken product_tokens product_nesting n (atom_tokens a ts) (product a (atoms_of xs), b.0.1)) (sym c.all)
      (ap (atom_tokens a) (c.tokens ∙ sym (atoms_tokens-of c.more b.0.1)), omega arith))

  product_at_is : (ts : List Token) (r : Product × List Token) → product_at e ts ≡ Some r → Taken product_tokens product_nesting n ts r
  unfolding product_at
  product_at_is ts r h =
      let a = after_step (atom e ts) _ r h in
      let t = atom_is ts a.0 a.1 in
      let p = product_from_is a.0.0 a.0.1 r t.1 a.2 in
      (t.0 ∙ p.0, p.1)

  product_sound : Sound (product_at e) product_tokens product_nesting n
  product_sound = record { is = product_at_is }

  -- a whole expression is one level more
  abbrev IsExpression : List Token → Expression × List Token → Type 0
  IsExpression ts r = Taken expression_tokens expression_nesting (suc n) ts r

  sum_from_is : (a : Atom) (ts : List Token) (r : Expression × List Token) → atom_nesting a ≤ n → sum_from e a ts ≡ Some r → IsExpression (atom_tokens a ts) r
  unfolding sum_from
  sum_from_is a ts r fits h =
      let b = after_step (product_from e a ts) _ r h in
      let p = product_from_is a ts b.0 fits b.1 in
      let d = after_step (chain s.Plus (product_at e) [] b.0.1) _ r b.2 in
      let c = chain_is s.Plus (product_at e) product_tokens product_nesting n product_sound [] b.0.1 d.0 d.1 in
      let within = subst (λ k. k ≤ n) (sym (products_nesting-of c.more)) (most-within product_nesting n c.more c.within) in
      finish (IsExpression (atom_tokens a ts)) (sum b.0.0 (products_of d.0.0)) d.0.1 r d.2
      (subst (λ xs. IsExpression (atom_tokens a ts) (sum b.0.0 (products_of xs), d.0.1)) (sym c.all)
      (p.0 ∙ ap (product_tokens b.0.0) (c.tokens ∙ sym (products_tokens-of c.more d.0.1)), omega arith))

  operation_by_is : (a : Atom) (o : Option Operator) (ts at : List Token) (r : Expression × List Token) → atom_nesting a ≤ n → Operates ts o at → operation_by e a o at ≡ Some r → IsExpression (atom_tokens a ts) r
  operation_by_is a (Some o) ts at r fits operates h =
      let b = after_step (atom e at) _ r h in
      let t = atom_is at b.0 b.1 in
      finish (IsExpression (atom_tokens a ts)) (operation o a b.0.0) b.0.1 r b.2
      (ap (atom_tokens a) (operates ∙ ap (sign (operator_sign o)) t.0), omega arith)
  operation_by_is a None ts at r fits operates h = subst (λ x. IsExpression (atom_tokens a x) r) (sym operates) (sum_from_is a at r fits h)

  operation_at_is : (ts : List Token) (r : Expression × List Token) → operation_at e ts ≡ Some r → IsExpression ts r
  unfolding operation_at
  operation_at_is ts r h =
      let a = after_step (atom e ts) _ r h in
      let t = atom_is ts a.0 a.1 in
      let b = after_step (eat_operator a.0.1) _ r a.2 in
      let i = operation_by_is a.0.0 b.0.0 a.0.1 b.0.1 r t.1 (eat_operator_is a.0.1 b.0 b.1) b.2 in
      (t.0 ∙ i.0, i.1)

  -- ---- the other forms

  conditional_is : (ts : List Token) (r : Expression × List Token) → conditional e ts ≡ Some r → IsExpression ts r
  unfolding conditional
  conditional_is ts r h =
      let a = after_step (expect_word w.If ts) _ r h in
      let b = after_step (in_parens e a.0.1) _ r a.2 in
      let c = after_step (e b.0.1) _ r b.2 in
      let d = after_step (expect_word w.Else c.0.1) _ r c.2 in
      let f = after_step (e d.0.1) _ r d.2 in
      let t = in_parens_is a.0.1 b.0 b.1 in
      let u = sound.is b.0.1 c.0 c.1 in
      let v = sound.is d.0.1 f.0 f.1 in
      finish (IsExpression ts) (if_else b.0.0 c.0.0 f.0.0) f.0.1 r f.2 (
        expect_word_is w.If ts a.0 a.1 ∙ ap (word w.If) (t.0 ∙ ap (parens_tokens b.0.0) (u.0 ∙ ap (expression_tokens c.0.0) (expect_word_is w.Else c.0.1 d.0 d.1 ∙ ap (word w.Else) v.0))),
        omega arith,
      )

  repetition_is : (ts : List Token) (r : Expression × List Token) → repetition e ts ≡ Some r → IsExpression ts r
  unfolding repetition
  repetition_is ts r h =
      let a = after_step (expect_word w.While ts) _ r h in
      let b = after_step (in_parens e a.0.1) _ r a.2 in
      let c = after_step (e b.0.1) _ r b.2 in
      let t = in_parens_is a.0.1 b.0 b.1 in
      let u = sound.is b.0.1 c.0 c.1 in
      finish (IsExpression ts) (while_do b.0.0 c.0.0) c.0.1 r c.2 (expect_word_is w.While ts a.0 a.1 ∙ ap (word w.While) (t.0 ∙ ap (parens_tokens b.0.0) u.0), omega arith)

  assignment_is : (ts : List Token) (r : Expression × List Token) → assignment e ts ≡ Some r → IsExpression ts r
  unfolding assignment
  assignment_is ts r h =
      let a = after_step (expect_name ts) _ r h in
      let b = after_step (expect_sign s.Assign a.0.1) _ r a.2 in
      let c = after_step (e b.0.1) _ r b.2 in
      let u = sound.is b.0.1 c.0 c.1 in
      finish (IsExpression ts) (assign a.0.0 c.0.0) c.0.1 r c.2 (expect_name_is ts a.0 a.1 ∙ ap (named a.0.0) (expect_sign_is s.Assign a.0.1 b.0 b.1 ∙ ap (sign s.Assign) u.0), omega arith)

  -- ---- blocks

  definition_is : (ts : List Token) (r : (Name × TypeName × Expression) × List Token) → definition e ts ≡ Some r → Taken definition_tokens (λ d. expression_nesting d.2) n ts r
  unfolding definition
  definition_is ts r h =
      let a = after_step (expect_name ts) _ r h in
      let b = after_step (expect_sign s.Colon a.0.1) _ r a.2 in
      let c = after_step (expect_type b.0.1) _ r b.2 in
      let d = after_step (expect_sign s.Assign c.0.1) _ r c.2 in
      let f = after_step (e d.0.1) _ r d.2 in
      let g = after_step (expect_sign s.Semicolon f.0.1) _ r f.2 in
      let u = sound.is d.0.1 f.0 f.1 in
      finish (Taken definition_tokens (λ d. expression_nesting d.2) n ts) (a.0.0, c.0.0, f.0.0) g.0.1 r g.2 (
        expect_name_is ts a.0 a.1 ∙ ap (named a.0.0) (expect_sign_is s.Colon a.0.1 b.0 b.1 ∙ ap (sign s.Colon) (expect_type_is b.0.1 c.0 c.1 ∙ ap (type_tokens c.0.0)
            (expect_sign_is s.Assign c.0.1 d.0 d.1 ∙ ap (sign s.Assign) (u.0 ∙ ap (expression_tokens f.0.0) (expect_sign_is s.Semicolon f.0.1 g.0 g.1))))),
        u.1,
      )

  abbrev IsPart : List Token → Part × List Token → Type 0
  IsPart ts r = Taken part_tokens part_nesting n ts r

  last_or_plain_is : (ts : List Token) (r : Part × List Token) → last_or_plain e ts ≡ Some r → IsPart ts r
  unfolding last_or_plain
  last_or_plain_is ts r h =
      let a = after_step (e ts) _ r h in
      let u = sound.is ts a.0 a.1 in
      let b = after_step (eat_sign s.Semicolon a.0.1) _ r a.2 in
      let eats = eat_sign_is s.Semicolon a.0.1 b.0 b.1 in
      elim (turned b.0.0 _ _ b.0.1 r b.2) [
        | inl w ↦ finish (IsPart ts) (statement_part (plain a.0.0)) b.0.1 r w.1 (u.0 ∙ ap (expression_tokens a.0.0) (subst (λ t. Eaten (token.Sign s.Semicolon) a.0.1 t b.0.1) w.0 eats), u.1)
        | inr w ↦
            let same : a.0.1 ≡ b.0.1 = subst (λ t. Eaten (token.Sign s.Semicolon) a.0.1 t b.0.1) w.0 eats in
            let c = after_step (expect_sign s.CloseBrace b.0.1) _ r w.1 in
            finish (IsPart ts) (last_part a.0.0) c.0.1 r c.2 (u.0 ∙ ap (expression_tokens a.0.0) (same ∙ expect_sign_is s.CloseBrace b.0.1 c.0 c.1), u.1)
      ]

  val_is : (ts : List Token) (r : Part × List Token) → val e ts ≡ Some r → IsPart ts r
  unfolding val
  val_is ts r h =
      let a = after_step (expect_word w.Val ts) _ r h in
      let b = after_step (definition e a.0.1) _ r a.2 in
      let d = definition_is a.0.1 b.0 b.1 in
      finish (IsPart ts) (statement_part (val_def b.0.0.0 b.0.0.1 b.0.0.2)) b.0.1 r b.2 (expect_word_is w.Val ts a.0 a.1 ∙ ap (word w.Val) d.0, d.1)

  var_is : (ts : List Token) (r : Part × List Token) → var e ts ≡ Some r → IsPart ts r
  unfolding var
  var_is ts r h =
      let a = after_step (expect_word w.Var ts) _ r h in
      let b = after_step (definition e a.0.1) _ r a.2 in
      let d = definition_is a.0.1 b.0 b.1 in
      finish (IsPart ts) (statement_part (var_def b.0.0.0 b.0.0.1 b.0.0.2)) b.0.1 r b.2 (expect_word_is w.Var ts a.0 a.1 ∙ ap (word w.Var) d.0, d.1)

  part_by_is : (o : Start) (ts : List Token) (r : Part × List Token) → part_by e o ts ≡ Some r → IsPart ts r
  part_by_is start.Val ts r h = val_is ts r h
  part_by_is start.Var ts r h = var_is ts r h
  part_by_is start.If ts r h = last_or_plain_is ts r h
  part_by_is start.While ts r h = last_or_plain_is ts r h
  part_by_is start.Block ts r h = last_or_plain_is ts r h
  part_by_is start.Assign ts r h = last_or_plain_is ts r h
  part_by_is start.Other ts r h = last_or_plain_is ts r h

  part_is : (ts : List Token) (r : Part × List Token) → part e ts ≡ Some r → IsPart ts r
  unfolding part
  part_is ts r h = part_by_is (start_of ts) ts r h

  -- what the parts of a block are, behind the statements that were found
  record Parts (found : List Statement) (ts : List Token) (r : Expression × List Token) : Type 0 where
    more : List Statement
    last : Expression
    all : r.0 ≡ block (statements_of (found ++ more)) last
    tokens : ts ≡ parts_tokens more last r.1
    within : AllWithin statement_nesting n more
    fits : expression_nesting last ≤ n

  one_part : (found : List Statement) (ts : List Token) (t : Statement) (at : List Token) (r : Expression × List Token) → ts ≡ statement_tokens t (token.Sign s.Semicolon ∷ at) → statement_nesting t ≤ n
      → Parts (found ++ t ∷ []) at r → Parts found ts r
  one_part found ts t at r same fits p = record {
    more = t ∷ p.more;
    last = p.last;
    all = p.all ∙ ap (λ x. block (statements_of x) p.last) (append_assoc found (t ∷ []) p.more);
    tokens = same ∙ ap (λ x. statement_tokens t (token.Sign s.Semicolon ∷ x)) p.tokens;
    within = (fits, p.within);
    fits = p.fits;
  }

  last_one : (found : List Statement) (ts : List Token) (x : Expression) (at : List Token) (r : Expression × List Token) → ts ≡ expression_tokens x (token.Sign s.CloseBrace ∷ at) → expression_nesting x ≤ n
      → ◌≡◌ {A = Option (Expression × List Token)} (Some (block (statements_of found) x, at)) (Some r) → Parts found ts r
  last_one found ts x at r same fits h = finish (Parts found ts) (block (statements_of found) x) at r h (record {
    more = [];
    last = x;
    all = ap (λ y. block (statements_of y) x) (sym (append-nil found));
    tokens = same;
    within = tt;
    fits = fits;
  })

  parts_from_is : (k : ℕ) (found : List Statement) (ts : List Token) (r : Expression × List Token) → parts_from e k found ts ≡ Some r → Parts found ts r
  unfolding parts_from
  parts_from_is zero found ts r h = absurd cc
  parts_from_is (suc k) found ts r h =
      let a = after_step (part e ts) _ r h in
      by a.0.0 a.0.1 (part_is ts a.0 a.1) (λ t at. parts_from_is k (found ++ t ∷ []) at r) a.2
    where
      by : (x : Part) (at : List Token) → IsPart ts (x, at) → ((t : Statement) (at : List Token) → parts_from e k (found ++ t ∷ []) at ≡ Some r → Parts (found ++ t ∷ []) at r) → parts_by e (parts_from e k) found x at ≡ Some r → Parts found ts r
      by (statement_part t) at is go h = one_part found ts t at r is.0 is.1 (go t at h)
      by (last_part x) at is go h = last_one found ts x at r is.0 is.1 h

  block_of_parts : (ts : List Token) (r : Expression × List Token) → Parts [] ts r → IsExpression (token.Sign s.OpenBrace ∷ ts) r
  block_of_parts ts r p =
      let within = subst (λ k. k ≤ n) (sym (statements_nesting-of p.more)) (most-within statement_nesting n p.more p.within) in
      let fits = p.fits in
      subst (λ x. IsExpression (token.Sign s.OpenBrace ∷ ts) (x, r.1)) (sym p.all) (ap (sign s.OpenBrace) p.tokens, omega arith)

  block_at_is : (ts : List Token) (r : Expression × List Token) → block_at e ts ≡ Some r → IsExpression ts r
  unfolding block_at parts
  block_at_is ts r h =
      let a = after_step (expect_sign s.OpenBrace ts) _ r h in
      let b = block_of_parts a.0.1 r (parts_from_is (length a.0.1) [] a.0.1 r a.2) in
      (expect_sign_is s.OpenBrace ts a.0 a.1 ∙ b.0, b.1)

  -- ---- all

  level_by_is : (o : Start) (ts : List Token) (r : Expression × List Token) → level_by e o ts ≡ Some r → IsExpression ts r
  level_by_is start.If ts r h = conditional_is ts r h
  level_by_is start.While ts r h = repetition_is ts r h
  level_by_is start.Block ts r h = block_at_is ts r h
  level_by_is start.Assign ts r h = assignment_is ts r h
  level_by_is start.Val ts r h = absurd cc
  level_by_is start.Var ts r h = absurd cc
  level_by_is start.Other ts r h = operation_at_is ts r h

  pub level_is : (ts : List Token) (r : Expression × List Token) → level e ts ≡ Some r → IsExpression ts r
  unfolding level
  level_is ts r h = level_by_is (start_of ts) ts r h

-- what is read of an expression has the tokens that were taken, and fits the levels
pub expression_sound : (n : ℕ) → Sound (expression_at n) expression_tokens expression_nesting n
unfolding expression_at
expression_sound zero = record { is = λ ts r h. absurd cc }
expression_sound (suc n) = record { is = level_is (expression_at n) n (expression_sound n) }
