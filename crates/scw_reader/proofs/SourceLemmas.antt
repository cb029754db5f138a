-- What is read of all tokens is the source whose tokens they are, and the only one.
use Rattle.std.proofs.Common.{◌≡◌, ℕ, zero, suc, ◌≤◌, max, List, [], ◌∷◌, ◌++◌, length, refl, sym, ap, subst, ◌∙◌, arith, Option, Some, None, inl, inr, append_assoc, append-nil}
use Rattle.std.proofs.lemmas.Option.{same_Some}
use Rattle.scw_reader.specs.declared.token.Word.TheVariants as w
use Rattle.scw_reader.specs.declared.token.Sign.TheVariants as s
use Rattle.scw_reader.specs.declared.token.Token.{Token}
use Rattle.scw_reader.specs.declared.token.Token.TheVariants as token
use Rattle.scw_reader.specs.declared.tree.Parameter.{Parameter}
use Rattle.scw_reader.specs.declared.limit.TheConstants.{MAX_NESTING}
use Rattle.scw_reader.specs.Syntax.{Expression, Method, Source}
use Rattle.scw_reader.specs.Grammar.{Tokens, ◌·◌, word, sign, named, type_tokens, expression_tokens, parameter_tokens, more_parameters_tokens, parameters_tokens, method_tokens, before_tokens, after_tokens, source_tokens}
use Rattle.scw_reader.specs.Limits.{expression_nesting, methods_nesting, source_nesting}
use Rattle.scw_reader.specs.Parser.{expect_word, expect_sign, eat_word, eat_sign, expect_name, expect_type, chain}
use Rattle.scw_reader.specs.ReadingSource.{body_at, parameter_at, parameters_at, method_at, main_clause, main_at, before_from, before_at, def_at, object_at, at_end, source_in}
use Rattle.scw_reader.proofs.ParserLemmas.{after_step, Eaten, eat_sign_is, eat_word_is, expect_sign_is, expect_word_is, expect_name_is, expect_type_is}
use Rattle.scw_reader.proofs.ChainLemmas.{Sound, turned, chain_tokens, AllWithin, chain_is}
use Rattle.scw_reader.proofs.TreeLemmas.{most, most-within}
use Rattle.scw_reader.proofs.SoundLemmas.{Taken, finish, expression_sound}

body_sound : Sound body_at expression_tokens expression_nesting MAX_NESTING
body_sound = expression_sound MAX_NESTING

-- ---- parameters, which have no size

abbrev pub no_size : {A : Type 0} → A → ℕ
no_size x = 0

parameter_is : (ts : List Token) (r : Parameter × List Token) → parameter_at ts ≡ Some r → Taken parameter_tokens no_size 0 ts r
unfolding parameter_at
parameter_is ts r h =
    let a = after_step (expect_name ts) _ r h in
    let b = after_step (expect_sign s.Colon a.0.1) _ r a.2 in
    let c = after_step (expect_type b.0.1) _ r b.2 in
    finish (Taken parameter_tokens no_size 0 ts) (record { name = a.0.0; kind = c.0.0 }) c.0.1 r c.2
    (expect_name_is ts a.0 a.1 ∙ ap (named a.0.0) (expect_sign_is s.Colon a.0.1 b.0 b.1 ∙ ap (sign s.Colon) (expect_type_is b.0.1 c.0 c.1)), omega arith)

parameter_sound : Sound parameter_at parameter_tokens no_size 0
parameter_sound = record { is = parameter_is }

pub more_parameters_tokens-chain : (ps : List Parameter) (rest : List Token) → more_parameters_tokens ps rest ≡ chain_tokens s.Comma parameter_tokens ps rest
more_parameters_tokens-chain [] rest = refl
more_parameters_tokens-chain (p ∷ ps) rest = ap (λ r. token.Sign s.Comma ∷ parameter_tokens p r) (more_parameters_tokens-chain ps rest)

abbrev pub closed_parameters_tokens : List Parameter → Tokens
closed_parameters_tokens ps = parameters_tokens ps · sign s.CloseParen

parameters_is : (ts : List Token) (r : List Parameter × List Token) → parameters_at ts ≡ Some r → ts ≡ closed_parameters_tokens r.0 r.1
unfolding parameters_at
parameters_is ts r h =
    let a = after_step (eat_sign s.CloseParen ts) _ r h in
    let eats = eat_sign_is s.CloseParen ts a.0 a.1 in
    elim (turned a.0.0 _ _ a.0.1 r a.2) [
      | inl v ↦ finish (λ q. ts ≡ closed_parameters_tokens q.0 q.1) [] a.0.1 r v.1 (subst (λ t. Eaten (token.Sign s.CloseParen) ts t a.0.1) v.0 eats)
      | inr v ↦
          let same : ts ≡ a.0.1 = subst (λ t. Eaten (token.Sign s.CloseParen) ts t a.0.1) v.0 eats in
          let b = after_step (parameter_at a.0.1) _ r v.1 in
          let t = parameter_is a.0.1 b.0 b.1 in
          let d = after_step (chain s.Comma parameter_at (b.0.0 ∷ []) b.0.1) _ r b.2 in
          let c = chain_is s.Comma parameter_at parameter_tokens no_size 0 parameter_sound (b.0.0 ∷ []) b.0.1 d.0 d.1 in
          let f = after_step (expect_sign s.CloseParen d.0.1) _ r d.2 in
          finish (λ q. ts ≡ closed_parameters_tokens q.0 q.1) d.0.0 f.0.1 r f.2
          (subst (λ ps. ts ≡ closed_parameters_tokens ps f.0.1) (sym c.all)
          (same ∙ t.0 ∙ ap (parameter_tokens b.0.0) (c.tokens ∙ sym (more_parameters_tokens-chain c.more d.0.1) ∙ ap (more_parameters_tokens c.more) (expect_sign_is s.CloseParen d.0.1 f.0 f.1))))
    ]

-- ---- methods

-- a method without its `def`
abbrev pub rest_tokens : Method → Tokens
rest_tokens m =
    named m.name · sign s.OpenParen · parameters_tokens m.parameters · sign s.CloseParen · sign s.Colon · type_tokens m.result · sign s.Assign · expression_tokens m.body

abbrev pub method_nesting : Method → ℕ
method_nesting m = expression_nesting m.body

method_is : (ts : List Token) (r : Method × List Token) → method_at ts ≡ Some r → Taken rest_tokens method_nesting MAX_NESTING ts r
unfolding method_at
method_is ts r h =
    let a = after_step (expect_name ts) _ r h in
    let b = after_step (expect_sign s.OpenParen a.0.1) _ r a.2 in
    let c = after_step (parameters_at b.0.1) _ r b.2 in
    let d = after_step (expect_sign s.Colon c.0.1) _ r c.2 in
    let f = after_step (expect_type d.0.1) _ r d.2 in
    let g = after_step (expect_sign s.Assign f.0.1) _ r f.2 in
    let k = after_step (body_at g.0.1) _ r g.2 in
    let body = body_sound.is g.0.1 k.0 k.1 in
    finish (Taken rest_tokens method_nesting MAX_NESTING ts) (record { name = a.0.0; parameters = c.0.0; result = f.0.0; body = k.0.0 }) k.0.1 r k.2 (
      expect_name_is ts a.0 a.1 ∙ ap (named a.0.0) (expect_sign_is s.OpenParen a.0.1 b.0 b.1 ∙ ap (sign s.OpenParen) (parameters_is b.0.1 c.0 c.1 ∙ ap (closed_parameters_tokens c.0.0)
          (expect_sign_is s.Colon c.0.1 d.0 d.1 ∙ ap (sign s.Colon) (expect_type_is d.0.1 f.0 f.1 ∙ ap (type_tokens f.0.0) (expect_sign_is s.Assign f.0.1 g.0 g.1 ∙ ap (sign s.Assign) body.0))))),
      body.1,
    )

def_is : (ts : List Token) (r : Method × List Token) → def_at ts ≡ Some r → Taken method_tokens method_nesting MAX_NESTING ts r
unfolding def_at
def_is ts r h =
    let a = after_step (expect_word w.Def ts) _ r h in
    let m = method_is a.0.1 r a.2 in
    (expect_word_is w.Def ts a.0 a.1 ∙ ap (word w.Def) m.0, m.1)

def_sound : Sound def_at method_tokens method_nesting MAX_NESTING
def_sound = record { is = def_is }

pub after_tokens-chain : (ms : List Method) (rest : List Token) → after_tokens ms rest ≡ chain_tokens s.Semicolon method_tokens ms rest
after_tokens-chain [] rest = refl
after_tokens-chain (m ∷ ms) rest = ap (λ r. token.Sign s.Semicolon ∷ method_tokens m r) (after_tokens-chain ms rest)

pub methods_nesting-most : (ms : List Method) → methods_nesting ms ≡ most method_nesting ms
methods_nesting-most [] = refl
methods_nesting-most (m ∷ ms) = ap (max (expression_nesting m.body)) (methods_nesting-most ms)

-- ---- `main`

-- `(args: Array[String])`
abbrev pub clause_tokens : Tokens
clause_tokens =
    sign s.OpenParen · word w.Args · sign s.Colon · word w.Array · sign s.OpenBracket · word w.String · sign s.CloseBracket · sign s.CloseParen

clause_is : (ts : List Token) (r : Unit {0} × List Token) → main_clause ts ≡ Some r → ts ≡ clause_tokens r.1
unfolding main_clause
clause_is ts r h =
    let a = after_step (expect_sign s.OpenParen ts) _ r h in
    let b = after_step (expect_word w.Args a.0.1) _ r a.2 in
    let c = after_step (expect_sign s.Colon b.0.1) _ r b.2 in
    let d = after_step (expect_word w.Array c.0.1) _ r c.2 in
    let f = after_step (expect_sign s.OpenBracket d.0.1) _ r d.2 in
    let g = after_step (expect_word w.String f.0.1) _ r f.2 in
    let k = after_step (expect_sign s.CloseBracket g.0.1) _ r g.2 in
    expect_sign_is s.OpenParen ts a.0 a.1 ∙ ap (sign s.OpenParen) (expect_word_is w.Args a.0.1 b.0 b.1 ∙ ap (word w.Args) (expect_sign_is s.Colon b.0.1 c.0 c.1 ∙ ap (sign s.Colon)
    (expect_word_is w.Array c.0.1 d.0 d.1 ∙ ap (word w.Array) (expect_sign_is s.OpenBracket d.0.1 f.0 f.1 ∙ ap (sign s.OpenBracket) (expect_word_is w.String f.0.1 g.0 g.1 ∙ ap (word w.String)
    (expect_sign_is s.CloseBracket g.0.1 k.0 k.1 ∙ ap (sign s.CloseBracket) (expect_sign_is s.CloseParen k.0.1 r k.2)))))))

-- `main` without `def main`
abbrev pub main_rest_tokens : Expression → Tokens
main_rest_tokens e = clause_tokens · sign s.Colon · word w.Unit · sign s.Assign · expression_tokens e

main_is : (ts : List Token) (r : Expression × List Token) → main_at ts ≡ Some r → Taken main_rest_tokens expression_nesting MAX_NESTING ts r
unfolding main_at
main_is ts r h =
    let a = after_step (main_clause ts) _ r h in
    let b = after_step (expect_sign s.Colon a.0.1) _ r a.2 in
    let c = after_step (expect_word w.Unit b.0.1) _ r b.2 in
    let d = after_step (expect_sign s.Assign c.0.1) _ r c.2 in
    let body = body_sound.is d.0.1 r d.2 in
    (clause_is ts a.0 a.1 ∙ ap clause_tokens (expect_sign_is s.Colon a.0.1 b.0 b.1 ∙ ap (sign s.Colon) (expect_word_is w.Unit b.0.1 c.0 c.1 ∙ ap (word w.Unit) (expect_sign_is s.Assign c.0.1 d.0 d.1 ∙ ap (sign s.Assign) body.0))), body.1)

-- ---- the methods before `main`

-- what the methods before `main` are, behind those that were found
record Before (found : List Method) (ts : List Token) (r : List Method × List Token) : Type 0 where
  more : List Method
  all : r.0 ≡ found ++ more
  tokens : ts ≡ before_tokens more (token.Word w.Def ∷ token.Word w.MainMethod ∷ r.1)
  within : AllWithin method_nesting MAX_NESTING more

no_method : (found : List Method) (ts at : List Token) (r : List Method × List Token) → ts ≡ token.Word w.Def ∷ token.Word w.MainMethod ∷ at → ◌≡◌ {A = Option (List Method × List Token)} (Some (found, at)) (Some r) → Before found ts r
no_method found ts at r same h = finish (Before found ts) found at r h (record { more = []; all = sym (append-nil found); tokens = same; within = tt })

one_method : (found : List Method) (ts : List Token) (m : Method) (at : List Token) (r : List Method × List Token) → ts ≡ method_tokens m (token.Sign s.Semicolon ∷ at) → method_nesting m ≤ MAX_NESTING
    → Before (found ++ m ∷ []) at r → Before found ts r
one_method found ts m at r same fits b = record {
  more = m ∷ b.more;
  all = b.all ∙ append_assoc found (m ∷ []) b.more;
  tokens = same ∙ ap (λ x. method_tokens m (token.Sign s.Semicolon ∷ x)) b.tokens;
  within = (fits, b.within);
}

before_from_is : (k : ℕ) (found : List Method) (ts : List Token) (r : List Method × List Token) → before_from k found ts ≡ Some r → Before found ts r
unfolding before_from
before_from_is zero found ts r h = absurd cc
before_from_is (suc k) found ts r h =
    let a = after_step (expect_word w.Def ts) _ r h in
    let def = expect_word_is w.Def ts a.0 a.1 in
    let b = after_step (eat_word w.MainMethod a.0.1) _ r a.2 in
    let eats = eat_word_is w.MainMethod a.0.1 b.0 b.1 in
    elim (turned b.0.0 _ _ b.0.1 r b.2) [
      | inl v ↦ no_method found ts b.0.1 r (def ∙ ap (word w.Def) (subst (λ t. Eaten (token.Word w.MainMethod) a.0.1 t b.0.1) v.0 eats)) v.1
      | inr v ↦
          let same : a.0.1 ≡ b.0.1 = subst (λ t. Eaten (token.Word w.MainMethod) a.0.1 t b.0.1) v.0 eats in
          let c = after_step (method_at b.0.1) _ r v.1 in
          let m = method_is b.0.1 c.0 c.1 in
          let d = after_step (expect_sign s.Semicolon c.0.1) _ r c.2 in
          one_method found ts c.0.0 d.0.1 r (def ∙ ap (word w.Def) (same ∙ m.0 ∙ ap (rest_tokens c.0.0) (expect_sign_is s.Semicolon c.0.1 d.0 d.1))) m.1
          (before_from_is k (found ++ c.0.0 ∷ []) d.0.1 r d.2)
    ]

before_is : (ts : List Token) (r : List Method × List Token) → before_at ts ≡ Some r → Before [] ts r
unfolding before_at
before_is ts r h = before_from_is (length ts) [] ts r h

-- ---- the object

object_is : (ts : List Token) (r : Source × List Token) → object_at ts ≡ Some r → Taken source_tokens source_nesting MAX_NESTING ts r
unfolding object_at
object_is ts r h =
    let a = after_step (expect_word w.Object ts) _ r h in
    let b = after_step (expect_word w.MainObject a.0.1) _ r a.2 in
    let c = after_step (expect_sign s.OpenBrace b.0.1) _ r b.2 in
    let d = after_step (before_at c.0.1) _ r c.2 in
    let f = after_step (main_at d.0.1) _ r d.2 in
    let g = after_step (chain s.Semicolon def_at [] f.0.1) _ r f.2 in
    let k = after_step (expect_sign s.CloseBrace g.0.1) _ r g.2 in
    let before = before_is c.0.1 d.0 d.1 in
    let main = main_is d.0.1 f.0 f.1 in
    let after = chain_is s.Semicolon def_at method_tokens method_nesting MAX_NESTING def_sound [] f.0.1 g.0 g.1 in
    let before_fits = subst (λ x. methods_nesting x ≤ MAX_NESTING) (sym before.all) (subst (λ x. x ≤ MAX_NESTING) (sym (methods_nesting-most before.more)) (most-within method_nesting MAX_NESTING before.more before.within)) in
    let after_fits = subst (λ x. methods_nesting x ≤ MAX_NESTING) (sym after.all) (subst (λ x. x ≤ MAX_NESTING) (sym (methods_nesting-most after.more)) (most-within method_nesting MAX_NESTING after.more after.within)) in
    let def_main = λ (x : List Token). token.Word w.Def ∷ token.Word w.MainMethod ∷ x in
    let behind = after.tokens ∙ sym (after_tokens-chain after.more g.0.1) ∙ ap (after_tokens after.more) (expect_sign_is s.CloseBrace g.0.1 k.0 k.1) ∙ ap (λ ms. after_tokens ms (token.Sign s.CloseBrace ∷ k.0.1)) (sym after.all) in
    finish (Taken source_tokens source_nesting MAX_NESTING ts) (record { before = d.0.0; main = f.0.0; after = g.0.0 }) k.0.1 r k.2 (
      expect_word_is w.Object ts a.0 a.1 ∙ ap (word w.Object) (expect_word_is w.MainObject a.0.1 b.0 b.1 ∙ ap (word w.MainObject) (expect_sign_is s.OpenBrace b.0.1 c.0 c.1 ∙ ap (sign s.OpenBrace)
          (before.tokens ∙ ap (λ ms. before_tokens ms (def_main d.0.1)) (sym before.all) ∙ ap (λ x. before_tokens d.0.0 (def_main x)) (main.0 ∙ ap (main_rest_tokens f.0.0) behind)))),
      max_within before_fits main.1 after_fits,
    )
  where
    max_within : {a b c n : ℕ} → a ≤ n → b ≤ n → c ≤ n → max a (max b c) ≤ n
    max_within f g h = omega arith

-- what is read of all tokens is a source with these tokens, within the levels
pub source_is : (ts : List Token) (e : Source) → source_in ts ≡ Some e → (ts ≡ source_tokens e []) × (source_nesting e ≤ MAX_NESTING)
unfolding source_in
source_is ts e h = by (object_at ts) refl h
  where
    by : (o : Option (Source × List Token)) → object_at ts ≡ o → at_end o ≡ Some e → (ts ≡ source_tokens e []) × (source_nesting e ≤ MAX_NESTING)
    by None k h = absurd cc
    by (Some (f, [])) k h = subst (λ x. Taken source_tokens source_nesting MAX_NESTING ts (x, [])) (same_Some f e h) (object_is ts (f, []) k)
    by (Some (f, t ∷ us)) k h = absurd cc
