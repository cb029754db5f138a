-- The steps that every part is made of: what each took, and what it takes.
use Rattle.std.proofs.Common.{◌≡◌, Bool, true, false, cond, List, [], ◌∷◌, refl, sym, ap, subst, ◌∙◌, rules, Option, Some, None}
use denote.Enum.Bare.{same_true}
use Rattle.std.proofs.lemmas.Option.{same_Some, some_pair_parts}
use Rattle.scw_reader.proofs.OutcomeLemmas.{passed}
use Rattle.scw_reader.specs.contracts.token.Word as word_type
use Rattle.scw_reader.specs.contracts.token.Sign as sign_type
use Rattle.scw_reader.specs.declared.token.Word.{Word}
use Rattle.scw_reader.specs.declared.token.Word.TheVariants as w
use Rattle.scw_reader.specs.declared.token.Sign.{Sign}
use Rattle.scw_reader.specs.declared.token.Sign.TheVariants as s
use Rattle.scw_reader.specs.declared.token.Token.{Token}
use Rattle.scw_reader.specs.declared.token.Token.TheVariants as token
use Rattle.scw_reader.specs.declared.tree.TypeName.{TypeName}
use Rattle.scw_reader.specs.declared.tree.TypeName.TheVariants as type
use Rattle.scw_reader.specs.declared.tree.Operator.{Operator}
use Rattle.scw_reader.specs.declared.tree.Operator.TheVariants as operator
use Rattle.scw_reader.specs.Syntax.{Name}
use Rattle.scw_reader.specs.Grammar.{type_word, operator_sign}
use Rattle.scw_reader.specs.Parser.{Parser, and_then, same_word, same_sign, is_word, is_sign, expect_word, expect_sign, eat_word, eat_sign, expect_name, expect_type, eat_operator, operated, operator_in, operator_of, type_of, typed, type_in, name_in}

-- ---- steps in a row

-- what a step gave that others follow
pub after_step : {A B : Type 0} (o : Option (A × List Token)) (f : A → Parser B) (r : B × List Token) → and_then o f ≡ Some r → (p : A × List Token) × (o ≡ Some p) × (f p.0 p.1 ≡ Some r)
after_step None f r h = absurd cc
after_step (Some p) f r h = (p, refl, h)

-- ---- words and signs

same_word_is : (v w : Word) → same_word v w ≡ true → v ≡ w
same_word_is v w h = same_true word_type.the_type (search rules) v w h

same_sign_is : (s t : Sign) → same_sign s t ≡ true → s ≡ t
same_sign_is s t h = same_true sign_type.the_type (search rules) s t h

word_token : (w : Word) (t : Token) → is_word w t ≡ true → t ≡ token.Word w
word_token w (token.Word v) h = ap token.Word (sym (same_word_is w v h))
word_token w (token.Sign s) h = absurd cc
word_token w (token.Name x) h = absurd cc
word_token w (token.Int n) h = absurd cc
word_token w (token.Long n) h = absurd cc
word_token w (token.Text text) h = absurd cc

sign_token : (s : Sign) (t : Token) → is_sign s t ≡ true → t ≡ token.Sign s
sign_token s (token.Word w) h = absurd cc
sign_token s (token.Sign t) h = ap token.Sign (sym (same_sign_is s t h))
sign_token s (token.Name x) h = absurd cc
sign_token s (token.Int n) h = absurd cc
sign_token s (token.Long n) h = absurd cc
sign_token s (token.Text text) h = absurd cc

pub expect_word_is : (w : Word) (ts : List Token) (p : Unit {0} × List Token) → expect_word w ts ≡ Some p → ts ≡ token.Word w ∷ p.1
unfolding expect_word
expect_word_is w [] p h = absurd cc
expect_word_is w (t ∷ ts) p h =
    let k = passed (is_word w t) (Some (tt, ts)) p h in
    let same : (tt, ts) ≡ p = same_Some _ _ k.1 in
    ap (λ u. u ∷ ts) (word_token w t k.0) ∙ ap (λ (q : Unit {0} × List Token). token.Word w ∷ q.1) same

pub expect_sign_is : (s : Sign) (ts : List Token) (p : Unit {0} × List Token) → expect_sign s ts ≡ Some p → ts ≡ token.Sign s ∷ p.1
unfolding expect_sign
expect_sign_is s [] p h = absurd cc
expect_sign_is s (t ∷ ts) p h =
    let k = passed (is_sign s t) (Some (tt, ts)) p h in
    let same : (tt, ts) ≡ p = same_Some _ _ k.1 in
    ap (λ u. u ∷ ts) (sign_token s t k.0) ∙ ap (λ (q : Unit {0} × List Token). token.Sign s ∷ q.1) same

-- what a sign that may come left, where it came and where it did not
abbrev pub Eaten : Token → List Token → Bool → List Token → Type 0
Eaten t ts true rest = ts ≡ t ∷ rest
Eaten t ts false rest = ts ≡ rest

eaten : (u t : Token) (ts : List Token) (b : Bool) (found : Bool) (rest : List Token) → (b ≡ true → t ≡ u) → cond {A = Option (Bool × List Token)} b (Some (true, ts)) (Some (false, t ∷ ts)) ≡ Some (found, rest) → Eaten u (t ∷ ts) found rest
eaten u t ts true true rest same h = ap (λ v. v ∷ ts) (same refl) ∙ ap (λ r. u ∷ r) (some_pair_parts true true ts rest h).1
eaten u t ts true false rest same h = absurd (let e = (some_pair_parts true false ts rest h).0 in cc)
eaten u t ts false true rest same h = absurd (let e = (some_pair_parts false true (t ∷ ts) rest h).0 in cc)
eaten u t ts false false rest same h = (some_pair_parts false false (t ∷ ts) rest h).1

nothing_eaten : (u : Token) (found : Bool) (rest : List Token) → ◌≡◌ {A = Option (Bool × List Token)} (Some (false, [])) (Some (found, rest)) → Eaten u [] found rest
nothing_eaten u true rest h = absurd (let e = (some_pair_parts false true [] rest h).0 in cc)
nothing_eaten u false rest h = (some_pair_parts false false [] rest h).1

pub eat_word_is : (w : Word) (ts : List Token) (p : Bool × List Token) → eat_word w ts ≡ Some p → Eaten (token.Word w) ts p.0 p.1
unfolding eat_word
eat_word_is w [] p h = nothing_eaten (token.Word w) p.0 p.1 h
eat_word_is w (t ∷ ts) p h = eaten (token.Word w) t ts (is_word w t) p.0 p.1 (word_token w t) h

pub eat_sign_is : (s : Sign) (ts : List Token) (p : Bool × List Token) → eat_sign s ts ≡ Some p → Eaten (token.Sign s) ts p.0 p.1
unfolding eat_sign
eat_sign_is s [] p h = nothing_eaten (token.Sign s) p.0 p.1 h
eat_sign_is s (t ∷ ts) p h = eaten (token.Sign s) t ts (is_sign s t) p.0 p.1 (sign_token s t) h

-- ---- names, types and operators

name_in_is : (t : Token) (ts : List Token) (p : Name × List Token) → name_in t ts ≡ Some p → t ∷ ts ≡ token.Name p.0 ∷ p.1
name_in_is (token.Name x) ts p h = ap (λ (q : Name × List Token). token.Name q.0 ∷ q.1) (same_Some (x, ts) p h)
name_in_is (token.Word w) ts p h = absurd cc
name_in_is (token.Sign s) ts p h = absurd cc
name_in_is (token.Int n) ts p h = absurd cc
name_in_is (token.Long n) ts p h = absurd cc
name_in_is (token.Text text) ts p h = absurd cc

pub expect_name_is : (ts : List Token) (p : Name × List Token) → expect_name ts ≡ Some p → ts ≡ token.Name p.0 ∷ p.1
unfolding expect_name
expect_name_is [] p h = absurd cc
expect_name_is (t ∷ ts) p h = name_in_is t ts p h

type_of_is : (v : Word) (t : TypeName) → type_of v ≡ Some t → v ≡ type_word t
type_of_is w.Object t h = absurd cc
type_of_is w.Def t h = absurd cc
type_of_is w.If t h = absurd cc
type_of_is w.Else t h = absurd cc
type_of_is w.While t h = absurd cc
type_of_is w.Val t h = absurd cc
type_of_is w.Var t h = absurd cc
type_of_is w.True t h = absurd cc
type_of_is w.False t h = absurd cc
type_of_is w.MainObject t h = absurd cc
type_of_is w.MainMethod t h = absurd cc
type_of_is w.Args t h = absurd cc
type_of_is w.Array t h = absurd cc
type_of_is w.Println t h = absurd cc
type_of_is w.Unit t h = ap type_word (same_Some type.Unit t h)
type_of_is w.Boolean t h = ap type_word (same_Some type.Boolean t h)
type_of_is w.Int t h = ap type_word (same_Some type.Int t h)
type_of_is w.Long t h = ap type_word (same_Some type.Long t h)
type_of_is w.String t h = ap type_word (same_Some type.String t h)

pub type_of-word : (t : TypeName) → type_of (type_word t) ≡ Some t
type_of-word type.Unit = refl
type_of-word type.Boolean = refl
type_of-word type.Int = refl
type_of-word type.Long = refl
type_of-word type.String = refl

type_in_is : (t : Token) (ts : List Token) (p : TypeName × List Token) → type_in t ts ≡ Some p → t ∷ ts ≡ token.Word (type_word p.0) ∷ p.1
type_in_is (token.Word v) ts p h = by (type_of v) refl h
  where
    by : (o : Option TypeName) → type_of v ≡ o → typed o ts ≡ Some p → token.Word v ∷ ts ≡ token.Word (type_word p.0) ∷ p.1
    by None e h = absurd cc
    by (Some t) e h = ap (λ u. token.Word u ∷ ts) (type_of_is v t e) ∙ ap (λ (q : TypeName × List Token). token.Word (type_word q.0) ∷ q.1) (same_Some (t, ts) p h)
type_in_is (token.Name x) ts p h = absurd cc
type_in_is (token.Sign s) ts p h = absurd cc
type_in_is (token.Int n) ts p h = absurd cc
type_in_is (token.Long n) ts p h = absurd cc
type_in_is (token.Text text) ts p h = absurd cc

pub expect_type_is : (ts : List Token) (p : TypeName × List Token) → expect_type ts ≡ Some p → ts ≡ token.Word (type_word p.0) ∷ p.1
unfolding expect_type
expect_type_is [] p h = absurd cc
expect_type_is (t ∷ ts) p h = type_in_is t ts p h

pub expect_type-word : (t : TypeName) (ts : List Token) → expect_type (token.Word (type_word t) ∷ ts) ≡ Some (t, ts)
unfolding expect_type
expect_type-word t ts = ap (λ o. typed o ts) (type_of-word t)

operator_of_is : (s : Sign) (o : Operator) → operator_of s ≡ Some o → s ≡ operator_sign o
operator_of_is s.OpenParen o h = absurd cc
operator_of_is s.CloseParen o h = absurd cc
operator_of_is s.OpenBracket o h = absurd cc
operator_of_is s.CloseBracket o h = absurd cc
operator_of_is s.OpenBrace o h = absurd cc
operator_of_is s.CloseBrace o h = absurd cc
operator_of_is s.Comma o h = absurd cc
operator_of_is s.Semicolon o h = absurd cc
operator_of_is s.Colon o h = absurd cc
operator_of_is s.Assign o h = absurd cc
operator_of_is s.Plus o h = absurd cc
operator_of_is s.Times o h = absurd cc
operator_of_is s.Minus o h = ap operator_sign (same_Some operator.Subtract o h)
operator_of_is s.Divide o h = ap operator_sign (same_Some operator.Divide o h)
operator_of_is s.Remainder o h = ap operator_sign (same_Some operator.Remainder o h)
operator_of_is s.Less o h = ap operator_sign (same_Some operator.Less o h)
operator_of_is s.LessOrEqual o h = ap operator_sign (same_Some operator.LessOrEqual o h)
operator_of_is s.Greater o h = ap operator_sign (same_Some operator.Greater o h)
operator_of_is s.GreaterOrEqual o h = ap operator_sign (same_Some operator.GreaterOrEqual o h)
operator_of_is s.Equal o h = ap operator_sign (same_Some operator.Equal o h)
operator_of_is s.Unequal o h = ap operator_sign (same_Some operator.Unequal o h)
operator_of_is s.And o h = ap operator_sign (same_Some operator.And o h)
operator_of_is s.Or o h = ap operator_sign (same_Some operator.Or o h)

pub operator_of-sign : (o : Operator) → operator_of (operator_sign o) ≡ Some o
operator_of-sign operator.Subtract = refl
operator_of-sign operator.Divide = refl
operator_of-sign operator.Remainder = refl
operator_of-sign operator.Less = refl
operator_of-sign operator.LessOrEqual = refl
operator_of-sign operator.Greater = refl
operator_of-sign operator.GreaterOrEqual = refl
operator_of-sign operator.Equal = refl
operator_of-sign operator.Unequal = refl
operator_of-sign operator.And = refl
operator_of-sign operator.Or = refl

operator_in_is : (t : Token) (o : Operator) → operator_in t ≡ Some o → t ≡ token.Sign (operator_sign o)
operator_in_is (token.Sign s) o h = ap token.Sign (operator_of_is s o h)
operator_in_is (token.Word w) o h = absurd cc
operator_in_is (token.Name x) o h = absurd cc
operator_in_is (token.Int n) o h = absurd cc
operator_in_is (token.Long n) o h = absurd cc
operator_in_is (token.Text text) o h = absurd cc

-- what an operator that may come left
abbrev pub Operates : List Token → Option Operator → List Token → Type 0
Operates ts (Some o) rest = ts ≡ token.Sign (operator_sign o) ∷ rest
Operates ts None rest = ts ≡ rest

pub eat_operator_is : (ts : List Token) (p : Option Operator × List Token) → eat_operator ts ≡ Some p → Operates ts p.0 p.1
unfolding eat_operator
eat_operator_is [] p h = subst (λ (q : Option Operator × List Token). Operates [] q.0 q.1) (same_Some (None, []) p h) refl
eat_operator_is (t ∷ ts) p h = by (operator_in t) refl h
  where
    by : (o : Option Operator) → operator_in t ≡ o → operated o t ts ≡ Some p → Operates (t ∷ ts) p.0 p.1
    by None e h = subst (λ (q : Option Operator × List Token). Operates (t ∷ ts) q.0 q.1) (same_Some (None, t ∷ ts) p h) refl
    by (Some o) e h = subst (λ (q : Option Operator × List Token). Operates (t ∷ ts) q.0 q.1) (same_Some (Some o, ts) p h) (ap (λ u. u ∷ ts) (operator_in_is t o e))

pub eat_operator-sign : (o : Operator) (ts : List Token) → eat_operator (token.Sign (operator_sign o) ∷ ts) ≡ Some (Some o, ts)
unfolding eat_operator
eat_operator-sign o ts = ap (λ x. operated x (token.Sign (operator_sign o)) ts) (operator_of-sign o)

-- ---- what is taken

-- a step that gives something, and then the others
pub then_step : {A B : Type 0} (o : Option (A × List Token)) (f : A → Parser B) (x : A) (ts : List Token) (r : B × List Token) → o ≡ Some (x, ts) → f x ts ≡ Some r → and_then o f ≡ Some r
then_step o f x ts r e h = ap (λ u. and_then u f) e ∙ h

pub takes_word : (w : Word) (rest : List Token) → same_word w w ≡ true → expect_word w (token.Word w ∷ rest) ≡ Some (tt, rest)
unfolding expect_word
takes_word w rest same = ap (λ b. cond {A = Option (Unit {0} × List Token)} b (Some (tt, rest)) None) same

pub takes_sign : (s : Sign) (rest : List Token) → same_sign s s ≡ true → expect_sign s (token.Sign s ∷ rest) ≡ Some (tt, rest)
unfolding expect_sign
takes_sign s rest same = ap (λ b. cond {A = Option (Unit {0} × List Token)} b (Some (tt, rest)) None) same

pub takes_name : (x : Name) (rest : List Token) → expect_name (token.Name x ∷ rest) ≡ Some (x, rest)
unfolding expect_name
takes_name x rest = refl
