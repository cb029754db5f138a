-- What reads a part of a tree from tokens, and the steps that every part is made of. No public clause cites this file.
use Rattle.std.specs.Prelude.{◌≡◌, ℕ, zero, suc, Bool, true, false, if◌then◌else◌, List, [], ◌∷◌, ◌++◌, length, Option, Some, None, Result, Ok, Err}
use denote.Enum.Bare.{sameb}
use Rattle.scw_reader.specs.contracts.token.Word as word_type
use Rattle.scw_reader.specs.contracts.token.Sign as sign_type
use Rattle.scw_reader.specs.declared.token.Word.{Word}
use Rattle.scw_reader.specs.declared.token.Word.TheVariants as w
use Rattle.scw_reader.specs.declared.token.Sign.{Sign}
use Rattle.scw_reader.specs.declared.token.Sign.TheVariants as s
use Rattle.scw_reader.specs.declared.token.Token.{Token}
use Rattle.scw_reader.specs.declared.token.Token.TheVariants as token
use Rattle.scw_reader.specs.declared.tree.TypeName.{TypeName}
use Rattle.scw_reader.specs.declared.tree.TypeName.TheVariants as type
use Rattle.scw_reader.specs.declared.tree.Operator.{Operator}
use Rattle.scw_reader.specs.declared.tree.Operator.TheVariants as operator
use Rattle.scw_reader.specs.declared.failure.Failure.{Failure}
use Rattle.scw_reader.specs.declared.failure.Failure.TheVariants as failure
use Rattle.scw_reader.specs.Syntax.{Name}

-- ---- parsers

abbrev pub Parser : Type 0 → Type 0
Parser A = List Token → Option (A × List Token)

abbrev pub and_then : {A B : Type 0} → Option (A × List Token) → (A → Parser B) → Option (B × List Token)
and_then None f = None
and_then (Some p) f = f p.0 p.1

infixl 10 ◌>>=◌
abbrev pub ◌>>=◌ : {A B : Type 0} → Parser A → (A → Parser B) → Parser B
p >>= f = λ tokens. and_then (p tokens) f

infixl 10 ◌>>◌
abbrev pub ◌>>◌ : {A B : Type 0} → Parser A → Parser B → Parser B
p >> q = p >>= (λ _. q)

abbrev pub pure : {A : Type 0} → A → Parser A
pure a = λ tokens. Some (a, tokens)

abbrev pub refuse : {A : Type 0} → Parser A
refuse = λ tokens. None

infixr 11 ◌<$>◌
abbrev pub ◌<$>◌ : {A B : Type 0} → (A → B) → Parser A → Parser B
f <$> p = p >>= (λ x. pure (f x))

-- what a function that reads ensures: what the parser gives, seen by view, unless memory ran out
abbrev pub ReadsNone : {Y : Type 0} → Option Y → Failure → Type 0
ReadsNone read failure.Other = read ≡ None
ReadsNone read failure.NoMemory = Unit {0}

abbrev pub Reads : {X Y : Type 0} → (X → Y) → Option (Y × List Token) → Result X Failure → List Token → Type 0
Reads view read (Ok x) rest = read ≡ Some (view x, rest)
Reads view read (Err e) rest = ReadsNone read e

-- ---- one token

-- `==` on words and on signs
abbrev pub same_word : Word → Word → Bool
same_word = sameb word_type.the_type

abbrev pub same_sign : Sign → Sign → Bool
same_sign = sameb sign_type.the_type

abbrev pub is_word : Word → Token → Bool
is_word w (token.Word v) = same_word w v
is_word w _ = false

abbrev pub is_sign : Sign → Token → Bool
is_sign s (token.Sign t) = same_sign s t
is_sign s _ = false

-- the next token
abbrev pub next : Parser Token
next [] = None
next (t ∷ ts) = Some (t, ts)

unfoldable pub expect_word : Word → Parser (Unit {0})
expect_word w [] = None
expect_word w (t ∷ ts) = if is_word w t then Some (tt, ts) else None

unfoldable pub expect_sign : Sign → Parser (Unit {0})
expect_sign s [] = None
expect_sign s (t ∷ ts) = if is_sign s t then Some (tt, ts) else None

-- takes the word, if it comes next
unfoldable pub eat_word : Word → Parser Bool
eat_word w [] = Some (false, [])
eat_word w (t ∷ ts) = if is_word w t then Some (true, ts) else Some (false, t ∷ ts)

-- takes the sign, if it comes next
unfoldable pub eat_sign : Sign → Parser Bool
eat_sign s [] = Some (false, [])
eat_sign s (t ∷ ts) = if is_sign s t then Some (true, ts) else Some (false, t ∷ ts)

abbrev pub name_in : Token → List Token → Option (Name × List Token)
name_in (token.Name x) ts = Some (x, ts)
name_in _ ts = None

unfoldable pub expect_name : Parser Name
expect_name [] = None
expect_name (t ∷ ts) = name_in t ts

abbrev pub type_of : Word → Option TypeName
type_of w.Unit = Some type.Unit
type_of w.Boolean = Some type.Boolean
type_of w.Int = Some type.Int
type_of w.Long = Some type.Long
type_of w.String = Some type.String
type_of _ = None

abbrev pub typed : Option TypeName → List Token → Option (TypeName × List Token)
typed None ts = None
typed (Some t) ts = Some (t, ts)

abbrev pub type_in : Token → List Token → Option (TypeName × List Token)
type_in (token.Word w) ts = typed (type_of w) ts
type_in _ ts = None

unfoldable pub expect_type : Parser TypeName
expect_type [] = None
expect_type (t ∷ ts) = type_in t ts

abbrev pub operator_of : Sign → Option Operator
operator_of s.Minus = Some operator.Subtract
operator_of s.Divide = Some operator.Divide
operator_of s.Remainder = Some operator.Remainder
operator_of s.Less = Some operator.Less
operator_of s.LessOrEqual = Some operator.LessOrEqual
operator_of s.Greater = Some operator.Greater
operator_of s.GreaterOrEqual = Some operator.GreaterOrEqual
operator_of s.Equal = Some operator.Equal
operator_of s.Unequal = Some operator.Unequal
operator_of s.And = Some operator.And
operator_of s.Or = Some operator.Or
operator_of _ = None

abbrev pub operator_in : Token → Option Operator
operator_in (token.Sign s) = operator_of s
operator_in _ = None

abbrev pub operated : Option Operator → Token → List Token → Option (Option Operator × List Token)
operated None t ts = Some (None, t ∷ ts)
operated (Some o) t ts = Some (Some o, ts)

-- takes an operator, if one comes next
unfoldable pub eat_operator : Parser (Option Operator)
eat_operator [] = Some (None, [])
eat_operator (t ∷ ts) = operated (operator_in t) t ts

-- ---- lists. The number bounds the turns; each takes a token, so the count of tokens is enough.

unfoldable pub chain_from : {A : Type 0} → Sign → Parser A → ℕ → List A → Parser (List A)
chain_from separator item zero found = pure found
chain_from separator item (suc n) found = do
  is_more ← eat_sign separator
  if is_more then (do x ← item; chain_from separator item n (found ++ x ∷ [])) else pure found

-- those that were found, and further items with the separator before each
unfoldable pub chain : {A : Type 0} → Sign → Parser A → List A → Parser (List A)
chain separator item found = λ tokens. chain_from separator item (length tokens) found tokens
