-- What the first character of a text says of the tokens that may begin it.
use Rattle.std.proofs.Common.{◌≡◌, ℕ, suc, ◌+◌, ◌<◌, ◌≤◌, Bool, true, false, cond, List, [], ◌∷◌, ◌++◌, length, codes, refl, sym, ap, ◌∙◌, subst, arith, Some, is_some}
use Rattle.std.specs.Prelude.{◌||◌, not, nat_eq, nat_le}
use Rattle.std.specs.List.{list_all}
use Rattle.std.specs.Char.{is_ascii, is_ascii_digit, is_ascii_hexdigit}
use Rattle.std.proofs.lemmas.Bool.{and_parts, eqb-true, ltb-true, leb-true, agree_below, agree_below_at}
use Rattle.ucd_category.specs.GeneralCategory.{general_category}
use Rattle.ucd_category.specs.declared.GeneralCategory.{GeneralCategory}
use Rattle.ucd_category.specs.declared.GeneralCategory.TheVariants as category
use Rattle.scw_text.specs.declared.rule.Rule.TheVariants as rule
use Rattle.scw_lex.specs.declared.character.Class.{Class}
use Rattle.scw_lex.specs.declared.character.Class.TheVariants as class
use Rattle.scw_lex.specs.declared.piece.Piece.{Piece}
use Rattle.scw_lex.specs.declared.piece.Piece.TheVariants as piece
use Rattle.scw_lex.specs.declared.reserved.Reserved.{Reserved}
use Rattle.scw_lex.specs.declared.reserved.TheConstants.{SEPARATORS}
use Rattle.scw_lex.specs.declared.token.Tok.TheVariants as tok
use Rattle.scw_lex.specs.Character.{is_of, begins, is_letter, is_operator, is_letter_class, is_operator_class, ascii_class, category_class, class_of}
use Rattle.scw_lex.specs.Reserved.{token_of, word_of, sign_in, separator}
use Rattle.scw_lex.specs.Name.{named}
use Rattle.scw_lex.specs.Front.{separated}
use Rattle.scw_lex.specs.Number.{value_of, hex_int, hex_long, decimal_number}
use Rattle.scw_lex.specs.Literal.{string_of, closed_lines, closed_back}
use Rattle.scw_lex.specs.Lexical.{IsOperator, IsIdentifier, AreDigits, IsOneOf, IsFraction, IsOptional, IsFloating, IsContent, IsBadEscape, Spells, IsLine, HasBadEscape, HasNoRun, is_quote, Lexical}
use Rattle.scw_lex.proofs.TextLemmas.{first_is, begins_with, begins_front, all_begin}
use Rattle.scw_lex.proofs.CommentLemmas.{is_of_one}

-- ---- classes

abbrev is_digit_class : Class → Bool
is_digit_class class.Digit = true
is_digit_class _ = false

abbrev is_separator_class : Class → Bool
is_separator_class class.Separator = true
is_separator_class _ = false

abbrev is_quote_class : Class → Bool
is_quote_class class.Quote = true
is_quote_class _ = false

is_letter_is : (k : Class) → is_letter_class k ≡ true → k ≡ class.Letter
is_letter_is class.Letter h = refl
is_letter_is class.Digit h = absurd cc
is_letter_is class.White h = absurd cc
is_letter_is class.Separator h = absurd cc
is_letter_is class.Quote h = absurd cc
is_letter_is class.Operator h = absurd cc
is_letter_is class.Other h = absurd cc

is_operator_is : (k : Class) → is_operator_class k ≡ true → k ≡ class.Operator
is_operator_is class.Letter h = absurd cc
is_operator_is class.Digit h = absurd cc
is_operator_is class.White h = absurd cc
is_operator_is class.Separator h = absurd cc
is_operator_is class.Quote h = absurd cc
is_operator_is class.Operator h = refl
is_operator_is class.Other h = absurd cc

is_digit_is : (k : Class) → is_digit_class k ≡ true → k ≡ class.Digit
is_digit_is class.Letter h = absurd cc
is_digit_is class.Digit h = refl
is_digit_is class.White h = absurd cc
is_digit_is class.Separator h = absurd cc
is_digit_is class.Quote h = absurd cc
is_digit_is class.Operator h = absurd cc
is_digit_is class.Other h = absurd cc

is_separator_is : (k : Class) → is_separator_class k ≡ true → k ≡ class.Separator
is_separator_is class.Letter h = absurd cc
is_separator_is class.Digit h = absurd cc
is_separator_is class.White h = absurd cc
is_separator_is class.Separator h = refl
is_separator_is class.Quote h = absurd cc
is_separator_is class.Operator h = absurd cc
is_separator_is class.Other h = absurd cc

no_wide_separator : (g : GeneralCategory) → category_class g ≡ class.Separator → ⊥
no_wide_separator category.UppercaseLetter h = absurd cc
no_wide_separator category.LowercaseLetter h = absurd cc
no_wide_separator category.TitlecaseLetter h = absurd cc
no_wide_separator category.OtherLetter h = absurd cc
no_wide_separator category.LetterNumber h = absurd cc
no_wide_separator category.MathSymbol h = absurd cc
no_wide_separator category.OtherSymbol h = absurd cc
no_wide_separator _ h = absurd cc

no_wide_quote : (g : GeneralCategory) → category_class g ≡ class.Quote → ⊥
no_wide_quote category.UppercaseLetter h = absurd cc
no_wide_quote category.LowercaseLetter h = absurd cc
no_wide_quote category.TitlecaseLetter h = absurd cc
no_wide_quote category.OtherLetter h = absurd cc
no_wide_quote category.LetterNumber h = absurd cc
no_wide_quote category.MathSymbol h = absurd cc
no_wide_quote category.OtherSymbol h = absurd cc
no_wide_quote _ h = absurd cc

-- the classes of ASCII that are looked up
separators_are : agree_below (λ c. not (is_separator_class (class_of c)) || is_some (separator c)) (λ c. true) 128 ≡ true
unfolding class_of separator
separators_are = refl

quotes_are : agree_below (λ c. not (is_quote_class (class_of c)) || is_of (codes "`'\"") c) (λ c. true) 128 ≡ true
unfolding class_of
quotes_are = refl

digits_are : agree_below (λ c. not (is_ascii_digit c) || is_digit_class (class_of c)) (λ c. true) 128 ≡ true
unfolding class_of
digits_are = refl

implied : (a b : Bool) → (not a || b) ≡ true → a ≡ true → b ≡ true
implied true b h k = h
implied false b h k = absurd cc

is_ascii_separator : (c : ℕ) → class_of c ≡ class.Separator → is_ascii c ≡ true
unfolding class_of
is_ascii_separator c h = by (is_ascii c) h
  where
    by : (b : Bool) → cond b (ascii_class c) (category_class (general_category c)) ≡ class.Separator → b ≡ true
    by true h = refl
    by false h = absurd (no_wide_separator (general_category c) h)

is_ascii_quote : (c : ℕ) → class_of c ≡ class.Quote → is_ascii c ≡ true
unfolding class_of
is_ascii_quote c h = by (is_ascii c) h
  where
    by : (b : Bool) → cond b (ascii_class c) (category_class (general_category c)) ≡ class.Quote → b ≡ true
    by true h = refl
    by false h = absurd (no_wide_quote (general_category c) h)

pub separator_is_some : (c : ℕ) → class_of c ≡ class.Separator → is_some (separator c) ≡ true
separator_is_some c h =
    let l : c < 128 = ltb-true c 128 (is_ascii_separator c h) in
    implied (is_separator_class (class_of c)) (is_some (separator c))
    (agree_below_at (λ c. not (is_separator_class (class_of c)) || is_some (separator c)) (λ c. true) 128 c separators_are l) (ap is_separator_class h)

pub quote_is_one : (c : ℕ) → class_of c ≡ class.Quote → is_of (codes "`'\"") c ≡ true
quote_is_one c h =
    let l : c < 128 = ltb-true c 128 (is_ascii_quote c h) in
    implied (is_quote_class (class_of c)) (is_of (codes "`'\"") c)
    (agree_below_at (λ c. not (is_quote_class (class_of c)) || is_of (codes "`'\"") c) (λ c. true) 128 c quotes_are l) (ap is_quote_class h)

pub digit_class : (c : ℕ) → is_ascii_digit c ≡ true → class_of c ≡ class.Digit
digit_class c h =
    let a = and_parts (nat_le 48 c) (nat_le c 57) h in
    let b : c ≤ 57 = leb-true c 57 a.1 in
    let l : c < 128 = omega (arith, b) in
    is_digit_is (class_of c) (implied (is_ascii_digit c) (is_digit_class (class_of c))
    (agree_below_at (λ c. not (is_ascii_digit c) || is_digit_class (class_of c)) (λ c. true) 128 c digits_are l) h)

-- a character of a table has what all of its characters have
sign_is_of : (es : List (ℕ × Reserved)) (c : ℕ) (w : Reserved) → list_all (λ e. is_separator_class (class_of e.0)) es ≡ true → sign_in es c ≡ Some w
    → is_separator_class (class_of c) ≡ true
sign_is_of [] c w a h = absurd cc
sign_is_of (e ∷ es) c w a h = by (sign_is_of es c w (and_parts (is_separator_class (class_of e.0)) (list_all (λ e. is_separator_class (class_of e.0)) es) a).1) (nat_eq e.0 c) refl h
  where
    by : (sign_in es c ≡ Some w → is_separator_class (class_of c) ≡ true) → (b : Bool) → nat_eq e.0 c ≡ b → cond b (Some e.1) (sign_in es c) ≡ Some w → is_separator_class (class_of c) ≡ true
    by later true k h = ap (λ d. is_separator_class (class_of d)) (sym (eqb-true e.0 c k)) ∙ (and_parts (is_separator_class (class_of e.0)) (list_all (λ e. is_separator_class (class_of e.0)) es) a).0
    by later false k h = later h

table_is : list_all (λ e. is_separator_class (class_of e.0)) SEPARATORS ≡ true
unfolding class_of
table_is = refl

pub separator_class : (c : ℕ) (w : Reserved) → separator c ≡ Some w → class_of c ≡ class.Separator
unfolding separator
separator_class c w h = is_separator_is (class_of c) (sign_is_of SEPARATORS c w table_is h)

-- ---- heads

-- what a text begins with
pub data Head : Type 0 where
  Letter : Head
  Digit : Head
  Point : Head
  Bracket : Head
  Back : Head
  Double : Head
  Single : Head
  Operator : Head
  Nothing : Head

abbrev pub quote_head : ℕ → Head
quote_head c = cond (is_of (codes "`") c) Head.Back (cond (is_of (codes "\"") c) Head.Double Head.Single)

abbrev pub head_by : Class → ℕ → Head
head_by class.Letter c = Head.Letter
head_by class.Digit c = Head.Digit
head_by class.White c = Head.Nothing
head_by class.Separator c = cond (is_of (codes ".") c) Head.Point Head.Bracket
head_by class.Quote c = quote_head c
head_by class.Operator c = Head.Operator
head_by class.Other c = Head.Nothing

abbrev pub head_at : ℕ → Head
head_at c = head_by (class_of c) c

abbrev pub head_of : List ℕ → Head
head_of [] = Head.Nothing
head_of (c ∷ cs) = head_at c

-- what is the text of a token, and so on, by its head
pub data View : Head → List ℕ → List ℕ → Piece → Type 0 where
  name : {text rest : List ℕ} → IsIdentifier text rest → begins is_letter text ≡ true → View Head.Letter text rest (named text rest (word_of text))
  operator : {text rest : List ℕ} → IsOperator text rest → View Head.Operator text rest (named text rest (word_of text))
  backquoted : (name : List ℕ) {rest : List ℕ} → list_all (λ c. not (is_of (codes "`\n") c)) name ≡ true → View Head.Back (codes "`" ++ (name ++ codes "`")) rest (closed_back name)
  point : {rest : List ℕ} → View Head.Point (codes ".") rest (piece.Token tok.KwDot 1)
  bracket : {c : ℕ} {rest : List ℕ} {w : Reserved} → separator c ≡ Some w → View Head.Bracket (c ∷ []) rest (piece.Token (token_of w) 1)
  decimal : {digits rest : List ℕ} → AreDigits is_ascii_digit digits → View Head.Digit digits rest (decimal_number digits false)
  decimal_long : (digits : List ℕ) (l : ℕ) {rest : List ℕ} → AreDigits is_ascii_digit digits → IsOneOf (codes "lL") l → View Head.Digit (digits ++ (l ∷ [])) rest (decimal_number digits true)
  hexadecimal : {x : ℕ} {digits rest : List ℕ} → IsOneOf (codes "xX") x → AreDigits is_ascii_hexdigit digits
      → View Head.Digit (codes "0" ++ (x ∷ digits)) rest (hex_int (value_of 16 digits) (length digits + 2))
  hexadecimal_long : (digits : List ℕ) (x l : ℕ) {rest : List ℕ} → IsOneOf (codes "xX") x → AreDigits is_ascii_hexdigit digits → IsOneOf (codes "lL") l
      → View Head.Digit (codes "0" ++ (x ∷ (digits ++ (l ∷ [])))) rest (hex_long (value_of 16 digits) (length digits + 3))
  floating : {text rest : List ℕ} → (f : IsFloating text) → 0 < length f.digits → View Head.Digit text rest (piece.Refused rule.BadNumber 0 (length text))
  pointed : {text rest : List ℕ} → (f : IsFloating text) → f.digits ≡ [] → View Head.Point text rest (piece.Refused rule.BadNumber 0 (length text))
  character : {content rest : List ℕ} {unit : ℕ} → IsContent content unit → View Head.Single (codes "'" ++ (content ++ codes "'")) rest (piece.Token (tok.Char unit) (length content + 2))
  bad_character : {content rest : List ℕ} → IsBadEscape content → View Head.Single (codes "'" ++ (content ++ codes "'")) rest (piece.Refused rule.BadEscape 1 1)
  symbol : {c : ℕ} {name rest : List ℕ} → IsIdentifier (c ∷ name) rest → is_letter c ≡ true → begins (is_of (codes "'")) (name ++ rest) ≡ false
      → View Head.Single (codes "'" ++ (c ∷ name)) rest (piece.Refused rule.LeftOutToken 0 (length (c ∷ name) + 1))
  string : {content units rest : List ℕ} → Spells content units → (content ≡ [] → begins is_quote rest ≡ false)
      → View Head.Double (codes "\"" ++ (content ++ codes "\"")) rest (string_of units (length content + 2))
  bad_string : {content rest : List ℕ} {at : ℕ} → IsLine content → HasBadEscape content at → View Head.Double (codes "\"" ++ (content ++ codes "\"")) rest (piece.Refused rule.BadEscape (at + 1) 1)
  lines : (before quotes : List ℕ) {rest : List ℕ} → HasNoRun before → list_all is_quote quotes ≡ true → begins is_quote rest ≡ false
      → View Head.Double (codes "\"\"\"" ++ ((before ++ quotes) ++ codes "\"\"\"")) rest (closed_lines (before ++ quotes))

letter_head : (text : List ℕ) → begins is_letter text ≡ true → head_of text ≡ Head.Letter
letter_head [] h = absurd cc
letter_head (c ∷ cs) h = ap (λ k. head_by k c) (is_letter_is (class_of c) h)

operator_head : (text : List ℕ) → begins is_operator text ≡ true → head_of text ≡ Head.Operator
operator_head [] h = absurd cc
operator_head (c ∷ cs) h = ap (λ k. head_by k c) (is_operator_is (class_of c) h)

digit_head : (text : List ℕ) → begins is_ascii_digit text ≡ true → head_of text ≡ Head.Digit
digit_head [] h = absurd cc
digit_head (c ∷ cs) h = ap (λ k. head_by k c) (digit_class c h)

front_letter : (a b : List ℕ) → begins is_letter a ≡ true → begins is_letter (a ++ b) ≡ true
front_letter a b h = begins_front is_letter a b (begins_with is_letter a h) ∙ h

view_identifier : (text rest : List ℕ) → IsIdentifier text rest → View (head_of text) text rest (named text rest (word_of text))
view_identifier text rest (IsIdentifier.word w) = subst (λ h. View h text rest (named text rest (word_of text))) (sym (letter_head text w.letter)) (View.name (IsIdentifier.word w) w.letter)
view_identifier text rest (IsIdentifier.joined {text = t} {operator} w o) =
    let l : begins is_letter (t ++ (codes "_" ++ operator)) ≡ true = front_letter t (codes "_" ++ operator) w.letter in
    subst (λ h. View h (t ++ (codes "_" ++ operator)) rest (named (t ++ (codes "_" ++ operator)) rest (word_of (t ++ (codes "_" ++ operator))))) (sym (letter_head (t ++ (codes "_" ++ operator)) l))
    (View.name (IsIdentifier.joined w o) l)
view_identifier text rest (IsIdentifier.operator o) =
    subst (λ h. View h text rest (named text rest (word_of text))) (sym (operator_head text (all_begin is_operator text o.any o.operator))) (View.operator o)

view_sign : (c : ℕ) (rest : List ℕ) (w : Reserved) → separator c ≡ Some w → View (head_at c) (c ∷ []) rest (piece.Token (token_of w) 1)
unfolding separator
view_sign c rest w h = subst (λ k. View (head_by k c) (c ∷ []) rest (piece.Token (token_of w) 1)) (sym (separator_class c w h)) (by (is_of (codes ".") c) refl)
  where
    dot : 46 ≡ c → View Head.Point (c ∷ []) rest (piece.Token (token_of w) 1)
    dot e =
        let t : piece.Token tok.KwDot 1 ≡ piece.Token (token_of w) 1 = ap separated (ap separator e ∙ h) in
        subst (λ p. View Head.Point (c ∷ []) rest p) t (subst (λ d. View Head.Point (d ∷ []) rest (piece.Token tok.KwDot 1)) e View.point)

    by : (b : Bool) → is_of (codes ".") c ≡ b → View (cond b Head.Point Head.Bracket) (c ∷ []) rest (piece.Token (token_of w) 1)
    by true e = dot (is_of_one 46 c e)
    by false e = View.bracket h

fraction_begins : (t more : List ℕ) → IsFraction t → head_of (t ++ more) ≡ Head.Point
unfolding class_of
fraction_begins t more (IsFraction.fraction d) = refl

point_head : (t more : List ℕ) → IsOptional IsFraction t → 0 < length t → head_of (t ++ more) ≡ Head.Point
point_head [] more f l = absurd (omega (arith, l))
point_head (c ∷ cs) more f l = fraction_begins (c ∷ cs) more f

view_floating : (text rest : List ℕ) → IsFloating text → View (head_of text) text rest (piece.Refused rule.BadNumber 0 (length text))
view_floating text rest f = by f.digits refl
  where
    more : List ℕ
    more = f.fraction ++ (f.exponent ++ f.suffix)

    by : (d : List ℕ) → f.digits ≡ d → View (head_of text) text rest (piece.Refused rule.BadNumber 0 (length text))
    by [] e =
        let n : length f.digits ≡ 0 = ap length e in
        let b = f.begun in
        let any : 0 < length f.fraction = omega (arith, n, b) in
        let w : head_of text ≡ Head.Point = ap head_of (f.whole ∙ ap (λ d. d ++ (f.fraction ++ (f.exponent ++ f.suffix))) e) ∙ point_head f.fraction (f.exponent ++ f.suffix) f.fraction_is any in
        subst (λ h. View h text rest (piece.Refused rule.BadNumber 0 (length text))) (sym w) (View.pointed f e)
    by (c ∷ cs) e =
        let n : length f.digits ≡ suc (length cs) = ap length e in
        let any : 0 < length f.digits = omega (arith, n) in
        let w : begins is_ascii_digit text ≡ true =
        ap (begins is_ascii_digit) f.whole ∙ begins_front is_ascii_digit f.digits (f.fraction ++ (f.exponent ++ f.suffix)) any ∙ all_begin is_ascii_digit f.digits any f.digits_are in
        subst (λ h. View h text rest (piece.Refused rule.BadNumber 0 (length text))) (sym (digit_head text w)) (View.floating f any)

pub view : (text rest : List ℕ) (p : Piece) → Lexical text rest p → View (head_of text) text rest p
unfolding class_of
view text rest p (Lexical.identifier i) = view_identifier text rest i
view text rest p (Lexical.backquoted n a) = View.backquoted n a
view text rest p (Lexical.sign {c} {w} h) = view_sign c rest w h
view text rest p (Lexical.decimal a) = subst (λ h. View h text rest p) (sym (digit_head text (all_begin is_ascii_digit text a.0 a.1))) (View.decimal a)
view text rest p (Lexical.decimal_long digits l a o) =
    subst (λ h. View h text rest p) (sym (digit_head text (begins_front is_ascii_digit digits (l ∷ []) a.0 ∙ all_begin is_ascii_digit digits a.0 a.1))) (View.decimal_long digits l a o)
view text rest p (Lexical.hexadecimal x a) = View.hexadecimal x a
view text rest p (Lexical.hexadecimal_long digits x l o a q) = View.hexadecimal_long digits x l o a q
view text rest p (Lexical.floating f) = view_floating text rest f
view text rest p (Lexical.character c) = View.character c
view text rest p (Lexical.bad_character c) = View.bad_character c
view text rest p (Lexical.symbol i l q) = View.symbol i l q
view text rest p (Lexical.string s q) = View.string s q
view text rest p (Lexical.bad_string l b) = View.bad_string l b
view text rest p (Lexical.lines b c n a q) = View.lines b c n a q

pub no_view : (t r : List ℕ) (q : Piece) → View Head.Nothing t r q → ⊥
no_view t r q v = elim v [ ]

-- at the front of a text
pub view_at : (c : ℕ) (cs other more : List ℕ) (q : Piece) → c ∷ cs ≡ other ++ more → Lexical other more q → View (head_at c) other more q
view_at c cs [] more q e l = absurd (no_view [] more q (view [] more q l))
view_at c cs (d ∷ ds) more q e l = subst (λ x. View (head_at x) (d ∷ ds) more q) (sym (first_is e)) (view (d ∷ ds) more q l)
