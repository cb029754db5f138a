-- Names have at least one character, and a digit is one of ASCII.
use Rattle.std.proofs.Common.{◌≡◌, ℕ, ◌+◌, ◌<◌, ◌≤◌, Bool, true, false, cond, List, [], ◌∷◌, length, get_or, take, drop, refl, sym, ap, ◌∙◌, arith, IsTrue}
use Rattle.std.specs.Prelude.{◌&&◌, ◌||◌, not, codes}
use Rattle.std.specs.List.{prefix_len}
use Rattle.std.specs.Char.{is_ascii, is_ascii_alphabetic, is_ascii_digit, is_ascii_graphic}
use Rattle.ucd_category.specs.GeneralCategory.{general_category}
use Rattle.ucd_category.specs.declared.GeneralCategory.{GeneralCategory}
use Rattle.ucd_category.specs.declared.GeneralCategory.TheVariants as category
use Rattle.scw_lex.specs.declared.character.Class.{Class}
use Rattle.scw_lex.specs.declared.character.Class.TheVariants as class
use Rattle.scw_lex.specs.Character.{begins, is_of, is_word, is_letter, is_operator, is_word_class, is_letter_class, is_operator_class, ascii_class, category_class, class_of}
use Rattle.scw_lex.specs.Name.{begins_comment, operator_len, is_joining, joined_len, word_name_len, name_len}

no_letter : (k : Class) → is_operator_class k ≡ true → is_letter_class k ≡ false
no_letter class.Letter h = sym h
no_letter class.Digit h = refl
no_letter class.White h = refl
no_letter class.Separator h = refl
no_letter class.Quote h = refl
no_letter class.Operator h = refl
no_letter class.Other h = refl

joined : (b : Bool) (n m : ℕ) → n ≤ cond b (n + m) n
joined true n m = omega arith
joined false n m = omega arith

pub word_is_any : (c : ℕ) (cs : List ℕ) → class_of c ≡ class.Letter → 0 < name_len (c ∷ cs)
unfolding word_name_len
word_is_any c cs h =
    let w : is_word c ≡ true = ap is_word_class h in
    let l : is_letter c ≡ true = ap is_letter_class h in
    let p : 1 ≤ prefix_len is_word (c ∷ cs) = rw w (omega arith) in
    let j = joined (is_joining (take (prefix_len is_word (c ∷ cs)) (c ∷ cs))) (prefix_len is_word (c ∷ cs)) (operator_len (drop (prefix_len is_word (c ∷ cs)) (c ∷ cs))) in
    rw l (omega (arith, p, j))

pub operator_is_any : (text : List ℕ) → begins is_operator text ≡ true → begins_comment text ≡ false → 0 < name_len text
operator_is_any [] h n = absurd cc
operator_is_any (c ∷ cs) h n =
    let l : is_letter c ≡ false = no_letter (class_of c) h in
    rw (l, h, n) (omega arith)

is_digit_class : Class → Bool
is_digit_class class.Letter = false
is_digit_class class.Digit = true
is_digit_class class.White = false
is_digit_class class.Separator = false
is_digit_class class.Quote = false
is_digit_class class.Operator = false
is_digit_class class.Other = false

no_category : (g : GeneralCategory) → is_digit_class (category_class g) ≡ false
unfolding is_digit_class
no_category category.UppercaseLetter = refl
no_category category.LowercaseLetter = refl
no_category category.TitlecaseLetter = refl
no_category category.ModifierLetter = refl
no_category category.OtherLetter = refl
no_category category.NonspacingMark = refl
no_category category.SpacingMark = refl
no_category category.EnclosingMark = refl
no_category category.DecimalNumber = refl
no_category category.LetterNumber = refl
no_category category.OtherNumber = refl
no_category category.ConnectorPunctuation = refl
no_category category.DashPunctuation = refl
no_category category.OpenPunctuation = refl
no_category category.ClosePunctuation = refl
no_category category.InitialPunctuation = refl
no_category category.FinalPunctuation = refl
no_category category.OtherPunctuation = refl
no_category category.MathSymbol = refl
no_category category.CurrencySymbol = refl
no_category category.ModifierSymbol = refl
no_category category.OtherSymbol = refl
no_category category.SpaceSeparator = refl
no_category category.LineSeparator = refl
no_category category.ParagraphSeparator = refl
no_category category.Control = refl
no_category category.Format = refl
no_category category.Surrogate = refl
no_category category.PrivateUse = refl
no_category category.Unassigned = refl

by_tests : (l d w s q o : Bool)
    → is_digit_class (cond l class.Letter (cond d class.Digit (cond w class.White (cond s class.Separator (cond q class.Quote (cond o class.Operator class.Other)))))) ≡ true → d ≡ true
unfolding is_digit_class
by_tests true d w s q o h = absurd cc
by_tests false true w s q o h = refl
by_tests false false true s q o h = absurd cc
by_tests false false false true q o h = absurd cc
by_tests false false false false true o h = absurd cc
by_tests false false false false false true h = absurd cc
by_tests false false false false false false h = absurd cc

ascii_digit : (c : ℕ) → is_digit_class (ascii_class c) ≡ true → is_ascii_digit c ≡ true
ascii_digit c h = by_tests (is_ascii_alphabetic c || is_of (codes "$_") c) (is_ascii_digit c) (is_of (codes " \t\u{c}\r\n") c) (is_of (codes "()[]{}.;,") c)
    (is_of (codes "`'\"") c) (is_ascii_graphic c) h

pub digit_is_ascii : (c : ℕ) → class_of c ≡ class.Digit → is_ascii_digit c ≡ true
unfolding class_of is_digit_class
digit_is_ascii c h = by (is_ascii c) refl (ap is_digit_class h)
  where
    by : (b : Bool) → is_ascii c ≡ b → is_digit_class (cond b (ascii_class c) (category_class (general_category c))) ≡ true → is_ascii_digit c ≡ true
    by true e k = ascii_digit c k
    by false e k = let n = no_category (general_category c) in absurd cc

-- the same of the first character of a text
pub word_at_front : (text : List ℕ) (c : ℕ) → 1 ≤ length text → c ≡ get_or text 0 c → class.Letter ≡ class_of c → 0 < name_len text
word_at_front [] c l e h = absurd (omega (arith, l))
word_at_front (d ∷ ds) c l e h = word_is_any d ds (ap class_of (sym e) ∙ sym h)

pub digit_at_front : (text : List ℕ) (c : ℕ) → 1 ≤ length text → c ≡ get_or text 0 c → class.Digit ≡ class_of c → IsTrue (begins is_ascii_digit text)
digit_at_front [] c l e h = absurd (omega (arith, l))
digit_at_front (d ∷ ds) c l e h = digit_is_ascii d (ap class_of (sym e) ∙ sym h)
