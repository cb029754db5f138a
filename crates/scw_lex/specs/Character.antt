-- The classes of characters: SLS 1. Digits are those of ASCII. Letters beyond ASCII are those of the categories Ll, Lu, Lt,
-- Lo and Nl, and operator characters those of Sm and So. The version of the categories is that of the crate `unicode`.
use Rattle.std.specs.Prelude.{ℕ, Bool, true, false, ◌||◌, nat_eq, List, [], ◌∷◌, codes, if◌then◌else◌}
use Rattle.std.specs.Char.{is_ascii, is_ascii_alphabetic, is_ascii_digit, is_ascii_graphic}
use Rattle.std.specs.List.{list_any}
use Rattle.ucd_category.specs.GeneralCategory.{general_category}
use Rattle.ucd_category.specs.declared.GeneralCategory.{GeneralCategory}
use Rattle.ucd_category.specs.declared.GeneralCategory.TheVariants as category
use Rattle.scw_lex.specs.declared.character.Class.{Class}
use Rattle.scw_lex.specs.declared.character.Class.TheVariants as class

-- the character stands in the text
abbrev pub is_of : List ℕ → ℕ → Bool
is_of text c = list_any (λ d. nat_eq d c) text

-- the text begins with a character of which the test is true
abbrev pub begins : (ℕ → Bool) → List ℕ → Bool
begins test [] = false
begins test (c ∷ cs) = test c

-- letters, digits, white space, brackets and separators, quotes; every other printable character is an operator character
abbrev pub ascii_class : ℕ → Class
ascii_class c =
    if is_ascii_alphabetic c || is_of (codes "$_") c then class.Letter
    else if is_ascii_digit c then class.Digit
    else if is_of (codes " \t\u{c}\r\n") c then class.White
    else if is_of (codes "()[]{}.;,") c then class.Separator
    else if is_of (codes "`'\"") c then class.Quote
    else if is_ascii_graphic c then class.Operator
    else class.Other

abbrev pub category_class : GeneralCategory → Class
category_class category.UppercaseLetter = class.Letter
category_class category.LowercaseLetter = class.Letter
category_class category.TitlecaseLetter = class.Letter
category_class category.OtherLetter = class.Letter
category_class category.LetterNumber = class.Letter
category_class category.MathSymbol = class.Operator
category_class category.OtherSymbol = class.Operator
category_class _ = class.Other

unfoldable pub class_of : ℕ → Class
class_of c = if is_ascii c then ascii_class c else category_class (general_category c)

abbrev pub is_word_class : Class → Bool
is_word_class class.Letter = true
is_word_class class.Digit = true
is_word_class class.White = false
is_word_class class.Separator = false
is_word_class class.Quote = false
is_word_class class.Operator = false
is_word_class class.Other = false

abbrev pub is_letter_class : Class → Bool
is_letter_class class.Letter = true
is_letter_class class.Digit = false
is_letter_class class.White = false
is_letter_class class.Separator = false
is_letter_class class.Quote = false
is_letter_class class.Operator = false
is_letter_class class.Other = false

abbrev pub is_operator_class : Class → Bool
is_operator_class class.Letter = false
is_operator_class class.Digit = false
is_operator_class class.White = false
is_operator_class class.Separator = false
is_operator_class class.Quote = false
is_operator_class class.Operator = true
is_operator_class class.Other = false

-- a letter or a digit, a letter, an operator character
abbrev pub is_word : ℕ → Bool
is_word c = is_word_class (class_of c)

abbrev pub is_letter : ℕ → Bool
is_letter c = is_letter_class (class_of c)

abbrev pub is_operator : ℕ → Bool
is_operator c = is_operator_class (class_of c)
