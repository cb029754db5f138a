-- Classes of ASCII characters: SLS 1, with the printable characters of 1.1 and 1.3.5.
use Rattle.std.specs.Prelude.{ℕ, Bool, not, ◌&&◌, ◌||◌, nat_eq, List, codes}
use Rattle.std.specs.Char.{is_ascii_digit, is_ascii_alphanumeric, is_ascii_graphic}
use Rattle.std.specs.List.{list_any}
use Rattle.scw_reader.specs.declared.class.Class.{Class}
use Rattle.scw_reader.specs.declared.class.Class.TheVariants as class

-- the character stands in the text
abbrev pub is_of : List ℕ → ℕ → Bool
is_of text c = list_any (λ d. nat_eq d c) text

abbrev pub is_in : Class → ℕ → Bool
is_in class.Word c = is_ascii_alphanumeric c || is_of (codes "$_") c
is_in class.Digit c = is_ascii_digit c
is_in class.Operator c = is_of (codes "!#%&*+-/:<=>?@\\^|~") c
is_in class.Text c = (is_of (codes " ") c || is_ascii_graphic c) && not (is_of (codes "\"\\") c)
is_in class.Blank c = is_of (codes " \n") c
