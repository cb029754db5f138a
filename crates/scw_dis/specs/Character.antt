-- The characters of a text, of flags and of numbers.
use Rattle.std.specs.Prelude.{ℕ, ◌/◌, ◌%◌, ◌&&◌, ◌||◌, List, [], ◌∷◌, ◌++◌, slice_index, if◌then◌else◌, codes}
use Rattle.std.specs.Fmt.{decimal}
use Rattle.scw_value.specs.Text.{is_high, is_low, point}

-- ---- a text of the constant pool, which is a list of UTF-16 units: JVMS 4.4.7

-- a unit that is in no pair, which is ? where it is a surrogate
abbrev pub alone : ℕ → List ℕ
alone u = if is_high u || is_low u then codes "?" else u ∷ []

-- a high surrogate and a low one behind it are one character
abbrev pub characters : List ℕ → List ℕ
characters [] = []
characters (u ∷ []) = alone u
characters (u ∷ v ∷ us) = if is_high u && is_low v then point u v ∷ characters us else alone u ++ characters (v ∷ us)

-- ---- flags, in four hexadecimal digits

-- the digit of a number below 16
abbrev pub hexadecimal_digit : ℕ → ℕ
hexadecimal_digit n = slice_index (codes "0123456789abcdef") n

unfoldable pub flags_text : ℕ → List ℕ
flags_text n = hexadecimal_digit (n / 4096) ∷ hexadecimal_digit (n / 256 % 16) ∷ hexadecimal_digit (n / 16 % 16) ∷ hexadecimal_digit (n % 16) ∷ []

-- ---- a number behind a space

abbrev pub spaced : ℕ → List ℕ
spaced n = codes " " ++ decimal n
