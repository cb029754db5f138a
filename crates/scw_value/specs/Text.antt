-- The text of a number, and the bytes that a text is put as.
use Rattle.std.specs.Prelude.{ℕ, suc, ◌+◌, ◌-◌, ◌*◌, ◌/◌, ◌%◌, Bool, false, ◌&&◌, ◌||◌, List, [], ◌∷◌, ◌++◌, Option, Some, None, ℤ, pos, negsuc, nat_lt, nat_le, if◌then◌else◌, codes}
use Rattle.std.specs.Fmt.{decimal}

-- ---- the text of a number (`toString` of SLS 12.2.1): its decimal digits, after a `-` where it is negative

abbrev pub number_text : ℤ → List ℕ
number_text (pos n) = decimal n
number_text (negsuc n) = codes "-" ++ decimal (suc n)

-- ---- the bytes of a text, which is a list of UTF-16 units: UTF-8, and `?` for a surrogate that is in no pair

abbrev pub is_high : ℕ → Bool
is_high u = nat_le 0xd800 u && nat_lt u 0xdc00

abbrev pub is_low : ℕ → Bool
is_low u = nat_le 0xdc00 u && nat_lt u 0xe000

-- the bytes of a unit that is no surrogate
abbrev pub character : ℕ → List ℕ
character u =
    if nat_lt u 0x80 then u ∷ []
    else if nat_lt u 0x800 then (0xc0 + u / 64) ∷ (0x80 + u % 64) ∷ []
    else (0xe0 + u / 4096) ∷ (0x80 + u / 64 % 64) ∷ (0x80 + u % 64) ∷ []

-- the code point of a high surrogate and the low one behind it
abbrev pub point : ℕ → ℕ → ℕ
point u v = 0x1_0000 + (u - 0xd800) * 0x400 + (v - 0xdc00)

abbrev pub four_bytes : ℕ → List ℕ
four_bytes c = (0xf0 + c / 262144) ∷ (0x80 + c / 4096 % 64) ∷ (0x80 + c / 64 % 64) ∷ (0x80 + c % 64) ∷ []

abbrev pub pair : ℕ → ℕ → List ℕ
pair u v = four_bytes (point u v)

-- the bytes of a unit by itself
abbrev pub alone : ℕ → List ℕ
alone u = if is_high u || is_low u then codes "?" else character u

-- the bytes of a text
unfoldable pub utf8 : List ℕ → List ℕ
utf8 [] = []
utf8 (u ∷ []) = alone u
utf8 (u ∷ v ∷ us) = if is_high u && is_low v then pair u v ++ utf8 us else alone u ++ utf8 (v ∷ us)

-- ---- the first character of a text, by its first unit and the one behind it, if there is one

-- whether the two are one character
abbrev pub is_pair : ℕ → Option ℕ → Bool
is_pair u None = false
is_pair u (Some v) = is_high u && is_low v

-- its bytes
abbrev pub bytes_at : ℕ → Option ℕ → List ℕ
bytes_at u None = alone u
bytes_at u (Some v) = if is_pair u (Some v) then pair u v else alone u

-- how many units it takes
abbrev pub units_at : ℕ → Option ℕ → ℕ
units_at u next = if is_pair u next then 2 else 1
