-- Modified UTF-8: JVMS 4.4.7. A text is a list of UTF-16 units, and each unit has one, two or three bytes.
use Rattle.std.specs.Prelude.{ℕ, zero, suc, ◌+◌, ◌-◌, ◌*◌, ◌/◌, ◌%◌, Bool, ◌&&◌, ◌||◌, not, List, [], ◌∷◌, length, Result, Ok, Err, nat_lt, nat_le, ◌==◌, if◌then◌else◌}
use Rattle.std.specs.List.{flat_map}

-- from 1 to 127 one byte, 0 and up to 2047 two bytes, above three bytes
unfoldable pub unit_bytes : ℕ → List ℕ
unit_bytes u =
    if nat_lt 0 u && nat_lt u 0x80 then u ∷ []
    else if nat_lt u 0x800 then (0xc0 + u / 64) ∷ (0x80 + u % 64) ∷ []
    else (0xe0 + u / 4096) ∷ (0x80 + u / 64 % 64) ∷ (0x80 + u % 64) ∷ []

abbrev pub modified : List ℕ → List ℕ
modified units = flat_map unit_bytes units

abbrev pub is_unit : ℕ → Bool
is_unit u = nat_lt u 0x10000

-- ---- which bytes are a text, and where they stop to be the beginning of one

abbrev pub is_continuation : ℕ → Bool
is_continuation b = nat_le 0x80 b && nat_lt b 0xc0

-- two bytes spell no unit that has one byte
abbrev pub has_two : ℕ → Bool
has_two u = u == 0 || nat_le 0x80 u

-- the unit that the bytes begin with, or how many of them can begin one
abbrev pub second_of_two : ℕ → List ℕ → Result (ℕ × List ℕ) ℕ
second_of_two high [] = Err 1
second_of_two high (b ∷ bs) =
    if is_continuation b && has_two (high * 64 + (b - 0x80)) then Ok (high * 64 + (b - 0x80), bs) else Err 1

abbrev pub third_of_three : ℕ → List ℕ → Result (ℕ × List ℕ) ℕ
third_of_three high [] = Err 2
third_of_three high (b ∷ bs) = if is_continuation b then Ok (high * 64 + (b - 0x80), bs) else Err 2

abbrev pub second_of_three : ℕ → List ℕ → Result (ℕ × List ℕ) ℕ
second_of_three high [] = Err 1
second_of_three high (b ∷ bs) =
    if is_continuation b && nat_le 32 (high * 64 + (b - 0x80)) then third_of_three (high * 64 + (b - 0x80)) bs else Err 1

unfoldable pub unit_at : List ℕ → Result (ℕ × List ℕ) ℕ
unit_at [] = Err 0
unit_at (b ∷ bs) =
    if nat_lt 0 b && nat_lt b 0x80 then Ok (b, bs)
    else if nat_le 0xc0 b && nat_lt b 0xe0 && not (b == 0xc1) then second_of_two (b - 0xc0) bs
    else if nat_le 0xe0 b && nat_lt b 0xf0 then second_of_three (b - 0xe0) bs
    else Err 0

abbrev pub with_unit : ℕ → ℕ → Result (List ℕ) ℕ → Result (List ℕ) ℕ
with_unit unit taken (Ok units) = Ok (unit ∷ units)
with_unit unit taken (Err place) = Err (taken + place)

abbrev pub after_unit : (List ℕ → Result (List ℕ) ℕ) → ℕ → Result (ℕ × List ℕ) ℕ → Result (List ℕ) ℕ
after_unit go size (Ok x) = with_unit x.0 (size - length x.1) (go x.1)
after_unit go size (Err k) = Err k

-- the first number is at least how many units there can be
unfoldable pub units_from : ℕ → List ℕ → Result (List ℕ) ℕ
units_from zero bytes = Ok []
units_from (suc n) [] = Ok []
units_from (suc n) (b ∷ bs) = after_unit (units_from n) (length (b ∷ bs)) (unit_at (b ∷ bs))

-- the units of a text in modified UTF-8, or the first place at which no such text goes on
abbrev pub units_of : List ℕ → Result (List ℕ) ℕ
units_of bytes = units_from (length bytes) bytes
