-- The numbers of 32 and of 64 bits, each given by its bits: JVMS 2.3.1, SLS 12.2.1. `cast_signed` reads the bits in two's
-- complement, and `cast_unsigned` gives the bits of a number.
use Rattle.std.specs.Prelude.{ℕ, ◌+◌, ◌-◌, ◌*◌, ◌/◌, ◌%◌, ◌^◌, Bool, not, if◌then◌else◌, ℤ, bit_and, bit_or, bit_xor, int_lt, int_div, int_rem}
use Rattle.std.specs.Int.{Width, w8, w16, w32, w64, cast_signed, cast_unsigned, int_shr}
use Rattle.std.specs.Ordering.{int_eq}
use mir.Val.{bits}
use Rattle.scw_value.specs.declared.arithmetic.Arithmetic.{Arithmetic}
use Rattle.scw_value.specs.declared.arithmetic.Arithmetic.TheVariants.{Add, Subtract, Multiply, And, Or, Xor}
use Rattle.scw_value.specs.declared.division.Division.{Division}
use Rattle.scw_value.specs.declared.division.Division.TheVariants.{Divide, Remainder}
use Rattle.scw_value.specs.declared.shift.Shift.{Shift}
use Rattle.scw_value.specs.declared.shift.Shift.TheVariants.{Left, Right, UnsignedRight}
use Rattle.scw_value.specs.declared.comparison.Comparison.{Comparison}
use Rattle.scw_value.specs.declared.comparison.Comparison.TheVariants.{Equal, NotEqual, Less, GreaterOrEqual, Greater, LessOrEqual}
use Rattle.scw_value.specs.declared.conversion.Conversion.{Conversion}
use Rattle.scw_value.specs.declared.conversion.Conversion.TheVariants.{IntToByte, IntToChar, IntToShort}

-- bits are below this number
abbrev pub modulus : Width → ℕ
modulus w = 2 ^ bits w

-- ---- arithmetic, which wraps (JVMS 6.5 iadd, isub, imul, iand, ior, ixor, ineg, and those of long)

abbrev pub computed : Width → Arithmetic → ℕ → ℕ → ℕ
computed w Add a b = (a + b) % modulus w
computed w Subtract a b = (a + (modulus w - b)) % modulus w
computed w Multiply a b = (a * b) % modulus w
computed w And a b = bit_and a b
computed w Or a b = bit_or a b
computed w Xor a b = bit_xor a b

abbrev pub negated : Width → ℕ → ℕ
negated w a = (modulus w - a) % modulus w

-- ---- division, which rounds toward zero (JVMS 6.5 idiv, irem, ldiv, lrem)

-- Said of a divisor that is not 0. The least number divided by -1 is itself, and the remainder is 0.
abbrev pub divided : Width → Division → ℕ → ℕ → ℕ
divided w Divide a b = cast_unsigned w (int_div (cast_signed w a) (cast_signed w b))
divided w Remainder a b = cast_unsigned w (int_rem (cast_signed w a) (cast_signed w b))

-- ---- shifts (JVMS 6.5 ishl, ishr, iushr, lshl, lshr, lushr)

abbrev pub shifted_by : Width → Shift → ℕ → ℕ → ℕ
shifted_by w Left a count = (a * 2 ^ count) % modulus w
shifted_by w Right a count = cast_unsigned w (int_shr (cast_signed w a) count)
shifted_by w UnsignedRight a count = a / 2 ^ count

-- of the number of places the low 5 bits count, or the low 6
abbrev pub shifted : Width → Shift → ℕ → ℕ → ℕ
shifted w op a by = shifted_by w op a (by % bits w)

-- ---- comparisons of signed numbers (JVMS 6.5 if_icmp<cond>, lcmp)

abbrev pub holds : Comparison → ℤ → ℤ → Bool
holds Equal x y = int_eq x y
holds NotEqual x y = not (int_eq x y)
holds Less x y = int_lt x y
holds GreaterOrEqual x y = not (int_lt x y)
holds Greater x y = int_lt y x
holds LessOrEqual x y = not (int_lt y x)

abbrev pub compared : Width → Comparison → ℕ → ℕ → Bool
compared w c a b = holds c (cast_signed w a) (cast_signed w b)

-- the bits of the Int -1, 0 or 1 where the first is below, equal to or above the second
abbrev pub order_of : ℤ → ℤ → ℕ
order_of x y = if int_lt x y then 2 ^ 32 - 1 else if int_lt y x then 1 else 0

abbrev pub order : Width → ℕ → ℕ → ℕ
order w a b = order_of (cast_signed w a) (cast_signed w b)

-- ---- conversions (JVMS 6.5 i2b, i2c, i2s, i2l, l2i)

-- of an Int to an Int: the low 8 or 16 bits, which are read as a signed number for a Byte or a Short
abbrev pub converted : Conversion → ℕ → ℕ
converted IntToByte n = cast_unsigned w32 (cast_signed w8 (n % 2 ^ 8))
converted IntToChar n = n % 2 ^ 16
converted IntToShort n = cast_unsigned w32 (cast_signed w16 (n % 2 ^ 16))

-- of an Int to a Long
abbrev pub widened : ℕ → ℕ
widened n = cast_unsigned w64 (cast_signed w32 n)

-- of a Long to an Int
abbrev pub narrowed : ℕ → ℕ
narrowed n = n % 2 ^ 32
