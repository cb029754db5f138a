-- What is computed of bits are bits: it is below the modulus. And the least number, divided by -1.
use Rattle.std.proofs.Common.{◌≡◌, ℕ, zero, suc, ◌+◌, ◌-◌, ◌*◌, ◌/◌, ◌%◌, ◌^◌, ◌<◌, ◌≤◌, true, false, cond, ℤ, pos, negsuc, neg_ℤ, lit<, lit≤, refl, arith}
use Rattle.std.specs.Prelude.{int_div, int_rem, int_lt, unsigned_abs}
use Rattle.std.specs.Int.{Width, w8, w16, w32, w64, w128, cast_signed, cast_unsigned, int_shr}
use Rattle.std.proofs.lemmas.Nat.{mod_below, pow_pos, or_lt, xor_lt}
use Rattle.std.specs.Int.Bits.{and_lt}
use Rattle.std.proofs.Math.Nat.{div-le_self, mod-le}
use Rattle.std.proofs.Math.Facts.{Fits-of_lt, sfits_to_z}
use mir.Val.{bits, hbits}
use lib.Signed.{mag}
use Rattle.scw_value.specs.declared.arithmetic.Arithmetic.{Arithmetic}
use Rattle.scw_value.specs.declared.arithmetic.Arithmetic.TheVariants.{Add, Subtract, Multiply, And, Or, Xor}
use Rattle.scw_value.specs.declared.division.Division.{Division}
use Rattle.scw_value.specs.declared.division.Division.TheVariants.{Divide, Remainder}
use Rattle.scw_value.specs.declared.shift.Shift.{Shift}
use Rattle.scw_value.specs.declared.shift.Shift.TheVariants.{Left, Right, UnsignedRight}
use Rattle.scw_value.specs.declared.conversion.Conversion.{Conversion}
use Rattle.scw_value.specs.declared.conversion.Conversion.TheVariants.{IntToByte, IntToChar, IntToShort}
use Rattle.scw_value.specs.Number.{modulus, computed, negated, divided, shifted, order, converted, widened, narrowed}

-- JVMS 6.5 idiv, irem: there is an overflow, and the result is the dividend, and the remainder 0
least_int_by_minus_one : divided w32 Divide (2 ^ 31) (2 ^ 32 - 1) ≡ 2 ^ 31
least_int_by_minus_one = refl

least_int_rest : divided w32 Remainder (2 ^ 31) (2 ^ 32 - 1) ≡ 0
least_int_rest = refl

least_long_by_minus_one : divided w64 Divide (2 ^ 63) (2 ^ 64 - 1) ≡ 2 ^ 63
least_long_by_minus_one = refl

least_long_rest : divided w64 Remainder (2 ^ 63) (2 ^ 64 - 1) ≡ 0
least_long_rest = refl

-- -7 / 2 and -7 % 2
seven_by_two : divided w32 Divide (2 ^ 32 - 7) 2 ≡ 2 ^ 32 - 3
seven_by_two = refl

seven_rest : divided w32 Remainder (2 ^ 32 - 7) 2 ≡ 2 ^ 32 - 1
seven_rest = refl

-- 1 << 33, -1 >>> 31, and Longs by 65
int_by_33 : shifted w32 Left 1 33 ≡ 2
int_by_33 = refl

int_by_31 : shifted w32 UnsignedRight (2 ^ 32 - 1) 31 ≡ 1
int_by_31 = refl

long_by_65 : shifted w64 Right (2 ^ 64 - 8) 65 ≡ 2 ^ 64 - 4
long_by_65 = refl

-- ---- what is computed is below the modulus

half : (w : Width) → 2 ^ hbits w < 2 ^ bits w
half w8 = lit< tt
half w16 = lit< tt
half w32 = lit< tt
half w64 = lit< tt
half w128 = lit< tt

-- the size of a number, from what its bits are
size_of_bits : (w : Width) (n : ℕ) → n < modulus w → unsigned_abs (cast_signed w n) < modulus w
size_of_bits w n small = by (cast_signed w n) (sfits_to_z (Fits-of_lt small)).sfits
  where
    by : (z : ℤ) → mag z < 2 ^ hbits w → unsigned_abs z < modulus w
    by (pos k) h = omega (arith, half w)
    by (negsuc k) h = omega (arith, half w)

bits_below : (w : Width) (z : ℤ) → unsigned_abs z < modulus w → cast_unsigned w z < modulus w
bits_below w (pos n) small = small
bits_below w (negsuc n) small = omega arith

below_neg : (n m : ℕ) → n < m → unsigned_abs (neg_ℤ (pos n)) < m
below_neg zero m h = h
below_neg (suc n) m h = h

quotient_size : (x y : ℤ) (m : ℕ) → unsigned_abs x < m → unsigned_abs (int_div x y) < m
quotient_size (pos a) (pos b) m h = omega (arith, div-le_self a b)
quotient_size (pos a) (negsuc b) m h = below_neg (a / suc b) m (omega (arith, div-le_self a (suc b)))
quotient_size (negsuc a) (pos b) m h = below_neg (suc a / b) m (omega (arith, div-le_self (suc a) b))
quotient_size (negsuc a) (negsuc b) m h = omega (arith, div-le_self (suc a) (suc b))

rest_size : (x y : ℤ) (m : ℕ) → unsigned_abs x < m → unsigned_abs (int_rem x y) < m
rest_size (pos a) y m h = omega (arith, mod-le a (unsigned_abs y))
rest_size (negsuc a) y m h = below_neg (suc a % unsigned_abs y) m (omega (arith, mod-le (suc a) (unsigned_abs y)))

shifted_size : (x : ℤ) (k m : ℕ) → unsigned_abs x < m → unsigned_abs (int_shr x k) < m
shifted_size (pos a) k m h = omega (arith, div-le_self a (2 ^ k))
shifted_size (negsuc a) k m h = omega (arith, div-le_self a (2 ^ k))

pub computed-below : (w : Width) (op : Arithmetic) (a b : ℕ) → a < modulus w → b < modulus w → computed w op a b < modulus w
computed-below w Add a b p q = mod_below (a + b) (modulus w) (pow_pos (bits w))
computed-below w Subtract a b p q = mod_below (a + (modulus w - b)) (modulus w) (pow_pos (bits w))
computed-below w Multiply a b p q = mod_below (a * b) (modulus w) (pow_pos (bits w))
computed-below w And a b p q = and_lt (bits w) a b p q
computed-below w Or a b p q = or_lt (bits w) a b p q
computed-below w Xor a b p q = xor_lt (bits w) a b p q

pub negated-below : (w : Width) (a : ℕ) → negated w a < modulus w
negated-below w a = mod_below (modulus w - a) (modulus w) (pow_pos (bits w))

pub divided-below : (w : Width) (op : Division) (a b : ℕ) → a < modulus w → divided w op a b < modulus w
divided-below w Divide a b p =
    bits_below w (int_div (cast_signed w a) (cast_signed w b)) (quotient_size (cast_signed w a) (cast_signed w b) (modulus w) (size_of_bits w a p))
divided-below w Remainder a b p =
    bits_below w (int_rem (cast_signed w a) (cast_signed w b)) (rest_size (cast_signed w a) (cast_signed w b) (modulus w) (size_of_bits w a p))

pub shifted-below : (w : Width) (op : Shift) (a by : ℕ) → a < modulus w → shifted w op a by < modulus w
shifted-below w Left a by p = mod_below (a * 2 ^ (by % bits w)) (modulus w) (pow_pos (bits w))
shifted-below w Right a by p =
    bits_below w (int_shr (cast_signed w a) (by % bits w)) (shifted_size (cast_signed w a) (by % bits w) (modulus w) (size_of_bits w a p))
shifted-below w UnsignedRight a by p = omega (arith, div-le_self a (2 ^ (by % bits w)))

pub order-below : (w : Width) (a b : ℕ) → order w a b < 2 ^ 32
order-below w a b =
    elim (int_lt (cast_signed w a) (cast_signed w b)) as (λ c. cond c (2 ^ 32 - 1) (cond (int_lt (cast_signed w b) (cast_signed w a)) 1 0) < 2 ^ 32) [
      | true ↦ lit< tt
      | false ↦ elim (int_lt (cast_signed w b) (cast_signed w a)) as (λ c. cond c 1 0 < 2 ^ 32) [ true ↦ lit< tt | false ↦ lit< tt ]
    ]

wider : (w v : Width) (n : ℕ) → n < modulus w → modulus w ≤ modulus v → cast_unsigned v (cast_signed w n) < modulus v
wider w v n small le = bits_below v (cast_signed w n) (omega (arith, size_of_bits w n small))

pub converted-below : (c : Conversion) (n : ℕ) → converted c n < 2 ^ 32
converted-below IntToByte n = wider w8 w32 (n % 2 ^ 8) (omega arith) (lit≤ tt)
converted-below IntToChar n = omega arith
converted-below IntToShort n = wider w16 w32 (n % 2 ^ 16) (omega arith) (lit≤ tt)

pub widened-below : (n : ℕ) → n < 2 ^ 32 → widened n < 2 ^ 64
widened-below n small = wider w32 w64 n small (lit≤ tt)

pub narrowed-below : (n : ℕ) → narrowed n < 2 ^ 32
narrowed-below n = omega arith
