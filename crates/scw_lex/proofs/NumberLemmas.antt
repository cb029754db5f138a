-- The number of digits, and when it has at most 64 bits.
use Rattle.std.proofs.Common.{◌≡◌, ℕ, suc, zero, ◌+◌, ◌*◌, ◌^◌, ◌<◌, ◌≤◌, List, [], ◌∷◌, length, refl, sym, arith, Some, None}
use Rattle.std.proofs.Math.Nat.{mul-le-mul_left}
use Rattle.std.proofs.lemmas.Bool.{lt-ltb, le-ltb}
use Rattle.std.specs.Char.{digit_value}
use Rattle.std.specs.Str.Parse.{digits_value, digits_value_after}
use Rattle.scw_lex.specs.Number.{value_of}

-- digits behind a number make it no smaller
grows : (radix n : ℕ) (cs : List ℕ) → 0 < radix → n ≤ digits_value_after radix n cs
grows radix n [] h = omega arith
grows radix n (c ∷ cs) h =
    let m : n * 1 ≤ n * radix = mul-le-mul_left n h in
    let g : n * radix + digit_value c ≤ digits_value_after radix (n * radix + digit_value c) cs = grows radix (n * radix + digit_value c) cs h in
    omega (arith, m, g)

pub value_fits : (radix n : ℕ) (ds : List ℕ) → n ≡ digits_value radix ds → n < 2 ^ 64 → Some n ≡ value_of radix ds
unfolding value_of
value_fits radix n ds e h = rw (sym e) (rw (lt-ltb n (2 ^ 64) h) refl)

pub value_is_large : (radix n c : ℕ) (cs ds : List ℕ) → 0 < radix → digits_value_after radix n (c ∷ cs) ≡ digits_value radix ds → 2 ^ 64 ≤ n * radix + digit_value c
    → None ≡ value_of radix ds
unfolding value_of
value_is_large radix n c cs ds r e h =
    let g : n * radix + digit_value c ≤ digits_value_after radix (n * radix + digit_value c) cs = grows radix (n * radix + digit_value c) cs r in
    let l : 2 ^ 64 ≤ digits_value radix ds = omega (arith, g, e, h) in
    rw (le-ltb (digits_value radix ds) (2 ^ 64) l) refl

pub value_at_end : (radix n : ℕ) (cs ds : List ℕ) → length cs < 1 → digits_value_after radix n cs ≡ digits_value radix ds → n < 2 ^ 64 → Some n ≡ value_of radix ds
value_at_end radix n [] ds l e h = value_fits radix n ds e h
value_at_end radix n (c ∷ cs) ds l e h = absurd (omega (arith, l))
