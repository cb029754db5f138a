-- The text of a number, at the end of an array of bytes.
use Rattle.std.proofs.Common.{◌≡◌, ℕ, ◌+◌, ◌-◌, ◌^◌, ◌<◌, ◌≤◌, true, false, List, ◌∷◌, length, drop, slice_set, IsAscii, ℤ, pos, negsuc, refl, ap, ◌∙◌, arith}
use Rattle.std.specs.Prelude.{unsigned_abs, int_lt}
use Rattle.std.specs.Fmt.{decimal, signed_decimal}
use Rattle.std.proofs.lemmas.Bool.Decides.{nat_tests}
use Rattle.std.proofs.lemmas.List.{drop-set}
use Rattle.std.proofs.lemmas.Fmt.{IsAscii-signed}
use lib.Signed.{mag}
use Rattle.scw_value.specs.Text.{number_text}

-- the digits, behind a sign
pub minus_text : (z : ℤ) (n at : ℕ) (bs : List ℕ) → int_lt z (pos 0) ≡ true → n ≡ unsigned_abs z → 0 < at → at ≤ length bs → drop at bs ≡ decimal n
    → drop (at - 1) (slice_set bs (at - 1) 45) ≡ number_text z
minus_text (pos k) n at bs below size some within digits = absurd (grind (arith, nat_tests))
minus_text (negsuc k) n at bs below size some within digits =
    let back : at - 1 + 1 ≡ at = omega arith in
    drop-set bs (at - 1) 45 (omega arith) ∙ ap (λ i. 45 ∷ drop i bs) back ∙ ap (λ ds. 45 ∷ ds) (digits ∙ ap decimal size)

pub plain_text : (z : ℤ) (n at : ℕ) (bs : List ℕ) → int_lt z (pos 0) ≡ false → n ≡ unsigned_abs z → drop at bs ≡ decimal n → drop at bs ≡ number_text z
plain_text (pos k) n at bs above size digits = digits ∙ ap decimal size
plain_text (negsuc k) n at bs above size digits = absurd (cc)

pub number_text-IsAscii : (z : ℤ) → mag z < 2 ^ 63 → IsAscii (number_text z)
number_text-IsAscii (pos n) small = IsAscii-signed (pos n) small
number_text-IsAscii (negsuc n) small = IsAscii-signed (negsuc n) small

-- std's word
pub number_text-signed : (z : ℤ) → number_text z ≡ signed_decimal z
number_text-signed (pos n) = refl
number_text-signed (negsuc n) = refl
