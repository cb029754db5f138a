-- Runs of digits, and the numbers that they write.
use Rattle.std.proofs.Common.{◌≡◌, ℕ, zero, suc, ◌<◌, ◌^◌, Bool, true, false, cond, List, [], ◌∷◌, length, get_or, refl, sym, ap, subst, ◌∙◌, IsTrue, arith, rules, Result, Err, Some, None}
use Rattle.std.specs.Prelude.{nat_lt, nat_eq, ◌&&◌, ◌||◌}
use Rattle.std.proofs.lemmas.Option.{same_Some}
use Rattle.std.specs.Char.{is_ascii_digit}
use Rattle.std.specs.List.{list_all}
use Rattle.std.specs.Fmt.{decimal}
use Rattle.std.specs.Str.{IsAscii}
use Rattle.std.specs.Str.Parse.{ParsesUnsigned, digits_value}
use Rattle.std.specs.Result.{OkIff}
use Rattle.std.proofs.lemmas.Bool.{and_parts, both_ways, ltb-true, lt-ltb, ne_eqb}
use Rattle.std.proofs.lemmas.Str.Parse.{IsNumeralModel, numerals_by_value, parse_digits}
use Rattle.std.proofs.lemmas.Bool.Decides.{nat_tests}
use Rattle.std.proofs.lemmas.Result.{OkIff-at_err}
use Rattle.std.proofs.lemmas.Fmt.{decimal-digits_value, digits_value-decimal, digits_decimal, decimal_digit, first_decimal}
use Rattle.scw_reader.specs.Lexing.{value_of, has_leading_zero, numeral}
use Rattle.scw_reader.proofs.OutcomeLemmas.{passed, failed}

-- there are digits alone
abbrev pub AllDigit : List ℕ → Type 0
AllDigit ds = IsTrue (list_all is_ascii_digit ds)

pub own : IsNumeralModel AllDigit (digits_value 10)
own = numerals_by_value AllDigit (search rules)

-- digits are ASCII
pub IsAscii-digits : (ds : List ℕ) → AllDigit ds → IsAscii ds
IsAscii-digits [] all i = omega arith
IsAscii-digits (c ∷ ds) all zero = let p = and_parts (is_ascii_digit c) (list_all is_ascii_digit ds) all in grind (arith, nat_tests)
IsAscii-digits (c ∷ ds) all (suc i) = let p = and_parts (is_ascii_digit c) (list_all is_ascii_digit ds) all in IsAscii-digits ds p.1 i

unless : (a b : Bool) (n : ℕ) → (IsTrue a → IsTrue b → ⊥) → cond (a && b) (Some n) None ≡ None
unless true true n h = absurd (h refl refl)
unless true false n h = refl
unless false b n h = refl

-- what std refuses has no value
pub value_of-err : {E : Type 0} (ds text : List ℕ) (r : Result ℕ E) (e : E) → text ≡ ds → AllDigit ds → ParsesUnsigned 64 10 text r → r ≡ Err e → value_of ds ≡ None
value_of-err {E} ds text r e same all parses is =
    let k : OkIff r ((0 < length ds) × (digits_value 10 ds < 2 ^ 64)) (digits_value 10 ds) = parse_digits own 64 ds r (subst (λ t. ParsesUnsigned 64 10 t r) same parses) all in
    unless (nat_lt 0 (length ds)) (nat_lt (digits_value 10 ds) (2 ^ 64)) (digits_value 10 ds) (λ a b. OkIff-at_err r _ _ e k is (ltb-true _ _ a, ltb-true _ _ b))

-- ---- leading zeros

no_zero : (ds : List ℕ) → 48 < get_or ds 0 0 → has_leading_zero ds ≡ false
no_zero [] h = refl
no_zero (c ∷ []) h = refl
no_zero (c ∷ d ∷ ds) h = let e : nat_eq 48 c ≡ false = ne_eqb 48 c (λ same. omega arith) in rw e refl

-- what is written of a number has no leading zero
pub has_leading_zero-decimal : (n : ℕ) → n < 2 ^ 64 → has_leading_zero (decimal n) ≡ false
has_leading_zero-decimal zero h = ap has_leading_zero (decimal_digit 0 (omega arith))
has_leading_zero-decimal (suc n) h = no_zero (decimal (suc n)) (first_decimal (suc n) (omega arith) h)

one_digit : (ds : List ℕ) → 0 < length ds → has_leading_zero ds ≡ false → get_or ds 0 0 ≡ 48 → length ds ≡ 1
one_digit [] some h z = absurd (omega arith)
one_digit (c ∷ []) some h z = refl
one_digit (c ∷ d ∷ ds) some h z = absurd (both_ways (nat_eq 48 c || false) h (rw z refl))

-- ---- what is read of the text of a number

pub AllDigit-decimal : (n : ℕ) → n < 2 ^ 64 → AllDigit (decimal n)
AllDigit-decimal n h = digits_decimal own n h

some_digit : (ds : List ℕ) → 48 < get_or ds 0 0 → 0 < length ds
some_digit [] h = absurd (omega arith)
some_digit (c ∷ ds) h = omega arith

pub decimal_some : (n : ℕ) → n < 2 ^ 64 → 0 < length (decimal n)
decimal_some zero h = omega (arith, ap length (decimal_digit 0 (omega arith)))
decimal_some (suc n) h = some_digit (decimal (suc n)) (first_decimal (suc n) (omega arith) h)

pub value_of-decimal : (n : ℕ) → n < 2 ^ 64 → value_of (decimal n) ≡ Some n
value_of-decimal n h =
    let some = lt-ltb 0 (length (decimal n)) (decimal_some n h) in
    let value = digits_value-decimal own n h in
    let small = lt-ltb n (2 ^ 64) h in
    ap (λ v. cond (nat_lt 0 (length (decimal n)) && nat_lt v (2 ^ 64)) (Some v) None) value ∙ rw (some, small) refl

pub numeral-decimal : (n : ℕ) → n < 2 ^ 64 → numeral (decimal n) ≡ Some n
unfolding numeral
numeral-decimal n h = ap (λ b. cond b None (value_of (decimal n))) (has_leading_zero-decimal n h) ∙ value_of-decimal n h

-- ---- what a text is of which a number is read

pub numeral_is : (ds : List ℕ) (n : ℕ) → AllDigit ds → numeral ds ≡ Some n → (ds ≡ decimal n) × (n < 2 ^ 64)
unfolding numeral
numeral_is ds n all h =
    let plain = failed (has_leading_zero ds) (value_of ds) n h in
    let fits = passed (nat_lt 0 (length ds) && nat_lt (digits_value 10 ds) (2 ^ 64)) (Some (digits_value 10 ds)) n plain.1 in
    let both = and_parts (nat_lt 0 (length ds)) (nat_lt (digits_value 10 ds) (2 ^ 64)) fits.0 in
    let some = ltb-true 0 (length ds) both.0 in
    let small = ltb-true (digits_value 10 ds) (2 ^ 64) both.1 in
    let value : digits_value 10 ds ≡ n = same_Some _ _ fits.1 in
    let back = decimal-digits_value own ds all some (one_digit ds some plain.0) small in
    (sym back ∙ ap decimal value, subst (λ v. v < 2 ^ 64) value small)
