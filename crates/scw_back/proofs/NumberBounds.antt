-- What is computed of bits are bits, the comparison of Longs by way of their order, and the texts of values, whose units have
-- 16 bits.
use Rattle.std.proofs.Common.{◌≡◌, refl, sym, ap, ◌∙◌, ℕ, zero, suc, ◌+◌, ◌-◌, ◌/◌, ◌%◌, ◌^◌, ◌<◌, arith, Bool, true, false, cond, not, List, [], ◌∷◌, ◌++◌, map, Some, ℤ, pos, negsuc, Less, Equal, Greater, true≢false}
use Rattle.std.specs.Prelude.{int_lt, ◌==◌}
use Rattle.std.specs.Fmt.{decimal, digit_glyph, digits, digits_onto}
use Rattle.std.specs.Int.{w32, w64, cast_signed}
use Rattle.std.specs.List.{list_all}
use Rattle.std.specs.Ordering.{is_eq}
use Rattle.std.proofs.lemmas.Bool.{and_parts, and_from, lt-ltb, ltb-true}
use Rattle.std.proofs.lemmas.Bool.Decides.{nat_tests}
use Rattle.scw_text.specs.Modified.{is_unit}
use Rattle.scw_value.specs.Number.{compared, computed, divided, holds, order, order_of}
use Rattle.scw_value.specs.Text.{number_text}
use Rattle.scw_value.specs.declared.arithmetic.Arithmetic.{Arithmetic}
use Rattle.scw_value.specs.declared.comparison.Comparison.{Comparison}
use Rattle.scw_value.specs.declared.comparison.Comparison.TheVariants as comparison
use Rattle.scw_value.specs.declared.division.Division.{Division}
use Rattle.scw_value.proofs.NumberLemmas.{computed-below, divided-below}
use Rattle.scw_core.specs.Number.{boolean_text, plain_text}
use Rattle.scw_core.specs.State.{Value, unit_v, boolean_v, char_v, int_v, long_v, null_v, string_v, ref_v}
use Rattle.scw_step.specs.TextStep.{unit_of}

-- ---- what is computed

pub computed-int : (o : Arithmetic) (a b : ℕ) → a < 2 ^ 32 → b < 2 ^ 32 → computed w32 o a b < 2 ^ 32
computed-int o a b p q = computed-below w32 o a b p q

pub computed-long : (o : Arithmetic) (a b : ℕ) → a < 2 ^ 64 → b < 2 ^ 64 → computed w64 o a b < 2 ^ 64
computed-long o a b p q = computed-below w64 o a b p q

pub divided-int : (o : Division) (a b : ℕ) → a < 2 ^ 32 → divided w32 o a b < 2 ^ 32
divided-int o a b p = divided-below w32 o a b p

pub divided-long : (o : Division) (a b : ℕ) → a < 2 ^ 64 → divided w64 o a b < 2 ^ 64
divided-long o a b p = divided-below w64 o a b p

-- ---- the order of two numbers, compared with 0

not-above : (x y : ℤ) → int_lt x y ≡ true → int_lt y x ≡ false
not-above (pos a) (pos b) h = grind (arith, nat_tests)
not-above (pos a) (negsuc b) h = absurd (cc)
not-above (negsuc a) (pos b) h = refl
not-above (negsuc a) (negsuc b) h = grind (arith, nat_tests)

-- what holds of two numbers, by whether the first is below the second, and the second below the first
holds_by : Comparison → Bool → Bool → Bool
holds_by comparison.Equal p q = is_eq (cond p Less (cond q Greater Equal))
holds_by comparison.NotEqual p q = not (is_eq (cond p Less (cond q Greater Equal)))
holds_by comparison.Less p q = p
holds_by comparison.GreaterOrEqual p q = not p
holds_by comparison.Greater p q = q
holds_by comparison.LessOrEqual p q = not q

holds-by : (c : Comparison) (x y : ℤ) → holds c x y ≡ holds_by c (int_lt x y) (int_lt y x)
unfolding holds_by
holds-by comparison.Equal x y = refl
holds-by comparison.NotEqual x y = refl
holds-by comparison.Less x y = refl
holds-by comparison.GreaterOrEqual x y = refl
holds-by comparison.Greater x y = refl
holds-by comparison.LessOrEqual x y = refl

order-by : (c : Comparison) (p q : Bool) → (p ≡ true → q ≡ false) → compared w32 c (cond p (2 ^ 32 - 1) (cond q 1 0)) 0 ≡ holds_by c p q
unfolding holds_by
order-by c true true h = absurd (true≢false (h refl))
order-by comparison.Equal true false h = refl
order-by comparison.NotEqual true false h = refl
order-by comparison.Less true false h = refl
order-by comparison.GreaterOrEqual true false h = refl
order-by comparison.Greater true false h = refl
order-by comparison.LessOrEqual true false h = refl
order-by comparison.Equal false true h = refl
order-by comparison.NotEqual false true h = refl
order-by comparison.Less false true h = refl
order-by comparison.GreaterOrEqual false true h = refl
order-by comparison.Greater false true h = refl
order-by comparison.LessOrEqual false true h = refl
order-by comparison.Equal false false h = refl
order-by comparison.NotEqual false false h = refl
order-by comparison.Less false false h = refl
order-by comparison.GreaterOrEqual false false h = refl
order-by comparison.Greater false false h = refl
order-by comparison.LessOrEqual false false h = refl

order_of-compared : (c : Comparison) (x y : ℤ) → compared w32 c (order_of x y) 0 ≡ holds c x y
order_of-compared c x y = order-by c (int_lt x y) (int_lt y x) (not-above x y) ∙ sym (holds-by c x y)

pub compared-order : (c : Comparison) (a b : ℕ) → compared w32 c (order w64 a b) 0 ≡ compared w64 c a b
compared-order c a b = order_of-compared c (cast_signed w64 a) (cast_signed w64 b)

-- ---- units

pub units-append : (a b : List ℕ) → list_all is_unit a ≡ true → list_all is_unit b ≡ true → list_all is_unit (a ++ b) ≡ true
units-append [] b h k = k
units-append (u ∷ a) b h k =
    let p = and_parts (is_unit u) (list_all is_unit a) h in
    and_from (is_unit u) (list_all is_unit (a ++ b)) p.0 (units-append a b p.1 k)

pub narrow-units : (us : List ℕ) → list_all is_unit us ≡ true → map unit_of us ≡ us
narrow-units [] h = refl
narrow-units (u ∷ us) h =
    let p = and_parts (is_unit u) (list_all is_unit us) h in
    let small = ltb-true u 0x10000 p.0 in
    let e : u % 2 ^ 16 ≡ u = omega (arith, small) in
    let rest = narrow-units us p.1 in
    (λ k. e k ∷ rest k)

-- ---- texts of numbers

glyph-unit : (n : ℕ) → is_unit (digit_glyph false (n % 10)) ≡ true
glyph-unit n =
    let e : digit_glyph false (n % 10) ≡ 48 + n % 10 = ap (λ b. cond b (48 + n % 10) (87 + n % 10)) (lt-ltb (n % 10) 10 (omega arith)) in
    ap is_unit e ∙ lt-ltb (48 + n % 10) 0x10000 (omega arith)

either-units : (b : Bool) (xs ys : List ℕ) → list_all is_unit xs ≡ true → list_all is_unit ys ≡ true → list_all is_unit (cond b xs ys) ≡ true
either-units true xs ys h k = h
either-units false xs ys h k = k

digits-units : (k n : ℕ) (acc : List ℕ) → list_all is_unit acc ≡ true → list_all is_unit (digits_onto k 10 false n acc) ≡ true
digits-units zero n acc h = h
digits-units (suc k) n acc h =
    let more = and_from (is_unit (digit_glyph false (n % 10))) (list_all is_unit acc) (glyph-unit n) h in
    either-units (n / 10 == 0) (digit_glyph false (n % 10) ∷ acc) (digits_onto k 10 false (n / 10) (digit_glyph false (n % 10) ∷ acc)) more
    (digits-units k (n / 10) (digit_glyph false (n % 10) ∷ acc) more)

decimal-units : (n : ℕ) → list_all is_unit (decimal n) ≡ true
unfolding digits
decimal-units n = digits-units 64 n [] refl

pub number_text-units : (n : ℤ) → list_all is_unit (number_text n) ≡ true
number_text-units (pos n) = decimal-units n
number_text-units (negsuc n) = decimal-units (suc n)

-- ---- texts of values

-- the units that are part of the value have 16 bits
abbrev pub HasUnits : Value → Type 0
HasUnits unit_v = Unit {0}
HasUnits (boolean_v b) = Unit {0}
HasUnits (char_v n) = n < 2 ^ 16
HasUnits (int_v n) = Unit {0}
HasUnits (long_v n) = Unit {0}
HasUnits null_v = Unit {0}
HasUnits (string_v us) = list_all is_unit us ≡ true
HasUnits (ref_v r) = Unit {0}

boolean_text-units : (b : Bool) → list_all is_unit (boolean_text b) ≡ true
boolean_text-units true = refl
boolean_text-units false = refl

same-units : (xs us : List ℕ) → list_all is_unit xs ≡ true → Some xs ≡ Some us → list_all is_unit us ≡ true
same-units xs us h e = let same : xs ≡ us = cc in sym (ap (list_all is_unit) same) ∙ h

pub plain_text-units : (v : Value) (us : List ℕ) → HasUnits v → plain_text v ≡ Some us → list_all is_unit us ≡ true
plain_text-units unit_v us h e = same-units _ us refl e
plain_text-units (boolean_v b) us h e = same-units (boolean_text b) us (boolean_text-units b) e
plain_text-units (char_v n) us h e = same-units (n ∷ []) us (and_from (is_unit n) true (lt-ltb n 0x10000 h) refl) e
plain_text-units (int_v n) us h e = same-units (number_text (cast_signed w32 n)) us (number_text-units (cast_signed w32 n)) e
plain_text-units (long_v n) us h e = same-units (number_text (cast_signed w64 n)) us (number_text-units (cast_signed w64 n)) e
plain_text-units null_v us h e = same-units _ us refl e
plain_text-units (string_v ts) us h e = same-units ts us h e
plain_text-units (ref_v r) us h e = absurd (cc)
