-- The characters of names and texts are units of UTF-16 by themselves.
use Rattle.std.proofs.Common.{◌≡◌, refl, ap, sym, subst, ◌∙◌, ℕ, ◌≤◌, nat_lt, nat_le, Bool, true, false, ◌||◌, List, [], ◌∷◌, codes, inl, inr, arith}
use Rattle.std.proofs.lemmas.Bool.{and_parts, and_from, or_cases, eqb-true, eq-eqb, leb-true, lt-ltb}
use Rattle.std.specs.Char.{is_ascii_lowercase, is_ascii_alphanumeric, is_ascii_graphic}
use Rattle.std.specs.Int.{is_in_range}
use Rattle.std.specs.List.{list_all}
use Rattle.scw_text.specs.Modified.{is_unit}
use Rattle.scw_core.specs.Text.{units_of_name}
use Rattle.scw_core.specs.Types.{same_text}
use Rattle.scw_reader.specs.declared.token.Token.TheVariants as token
use Rattle.scw_reader.specs.Character.{is_of}
use Rattle.scw_reader.specs.Token.{begins, is_name, is_token}
use Rattle.scw_built.proofs.Sound.{are_units}

range-below : (l h c : ℕ) → is_in_range l h c ≡ true → c ≤ h
range-below l h c e = leb-true c h (and_parts (nat_le l c) (nat_le c h) e).1

below-unit : (c : ℕ) → c ≤ 126 → nat_lt c 0x1_0000 ≡ true
below-unit c l = lt-ltb c 0x1_0000 (omega arith)

text-unit : (c : ℕ) → (is_of (codes " ") c || is_ascii_graphic c) ≡ true → is_unit c ≡ true
text-unit c h = elim (or_cases (is_of (codes " ") c) (is_ascii_graphic c) h) [
  | inl e ↦ let k = space e in below-unit c (omega arith)
  | inr e ↦ below-unit c (range-below 33 126 c e)
]
  where
    space : is_of (codes " ") c ≡ true → 32 ≡ c
    space e = elim (or_cases _ _ e) [ inl k ↦ eqb-true 32 c k | inr k ↦ absurd (cc) ]

pub text-units : (cs : List ℕ) → is_token (token.Text cs) ≡ true → are_units cs ≡ true
text-units [] h = refl
text-units (c ∷ cs) h =
    let p = and_parts _ (is_token (token.Text cs)) h in
    let q = and_parts (is_of (codes " ") c || is_ascii_graphic c) _ p.0 in
    and_from (is_unit c) _ (text-unit c q.0) (text-units cs p.1)

letter-below : (c : ℕ) → is_ascii_alphanumeric c ≡ true → c ≤ 126
letter-below c h = elim (or_cases (is_in_range 48 57 c || is_in_range 65 90 c) (is_in_range 97 122 c) h) [
  | inl e ↦ elim (or_cases (is_in_range 48 57 c) (is_in_range 65 90 c) e) [
    | inl f ↦ let k = range-below 48 57 c f in omega arith
    | inr f ↦ let k = range-below 65 90 c f in omega arith
  ]
  | inr e ↦ let k = range-below 97 122 c e in omega arith
]

letters-units : (cs : List ℕ) → list_all is_ascii_alphanumeric cs ≡ true → (units_of_name cs ≡ cs) × (are_units cs ≡ true)
letters-units [] h = (refl, refl)
letters-units (c ∷ cs) h =
    let p = and_parts (is_ascii_alphanumeric c) _ h in
    let u : nat_lt c 0x1_0000 ≡ true = below-unit c (letter-below c p.0) in
    let r = letters-units cs p.1 in
    (rw u (ap (λ (l : List ℕ). c ∷ l) r.0), and_from (is_unit c) _ u r.1)

-- the units of a member's name are its characters, and it isn't the name of a method that is added
pub record Plain (x : List ℕ) : Type 0 where
  pub units_are : units_of_name x ≡ x
  pub units : are_units x ≡ true
  pub small : begins is_ascii_lowercase x ≡ true

pub name-plain : (x : List ℕ) → is_name x ≡ true → Plain x
name-plain x h =
    let p = and_parts (begins is_ascii_lowercase x) _ h in
    let q = and_parts (list_all is_ascii_alphanumeric x) _ p.1 in
    let r = letters-units x q.0 in
    record { units_are = r.0; units = r.1; small = p.0 }

pub main-plain : Plain (codes "main")
main-plain = record { units_are = refl; units = refl; small = refl }

pub not-init : (x : List ℕ) → Plain x → units_of_name x ≡ codes "<init>" → ⊥
not-init x p e = let k : begins is_ascii_lowercase (codes "<init>") ≡ true = subst (λ (l : List ℕ). begins is_ascii_lowercase l ≡ true) (sym p.units_are ∙ e) p.small in absurd (cc)

pub not-get : (x : List ℕ) → Plain x → units_of_name x ≡ codes "$get" → ⊥
not-get x p e = let k : begins is_ascii_lowercase (codes "$get") ≡ true = subst (λ (l : List ℕ). begins is_ascii_lowercase l ≡ true) (sym p.units_are ∙ e) p.small in absurd (cc)

-- ---- equality of names

pub same-text-self : (x : List ℕ) → same_text x x ≡ true
same-text-self [] = refl
same-text-self (c ∷ cs) = and_from _ _ (eq-eqb c c refl) (same-text-self cs)

pub same-text-is : (x y : List ℕ) → same_text x y ≡ true → x ≡ y
same-text-is [] [] h = refl
same-text-is [] (d ∷ ds) h = absurd (cc)
same-text-is (c ∷ cs) [] h = absurd (cc)
same-text-is (c ∷ cs) (d ∷ ds) h =
    let p = and_parts _ _ h in
    ap (λ (n : ℕ). n ∷ cs) (eqb-true c d p.0) ∙ ap (λ (l : List ℕ). d ∷ l) (same-text-is cs ds p.1)

-- `main` is a word, and no name
pub name-not-main : (x : List ℕ) → is_name x ≡ true → same_text x (codes "main") ≡ false
name-not-main x h = by (same_text x (codes "main")) (same-text-is x (codes "main"))
  where
    by : (b : Bool) → (b ≡ true → x ≡ codes "main") → b ≡ false
    by true f = let k : is_name (codes "main") ≡ true = subst (λ (l : List ℕ). is_name l ≡ true) (f refl) h in sym k
    by false f = refl
