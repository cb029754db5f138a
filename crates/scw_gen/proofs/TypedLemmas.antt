-- Locals that are bound, and which of them have values.
use Rattle.std.proofs.Common.{◌≡◌, ap, refl, ℕ, zero, suc, ◌<◌, ◌≤◌, Bool, true, not, ltb, List, [], ◌∷◌, length, map, get_or, set, Some, None, inl, inr, arith}
use Rattle.std.proofs.lemmas.Bool.{cases_Bool, ltb-true, ltb-false}
use Rattle.std.specs.List.{position, prefix_len}
use Rattle.scw_text.specs.declared.number.SymId.{SymId}
use Rattle.scw_core.specs.Types.{same_symbol}
use Rattle.scw_core.specs.declared.class.Parameter.{Parameter}
use Rattle.scw_gen.specs.Method.{local_of}
use Rattle.scw_gen.specs.Typed.{known_of, locals_of, marked}
use Rattle.scw_gen.specs.declared.typed.Known.{Known}

abbrev pub is_that : SymId → Known → Bool
is_that x y = same_symbol y.symbol x

abbrev pub is_other : SymId → Known → Bool
is_other x y = not (is_that x y)

abbrev pub with_value : Known → Known
with_value y = record y { is_set = true }

-- where no local has the symbol, none is marked
none_marked : (x : SymId) (ys : List Known) → length ys ≤ prefix_len (is_other x) ys → map known_of ys ≡ marked x (map known_of ys)
unfolding marked
none_marked x [] h = refl
none_marked x (y ∷ ys) h = elim (cases_Bool (is_that x y)) [
  | inl e ↦ let g = rw e at h in absurd (omega arith)
  | inr e ↦ let g = rw e at h in rw e (ap (λ zs. known_of y ∷ zs) (none_marked x ys (omega arith)))
]

-- the first local of the symbol is marked
first_marked : (x : SymId) (ys : List Known) (n : ℕ) (z : Known) → n ≡ prefix_len (is_other x) ys → n < length ys → z ≡ get_or ys n z → map known_of (set ys n (with_value z)) ≡ marked x (map known_of ys)
unfolding marked
first_marked x [] n z p l g = absurd (omega arith)
first_marked x (y ∷ ys) zero z p l g = elim (cases_Bool (is_that x y)) [
  | inl e ↦ rw (e, g) refl
  | inr e ↦ let q = rw e at p in absurd (omega arith)
]
first_marked x (y ∷ ys) (suc n) z p l g = elim (cases_Bool (is_that x y)) [
  | inl e ↦ let q = rw e at p in absurd (omega arith)
  | inr e ↦ let q = rw e at p in rw e (ap (λ zs. known_of y ∷ zs) (first_marked x ys n z (omega arith) (omega arith) g))
]

pub marked_nowhere : (x : SymId) (ys : List Known) → position (is_that x) ys ≡ None → map known_of ys ≡ marked x (map known_of ys)
marked_nowhere x ys h = elim (cases_Bool (ltb (prefix_len (is_other x) ys) (length ys))) [
  | inl e ↦ let g = rw e at h in absurd cc
  | inr e ↦ none_marked x ys (ltb-false (prefix_len (is_other x) ys) (length ys) e)
]

pub marked_at : (x : SymId) (ys : List Known) (n : ℕ) (z : Known) → position (is_that x) ys ≡ Some n → z ≡ get_or ys n z → map known_of (set ys n (with_value z)) ≡ marked x (map known_of ys)
marked_at x ys n z h g = elim (cases_Bool (ltb (prefix_len (is_other x) ys) (length ys))) [
  | inl e ↦ let p : Some (prefix_len (is_other x) ys) ≡ Some n = rw e at h in
      let q : n ≡ prefix_len (is_other x) ys = cc in
      first_marked x ys n z q (rw q (ltb-true (prefix_len (is_other x) ys) (length ys) e)) g
  | inr e ↦ let p = rw e at h in absurd cc
]

-- the parameters as locals, one by one
pub locals_mapped : (xs : List Parameter) → map local_of xs ≡ locals_of xs
locals_mapped [] = refl
locals_mapped (x ∷ xs) = ap (λ ys. local_of x ∷ ys) (locals_mapped xs)
