-- How two texts differ, unit by unit.
use Rattle.std.proofs.Common.{◌≡◌, ◌≢◌, ℕ, ◌+◌, ◌<◌, ◌≤◌, suc, List, [], ◌∷◌, Some, None, cond, ◌==◌, length, get_or, drop, drop-cons, add-one, sym, ◌∙◌, ap, refl, ◌⊎◌, inl, inr, arith}
use Rattle.std.proofs.lemmas.Bool.{eq-eqb, ne_eqb}
use Rattle.std.proofs.lemmas.List.{drop_all}
use Rattle.std.specs.Int.{w32}
use Rattle.scw_value.specs.Number.{computed}
use Rattle.scw_value.specs.declared.arithmetic.Arithmetic.TheVariants.{Subtract}
use Rattle.scw_step.specs.StringStep.{difference}

drop-is : (xs : List ℕ) (i x : ℕ) → i < length xs → x ≡ get_or xs i 0 → drop i xs ≡ x ∷ drop (i + 1) xs
drop-is xs i x l e = rw add-one (drop-cons xs i 0 l ∙ ap (λ y. y ∷ drop (suc i) xs) (sym e))

-- the units at a place
difference-at : (xs ys : List ℕ) (i x y : ℕ) → i < length xs → i < length ys → x ≡ get_or xs i 0 → y ≡ get_or ys i 0 → difference (drop i xs) (drop i ys) ≡ cond (x == y) (difference (drop (i + 1) xs) (drop (i + 1) ys)) (Some (computed w32 Subtract x y))
unfolding difference
difference-at xs ys i x y l m e f = rw (drop-is xs i x l e, drop-is ys i y m f) refl

pub difference-same : (xs ys : List ℕ) (i x y : ℕ) → i < length xs → i < length ys → x ≡ get_or xs i 0 → y ≡ get_or ys i 0 → x ≡ y → difference (drop i xs) (drop i ys) ≡ difference (drop (i + 1) xs) (drop (i + 1) ys)
difference-same xs ys i x y l m e f q =
    difference-at xs ys i x y l m e f ∙ rw (eq-eqb x y q) refl

pub difference-here : (xs ys : List ℕ) (i x y : ℕ) → i < length xs → i < length ys → x ≡ get_or xs i 0 → y ≡ get_or ys i 0 → x ≢ y → difference (drop i xs) (drop i ys) ≡ Some (computed w32 Subtract x y)
difference-here xs ys i x y l m e f q =
    difference-at xs ys i x y l m e f ∙ rw (ne_eqb x y q) refl

difference-none : (xs : List ℕ) → difference xs [] ≡ None
unfolding difference
difference-none [] = refl
difference-none (x ∷ xs) = refl

difference-end_second : (xs ys : List ℕ) (i : ℕ) → length ys ≤ i → difference (drop i xs) (drop i ys) ≡ None
difference-end_second xs ys i l = rw (drop_all i ys l) (difference-none (drop i xs))

-- where one text ends
pub difference-end : (xs ys : List ℕ) (i m n both : ℕ) → length xs ≡ m → length ys ≡ n → both ≤ i → (both ≡ m) ⊎ (both ≡ n) → difference (drop i xs) (drop i ys) ≡ None
unfolding difference
difference-end xs ys i m n both a b l e = elim e [
  | inl q ↦ let d : drop i xs ≡ [] = drop_all i xs (omega arith) in rw d refl
  | inr q ↦ difference-end_second xs ys i (omega arith)
]
