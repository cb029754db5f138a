-- Whether two objects have the same words, word by word.
use Rattle.std.proofs.Common.{◌≡◌, ◌≢◌, ◌&&◌, ℕ, ◌+◌, ◌<◌, ◌≤◌, suc, List, [], ◌∷◌, true, false, ◌==◌, length, get_or, drop, drop-cons, add-one, sym, ◌∙◌, ap, refl, inl, inr, arith}
use Rattle.std.proofs.lemmas.Bool.{eq-eqb, ne_eqb, cases_eq}
use Rattle.std.proofs.lemmas.List.{drop_all}
use Rattle.scw_step.specs.BoxStep.{same_words}

drop-is : (xs : List ℕ) (i x : ℕ) → i < length xs → x ≡ get_or xs i 0 → drop i xs ≡ x ∷ drop (i + 1) xs
drop-is xs i x l e = rw add-one (drop-cons xs i 0 l ∙ ap (λ y. y ∷ drop (suc i) xs) (sym e))

-- the words at a place
same_words-at : (xs ys : List ℕ) (i x y : ℕ) → i < length xs → i < length ys → x ≡ get_or xs i 0 → y ≡ get_or ys i 0 → same_words (drop i xs) (drop i ys) ≡ (x == y) && same_words (drop (i + 1) xs) (drop (i + 1) ys)
unfolding same_words
same_words-at xs ys i x y l m e f = rw (drop-is xs i x l e, drop-is ys i y m f) refl

pub same_words-next : (xs ys : List ℕ) (i x y : ℕ) → i < length xs → i < length ys → x ≡ get_or xs i 0 → y ≡ get_or ys i 0 → x ≡ y → same_words (drop i xs) (drop i ys) ≡ same_words (drop (i + 1) xs) (drop (i + 1) ys)
same_words-next xs ys i x y l m e f q = same_words-at xs ys i x y l m e f ∙ rw (eq-eqb x y q) refl

pub same_words-differ : (xs ys : List ℕ) (i x y : ℕ) → i < length xs → i < length ys → x ≡ get_or xs i 0 → y ≡ get_or ys i 0 → x ≢ y → same_words (drop i xs) (drop i ys) ≡ false
same_words-differ xs ys i x y l m e f q = same_words-at xs ys i x y l m e f ∙ rw (ne_eqb x y q) refl

pub same_words-end : (xs ys : List ℕ) (i : ℕ) → length xs ≤ i → length ys ≤ i → same_words (drop i xs) (drop i ys) ≡ true
unfolding same_words
same_words-end xs ys i l m = rw (drop_all i xs l, drop_all i ys m) refl

-- lists of other lengths aren't the same
pub same_words-lengths : (xs ys : List ℕ) → length xs ≢ length ys → same_words xs ys ≡ false
unfolding same_words
same_words-lengths [] [] ne = absurd (ne refl)
same_words-lengths [] (y ∷ ys) ne = refl
same_words-lengths (x ∷ xs) [] ne = refl
same_words-lengths (x ∷ xs) (y ∷ ys) ne =
    elim (cases_eq x y) [
      | inl e ↦ rw (eq-eqb x y e) (same_words-lengths xs ys (λ q. ne (omega arith)))
      | inr e ↦ rw (ne_eqb x y e) refl
    ]
