-- The first element of a list that passes a test, and its place.
use Rattle.std.proofs.Common.{◌≡◌, ℕ, zero, suc, ◌+◌, ◌<◌, Bool, true, false, not, cond, ltb, List, [], ◌∷◌, ◌++◌, length, Option, Some, None, slice_get, get_or, find, position, refl, sym, ap, ◌∙◌, subst, arith}
use Rattle.std.specs.List.{cons_option, filter_map, position_or_len}
use Rattle.std.proofs.lemmas.Bool.{cond-true, cond-false, lt-ltb, not_from_true, not_from_false}
use Rattle.std.proofs.lemmas.List.Quantifiers.{position-Some}
use Rattle.std.proofs.lemmas.Option.{same_Some, none-some, slice_get_within, slice_get-get_or, get_or_from_slice_get}

module _ {A : Type 0} (test : A → Bool) where
  -- the element at the place passes, and none before it
  pub record First (xs : List A) (i : ℕ) (x : A) : Type 0 where
    pub there : slice_get xs i ≡ Some x
    pub passes : test x ≡ true
    pub before : (k : ℕ) (y : A) → k < i → slice_get xs k ≡ Some y → test y ≡ false

  first-here : (x : A) (xs : List A) → test x ≡ true → First (x ∷ xs) 0 x
  first-here x xs e = record { there = refl; passes = e; before = λ k y l h. absurd (omega arith) }

  -- behind an element that doesn't pass
  first-behind : (y : A) (xs : List A) (i : ℕ) (x : A) → test y ≡ false → First xs i x → First (y ∷ xs) (suc i) x
  first-behind y xs i x e f = record { there = f.there; passes = f.passes; before = earlier }
    where
      earlier : (k : ℕ) (z : A) → k < suc i → slice_get (y ∷ xs) k ≡ Some z → test z ≡ false
      earlier zero z l h = ap test (sym (same_Some y z h)) ∙ e
      earlier (suc k) z l h = f.before k z (omega arith) h

  -- what is found is first
  pub find-first : (xs : List A) (x : A) → find test xs ≡ Some x → (i : ℕ) × First xs i x
  find-first [] x h = absurd (none-some x h)
  find-first (y ∷ ys) x h = by (test y) refl h (find-first ys x)
    where
      by : (b : Bool) → test y ≡ b → cond b (Some y) (find test ys) ≡ Some x → (find test ys ≡ Some x → (i : ℕ) × First ys i x) → (i : ℕ) × First (y ∷ ys) i x
      by true e g rest = (0, subst (λ z. First (y ∷ ys) 0 z) (same_Some y x g) (first-here y ys e))
      by false e g rest = let r = rest g in (suc r.0, first-behind y ys r.0 x e r.1)

  -- where one passes there is a first
  pub any-first : (xs : List A) (i : ℕ) (x : A) → slice_get xs i ≡ Some x → test x ≡ true → (j : ℕ) × (y : A) × First xs j y
  any-first [] i x h p = absurd (none-some x h)
  any-first (y ∷ ys) zero x h p = (0, y, first-here y ys (ap test (same_Some y x h) ∙ p))
  any-first (y ∷ ys) (suc i) x h p = by (test y) refl (any-first ys i x h p)
    where
      by : (b : Bool) → test y ≡ b → (j : ℕ) × (z : A) × First ys j z → (j : ℕ) × (z : A) × First (y ∷ ys) j z
      by true e r = (0, y, first-here y ys e)
      by false e r = (suc r.0, r.1, first-behind y ys r.0 r.1 e r.2)

  -- what is first is found
  pub first-find : (xs : List A) (i : ℕ) (x : A) → First xs i x → find test xs ≡ Some x
  first-find [] i x f = absurd (none-some x f.there)
  first-find (y ∷ ys) zero x f = cond-true (test y) (Some y) (find test ys) (ap test (same_Some y x f.there) ∙ f.passes) ∙ f.there
  first-find (y ∷ ys) (suc i) x f =
      let rest = first-find ys i x (record { there = f.there; passes = f.passes; before = λ k z l h. f.before (suc k) z (omega arith) h }) in
      cond-false (test y) (Some y) (find test ys) (f.before 0 y (omega arith) refl) ∙ rest

  first-len : (xs : List A) (i : ℕ) (x : A) → First xs i x → position_or_len test xs ≡ i
  first-len [] i x f = absurd (none-some x f.there)
  first-len (y ∷ ys) zero x f = cond-false (not (test y)) (1 + position_or_len test ys) 0 (not_from_true (test y) (ap test (same_Some y x f.there) ∙ f.passes))
  first-len (y ∷ ys) (suc i) x f =
      let rest = first-len ys i x (record { there = f.there; passes = f.passes; before = λ k z l h. f.before (suc k) z (omega arith) h }) in
      cond-true (not (test y)) (1 + position_or_len test ys) 0 (not_from_false (test y) (f.before 0 y (omega arith) refl)) ∙ omega (arith, rest)

  -- the place of what is first
  pub first-position : (xs : List A) (i : ℕ) (x : A) → First xs i x → position test xs ≡ Some i
  first-position xs i x f =
      let n = position_or_len test xs in
      let at = first-len xs i x f in
      let within = slice_get_within xs i x f.there in
      cond-true (ltb n (length xs)) (Some n) None (lt-ltb n (length xs) (omega (arith, at, within))) ∙ ap Some at

  -- what stands at the place of the first
  pub position-first : (xs : List A) (i : ℕ) → position test xs ≡ Some i → (x : A) × First xs i x
  position-first [] i h = absurd (none-some i h)
  position-first (y ∷ ys) i h =
      let p = position-Some test (y ∷ ys) i y h in (
        get_or (y ∷ ys) i y,
        record {
          there = slice_get-get_or (y ∷ ys) i y p.0;
          passes = p.1;
          before = λ k z l e. ap test (sym (get_or_from_slice_get (y ∷ ys) k z y e)) ∙ p.2 k l;
        },
      )

-- ---- what stands at a place

pub get-front : {A : Type 0} (xs ys : List A) (i : ℕ) (x : A) → slice_get xs i ≡ Some x → slice_get (xs ++ ys) i ≡ Some x
get-front [] ys i x h = absurd (none-some x h)
get-front (z ∷ xs) ys zero x h = h
get-front (z ∷ xs) ys (suc i) x h = get-front xs ys i x h

pub get-last : {A : Type 0} (xs : List A) (x : A) → slice_get (xs ++ x ∷ []) (length xs) ≡ Some x
get-last [] x = refl
get-last (z ∷ xs) x = get-last xs x

-- what is kept stands somewhere
pub get-kept : {A B : Type 0} (h : A → Option B) (xs : List A) (i : ℕ) (x : A) (y : B) → slice_get xs i ≡ Some x → h x ≡ Some y → (j : ℕ) × (slice_get (filter_map h xs) j ≡ Some y)
get-kept h [] i x y at e = absurd (none-some x at)
get-kept h (z ∷ xs) zero x y at e = (0, ap (λ o. slice_get (cons_option o (filter_map h xs)) 0) (ap h (same_Some z x at) ∙ e))
get-kept {A} {B} h (z ∷ xs) (suc i) x y at e = by (h z) (get-kept h xs i x y at e)
  where
    by : (o : Option B) → (j : ℕ) × (slice_get (filter_map h xs) j ≡ Some y) → (j : ℕ) × (slice_get (cons_option o (filter_map h xs)) j ≡ Some y)
    by None r = r
    by (Some w) r = (suc r.0, r.1)
