-- Lists by their places, and the finite maps of a run: what setting an entry does to the others.
use Rattle.std.proofs.Common.{◌≡◌, refl, sym, ap, ◌∙◌, subst, ℕ, zero, suc, ◌<◌, arith, Bool, true, false, cond, List, [], ◌∷◌, ◌++◌, length, Some, None}
use Rattle.std.proofs.lemmas.Bool.{eqb-true, eq-eqb}
use Rattle.std.specs.Prelude.{slice_get, slice_set, unwrap_or}
use Rattle.scw_text.specs.declared.number.SymId.{SymId}
use Rattle.scw_core.specs.Program.{look}
use Rattle.scw_core.specs.State.{Slots, Value, put, values_of}
use Rattle.scw_core.specs.Types.{same_symbol}

-- ---- lists

pub get-here : {A : Type 0} (xs : List A) (i : ℕ) (a b : A) → slice_get xs i ≡ Some a → slice_get (slice_set xs i b) i ≡ Some b
get-here [] i a b e = absurd (cc)
get-here (x ∷ xs) zero a b e = refl
get-here (x ∷ xs) (suc i) a b e = get-here xs i a b e

pub get-other : {A : Type 0} (xs : List A) (i j : ℕ) (b : A) → (i ≡ j → ⊥) → slice_get (slice_set xs i b) j ≡ slice_get xs j
get-other [] i j b h = refl
get-other (x ∷ xs) zero zero b h = absurd (h refl)
get-other (x ∷ xs) zero (suc j) b h = refl
get-other (x ∷ xs) (suc i) zero b h = refl
get-other (x ∷ xs) (suc i) (suc j) b h = get-other xs i j b (λ e. h (ap suc e))

pub length-set_at : {A : Type 0} (xs : List A) (i : ℕ) (b : A) → length (slice_set xs i b) ≡ length xs
length-set_at [] i b = refl
length-set_at (x ∷ xs) zero b = refl
length-set_at (x ∷ xs) (suc i) b = ap suc (length-set_at xs i b)

pub get-front : {A : Type 0} (xs ys : List A) (i : ℕ) (a : A) → slice_get xs i ≡ Some a → slice_get (xs ++ ys) i ≡ Some a
get-front [] ys i a e = absurd (cc)
get-front (x ∷ xs) ys zero a e = e
get-front (x ∷ xs) ys (suc i) a e = get-front xs ys i a e

pub get-last : {A : Type 0} (xs : List A) (a : A) → slice_get (xs ++ a ∷ []) (length xs) ≡ Some a
get-last [] a = refl
get-last (x ∷ xs) a = get-last xs a

pub get-within : {A : Type 0} (xs : List A) (i : ℕ) (a : A) → slice_get xs i ≡ Some a → i < length xs
get-within [] i a e = absurd (cc)
get-within (x ∷ xs) zero a e = omega arith
get-within (x ∷ xs) (suc i) a e = let h = get-within xs i a e in omega (arith, h)

pub get-in : {A : Type 0} (xs : List A) (i : ℕ) → i < length xs → (a : A) × (slice_get xs i ≡ Some a)
get-in [] i h = absurd (omega arith)
get-in (x ∷ xs) zero h = (x, refl)
get-in (x ∷ xs) (suc i) h = get-in xs i (omega arith)

-- ---- symbols

pub by-test : {P : Type 0} (b : Bool) → (b ≡ true → P) → (b ≡ false → P) → P
by-test true f g = f refl
by-test false f g = g refl

pub symbol-same : (a b : SymId) → same_symbol a b ≡ true → a ≡ b
symbol-same a b h = let e : a.0 ≡ b.0 = eqb-true a.0 b.0 h in ap (λ (n : ℕ). record { 0 = n }) e

pub symbol-itself : (a : SymId) → same_symbol a a ≡ true
symbol-itself a = eq-eqb a.0 a.0 refl

pub symbol-other : (a b : SymId) → same_symbol a b ≡ false → a ≡ b → ⊥
symbol-other a b h e = let s : same_symbol a b ≡ true = ap (λ c. same_symbol a c) (sym e) ∙ symbol-itself a in absurd (cc)

pub symbols-differ : (a b : SymId) → (a ≡ b → ⊥) → same_symbol a b ≡ false
symbols-differ a b h = by-test (same_symbol a b) (λ e. absurd (h (symbol-same a b e))) (λ e. e)

-- ---- finite maps

pub look-put_same : {A : Type 0} (xs : List (SymId × A)) (x : SymId) (a : A) → look (put xs x a) x ≡ Some a
unfolding look put
look-put_same [] x a = ap (λ b. cond b (Some a) None) (symbol-itself x)
look-put_same (y ∷ xs) x a = by-test (same_symbol y.0 x) yes_case (no_case (look-put_same xs x a))
  where
    yes_case : same_symbol y.0 x ≡ true → look (put (y ∷ xs) x a) x ≡ Some a
    yes_case e = ap (λ b. look (cond b ((x, a) ∷ xs) (y ∷ put xs x a)) x) e ∙ ap (λ b. cond b (Some a) (look xs x)) (symbol-itself x)

    no_case : look (put xs x a) x ≡ Some a → same_symbol y.0 x ≡ false → look (put (y ∷ xs) x a) x ≡ Some a
    no_case r e = ap (λ b. look (cond b ((x, a) ∷ xs) (y ∷ put xs x a)) x) e ∙ ap (λ b. cond b (Some y.1) (look (put xs x a) x)) e ∙ r

pub look-put_other : {A : Type 0} (xs : List (SymId × A)) (x y : SymId) (a : A) → (x ≡ y → ⊥) → look (put xs x a) y ≡ look xs y
unfolding look put
look-put_other [] x y a h = ap (λ b. cond b (Some a) None) (symbols-differ x y h)
look-put_other (z ∷ xs) x y a h = by-test (same_symbol z.0 x) yes_case (no_case (look-put_other xs x y a h))
  where
    yes_case : same_symbol z.0 x ≡ true → look (put (z ∷ xs) x a) y ≡ look (z ∷ xs) y
    yes_case e =
        let differ = symbols-differ x y h in
        let g : same_symbol z.0 y ≡ false = ap (λ t. same_symbol t y) (symbol-same z.0 x e) ∙ differ in
        ap (λ b. look (cond b ((x, a) ∷ xs) (z ∷ put xs x a)) y) e ∙ ap (λ b. cond b (Some a) (look xs y)) differ ∙ ap (λ b. cond b (Some z.1) (look xs y)) (sym g)

    no_case : look (put xs x a) y ≡ look xs y → same_symbol z.0 x ≡ false → look (put (z ∷ xs) x a) y ≡ look (z ∷ xs) y
    no_case r e = ap (λ b. look (cond b ((x, a) ∷ xs) (z ∷ put xs x a)) y) e ∙ ap (λ o. cond (same_symbol z.0 y) (Some z.1) o) r

pub values-put_same : (s : Slots) (x : SymId) (vs : List Value) → values_of (put s x vs) x ≡ vs
unfolding values_of
values-put_same s x vs = ap (λ o. unwrap_or o []) (look-put_same s x vs)

pub values-put_other : (s : Slots) (x y : SymId) (vs : List Value) → (x ≡ y → ⊥) → values_of (put s x vs) y ≡ values_of s y
unfolding values_of
values-put_other s x y vs h = ap (λ o. unwrap_or o []) (look-put_other s x y vs h)

-- a binding's value is set: those of others stay
pub get-set_other : (s : Slots) (x y : SymId) (j k : ℕ) (v : Value) → (x ≡ y → j ≡ k → ⊥) → slice_get (values_of (put s x (slice_set (values_of s x) j v)) y) k ≡ slice_get (values_of s y) k
get-set_other s x y j k v h = by-test (same_symbol x y) (λ e. same (symbol-same x y e)) (λ e. ap (λ l. slice_get l k) (values-put_other s x y (slice_set (values_of s x) j v) (symbol-other x y e)))
  where
    same : x ≡ y → slice_get (values_of (put s x (slice_set (values_of s x) j v)) y) k ≡ slice_get (values_of s y) k
    same e =
        subst (λ z. slice_get (values_of (put s x (slice_set (values_of s x) j v)) z) k ≡ slice_get (values_of s z) k) e
        (ap (λ l. slice_get l k) (values-put_same s x (slice_set (values_of s x) j v)) ∙ get-other (values_of s x) j k v (h e))

-- and its own is this one
pub get-set_same : (s : Slots) (x : SymId) (k : ℕ) (old v : Value) → slice_get (values_of s x) k ≡ Some old → slice_get (values_of (put s x (slice_set (values_of s x) k v)) x) k ≡ Some v
get-set_same s x k old v e = ap (λ l. slice_get l k) (values-put_same s x (slice_set (values_of s x) k v)) ∙ get-here (values_of s x) k old v e
