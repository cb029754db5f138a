-- Locals that are bound, and those that have a value: marking one of them forgets nothing.
use Rattle.std.proofs.Common.{◌≡◌, refl, ap, ◌∙◌, ℕ, ◌<◌, ◌≤◌, true, List, [], ◌∷◌, Some, None, inl, inr, arith}
use Rattle.std.proofs.lemmas.Bool.{cases_Bool}
use Rattle.scw_core.specs.Tree.{Tree, strict}
use Rattle.scw_core.specs.Types.{same_symbol}
use Rattle.scw_core.specs.declared.operator.Op.{Op}
use Rattle.scw_core.specs.declared.operator.Op.TheVariants as op
use Rattle.scw_text.specs.declared.number.SymId.{SymId}
use Rattle.scw_gen.specs.Typed.{Known, all_set, behind, behind_op, known, marked}
use Rattle.scw_gen.specs.declared.kind.Kind.{Kind}

-- the local is bound, with a value of the kind
pub record BoundAs (ys : List Known) (x : SymId) (k : Kind) : Type 0 where
  pub local : Known
  pub there : known ys x ≡ Some local
  pub kind_is : local.kind ≡ k

-- and it has one by now
pub record SetAs (ys : List Known) (x : SymId) (k : Kind) : Type 0 where
  pub local : Known
  pub there : known ys x ≡ Some local
  pub kind_is : local.kind ≡ k
  pub set : local.is_set ≡ true

-- no symbol of the range is bound
pub record Free (low high : ℕ) (ys : List Known) : Type 0 where
  pub free : (x : SymId) → low ≤ x.0 → x.0 < high → known ys x ≡ None

pub free-part : (l h l' h' : ℕ) (ys : List Known) → Free l h ys → l ≤ l' → h' ≤ h → Free l' h' ys
free-part l h l' h' ys f p q = record { free = λ x a b. f.free x (omega arith) (omega arith) }

pub some-is : {A : Type 0} (x y : A) → Some x ≡ Some y → x ≡ y
some-is x y h = cc

-- ---- a mark

mark-none : (x n : SymId) (ys : List Known) → known ys n ≡ None → known (marked x ys) n ≡ None
unfolding known marked
mark-none x n [] h = refl
mark-none x n (w ∷ ys) h = elim (cases_Bool (same_symbol w.symbol n)) [
  | inl e ↦ let g = rw e at h in absurd (cc)
  | inr e ↦ elim (cases_Bool (same_symbol w.symbol x)) [
    | inl f ↦ rw (f, e) (rw e at h)
    | inr f ↦ rw (f, e) (mark-none x n ys (rw e at h))
  ]
]

mark-some : (x n : SymId) (ys : List Known) (y : Known) → known ys n ≡ Some y → (z : Known) × (known (marked x ys) n ≡ Some z) × (z.kind ≡ y.kind) × (y.is_set ≡ true → z.is_set ≡ true)
unfolding known marked
mark-some x n [] y h = absurd (cc)
mark-some x n (w ∷ ys) y h = elim (cases_Bool (same_symbol w.symbol n)) [
  | inl e ↦ elim (cases_Bool (same_symbol w.symbol x)) [
    | inl f ↦ (record w { is_set = true }, rw (f, e) refl, ap (λ (q : Known). q.kind) (some-is w y (rw e at h)), λ t. refl)
    | inr f ↦ (w, rw (f, e) refl, ap (λ (q : Known). q.kind) (some-is w y (rw e at h)), λ t. ap (λ (q : Known). q.is_set) (some-is w y (rw e at h)) ∙ t)
  ]
  | inr e ↦ elim (cases_Bool (same_symbol w.symbol x)) [
    | inl f ↦ (y, rw (f, e) (rw e at h), refl, λ t. t)
    | inr f ↦ let r = mark-some x n ys y (rw e at h) in (r.0, rw (f, e) r.1, r.2, r.3)
  ]
]

mark-here : (x : SymId) (ys : List Known) (y : Known) → known ys x ≡ Some y → known (marked x ys) x ≡ Some (record y { is_set = true })
unfolding known marked
mark-here x [] y h = absurd (cc)
mark-here x (w ∷ ys) y h = elim (cases_Bool (same_symbol w.symbol x)) [
  | inl e ↦ rw (e, e) (ap (λ (q : Known). Some (record q { is_set = true })) (some-is w y (rw e at h)))
  | inr e ↦ rw (e, e) (mark-here x ys y (rw e at h))
]

pub set-here : (x : SymId) (ys : List Known) (k : Kind) → BoundAs ys x k → SetAs (marked x ys) x k
set-here x ys k b = record { local = record b.local { is_set = true }; there = mark-here x ys b.local b.there; kind_is = b.kind_is; set = refl }

-- ---- marks

-- the second list is the first with marks
pub record Marks (ys zs : List Known) : Type 0 where
  pub none : (x : SymId) → known ys x ≡ None → known zs x ≡ None
  pub bound : (x : SymId) (k : Kind) → BoundAs ys x k → BoundAs zs x k
  pub set : (x : SymId) (k : Kind) → SetAs ys x k → SetAs zs x k

pub marks-none : (ys : List Known) → Marks ys ys
marks-none ys = record { none = λ x h. h; bound = λ x k b. b; set = λ x k b. b }

pub marks-then : (ys zs ws : List Known) → Marks ys zs → Marks zs ws → Marks ys ws
marks-then ys zs ws a b = record { none = λ x h. b.none x (a.none x h); bound = λ x k h. b.bound x k (a.bound x k h); set = λ x k h. b.set x k (a.set x k h) }

bound-marked : (x n : SymId) (ys : List Known) (k : Kind) → BoundAs ys n k → BoundAs (marked x ys) n k
bound-marked x n ys k b = let r = mark-some x n ys b.local b.there in record { local = r.0; there = r.1; kind_is = r.2 ∙ b.kind_is }

set-marked : (x n : SymId) (ys : List Known) (k : Kind) → SetAs ys n k → SetAs (marked x ys) n k
set-marked x n ys k b = let r = mark-some x n ys b.local b.there in record { local = r.0; there = r.1; kind_is = r.2 ∙ b.kind_is; set = r.3 b.set }

pub marks-one : (x : SymId) (ys : List Known) → Marks ys (marked x ys)
marks-one x ys = record { none = λ n h. mark-none x n ys h; bound = λ n k b. bound-marked x n ys k b; set = λ n k b. set-marked x n ys k b }

-- ---- behind a statement

marks-op : (o : Op) (ys : List Known) → Marks ys (behind_op o ys)
marks-op (op.SetLocal x) ys = marks-one x ys
marks-op _ ys = marks-none ys

pub marks-behind : (t : Tree) (ys : List Known) → Marks ys (behind t ys)
marks-behind (strict i o ts) ys = marks-op o ys
marks-behind _ ys = marks-none ys

-- ---- all have values

pub all-set : (ys : List Known) (x : SymId) (k : Kind) → BoundAs ys x k → SetAs (all_set ys) x k
unfolding known
all-set [] x k b = let h = b.there in absurd (cc)
all-set (y ∷ ys) x k b = elim (cases_Bool (same_symbol y.symbol x)) [
  | inl e ↦ record { local = record y { is_set = true }; there = rw e refl; kind_is = ap (λ (q : Known). q.kind) (some-is y b.local (rw e at b.there)) ∙ b.kind_is; set = refl }
  | inr e ↦ let r = all-set ys x k (record { local = b.local; there = rw e at b.there; kind_is = b.kind_is }) in
      record { local = r.local; there = rw e r.there; kind_is = r.kind_is; set = r.set }
]

pub all-none : (ys : List Known) (x : SymId) → known ys x ≡ None → known (all_set ys) x ≡ None
unfolding known
all-none [] x h = refl
all-none (y ∷ ys) x h = elim (cases_Bool (same_symbol y.symbol x)) [
  | inl e ↦ let g = rw e at h in absurd (cc)
  | inr e ↦ rw e (all-none ys x (rw e at h))
]
