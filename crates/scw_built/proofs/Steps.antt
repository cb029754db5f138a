-- What the steps of typing do to the state.
use Rattle.std.proofs.Common.{◌≡◌, refl, ap, sym, subst, ◌∙◌, ◌+◌, ◌≤◌, nat_lt, Bool, true, false, not, cond, is_some, ◌⊎◌, [], ◌∷◌, ◌++◌, length, Option, Some, None, inl, inr, arith}
use Rattle.std.proofs.lemmas.Bool.{cases_Bool}
use Rattle.std.specs.List.{list_all}
use Rattle.scw_text.specs.declared.number.SymId.{SymId}
use Rattle.scw_core.specs.Types.{same_text}
use Rattle.scw_reader.specs.Syntax.{Name}
use Rattle.scw_reader.specs.declared.tree.TypeName.{TypeName}
use Rattle.scw_small.specs.Step.{Named, State, Step, and_then, only_if, given_in, fresh, name_symbol, show_name, define, with_names, with_scope, add_name, find_name}
use Rattle.scw_built.proofs.Sound.{are_units}
use Rattle.scw_built.proofs.Marks.{some-is}
use Rattle.scw_built.proofs.SmallNames.{Signature, Variable}

-- what two steps in a row gave, each gave
pub both-gave : {A B : Type 0} (r : Option (A × State)) (f : A → Step B) (b : B) (t : State) → and_then r f ≡ Some (b, t) → (a : A) × (s : State) × (r ≡ Some (a, s)) × (f a s ≡ Some (b, t))
both-gave None f b t h = absurd (cc)
both-gave (Some q) f b t h = (q.0, q.1, refl, h)

-- a step gave the one and the other, so they are the same
abbrev pub Same : {A : Type 0} → A → State → A → State → Type 0
Same {A} a s b t = ◌≡◌ {A = Option (A × State)} (Some (a, s)) (Some (b, t))

pub pure-gave : {A : Type 0} (a b : A) (s t : State) → Same a s b t → (a ≡ b) × (s ≡ t)
pure-gave a b s t h = let e = some-is (a, s) (b, t) h in (ap (λ q. q.0) e, ap (λ q. q.1) e)

pub given-gave : {A : Type 0} (o : Option A) (a : A) (s t : State) → given_in o s ≡ Some (a, t) → (o ≡ Some a) × (s ≡ t)
given-gave None a s t h = absurd (cc)
given-gave (Some x) a s t h = let e = pure-gave x a s t h in (ap Some e.0, e.1)

pub only-gave : (b : Bool) (u : Unit {0}) (s t : State) → only_if b s ≡ Some (u, t) → (b ≡ true) × (s ≡ t)
only-gave true u s t h = (refl, (pure-gave tt u s t h).1)
only-gave false u s t h = absurd (cc)

-- ---- what only grows

pub record Grown (s t : State) : Type 0 where
  pub later : s.next ≤ t.next
  pub types : t.types ≡ s.types
  pub texts : length s.texts ≤ length t.texts
  pub units : list_all are_units s.texts ≡ true → list_all are_units t.texts ≡ true

pub grown-same : (s : State) → Grown s s
grown-same s = record { later = omega arith; types = refl; texts = omega arith; units = λ h. h }

pub grown-then : (r s t : State) → Grown r s → Grown s t → Grown r t
grown-then r s t a b = record { later = omega arith; types = b.types ∙ a.types; texts = omega arith; units = λ h. b.units (a.units h) }

-- ---- names

pub find-here : {A : Type 0} (x : Name) (a : A) (names : Named A) → same_text x x ≡ true → find_name x names ≡ None → find_name x (names ++ (x, a) ∷ []) ≡ Some a
find-here x a [] r h = rw r refl
find-here x a (e ∷ names) r h = elim (cases_Bool (same_text x e.0)) [
  | inl k ↦ let g = rw k at h in absurd (cc)
  | inr k ↦ rw k (find-here x a names r (rw k at h))
]

pub find-more : {A : Type 0} (x y : Name) (a b : A) (names : Named A) → find_name x names ≡ Some a → find_name x (names ++ (y, b) ∷ []) ≡ Some a
find-more x y a b [] h = absurd (cc)
find-more x y a b (e ∷ names) h = elim (cases_Bool (same_text x e.0)) [
  | inl k ↦ rw k (rw k at h)
  | inr k ↦ rw k (find-more x y a b names (rw k at h))
]

-- what is found is what was there, or what is added
pub find-either : {A : Type 0} (x y : Name) (a b : A) (names : Named A) → find_name x (names ++ (y, b) ∷ []) ≡ Some a → (find_name x names ≡ Some a) ⊎ (b ≡ a)
find-either x y a b [] h = by (same_text x y) h
  where
    by : (t : Bool) → cond t (Some b) None ≡ Some a → (None ≡ Some a) ⊎ (b ≡ a)
    by true k = inr (some-is b a k)
    by false k = absurd (cc)
find-either x y a b (e ∷ names) h = elim (cases_Bool (same_text x e.0)) [
  | inl k ↦ inl (rw k (rw k at h))
  | inr k ↦ rw k (find-either x y a b names (rw k at h))
]

pub add-gave : {A : Type 0} (x : Name) (a : A) (names more : Named A) → add_name x a names ≡ Some more → (find_name x names ≡ None) × (names ++ (x, a) ∷ [] ≡ more)
add-gave {A} x a names more h = by (find_name x names) h
  where
    by : (o : Option A) → cond (is_some o) None (Some (names ++ (x, a) ∷ [])) ≡ Some more → (o ≡ None) × (names ++ (x, a) ∷ [] ≡ more)
    by None k = (refl, some-is _ more k)
    by (Some y) k = absurd (cc)

-- ---- a definition

pub fresh-gave : (n : SymId) (s t : State) → fresh s ≡ Some (n, t) → (record { 0 = s.next } ≡ n) × (record s { next = s.next + 1 } ≡ t)
unfolding fresh
fresh-gave n s t h = by (nat_lt s.next 18446744073709551615) h
  where
    by : (b : Bool) → cond {A = Option (SymId × State)} b (Some (record { 0 = s.next }, record s { next = s.next + 1 })) None ≡ Some (n, t) → (record { 0 = s.next } ≡ n) × (record s { next = s.next + 1 } ≡ t)
    by true k = pure-gave _ n _ t k
    by false k = absurd (cc)

name-gave : (x : Name) (n : SymId) (u : Unit {0}) (s t : State) → name_symbol x n s ≡ Some (u, t) → (names : Named SymId) × (record s { names = names } ≡ t)
unfolding name_symbol
name-gave x n u s t h = by (add_name x n s.names) h
  where
    by : (o : Option (Named SymId)) → with_names s o ≡ Some (u, t) → (names : Named SymId) × (record s { names = names } ≡ t)
    by None k = absurd (cc)
    by (Some names) k = (names, (pure-gave tt u _ t k).1)

show-gave : (x : Name) (v : Variable) (u : Unit {0}) (s t : State) → show_name x v s ≡ Some (u, t) → record s { scope = s.scope ++ (x, v) ∷ [] } ≡ t
unfolding show_name
show-gave x v u s t h = by (add_name x v s.scope) (λ more. add-gave x v s.scope more) h
  where
    by : (o : Option (Named Variable)) → ((more : Named Variable) → o ≡ Some more → (find_name x s.scope ≡ None) × (s.scope ++ (x, v) ∷ [] ≡ more)) → with_scope s o ≡ Some (u, t) → record s { scope = s.scope ++ (x, v) ∷ [] } ≡ t
    by None g k = absurd (cc)
    by (Some scope) g k = ap (λ (l : Named Variable). record s { scope = l }) (g scope refl).1 ∙ (pure-gave tt u _ t k).1

-- the variable that a definition makes visible
abbrev pub variable : State → TypeName → Bool → Variable
variable s k a = record { symbol = record { 0 = s.next }; kind = k; is_assignable = a }

-- what a definition leaves
abbrev pub defined_state : State → Name → TypeName → Bool → Named SymId → State
defined_state s x k a names = record s { next = s.next + 1; names = names; scope = s.scope ++ (x, variable s k a) ∷ [] }

-- its steps in a row
defined-row : (x : Name) (k : TypeName) (a : Bool) (n : SymId) (names : Named SymId) (r s u v t : State) → record { 0 = r.next } ≡ n → record r { next = r.next + 1 } ≡ s → record s { names = names } ≡ u
    → record u { scope = u.scope ++ (x, record { symbol = n; kind = k; is_assignable = a }) ∷ [] } ≡ v → v ≡ t → defined_state r x k a names ≡ t
defined-row x k a n names r s u v t f g h i j =
    ap (λ (m : SymId). record r { next = r.next + 1; names = names; scope = r.scope ++ (x, record { symbol = m; kind = k; is_assignable = a }) ∷ [] }) f
    ∙ ap (λ (q : State). record q { names = names; scope = q.scope ++ (x, record { symbol = n; kind = k; is_assignable = a }) ∷ [] }) g
    ∙ ap (λ (q : State). record q { scope = q.scope ++ (x, record { symbol = n; kind = k; is_assignable = a }) ∷ [] }) h ∙ i ∙ j

pub define-gave : (g : Named Signature) (x : Name) (k : TypeName) (a : Bool) (n : SymId) (s t : State) → define g x k a s ≡ Some (n, t)
    → (record { 0 = s.next } ≡ n) × (names : Named SymId) × (defined_state s x k a names ≡ t)
unfolding define
define-gave g x k a n s t h =
    let one = both-gave (only_if (not (is_some (find_name x g))) s) _ n t h in
    let p = only-gave (not (is_some (find_name x g))) one.0 s one.1 one.2 in
    let two = both-gave (fresh one.1) _ n t one.3 in
    let q = fresh-gave two.0 one.1 two.1 two.2 in
    let three = both-gave (name_symbol x two.0 two.1) _ n t two.3 in
    let r = name-gave x two.0 three.0 two.1 three.1 three.2 in
    let v : Variable = record { symbol = two.0; kind = k; is_assignable = a } in
    let four = both-gave (show_name x v three.1) _ n t three.3 in
    let w = show-gave x v four.0 three.1 four.1 four.2 in
    let z = pure-gave two.0 n four.1 t four.3 in
    let row : defined_state one.1 x k a r.0 ≡ t = defined-row x k a two.0 r.0 one.1 two.1 three.1 four.1 t q.0 q.1 r.1 w z.1 in
    let first : record { 0 = s.next } ≡ two.0 = subst (λ (q : State). record { 0 = q.next } ≡ two.0) (sym p.1) q.0 in
    (first ∙ z.0, r.0, subst (λ (q : State). defined_state q x k a r.0 ≡ t) (sym p.1) row)
