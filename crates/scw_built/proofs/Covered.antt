-- Each local that is known has a slot in the scope.
use Rattle.std.proofs.Common.{◌≡◌, Bool, true, false, cond, ◌||◌, List, [], ◌∷◌, ◌++◌, Option, Some, None, refl, sym, ap, ◌∙◌, subst}
use Rattle.std.specs.Prelude.{find}
use Rattle.std.proofs.lemmas.Bool.{false≢true}
use Rattle.std.proofs.lemmas.Option.{none-some, same_Some}
use Rattle.scw_text.specs.declared.number.SymId.{SymId}
use Rattle.scw_core.specs.Tree.{Tree, strict}
use Rattle.scw_core.specs.Types.{same_symbol}
use Rattle.scw_core.specs.declared.operator.Op.{Op}
use Rattle.scw_core.specs.declared.operator.Op.TheVariants as op
use Rattle.scw_core.specs.declared.tree.Local.{Local}
use Rattle.scw_gen.specs.Around.{Around, kind_in}
use Rattle.scw_gen.specs.Outcome.{◌>>=◌}
use Rattle.scw_gen.specs.Scope.{Scope, placed, slot_of, with_local}
use Rattle.scw_gen.specs.Typed as typed
use Rattle.scw_gen.specs.Typed.{Known, all_set, behind, behind_op, is_bound, known, marked}
use Rattle.scw_gen.specs.declared.kind.Kind.{Kind}
use Rattle.scw_gen.specs.declared.scope.Slot.{Slot}
use Rattle.scw_gen.proofs.Steps.{bound}

-- ---- slots of a symbol

abbrev pub has_slot : SymId → List Slot → Bool
has_slot x [] = false
has_slot x (s ∷ ss) = same_symbol s.symbol x || has_slot x ss

slot-before : (x : SymId) (a b : List Slot) → has_slot x a ≡ true → has_slot x (a ++ b) ≡ true
slot-before x [] b h = absurd (false≢true h)
slot-before x (s ∷ a) b h = by (same_symbol s.symbol x) h (slot-before x a b)
  where
    by : (c : Bool) → (c || has_slot x a) ≡ true → (has_slot x a ≡ true → has_slot x (a ++ b) ≡ true) → (c || has_slot x (a ++ b)) ≡ true
    by true h later = refl
    by false h later = later h

slot-behind : (x : SymId) (a b : List Slot) → has_slot x b ≡ true → has_slot x (a ++ b) ≡ true
slot-behind x [] b h = h
slot-behind x (s ∷ a) b h = by (same_symbol s.symbol x) (slot-behind x a b h)
  where
    by : (c : Bool) → has_slot x (a ++ b) ≡ true → (c || has_slot x (a ++ b)) ≡ true
    by true h = refl
    by false h = h

-- a slot more in between
slot-between : (x : SymId) (a b : List Slot) (s : Slot) → has_slot x (a ++ b) ≡ true → has_slot x ((a ++ s ∷ []) ++ b) ≡ true
slot-between x [] b s h = by (same_symbol s.symbol x) h
  where
    by : (c : Bool) → has_slot x b ≡ true → (c || has_slot x b) ≡ true
    by true h = refl
    by false h = h
slot-between x (t ∷ a) b s h = by (same_symbol t.symbol x) h (slot-between x a b s)
  where
    by : (c : Bool) → (c || has_slot x (a ++ b)) ≡ true → (has_slot x (a ++ b) ≡ true → has_slot x ((a ++ s ∷ []) ++ b) ≡ true) → (c || has_slot x ((a ++ s ∷ []) ++ b)) ≡ true
    by true h later = refl
    by false h later = later h

-- the slot itself
slot-itself : (x : SymId) (a b : List Slot) (s : Slot) → same_symbol s.symbol x ≡ true → has_slot x ((a ++ s ∷ []) ++ b) ≡ true
slot-itself x a b s h = slot-before x (a ++ s ∷ []) b (slot-behind x a (s ∷ []) (ap (λ c. c || false) h))

slot-found : (x : SymId) (ss : List Slot) → has_slot x ss ≡ true → (s : Slot) × (find (λ (slot : Slot). same_symbol slot.symbol x) ss ≡ Some s)
slot-found x [] h = absurd (false≢true h)
slot-found x (s ∷ ss) h = by (same_symbol s.symbol x) h (slot-found x ss)
  where
    by : (c : Bool) → (c || has_slot x ss) ≡ true → (has_slot x ss ≡ true → (s : Slot) × (find (λ (slot : Slot). same_symbol slot.symbol x) ss ≡ Some s))
        → (t : Slot) × (cond c (Some s) (find (λ (slot : Slot). same_symbol slot.symbol x) ss) ≡ Some t)
    by true h later = (s, refl)
    by false h later = later h

-- ---- known locals

pub record Covers (ss : List Slot) (ys : List Known) : Type 0 where
  pub has : (x : SymId) → is_bound (known ys x) ≡ true → has_slot x ss ≡ true

pub slot-there : (s : Scope) (ys : List Known) (x : SymId) (y : Known) → Covers s.slots ys → known ys x ≡ Some y → (slot : Slot) × (slot_of s x ≡ Some slot)
unfolding slot_of
slot-there s ys x y c h = slot-found x s.slots (c.has x (ap is_bound h))

-- which locals are known, and not whether they have values
pub record Less (ys zs : List Known) : Type 0 where
  pub bound : (x : SymId) → is_bound (known ys x) ≡ is_bound (known zs x)

pub covers-less : (ss : List Slot) (ys zs : List Known) → Less ys zs → Covers ss zs → Covers ss ys
covers-less ss ys zs l c = record { has = λ x h. c.has x (sym (l.bound x) ∙ h) }

marked-bound : (x : SymId) (ys : List Known) (z : SymId) → is_bound (known (marked x ys) z) ≡ is_bound (known ys z)
unfolding marked known
marked-bound x [] z = refl
marked-bound x (y ∷ ys) z = by (same_symbol y.symbol x) (marked-bound x ys z)
  where
    same : (c : Bool) (r : Option Known) → is_bound (cond c (Some (record y { is_set = true })) r) ≡ is_bound (cond c (Some y) r)
    same true r = refl
    same false r = refl

    more : (c : Bool) (q r : Option Known) → is_bound q ≡ is_bound r → is_bound (cond c (Some y) q) ≡ is_bound (cond c (Some y) r)
    more true q r h = refl
    more false q r h = h

    by : (b : Bool) → is_bound (known (marked x ys) z) ≡ is_bound (known ys z) → is_bound (known (cond b (record y { is_set = true } ∷ ys) (y ∷ marked x ys)) z) ≡ is_bound (cond (same_symbol y.symbol z) (Some y) (known ys z))
    by true h = same (same_symbol y.symbol z) (known ys z)
    by false h = more (same_symbol y.symbol z) (known (marked x ys) z) (known ys z) h

marked-less : (x : SymId) (ys : List Known) → Less (marked x ys) ys
marked-less x ys = record { bound = marked-bound x ys }

same-less : (ys : List Known) → Less ys ys
same-less ys = record { bound = λ x. refl }

behind_op-less : (o : Op) (ys : List Known) → Less (behind_op o ys) ys
behind_op-less (op.SetLocal x) ys = marked-less x ys
behind_op-less _ ys = same-less ys

pub behind-less : (t : Tree) (ys : List Known) → Less (behind t ys) ys
behind-less (strict i o ts) ys = behind_op-less o ys
behind-less _ ys = same-less ys

set-bound : (ys : List Known) (z : SymId) → is_bound (known (all_set ys) z) ≡ is_bound (known ys z)
unfolding known
set-bound [] z = refl
set-bound (y ∷ ys) z = by (same_symbol y.symbol z) (known (all_set ys) z) (known ys z) (set-bound ys z)
  where
    by : (c : Bool) (q r : Option Known) → is_bound q ≡ is_bound r → is_bound (cond c (Some (record y { is_set = true })) q) ≡ is_bound (cond c (Some y) r)
    by true q r h = refl
    by false q r h = h

pub set-less : (ys : List Known) → Less (all_set ys) ys
set-less ys = record { bound = set-bound ys }

-- ---- locals of a block

-- where they stand, and each of them is known
pub record Placed (g : Around) (outer : List Slot) (s : Scope) (xs : List Local) (inner : List Known) : Type 0 where
  pub scope : Scope
  pub is : placed g.table g.class.symbol s xs ≡ Some scope
  pub covers : Covers (scope.slots ++ outer) inner

-- the local, not yet set
abbrev unset : Local → Kind → Known
unset x k = record { symbol = x.symbol; kind = k; is_set = false }

abbrev slot_in : Scope → Local → Kind → Slot
slot_in s x k = record { symbol = x.symbol; place = s.next; kind = k }

one-covered : (outer : List Slot) (s : Scope) (x : Local) (k : Kind) (ys : List Known) → Covers (s.slots ++ outer) ys
    → (z : SymId) → is_bound (known (unset x k ∷ ys) z) ≡ true → has_slot z ((s.slots ++ slot_in s x k ∷ []) ++ outer) ≡ true
unfolding known
one-covered outer s x k ys c z h = by (same_symbol x.symbol z) refl h
  where
    by : (b : Bool) → same_symbol x.symbol z ≡ b → is_bound (cond b (Some (unset x k)) (known ys z)) ≡ true → has_slot z ((s.slots ++ slot_in s x k ∷ []) ++ outer) ≡ true
    by true e h = slot-itself z s.slots outer (slot_in s x k) e
    by false e h = slot-between z s.slots outer (slot_in s x k) (c.has z h)

pub placed-covers : (g : Around) (outer : List Slot) (s : Scope) (xs : List Local) (ys inner : List Known) → Covers (s.slots ++ outer) ys → typed.bound g xs ys ≡ Some inner → Placed g outer s xs inner
unfolding typed.bound placed
placed-covers g outer s [] ys inner c h = record { scope = s; is = refl; covers = subst (Covers (s.slots ++ outer)) (same_Some ys inner h) c }
placed-covers g outer s (x ∷ xs) ys inner c h = by (is_bound (known ys x.symbol)) h (λ k e. placed-covers g outer (with_local s x.symbol k) xs (unset x k ∷ ys) inner (record { has = one-covered outer s x k ys c }) e)
  where
    by : (b : Bool) → cond b None (kind_in g x.type_id >>= λ k. typed.bound g xs (unset x k ∷ ys)) ≡ Some inner
        → ((k : Kind) → typed.bound g xs (unset x k ∷ ys) ≡ Some inner → Placed g outer (with_local s x.symbol k) xs inner) → Placed g outer s (x ∷ xs) inner
    by true e later = absurd (none-some inner e)
    by false e later =
        let b = bound (kind_in g x.type_id) (λ k. typed.bound g xs (unset x k ∷ ys)) inner e in
        let p = later b.0 b.2 in
        record { scope = p.scope; is = ap (λ o. o >>= λ k. placed g.table g.class.symbol (with_local s x.symbol k) xs) b.1 ∙ p.is; covers = p.covers }
