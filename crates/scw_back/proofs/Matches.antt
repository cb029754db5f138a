-- Locals that are known have slots of their kinds.
use Rattle.std.proofs.Common.{◌≡◌, Bool, true, false, cond, List, [], ◌∷◌, ◌++◌, map, Option, Some, None, refl, sym, ap, ◌∙◌, subst, find, eqb-true}
use Rattle.scw_text.specs.declared.number.SymId.{SymId}
use Rattle.scw_core.specs.Tree.{Tree, strict}
use Rattle.scw_core.specs.Types.{same_symbol}
use Rattle.scw_core.specs.declared.class.Member.{Member}
use Rattle.scw_core.specs.declared.operator.Op.{Op}
use Rattle.scw_core.specs.declared.operator.Op.TheVariants as op
use Rattle.scw_core.specs.declared.tree.Local.{Local}
use Rattle.scw_gen.specs.declared.kind.Kind.{Kind}
use Rattle.scw_gen.specs.declared.scope.Slot.{Slot}
use Rattle.scw_gen.specs.Around.{Around, kind_in}
use Rattle.scw_gen.specs.Outcome.{◌>>=◌}
use Rattle.scw_gen.specs.Method.{Start, end_of_body, local_of, mode_of_body, outermost, start_of, started}
use Rattle.scw_gen.specs.Room.{slot_behind}
use Rattle.scw_gen.specs.Scope.{Scope, from, inside, placed, slot_of, with_local}
use Rattle.scw_gen.specs.Typed.{Known, all_set, behind, behind_op, bound, is_bound, known, known_in_body, locals_of, marked, this_known}
use Rattle.scw_gen.proofs.Steps as steps
use Rattle.scw_gen.proofs.TypedLemmas.{locals_mapped}

-- a slot of the local, by its kind
abbrev pub SlotFor : Scope → SymId → Kind → Type 0
SlotFor s x k = (slot : Slot) × (slot_of s x ≡ Some slot) × (slot.kind ≡ k)

-- each local that is known has a slot of its kind
pub record Matches (ys : List Known) (s : Scope) : Type 0 where
  pub found : (x : SymId) (y : Known) → known ys x ≡ Some y → SlotFor s x y.kind

-- ---- locals whose values are set

-- a local that was known with the same kind
abbrev Before : Option Known → Kind → Type 0
Before o k = (u : Known) × (o ≡ Some u) × (u.kind ≡ k)

-- with a value it is of the kind that it was
set-kind : (b : Bool) (u : Known) (o : Option Known) (y : Known) → cond b (Some (record u { is_set = true })) o ≡ Some y → Before (cond b (Some u) o) y.kind
set-kind true u o y h = let e : record u { is_set = true } ≡ y = cc in (u, refl, ap (λ (k : Known). k.kind) e)
set-kind false u o y h = (y, h, refl)

-- the locals behind are of the kinds that they were
later-kind : (b : Bool) (u : Known) (o r : Option Known) (y : Known) → (r ≡ Some y → Before o y.kind) → cond b (Some u) r ≡ Some y → Before (cond b (Some u) o) y.kind
later-kind true u o r y later h = let e : u ≡ y = cc in (u, refl, ap (λ (k : Known). k.kind) e)
later-kind false u o r y later h = later h

-- one local more before the others
one-marked : (x z : SymId) (u : Known) (us : List Known) (y : Known) (b : Bool) → (known (marked x us) z ≡ Some y → Before (known us z) y.kind) → known (cond b (record u { is_set = true } ∷ us) (u ∷ marked x us)) z ≡ Some y → Before (known (u ∷ us) z) y.kind
unfolding known
one-marked x z u us y true later h = set-kind (same_symbol u.symbol z) u (known us z) y h
one-marked x z u us y false later h = later-kind (same_symbol u.symbol z) u (known us z) (known (marked x us) z) y later h

marked-kind : (x z : SymId) (ys : List Known) (y : Known) → known (marked x ys) z ≡ Some y → Before (known ys z) y.kind
unfolding known marked
marked-kind x z [] y h = absurd (cc)
marked-kind x z (u ∷ us) y h = one-marked x z u us y (same_symbol u.symbol x) (λ l. marked-kind x z us y l) h

all_set-kind : (z : SymId) (ys : List Known) (y : Known) → known (all_set ys) z ≡ Some y → Before (known ys z) y.kind
unfolding known
all_set-kind z [] y h = absurd (cc)
all_set-kind z (u ∷ us) y h = by (same_symbol u.symbol z) (λ k. all_set-kind z us y k) h
  where
    by : (b : Bool) → (known (all_set us) z ≡ Some y → Before (known us z) y.kind) → cond b (Some (record u { is_set = true })) (known (all_set us) z) ≡ Some y → Before (cond b (Some u) (known us z)) y.kind
    by true later k = set-kind true u (known us z) y k
    by false later k = later k

kept : (ys zs : List Known) (s : Scope) → ((z : SymId) (y : Known) → known zs z ≡ Some y → Before (known ys z) y.kind) → Matches ys s → Matches zs s
kept ys zs s before m = record {
  found = λ x y h.
      let b = before x y h in
      let f = m.found x b.0 b.1 in
      (f.0, f.1, f.2 ∙ b.2);
}

pub all_set-matches : (ys : List Known) (s : Scope) → Matches ys s → Matches (all_set ys) s
all_set-matches ys s m = kept ys (all_set ys) s (λ z y h. all_set-kind z ys y h) m

behind_op-matches : (o : Op) (ys : List Known) (s : Scope) → Matches ys s → Matches (behind_op o ys) s
behind_op-matches (op.SetLocal x) ys s m = kept ys (marked x ys) s (λ z y h. marked-kind x z ys y h) m
behind_op-matches _ ys s m = m

pub behind-matches : (t : Tree) (ys : List Known) (s : Scope) → Matches ys s → Matches (behind t ys) s
behind-matches (strict i o ts) ys s m = behind_op-matches o ys s m
behind-matches _ ys s m = m

-- ---- lists in which a slot is sought

module _ (x : SymId) where
  abbrev seek : List Slot → Option Slot
  seek ss = find (λ (slot : Slot). same_symbol slot.symbol x) ss

  -- what stands behind another list is found where nothing of that is
  seek-behind : (a b : List Slot) → seek a ≡ None → seek (a ++ b) ≡ seek b
  seek-behind [] b h = refl
  seek-behind (t ∷ a) b h = by (same_symbol t.symbol x) (λ k. seek-behind a b k) h
    where
      by : (c : Bool) → (seek a ≡ None → seek (a ++ b) ≡ seek b) → cond c (Some t) (seek a) ≡ None → cond c (Some t) (seek (a ++ b)) ≡ seek b
      by true later k = absurd (cc)
      by false later k = later k

  -- another local's slot is passed over
  seek-over : (a b : List Slot) (n : Slot) → same_symbol n.symbol x ≡ false → seek ((a ++ n ∷ []) ++ b) ≡ seek (a ++ b)
  seek-over [] b n h = rw h refl
  seek-over (t ∷ a) b n h = ap (λ (o : Option Slot). cond (same_symbol t.symbol x) (Some t) o) (seek-over a b n h)

  -- the local's own slot is found behind those of others
  seek-own : (a b : List Slot) (n : Slot) → seek a ≡ None → same_symbol n.symbol x ≡ true → seek ((a ++ n ∷ []) ++ b) ≡ Some n
  seek-own [] b n none h = rw h refl
  seek-own (t ∷ a) b n none h = by (same_symbol t.symbol x) (λ k. seek-own a b n k h) none
    where
      by : (c : Bool) → (seek a ≡ None → seek ((a ++ n ∷ []) ++ b) ≡ Some n) → cond c (Some t) (seek a) ≡ None → cond c (Some t) (seek ((a ++ n ∷ []) ++ b)) ≡ Some n
      by true later k = absurd (cc)
      by false later k = later k

  seek-none : (a : List Slot) (n : Slot) → seek a ≡ None → same_symbol n.symbol x ≡ false → seek (a ++ n ∷ []) ≡ None
  seek-none a n none h = seek-behind a (n ∷ []) none ∙ rw h refl

-- ---- the locals of a block

pub same-is : (a b : SymId) → same_symbol a b ≡ true → a ≡ b
same-is a b h = let e : a.0 ≡ b.0 = eqb-true a.0 b.0 h in ap (λ n. record { 0 = n }) e

-- slots of which each is that of a local that is known
pub record Fresh (ys : List Known) (slots : List Slot) : Type 0 where
  pub none : (x : SymId) → known ys x ≡ None → seek x slots ≡ None

-- a local more, which has no value yet, and its slot
abbrev new_known : Local → Kind → Known
new_known x k = record { symbol = x.symbol; kind = k; is_set = false }

abbrev new_slot : Local → Kind → Scope → Slot
new_slot x k s = record { symbol = x.symbol; place = s.next; kind = k }

module _ (g : Around) (outer : Scope) where
  -- one local more
  more-fresh : (x : Local) (k : Kind) (ys : List Known) (s : Scope) → Fresh ys s.slots → Fresh (new_known x k ∷ ys) (with_local s x.symbol k).slots
  unfolding known
  more-fresh x k ys s f = record { none = λ z h. by z (same_symbol x.symbol z) refl h }
    where
      by : (z : SymId) (b : Bool) → same_symbol x.symbol z ≡ b → cond b (Some (new_known x k)) (known ys z) ≡ None → seek z (s.slots ++ new_slot x k s ∷ []) ≡ None
      by z true e h = absurd (cc)
      by z false e h = seek-none z s.slots (new_slot x k s) (f.none z h) e

  more-matches : (x : Local) (k : Kind) (ys : List Known) (s : Scope) → known ys x.symbol ≡ None → Fresh ys s.slots → Matches ys (inside s outer)
      → Matches (new_known x k ∷ ys) (inside (with_local s x.symbol k) outer)
  unfolding known slot_of
  more-matches x k ys s none f m = record { found = λ z y h. by z y (same_symbol x.symbol z) refl h }
    where
      by : (z : SymId) (y : Known) (b : Bool) → same_symbol x.symbol z ≡ b → cond b (Some (new_known x k)) (known ys z) ≡ Some y → SlotFor (inside (with_local s x.symbol k) outer) z y.kind
      by z y true e h =
          let same : x.symbol ≡ z = same-is x.symbol z e in
          let free = f.none z (subst (λ (w : SymId). known ys w ≡ None) same none) in
          let it : new_known x k ≡ y = cc in
          (new_slot x k s, seek-own z s.slots outer.slots (new_slot x k s) free e, ap (λ (w : Known). w.kind) it)
      by z y false e h = let old = m.found z y h in (old.0, seek-over z s.slots outer.slots (new_slot x k s) e ∙ old.1, old.2)

  bound-none : (o : Option Known) (r : Option (List Known)) (inner : List Known) → cond (is_bound o) None r ≡ Some inner → (o ≡ None) × (r ≡ Some inner)
  bound-none None r inner h = (refl, h)
  bound-none (Some y) r inner h = absurd (cc)

  block-step : (xs : List Local) (ys inner : List Known) (s added : Scope) → bound g xs ys ≡ Some inner → placed g.table g.class.symbol s xs ≡ Some added → Fresh ys s.slots → Matches ys (inside s outer) → Matches inner (inside added outer)
  unfolding bound placed
  block-step [] ys inner s added h k f m = let e : ys ≡ inner = cc in let i : s ≡ added = cc in subst (λ (zs : List Known). Matches zs (inside added outer)) e (subst (λ (t : Scope). Matches ys (inside t outer)) i m)
  block-step (x ∷ xs) ys inner s added h k f m =
      let n = bound-none (known ys x.symbol) (kind_in g x.type_id >>= λ l. bound g xs (record { symbol = x.symbol; kind = l; is_set = false } ∷ ys)) inner h in
      let a = steps.bound (kind_in g x.type_id) (λ l. bound g xs (record { symbol = x.symbol; kind = l; is_set = false } ∷ ys)) inner n.1 in
      let b = steps.bound (kind_in g x.type_id) (λ l. placed g.table g.class.symbol (with_local s x.symbol l) xs) added k in
      let same : b.0 ≡ a.0 = (let p = a.1 in let q = b.1 in cc) in
      let there = subst (λ (l : Kind). placed g.table g.class.symbol (with_local s x.symbol l) xs ≡ Some added) same b.2 in
      block-step xs (record { symbol = x.symbol; kind = a.0; is_set = false } ∷ ys) inner (with_local s x.symbol a.0) added a.2 there (more-fresh x a.0 ys s f) (more-matches x a.0 ys s n.0 f m)

  -- inside a block
  pub block-matches : (xs : List Local) (ys inner : List Known) (added : Scope) → bound g xs ys ≡ Some inner → placed g.table g.class.symbol (from outer.next) xs ≡ Some added → Matches ys outer → Matches inner (inside added outer)
  unfolding slot_of
  block-matches xs ys inner added h k m = block-step xs ys inner (from outer.next) added h k (record { none = λ x e. refl }) (record { found = λ x y e. m.found x y e })

-- ---- bodies

abbrev this_slot : Around → Slot
this_slot g = record { symbol = g.class.this; place = 0; kind = (this_known g).kind }

outermost-matches : (g : Around) → Matches (this_known g ∷ []) (outermost g)
unfolding known slot_of
outermost-matches g = record { found = λ z y h. by z y (same_symbol g.class.this z) refl h }
  where
    by : (z : SymId) (y : Known) (b : Bool) → same_symbol g.class.this z ≡ b → cond b (Some (this_known g)) None ≡ Some y → SlotFor (outermost g) z y.kind
    by z y true e h = let it : this_known g ≡ y = cc in (this_slot g, rw e refl, ap (λ (w : Known). w.kind) it)
    by z y false e h = absurd (cc)

-- at the start of a body the parameters are known
pub parameters-match : (g : Around) (m : Member) (ys : List Known) (s : Scope) → known_in_body g m ≡ Some ys → placed g.table g.class.symbol (from 1) (map local_of m.parameters) ≡ Some s → Matches ys (inside s (outermost g))
parameters-match g m ys s h k =
    let a = steps.bound (bound g (locals_of m.parameters) (this_known g ∷ [])) (λ zs. Some (all_set zs)) ys h in
    let there = subst (λ (l : List Local). placed g.table g.class.symbol (from 1) l ≡ Some s) (locals_mapped m.parameters) k in
    let inner = block-matches g (outermost g) (locals_of m.parameters) (this_known g ∷ []) a.0 s a.1 there (outermost-matches g) in
    let set : all_set a.0 ≡ ys = (let e = a.2 in cc) in
    subst (λ (zs : List Known). Matches zs (inside s (outermost g))) set (all_set-matches a.0 (inside s (outermost g)) inner)

started-scope : (g : Around) (xs : List Local) (s : Scope) (k : Option Kind) (start : Start) → started g xs s k ≡ Some start → start.scope ≡ inside s (outermost g)
started-scope g xs s None start h = absurd (cc)
started-scope g xs s (Some k) start h = ap (λ (t : Start). t.scope) (sym (let e : record { scope = inside s (outermost g); mode = mode_of_body k; end = end_of_body k; next = slot_behind g 1 xs } ≡ start = cc in e))

pub body-matches : (g : Around) (m : Member) (ys : List Known) (start : Start) → known_in_body g m ≡ Some ys → start_of g m ≡ Some start → Matches ys start.scope
body-matches g m ys start h k =
    let xs = map local_of m.parameters in
    let b = steps.bound (placed g.table g.class.symbol (from 1) xs) (λ s. started g xs s (kind_in g m.result)) start k in
    subst (λ (s : Scope). Matches ys s) (sym (started-scope g xs b.0 (kind_in g m.result) start b.2)) (parameters-match g m ys b.0 h b.1)
