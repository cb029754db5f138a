-- Locals: what is known of them stays known as they are bound and set.
use Rattle.std.proofs.Common.{◌≡◌, refl, sym, ap, ◌∙◌, subst, ℕ, ◌+◌, ◌-◌, ◌≤◌, ◌<◌, arith, true, false, cond, List, [], ◌∷◌, length, Option, Some, None, inl, inr, ⊎_elim, eqb}
use Rattle.std.specs.Prelude.{◌⊎◌, slice_get, slice_set}
use Rattle.std.proofs.lemmas.Bool.{cond-false, cond-true}
use Rattle.scw_text.specs.declared.number.SymId.{SymId}
use Rattle.scw_core.specs.State.{Env, Slots, Thing, Value, put, values_of}
use Rattle.scw_core.specs.Tree.{Tree, Trees, none, more, strict}
use Rattle.scw_core.specs.Types.{same_symbol}
use Rattle.scw_core.specs.declared.operator.Op.{Op}
use Rattle.scw_core.specs.declared.operator.Op.TheVariants as op
use Rattle.scw_gen.specs.declared.kind.Kind.{Kind}
use Rattle.scw_gen.specs.declared.kind.Kind.TheVariants as kind
use Rattle.scw_gen.specs.declared.scope.Slot.{Slot}
use Rattle.scw_gen.specs.Kind.{width_of}
use Rattle.scw_gen.specs.Scope.{Scope, slot_of}
use Rattle.scw_gen.specs.Typed.{Known, behind, behind_op, known, marked}
use Rattle.scw_heap.specs.Heap.{Entity}
use Rattle.scw_frame.specs.declared.value.Value.TheVariants.{Unset, Int, Long, Reference}
use Rattle.scw_frame.specs.Frame.{places_of}
use Rattle.scw_frame.specs.FrameStep as machine
use Rattle.scw_frame.specs.FrameStep.{halved, unset_before}
use Rattle.scw_back.proofs.Maps.{by-test, get-here, get-in, get-other, get-set_other, get-set_same, get-within, length-set_at, symbol-other, symbol-same, symbols-differ}
use Rattle.scw_back.proofs.Stands.{Alike, Disjoint, Extends, Held, HeldAt, Within, Word, behind_all, k_boolean, k_int, k_long, k_string, k_strings, k_this, k_unit}

-- ---- words

-- a word takes as many places as a value of its kind
pub alike-places : (h : List Entity) (store : List Thing) (own : SymId) (k : Kind) (v : Value) (w : Word) → Alike h store own k v w → places_of w ≡ width_of k
alike-places h store own k v w (k_unit r x) = refl
alike-places h store own k v w (k_boolean b) = refl
alike-places h store own k v w (k_int n lt) = refl
alike-places h store own k v w (k_long n lt) = refl
alike-places h store own k v w (k_string us r u x) = refl
alike-places h store own k v w (k_strings v2 r) = refl
alike-places h store own k v w (k_this q r ws i x) = refl

-- a word that isn't the half of one
abbrev Whole : Word → Type 0
Whole Unset = ⊥
Whole (Int n) = Unit {0}
Whole (Long n) = Unit {0}
Whole (Reference r) = Unit {0}

alike-whole : (h : List Entity) (store : List Thing) (own : SymId) (k : Kind) (v : Value) (w : Word) → Alike h store own k v w → Whole w
alike-whole h store own k v w (k_unit r x) = tt
alike-whole h store own k v w (k_boolean b) = tt
alike-whole h store own k v w (k_int n lt) = tt
alike-whole h store own k v w (k_long n lt) = tt
alike-whole h store own k v w (k_string us r u x) = tt
alike-whole h store own k v w (k_strings v2 r) = tt
alike-whole h store own k v w (k_this q r ws i x) = tt

-- ---- local variables of the machine

halved-length : (o : Option Word) (ws : List Word) (i : ℕ) → length (halved o ws i) ≡ length ws
halved-length None ws i = refl
halved-length (Some (Unset)) ws i = refl
halved-length (Some (Int n)) ws i = refl
halved-length (Some (Long n)) ws i = length-set_at ws i Unset
halved-length (Some (Reference r)) ws i = refl

unset-length : (ws : List Word) (i : ℕ) → length (unset_before ws i) ≡ length ws
unset-length ws i =
    let other : List Word = halved (slice_get ws (i - 1)) ws (i - 1) in
    by-test (eqb i 0) (λ e. ap length (cond-true (eqb i 0) ws other e)) (λ e. ap length (cond-false (eqb i 0) ws other e) ∙ halved-length (slice_get ws (i - 1)) ws (i - 1))

pub put-length : (w : Word) (ws : List Word) (i : ℕ) → length (machine.put w (unset_before ws i) i) ≡ length ws
put-length Unset ws i = length-set_at (unset_before ws i) i Unset ∙ unset-length ws i
put-length (Int n) ws i = length-set_at (unset_before ws i) i (Int n) ∙ unset-length ws i
put-length (Long n) ws i = length-set_at (slice_set (unset_before ws i) i (Long n)) (i + 1) Unset ∙ length-set_at (unset_before ws i) i (Long n) ∙ unset-length ws i
put-length (Reference r) ws i = length-set_at (unset_before ws i) i (Reference r) ∙ unset-length ws i

set-there : (ws : List Word) (i : ℕ) (w : Word) → i < length ws → slice_get (slice_set ws i w) i ≡ Some w
set-there ws i w lt = let g = get-in ws i lt in get-here ws i g.0 w g.1

-- the word that is put is there
pub put-here : (w : Word) (ws : List Word) (i : ℕ) → Whole w → i < length ws → slice_get (machine.put w (unset_before ws i) i) i ≡ Some w
put-here Unset ws i h lt = absurd h
put-here (Int n) ws i h lt = set-there (unset_before ws i) i (Int n) (let e = unset-length ws i in omega (arith, e, lt))
put-here (Long n) ws i h lt =
    get-other (slice_set (unset_before ws i) i (Long n)) (i + 1) i Unset (λ e. omega (arith, e)) ∙ set-there (unset_before ws i) i (Long n) (let e = unset-length ws i in omega (arith, e, lt))
put-here (Reference r) ws i h lt = set-there (unset_before ws i) i (Reference r) (let e = unset-length ws i in omega (arith, e, lt))

-- a word that doesn't reach to the place stays where the one before the place loses its half
halved-other : (o : Option Word) (ws : List Word) (i j : ℕ) (w : Word) → slice_get ws i ≡ o → slice_get ws j ≡ Some w → (i ≡ j → places_of w ≤ 1) → slice_get (halved o ws i) j ≡ Some w
halved-other None ws i j w here e small = e
halved-other (Some (Unset)) ws i j w here e small = e
halved-other (Some (Int n)) ws i j w here e small = e
halved-other (Some (Long n)) ws i j w here e small = get-other ws i j Unset apart ∙ e
  where
    apart : i ≡ j → ⊥
    apart q = let same : Some (Long n) ≡ Some w = sym here ∙ ap (slice_get ws) q ∙ e in let is : Long n ≡ w = cc in let le = small q in let big : places_of (Long n) ≤ 1 = subst (λ z. places_of z ≤ 1) (sym is) le in absurd (omega (arith, big))
halved-other (Some (Reference r)) ws i j w here e small = e

unset-other : (ws : List Word) (i j : ℕ) (w : Word) → slice_get ws j ≡ Some w → (j + places_of w ≤ i) ⊎ (i < j) → slice_get (unset_before ws i) j ≡ Some w
unset-other ws i j w e apart =
    let other : List Word = halved (slice_get ws (i - 1)) ws (i - 1) in
    by-test (eqb i 0) (λ t. ap (λ l. slice_get l j) (cond-true (eqb i 0) ws other t) ∙ e)
    (λ t. ap (λ l. slice_get l j) (cond-false (eqb i 0) ws other t) ∙ halved-other (slice_get ws (i - 1)) ws (i - 1) j w refl e (λ q. ⊎_elim (λ le. omega (arith, le, q)) (λ lt. omega (arith, lt, q)) apart))

-- a word that doesn't overlap the one that is put stays
pub put-other : (w w' : Word) (ws : List Word) (i j : ℕ) → slice_get ws j ≡ Some w' → 1 ≤ places_of w' → (j + places_of w' ≤ i) ⊎ (i + places_of w ≤ j) → slice_get (machine.put w (unset_before ws i) i) j ≡ Some w'
put-other Unset w' ws i j e some apart =
    get-other (unset_before ws i) i j Unset (λ q. ⊎_elim (λ le. omega (arith, le, q, some)) (λ le. omega (arith, le, q)) apart) ∙ unset-other ws i j w' e (⊎_elim (λ le. inl le) (λ le. inr (omega (arith, le))) apart)
put-other (Int n) w' ws i j e some apart =
    get-other (unset_before ws i) i j (Int n) (λ q. ⊎_elim (λ le. omega (arith, le, q, some)) (λ le. omega (arith, le, q)) apart) ∙ unset-other ws i j w' e (⊎_elim (λ le. inl le) (λ le. inr (omega (arith, le))) apart)
put-other (Long n) w' ws i j e some apart =
    get-other (slice_set (unset_before ws i) i (Long n)) (i + 1) j Unset (λ q. ⊎_elim (λ le. omega (arith, le, q, some)) (λ le. omega (arith, le, q)) apart)
    ∙ get-other (unset_before ws i) i j (Long n) (λ q. ⊎_elim (λ le. omega (arith, le, q, some)) (λ le. omega (arith, le, q)) apart)
    ∙ unset-other ws i j w' e (⊎_elim (λ le. inl le) (λ le. inr (omega (arith, le))) apart)
put-other (Reference r) w' ws i j e some apart =
    get-other (unset_before ws i) i j (Reference r) (λ q. ⊎_elim (λ le. omega (arith, le, q, some)) (λ le. omega (arith, le, q)) apart) ∙ unset-other ws i j w' e (⊎_elim (λ le. inl le) (λ le. inr (omega (arith, le))) apart)

-- each value takes a place
pub width-some : (k : Kind) → 1 ≤ width_of k
width-some kind.Unit = omega arith
width-some kind.Boolean = omega arith
width-some kind.Int = omega arith
width-some kind.Long = omega arith
width-some kind.String = omega arith
width-some kind.Strings = omega arith
width-some kind.This = omega arith

-- ---- what is known of locals

pub known-marked_same : (ys : List Known) (x : SymId) (y : Known) → known ys x ≡ Some y → known (marked x ys) x ≡ Some (record y { is_set = true })
unfolding known marked
known-marked_same [] x y e = absurd (cc)
known-marked_same (z ∷ ys) x y e = by-test (same_symbol z.symbol x) yes_case (no_case (known-marked_same ys x y))
  where
    yes_case : same_symbol z.symbol x ≡ true → known (marked x (z ∷ ys)) x ≡ Some (record y { is_set = true })
    yes_case t =
        let same : Some z ≡ Some y = sym (cond-true (same_symbol z.symbol x) (Some z) (known ys x) t) ∙ e in
        let is : z ≡ y = cc in
        ap (λ b. known (cond b (record z { is_set = true } ∷ ys) (z ∷ marked x ys)) x) t ∙ ap (λ b. cond b (Some (record z { is_set = true })) (known ys x)) t ∙ ap (λ (q : Known). Some (record q { is_set = true })) is

    no_case : (known ys x ≡ Some y → known (marked x ys) x ≡ Some (record y { is_set = true })) → same_symbol z.symbol x ≡ false → known (marked x (z ∷ ys)) x ≡ Some (record y { is_set = true })
    no_case r t =
        ap (λ b. known (cond b (record z { is_set = true } ∷ ys) (z ∷ marked x ys)) x) t ∙ ap (λ b. cond b (Some z) (known (marked x ys) x)) t ∙ r (sym (cond-false (same_symbol z.symbol x) (Some z) (known ys x) t) ∙ e)

pub known-marked_other : (ys : List Known) (x x' : SymId) → (x ≡ x' → ⊥) → known (marked x ys) x' ≡ known ys x'
unfolding known marked
known-marked_other [] x x' h = refl
known-marked_other (z ∷ ys) x x' h = by-test (same_symbol z.symbol x) yes_case (no_case (known-marked_other ys x x' h))
  where
    yes_case : same_symbol z.symbol x ≡ true → known (marked x (z ∷ ys)) x' ≡ known (z ∷ ys) x'
    yes_case t =
        let off : same_symbol z.symbol x' ≡ false = ap (λ a. same_symbol a x') (symbol-same z.symbol x t) ∙ symbols-differ x x' h in
        ap (λ b. known (cond b (record z { is_set = true } ∷ ys) (z ∷ marked x ys)) x') t ∙ ap (λ b. cond b (Some (record z { is_set = true })) (known ys x')) off ∙ ap (λ b. cond b (Some z) (known ys x')) (sym off)

    no_case : known (marked x ys) x' ≡ known ys x' → same_symbol z.symbol x ≡ false → known (marked x (z ∷ ys)) x' ≡ known (z ∷ ys) x'
    no_case r t = ap (λ b. known (cond b (record z { is_set = true } ∷ ys) (z ∷ marked x ys)) x') t ∙ ap (λ o. cond (same_symbol z.symbol x') (Some z) o) r

-- more is known: the same locals with the same kinds, and more of them are set
pub record More (ys ys' : List Known) : Type 0 where
  pub at : (x : SymId) (y' : Known) → known ys' x ≡ Some y' → (y : Known) × (known ys x ≡ Some y) × (y.kind ≡ y'.kind) × (y'.is_set ≡ true → y.is_set ≡ true)

pub more-itself : (ys : List Known) → More ys ys
more-itself ys = record { at = λ x y e. (y, e, refl, λ t. t) }

pub more-further : (a b c : List Known) → More a b → More b c → More a c
more-further a b c f g = record { at = λ x y e. (let s = g.at x y e in let r = f.at x s.0 s.1 in (r.0, r.1, r.2 ∙ s.2, λ t. r.3 (s.3 t))) }

pub more-marked : (ys : List Known) (x : SymId) → More (marked x ys) ys
more-marked ys x = record { at = λ x' y e. by-test (same_symbol x x') (λ t. same x' y e (symbol-same x x' t)) (λ t. (y, known-marked_other ys x x' (symbol-other x x' t) ∙ e, refl, λ s. s)) }
  where
    same : (x' : SymId) (y : Known) → known ys x' ≡ Some y → x ≡ x' → (z : Known) × (known (marked x ys) x' ≡ Some z) × (z.kind ≡ y.kind) × (y.is_set ≡ true → z.is_set ≡ true)
    same x' y e q = (record y { is_set = true }, ap (λ a. known (marked a ys) x') q ∙ known-marked_same ys x' y e, refl, λ s. refl)

pub more-behind_op : (o : Op) (ys : List Known) → More (behind_op o ys) ys
more-behind_op (op.SetLocal x) ys = more-marked ys x
more-behind_op _ ys = more-itself ys

pub more-behind : (t : Tree) (ys : List Known) → More (behind t ys) ys
more-behind (strict i o ts) ys = more-behind_op o ys
more-behind _ ys = more-itself ys

pub more-behind_all : (ts : Trees) (ys : List Known) → More (behind_all ys ts) ys
more-behind_all none ys = more-itself ys
more-behind_all (more t ts) ys = more-further _ _ _ (more-behind_all ts (behind t ys)) (more-behind t ys)

module _ (h : List Entity) (store : List Thing) (own : SymId) where
  -- what is held in the same scope, where less is known
  pub within-more : (ys ys' : List Known) (s : Scope) (env : Env) (slots floor : Slots) (ws : List Word) → More ys ys' → Held h store own ys' s env slots floor ws → Within ys s env ys' s env
  within-more ys ys' s env slots floor ws m z = record {
    at = m.at;
    slots = λ x y e. refl;
    envs = λ x y e. refl;
    places = λ x y a e f. (let g = z.at x y e in let same : Some g.slot ≡ Some a = sym g.slot_is ∙ f in let is : g.slot ≡ a = cc in subst (λ (q : Slot). q.place + width_of q.kind ≤ s.next) is g.within);
    next = omega arith;
  }

  pub held-within : (ys ys' : List Known) (s s' : Scope) (env env' : Env) (slots floor : Slots) (ws : List Word) → Within ys s env ys' s' env' → Held h store own ys s env slots floor ws → Held h store own ys' s' env' slots floor ws
  held-within ys ys' s s' env env' slots floor ws w z = record {
    at = λ x y' e.
        let m = w.at x y' e in
        let a = z.at x m.0 m.1 in
        let here : slot_of s' x ≡ Some a.slot = sym (w.slots x y' e) ∙ a.slot_is in
        record {
          slot = a.slot;
          slot_is = here;
          kind_is = a.kind_is ∙ m.2;
          within = w.places x y' a.slot e here;
          binding = a.binding;
          bound = sym (w.envs x y' e) ∙ a.bound;
          new = a.new;
          value = a.value;
          there = a.there;
          held = λ t. (let b = a.held (m.3 t) in (b.0, b.1, subst (λ k. Alike h store own k a.value b.0) m.2 b.2));
        };
    apart = λ x x' y y' a b e e' n f f'. z.apart x x' (w.at x y e).0 (w.at x' y' e').0 a b (w.at x y e).1 (w.at x' y' e').1 n (w.slots x y e ∙ f) (w.slots x' y' e' ∙ f');
    wide = (let le = z.wide in let n = w.next in omega (arith, le, n));
  }

  within-through : (ys1 ys2 ys3 : List Known) (s1 s2 s3 : Scope) (e1 e2 e3 : Env) → Within ys1 s1 e1 ys2 s2 e2 → Within ys2 s2 e2 ys3 s3 e3 → Within ys1 s1 e1 ys3 s3 e3
  within-through ys1 ys2 ys3 s1 s2 s3 e1 e2 e3 a b = record {
    at = λ x y e. (let q = b.at x y e in let r = a.at x q.0 q.1 in (r.0, r.1, r.2 ∙ q.2, λ t. r.3 (q.3 t)));
    slots = λ x y e. (let q = b.at x y e in a.slots x q.0 q.1 ∙ b.slots x y e);
    envs = λ x y e. (let q = b.at x y e in a.envs x q.0 q.1 ∙ b.envs x y e);
    places = b.places;
    next = (let m = a.next in let n = b.next in omega (arith, m, n));
  }

  -- ---- a local is set

  module _ (ys : List Known) (s : Scope) (env : Env) (slots floor : Slots) (ws : List Word) (z : Held h store own ys s env slots floor ws) (x : SymId) (y : Known) (is : known ys x ≡ Some y) (v : Value) (w : Word) (a : Alike h store own y.kind v w) where
    abbrev here : HeldAt h store own s env slots floor ws x y
    here = z.at x y is

    abbrev new_slots : Slots
    new_slots = put slots x (slice_set (values_of slots x) here.binding v)

    abbrev new_words : List Word
    new_words = machine.put w (unset_before ws here.slot.place) here.slot.place

    fits : here.slot.place + places_of w ≤ length ws
    fits =
        let wide = z.wide in
        let in_scope : here.slot.place + width_of here.slot.kind ≤ s.next = here.within in
        let kinds : width_of here.slot.kind ≡ width_of y.kind = ap width_of here.kind_is in
        let places = alike-places h store own y.kind v w a in
        omega (arith, wide, in_scope, kinds, places)

    set-same : HeldAt h store own s env new_slots floor new_words x (record y { is_set = true })
    set-same =
        let some = width-some y.kind in
        let places = alike-places h store own y.kind v w a in
        record {
          slot = here.slot;
          slot_is = here.slot_is;
          kind_is = here.kind_is;
          within = here.within;
          binding = here.binding;
          bound = here.bound;
          new = here.new;
          value = v;
          there = get-set_same slots x here.binding here.value v here.there;
          held = λ t. (w, put-here w ws here.slot.place (alike-whole h store own y.kind v w a) (let f = fits in omega (arith, f, some, places)), a);
        }

    set-other : (x' : SymId) (y' : Known) → known ys x' ≡ Some y' → (x ≡ x' → ⊥) → HeldAt h store own s env new_slots floor new_words x' y'
    set-other x' y' e n =
        let q = z.at x' y' e in
        record {
          slot = q.slot;
          slot_is = q.slot_is;
          kind_is = q.kind_is;
          within = q.within;
          binding = q.binding;
          bound = q.bound;
          new = q.new;
          value = q.value;
          there = get-set_other slots x x' here.binding q.binding v (λ same k. n same) ∙ q.there;
          held = λ t. stays q (q.held t) (z.apart x x' y y' here.slot q.slot is e n here.slot_is q.slot_is);
        }
      where
        stays : (q : HeldAt h store own s env slots floor ws x' y') → (w' : Word) × (slice_get ws q.slot.place ≡ Some w') × Alike h store own y'.kind q.value w' → Disjoint here.slot q.slot → (w' : Word) × (slice_get new_words q.slot.place ≡ Some w') × Alike h store own y'.kind q.value w'
        stays q b d =
            let mine : places_of w ≡ width_of here.slot.kind = alike-places h store own y.kind v w a ∙ sym (ap width_of here.kind_is) in
            let its : places_of b.0 ≡ width_of q.slot.kind = alike-places h store own y'.kind q.value b.0 b.2 ∙ sym (ap width_of q.kind_is) in
            let some = width-some q.slot.kind in
            let apart : (q.slot.place + places_of b.0 ≤ here.slot.place) ⊎ (here.slot.place + places_of w ≤ q.slot.place) = ⊎_elim (λ le. inr (omega (arith, le, mine))) (λ le. inl (omega (arith, le, its))) d in
            (b.0, put-other w b.0 ws here.slot.place q.slot.place b.1 (omega (arith, its, some)) apart, b.2)

    set-at : (x' : SymId) (y' : Known) → known (marked x ys) x' ≡ Some y' → HeldAt h store own s env new_slots floor new_words x' y'
    set-at x' y' e = by-test (same_symbol x x') (λ t. same (symbol-same x x' t)) (λ t. (let n = symbol-other x x' t in set-other x' y' (sym (known-marked_other ys x x' n) ∙ e) n))
      where
        same : x ≡ x' → HeldAt h store own s env new_slots floor new_words x' y'
        same q =
            let k : Some (record y { is_set = true }) ≡ Some y' = sym (known-marked_same ys x y is) ∙ ap (known (marked x ys)) q ∙ e in
            let k' : record y { is_set = true } ≡ y' = cc in
            subst (λ c. HeldAt h store own s env new_slots floor new_words c y') q (subst (λ c. HeldAt h store own s env new_slots floor new_words x c) k' set-same)

    known-before : (x' : SymId) (y' : Known) → known (marked x ys) x' ≡ Some y' → (y2 : Known) × (known ys x' ≡ Some y2)
    known-before x' y' e = by-test (same_symbol x x') (λ t. (y, ap (known ys) (sym (symbol-same x x' t)) ∙ is)) (λ t. (y', sym (known-marked_other ys x x' (symbol-other x x' t)) ∙ e))

    pub held-set : Held h store own (marked x ys) s env new_slots floor new_words
    held-set = record {
      at = set-at;
      apart = λ x1 x2 y1 y2 b1 b2 e1 e2 n f1 f2. (let k1 = known-before x1 y1 e1 in let k2 = known-before x2 y2 e2 in z.apart x1 x2 k1.0 k2.0 b1 b2 k1.1 k2.1 n f1 f2);
      wide = (let le = z.wide in let e = put-length w ws here.slot.place in omega (arith, le, e));
    }

    -- what the body's caller knows stays
    pub extends-set : Extends floor slots → Extends floor new_slots
    extends-set ex = record { by = λ x' k u e. get-set_other slots x x' here.binding k v (λ q j. old x' k u e q j) ∙ ex.by x' k u e }
      where
        old : (x' : SymId) (k : ℕ) (u : Value) → slice_get (values_of floor x') k ≡ Some u → x ≡ x' → here.binding ≡ k → ⊥
        old x' k u e q j =
            let lt : k < length (values_of floor x') = get-within (values_of floor x') k u e in
            let new : length (values_of floor x') ≤ here.binding = subst (λ c. length (values_of floor c) ≤ here.binding) q here.new in
            absurd (omega (arith, lt, new, j))
