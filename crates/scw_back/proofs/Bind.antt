-- Locals are bound: those of a block, and the parameters of a method.
use Rattle.std.proofs.Common.{◌≡◌, refl, sym, ap, ◌∙◌, subst, ℕ, zero, suc, ◌+◌, ◌≤◌, arith, Bool, true, false, cond, min, List, [], ◌∷◌, ◌++◌, length, Option, Some, None, inl, inr, append_assoc, append-nil, length-append}
use Rattle.std.specs.Prelude.{find, map, slice_get}
use Rattle.scw_text.specs.declared.number.SymId.{SymId}
use Rattle.scw_core.specs.Call.{local_symbols}
use Rattle.scw_core.specs.Program.{look}
use Rattle.scw_core.specs.State.{Bound, Env, Slots, Thing, Value, bind, bind_all, put, values_of}
use Rattle.scw_core.specs.Types.{same_symbol}
use Rattle.scw_core.specs.declared.class.Parameter.{Parameter}
use Rattle.scw_core.specs.declared.tree.Local.{Local}
use Rattle.scw_gen.specs.declared.kind.Kind.{Kind}
use Rattle.scw_gen.specs.declared.kind.Kind.TheVariants as kind
use Rattle.scw_gen.specs.declared.scope.Slot.{Slot}
use Rattle.scw_gen.specs.Around.{Around, kind_in}
use Rattle.scw_gen.specs.Kind.{width_of}
use Rattle.scw_gen.specs.Outcome.{◌>>=◌}
use Rattle.scw_gen.specs.Room.{slot_behind, sum, width, width_at}
use Rattle.scw_gen.specs.Scope.{Scope, inside, placed, slot_of, with_local}
use Rattle.scw_gen.specs.Method.{local_of}
use Rattle.scw_gen.specs.Name.{kind_of_parameter}
use Rattle.scw_gen.specs.Typed.{Known, all_set, bound, is_bound, kinds_of_parameters, known, locals_of}
use Rattle.scw_heap.specs.Heap.{Entity}
use Rattle.scw_back.proofs.Grown.{extends-further, extends-itself}
use Rattle.scw_back.proofs.Maps.{by-test, get-front, get-in, get-last, get-within, symbol-itself, symbol-other, symbol-same, symbols-differ, values-put_other, values-put_same}
use Rattle.scw_frame.specs.declared.value.Value.TheVariants.{Unset}
use Rattle.scw_frame.specs.Frame.{spread, spread_one}
use Rattle.scw_gen.specs.declared.operator.Form.TheVariants.{Values}
use Rattle.scw_back.proofs.Stands.{Alike, Disjoint, Extends, Held, HeldAt, Kept, Within, Word, e_none, e_value, k_boolean, k_int, k_long, k_string, k_strings, k_this, k_unit}

-- ---- bindings

-- a new binding changes no other
pub extends-bind : (s : Slots) (x : SymId) (v : Value) → Extends s (put s x (values_of s x ++ v ∷ []))
extends-bind s x v = record { by = λ y k u e. by-test (same_symbol x y) (λ t. same y k u e (symbol-same x y t)) (λ t. ap (λ l. slice_get l k) (values-put_other s x y (values_of s x ++ v ∷ []) (symbol-other x y t)) ∙ e) }
  where
    same : (y : SymId) (k : ℕ) (u : Value) → slice_get (values_of s y) k ≡ Some u → x ≡ y → slice_get (values_of (put s x (values_of s x ++ v ∷ [])) y) k ≡ Some u
    same y k u e q =
        subst (λ c. slice_get (values_of (put s x (values_of s x ++ v ∷ [])) c) k ≡ Some u) q
        (ap (λ l. slice_get l k) (values-put_same s x (values_of s x ++ v ∷ [])) ∙ get-front (values_of s x) (v ∷ []) k u (ap (λ c. slice_get (values_of s c) k) q ∙ e))

-- as many values as before, or more
pub extends-length : (a b : Slots) (x : SymId) → Extends a b → length (values_of a x) ≤ length (values_of b x)
extends-length a b x ex = at_most (length (values_of a x)) refl
  where
    at_most : (n : ℕ) → length (values_of a x) ≡ n → length (values_of a x) ≤ length (values_of b x)
    at_most zero e = omega (arith, e)
    at_most (suc n) e =
        let g = get-in (values_of a x) n (omega (arith, e)) in
        let lt = get-within (values_of b x) n g.0 (ex.by x n g.0 g.1) in
        omega (arith, e, lt)

-- ---- slots

pub width-most : (k : Kind) → width_of k ≤ 2
width-most kind.Unit = omega arith
width-most kind.Boolean = omega arith
width-most kind.Int = omega arith
width-most kind.Long = omega arith
width-most kind.String = omega arith
width-most kind.Strings = omega arith
width-most kind.This = omega arith

-- a slot behind others, where none of them is the local's
find-behind : (cs bs : List Slot) (a : Slot) (x : SymId) → find (λ (c : Slot). same_symbol c.symbol x) cs ≡ None → same_symbol a.symbol x ≡ true → find (λ (c : Slot). same_symbol c.symbol x) ((cs ++ a ∷ []) ++ bs) ≡ Some a
find-behind [] bs a x none is = ap (λ t. cond t (Some a) (find (λ (c : Slot). same_symbol c.symbol x) bs)) is
find-behind (c ∷ cs) bs a x none is = by-test (same_symbol c.symbol x) yes_case (no_case (λ e. find-behind cs bs a x e is))
  where
    yes_case : same_symbol c.symbol x ≡ true → find (λ (c : Slot). same_symbol c.symbol x) (((c ∷ cs) ++ a ∷ []) ++ bs) ≡ Some a
    yes_case t = let off : Some c ≡ None = sym (ap (λ b. cond b (Some c) (find (λ (c : Slot). same_symbol c.symbol x) cs)) t) ∙ none in absurd (cc)

    no_case : (find (λ (c : Slot). same_symbol c.symbol x) cs ≡ None → find (λ (c : Slot). same_symbol c.symbol x) ((cs ++ a ∷ []) ++ bs) ≡ Some a) → same_symbol c.symbol x ≡ false → find (λ (c : Slot). same_symbol c.symbol x) (((c ∷ cs) ++ a ∷ []) ++ bs) ≡ Some a
    no_case r t =
        ap (λ b. cond b (Some c) (find (λ (c : Slot). same_symbol c.symbol x) ((cs ++ a ∷ []) ++ bs))) t
        ∙ r (sym (ap (λ b. cond b (Some c) (find (λ (c : Slot). same_symbol c.symbol x) cs)) t) ∙ none)

-- a slot of another local more
find-other : (cs bs : List Slot) (a : Slot) (x : SymId) → same_symbol a.symbol x ≡ false → find (λ (c : Slot). same_symbol c.symbol x) ((cs ++ a ∷ []) ++ bs) ≡ find (λ (c : Slot). same_symbol c.symbol x) (cs ++ bs)
find-other [] bs a x off = ap (λ t. cond t (Some a) (find (λ (c : Slot). same_symbol c.symbol x) bs)) off
find-other (c ∷ cs) bs a x off = ap (λ o. cond (same_symbol c.symbol x) (Some c) o) (find-other cs bs a x off)

pub slot-new : (acc s : Scope) (x : SymId) (k : Kind) → slot_of acc x ≡ None → slot_of (inside (with_local acc x k) s) x ≡ Some (record { symbol = x; place = acc.next; kind = k })
unfolding slot_of
slot-new acc s x k none = find-behind acc.slots s.slots (record { symbol = x; place = acc.next; kind = k }) x none (symbol-itself x)

pub slot-old : (acc s : Scope) (x x' : SymId) (k : Kind) → (x ≡ x' → ⊥) → slot_of (inside (with_local acc x k) s) x' ≡ slot_of (inside acc s) x'
unfolding slot_of
slot-old acc s x x' k n = find-other acc.slots s.slots (record { symbol = x; place = acc.next; kind = k }) x' (symbols-differ x x' n)

slot-none : (acc : Scope) (x x' : SymId) (k : Kind) → (x ≡ x' → ⊥) → slot_of acc x' ≡ None → slot_of (with_local acc x k) x' ≡ None
unfolding slot_of
slot-none acc x x' k n e =
    ap (find (λ (c : Slot). same_symbol c.symbol x')) (sym (append-nil (acc.slots ++ record { symbol = x; place = acc.next; kind = k } ∷ [])))
    ∙ find-other acc.slots [] (record { symbol = x; place = acc.next; kind = k }) x' (symbols-differ x x' n) ∙ ap (find (λ (c : Slot). same_symbol c.symbol x')) (append-nil acc.slots) ∙ e

-- ---- what is known

known-new : (ys : List Known) (y : Known) (x : SymId) → y.symbol ≡ x → known (y ∷ ys) x ≡ Some y
unfolding known
known-new ys y x e = ap (λ b. cond b (Some y) (known ys x)) (ap (λ a. same_symbol a x) e ∙ symbol-itself x)

known-old : (ys : List Known) (y : Known) (x : SymId) → (y.symbol ≡ x → ⊥) → known (y ∷ ys) x ≡ known ys x
unfolding known
known-old ys y x n = ap (λ b. cond b (Some y) (known ys x)) (symbols-differ y.symbol x n)

-- the slots of a scope are those of locals that are known
abbrev pub Covered : List Known → Scope → Type 0
Covered ys acc = (x : SymId) → known ys x ≡ None → slot_of acc x ≡ None

module _ (h : List Entity) (store : List Thing) (own : SymId) where
  -- ---- one local

  module _ (ys : List Known) (acc s : Scope) (env : Env) (slots floor : Slots) (ws : List Word) (x : SymId) (k : Kind) (b : Bool) (v : Value) where
    abbrev y1 : Known
    y1 = record { symbol = x; kind = k; is_set = b }

    abbrev scope1 : Scope
    scope1 = inside (with_local acc x k) s

    abbrev env1 : Env
    env1 = (x, length (values_of slots x)) ∷ env

    abbrev slots1 : Slots
    slots1 = put slots x (values_of slots x ++ v ∷ [])

    next1 : acc.next + width_of k ≤ 65535 → scope1.next ≡ acc.next + width_of k
    next1 le = omega (arith, le)

    look-new : look env1 x ≡ Some (length (values_of slots x))
    unfolding look
    look-new = ap (λ t. cond t (Some (length (values_of slots x))) (look env x)) (symbol-itself x)

    look-old : (x' : SymId) → (x ≡ x' → ⊥) → look env1 x' ≡ look env x'
    unfolding look
    look-old x' n = ap (λ t. cond t (Some (length (values_of slots x))) (look env x')) (symbols-differ x x' n)

    pub held-bind : Held h store own ys (inside acc s) env slots floor ws → Extends floor slots → known ys x ≡ None → slot_of acc x ≡ None → acc.next + width_of k ≤ 65535 → acc.next + width_of k ≤ length ws
        → (b ≡ true → (w : Word) × (slice_get ws acc.next ≡ Some w) × Alike h store own k v w) → Held h store own (y1 ∷ ys) scope1 env1 slots1 floor ws
    held-bind z ex fresh none fits wide set = record { at = at; apart = apart; wide = (let e = next1 fits in omega (arith, e, wide)) }
      where
        new : HeldAt h store own scope1 env1 slots1 floor ws x y1
        new = record {
          slot = record { symbol = x; place = acc.next; kind = k };
          slot_is = slot-new acc s x k none;
          kind_is = refl;
          within = (let e = next1 fits in omega (arith, e));
          binding = length (values_of slots x);
          bound = look-new;
          new = extends-length floor slots x ex;
          value = v;
          there = ap (λ l. slice_get l (length (values_of slots x))) (values-put_same slots x (values_of slots x ++ v ∷ [])) ∙ get-last (values_of slots x) v;
          held = set;
        }

        old : (x' : SymId) (y' : Known) → (x ≡ x' → ⊥) → known ys x' ≡ Some y' → HeldAt h store own scope1 env1 slots1 floor ws x' y'
        old x' y' n e =
            let q = z.at x' y' e in
            record {
              slot = q.slot;
              slot_is = slot-old acc s x x' k n ∙ q.slot_is;
              kind_is = q.kind_is;
              within = (let w = q.within in let f = next1 fits in omega (arith, w, f));
              binding = q.binding;
              bound = look-old x' n ∙ q.bound;
              new = q.new;
              value = q.value;
              there = (extends-bind slots x v).by x' q.binding q.value q.there;
              held = q.held;
            }

        at : (x' : SymId) (y' : Known) → known (y1 ∷ ys) x' ≡ Some y' → HeldAt h store own scope1 env1 slots1 floor ws x' y'
        at x' y' e = by-test (same_symbol x x') (λ t. same x' y' e (symbol-same x x' t)) (λ t. (let n = symbol-other x x' t in old x' y' n (sym (known-old ys y1 x' n) ∙ e)))
          where
            same : (x' : SymId) (y' : Known) → known (y1 ∷ ys) x' ≡ Some y' → x ≡ x' → HeldAt h store own scope1 env1 slots1 floor ws x' y'
            same x' y' e q =
                let f : Some y1 ≡ Some y' = sym (known-new ys y1 x' q) ∙ e in
                let g : y1 ≡ y' = cc in
                subst (λ c. HeldAt h store own scope1 env1 slots1 floor ws c y') q (subst (λ c. HeldAt h store own scope1 env1 slots1 floor ws x c) g new)

        -- the new slot lies behind all others
        behind : (x' : SymId) (y' : Known) (a c : Slot) → (x ≡ x' → ⊥) → known (y1 ∷ ys) x' ≡ Some y' → slot_of scope1 x ≡ Some a → slot_of scope1 x' ≡ Some c → c.place + width_of c.kind ≤ a.place
        behind x' y' a c n e fa fc =
            let q = z.at x' y' (sym (known-old ys y1 x' n) ∙ e) in
            let same_a : Some (record { symbol = x; place = acc.next; kind = k }) ≡ Some a = sym (slot-new acc s x k none) ∙ fa in
            let is_a : record { symbol = x; place = acc.next; kind = k } ≡ a = cc in
            let same_c : Some q.slot ≡ Some c = sym q.slot_is ∙ sym (slot-old acc s x x' k n) ∙ fc in
            let is_c : q.slot ≡ c = cc in
            subst (λ (d : Slot). d.place + width_of d.kind ≤ a.place) is_c (subst (λ (d : Slot). q.slot.place + width_of q.slot.kind ≤ d.place) is_a q.within)

        apart : (x1 x2 : SymId) (z1 z2 : Known) (a c : Slot) → known (y1 ∷ ys) x1 ≡ Some z1 → known (y1 ∷ ys) x2 ≡ Some z2 → (x1 ≡ x2 → ⊥) → slot_of scope1 x1 ≡ Some a → slot_of scope1 x2 ≡ Some c → Disjoint a c
        apart x1 x2 z1 z2 a c e1 e2 n f1 f2 = by-test (same_symbol x x1) first (λ t. by-test (same_symbol x x2) (second (symbol-other x x1 t)) (λ u. neither (symbol-other x x1 t) (symbol-other x x2 u)))
          where
            first : same_symbol x x1 ≡ true → Disjoint a c
            first t = let q = symbol-same x x1 t in inr (behind x2 z2 a c (λ r. n (sym q ∙ r)) e2 (ap (slot_of scope1) q ∙ f1) f2)

            second : (x ≡ x1 → ⊥) → same_symbol x x2 ≡ true → Disjoint a c
            second m t = let q = symbol-same x x2 t in inl (behind x1 z1 c a m e1 (ap (slot_of scope1) q ∙ f2) f1)

            neither : (x ≡ x1 → ⊥) → (x ≡ x2 → ⊥) → Disjoint a c
            neither m1 m2 = z.apart x1 x2 z1 z2 a c (sym (known-old ys y1 x1 m1) ∙ e1) (sym (known-old ys y1 x2 m2) ∙ e2) n (sym (slot-old acc s x x1 k m1) ∙ f1) (sym (slot-old acc s x x2 k m2) ∙ f2)

    pub covered-bind : Covered ys acc → Covered (y1 ∷ ys) (with_local acc x k)
    covered-bind c x' e = by-test (same_symbol x x') (λ t. absurd (same x' e (symbol-same x x' t))) (λ t. (let n = symbol-other x x' t in slot-none acc x x' k n (c x' (sym (known-old ys y1 x' n) ∙ e))))
      where
        same : (x' : SymId) → known (y1 ∷ ys) x' ≡ None → x ≡ x' → ⊥
        same x' e q = let f : Some y1 ≡ None = sym (known-new ys y1 x' q) ∙ e in absurd (cc)

    -- what is known around it is known beside it
    pub within-bind : known ys x ≡ None → acc.next + width_of k ≤ 65535 → Held h store own ys (inside acc s) env slots floor ws → Within (y1 ∷ ys) scope1 env1 ys (inside acc s) env
    within-bind fresh fits z = record {
      at = λ x' y' e. (y', known-old ys y1 x' (apart x' y' e) ∙ e, refl, λ t. t);
      slots = λ x' y' e. slot-old acc s x x' k (apart x' y' e);
      envs = λ x' y' e. look-old x' (apart x' y' e);
      places = λ x' y' a e f. (let g = z.at x' y' e in let same : Some g.slot ≡ Some a = sym g.slot_is ∙ f in let is : g.slot ≡ a = cc in subst (λ (q : Slot). q.place + width_of q.kind ≤ acc.next) is g.within);
      next = (let e = next1 fits in omega (arith, e));
    }
      where
        apart : (x' : SymId) (y' : Known) → known ys x' ≡ Some y' → x ≡ x' → ⊥
        apart x' y' e q = let f : None ≡ Some y' = sym fresh ∙ ap (known ys) q ∙ e in absurd (cc)

  -- ---- the locals of a block

  module _ (g : Around) (floor : Slots) (ws : List Word) (s : Scope) where
    -- where the locals have been bound
    pub record IsBound (ys inner : List Known) (acc added : Scope) (env : Env) (slots : Slots) (b : Bound) : Type 0 where
      pub held : Held h store own inner (inside added s) b.env b.slots floor ws
      pub extends : Extends slots b.slots
      pub within : Within inner (inside added s) b.env ys (inside acc s) env

    within-itself : (ys : List Known) (t : Scope) (env : Env) (slots : Slots) → Held h store own ys t env slots floor ws → Within ys t env ys t env
    within-itself ys t env slots z = record {
      at = λ x y e. (y, e, refl, λ k. k);
      slots = λ x y e. refl;
      envs = λ x y e. refl;
      places = λ x y a e f. (let q = z.at x y e in let same : Some q.slot ≡ Some a = sym q.slot_is ∙ f in let is : q.slot ≡ a = cc in subst (λ (c : Slot). c.place + width_of c.kind ≤ t.next) is q.within);
      next = omega arith;
    }

    through : (ys1 ys2 ys3 : List Known) (s1 s2 s3 : Scope) (e1 e2 e3 : Env) → Within ys1 s1 e1 ys2 s2 e2 → Within ys2 s2 e2 ys3 s3 e3 → Within ys1 s1 e1 ys3 s3 e3
    through ys1 ys2 ys3 s1 s2 s3 e1 e2 e3 a b = record {
      at = λ x y e. (let q = b.at x y e in let r = a.at x q.0 q.1 in (r.0, r.1, r.2 ∙ q.2, λ t. r.3 (q.3 t)));
      slots = λ x y e. (let q = b.at x y e in a.slots x q.0 q.1 ∙ b.slots x y e);
      envs = λ x y e. (let q = b.at x y e in a.envs x q.0 q.1 ∙ b.envs x y e);
      places = b.places;
      next = (let m = a.next in let n = b.next in omega (arith, m, n));
    }

    -- slots only rise
    pub behind-least : (xs : List Local) (n : ℕ) → min n 65536 ≤ slot_behind g n xs
    unfolding slot_behind
    behind-least [] n = omega arith
    behind-least (x ∷ xs) n = let r = behind-least xs (sum n (width_at g x.type_id)) in omega (arith, r)

    -- what `bound` and `placed` say of the first local
    record First (ys inner : List Known) (acc added : Scope) (x : Local) (xs us : List Local) : Type 0 where
      kind : Kind
      kind_is : kind_in g x.type_id ≡ Some kind
      fresh : known ys x.symbol ≡ None
      rest : bound g xs (record { symbol = x.symbol; kind = kind; is_set = false } ∷ ys) ≡ Some inner
      others : placed g.table g.class.symbol (with_local acc x.symbol kind) us ≡ Some added

    first-of : (ys inner : List Known) (acc added : Scope) (x : Local) (xs us : List Local) → bound g (x ∷ xs) ys ≡ Some inner → placed g.table g.class.symbol acc (x ∷ us) ≡ Some added → First ys inner acc added x xs us
    unfolding bound placed
    first-of ys inner acc added x xs us e f = by_known (known ys x.symbol) refl
      where
        by_kind : known ys x.symbol ≡ None → (k : Option Kind) → kind_in g x.type_id ≡ k → First ys inner acc added x xs us
        by_kind fresh None ek =
            let no : None ≡ Some added = sym (ap (λ (o : Option Kind). o >>= λ k. placed g.table g.class.symbol (with_local acc x.symbol k) us) ek) ∙ f in absurd (cc)
        by_kind fresh (Some k) ek = record {
          kind = k;
          kind_is = ek;
          fresh = fresh;
          rest = sym (ap (λ o. cond (is_bound o) None (Some k >>= λ k. bound g xs (record { symbol = x.symbol; kind = k; is_set = false } ∷ ys))) fresh) ∙ sym (ap (λ (o : Option Kind). cond (is_bound (known ys x.symbol)) None (o >>= λ k. bound g xs (record { symbol = x.symbol; kind = k; is_set = false } ∷ ys))) ek) ∙ e;
          others = sym (ap (λ (o : Option Kind). o >>= λ k. placed g.table g.class.symbol (with_local acc x.symbol k) us) ek) ∙ f;
        }

        by_known : (o : Option Known) → known ys x.symbol ≡ o → First ys inner acc added x xs us
        by_known None eo = by_kind eo (kind_in g x.type_id) refl
        by_known (Some y) eo =
            let no : None ≡ Some inner = sym (ap (λ o. cond (is_bound o) None (kind_in g x.type_id >>= λ k. bound g xs (record { symbol = x.symbol; kind = k; is_set = false } ∷ ys))) eo) ∙ e in absurd (cc)

    -- how far the slots reach behind the first
    reach-first : (n : ℕ) (x : Local) (xs : List Local) (k : Kind) → kind_in g x.type_id ≡ Some k → n ≤ 65535 → slot_behind g n (x ∷ xs) ≤ 65535 → (slot_behind g n (x ∷ xs) ≡ slot_behind g (n + width_of k) xs) × (n + width_of k ≤ 65535)
    unfolding slot_behind
    reach-first n x xs k e le few =
        let w : width_at g x.type_id ≡ width_of k = ap width e in
        let least = behind-least xs (sum n (width_at g x.type_id)) in
        let small = width-most k in
        let exact : sum n (width_at g x.type_id) ≡ n + width_of k = omega (arith, w, le, small) in
        (ap (λ j. slot_behind g j xs) exact, omega (arith, least, exact, few))

    -- the values with which locals begin
    pub block-bound : (xs : List Local) (vs : List Value) (ys inner : List Known) (acc added : Scope) (env : Env) (slots : Slots) → length vs ≡ length xs → bound g xs ys ≡ Some inner → placed g.table g.class.symbol acc xs ≡ Some added → slot_behind g acc.next xs ≤ length ws → length ws ≤ 65535
        → acc.next ≤ 65535 → Covered ys acc → Extends floor slots → Held h store own ys (inside acc s) env slots floor ws → IsBound ys inner acc added env slots (bind_all (local_symbols xs) vs env slots)
    unfolding bound placed slot_behind bind_all bind
    block-bound [] vs ys inner acc added env slots count e f few short le cover ex z =
        let same : ys ≡ inner = cc in
        let there : acc ≡ added = cc in
        subst (λ i. IsBound ys i acc added env slots (bind_all [] vs env slots)) same
        (subst (λ a. IsBound ys ys acc a env slots (bind_all [] vs env slots)) there (record { held = z; extends = extends-itself slots; within = within-itself ys (inside acc s) env slots z }))
    block-bound (x ∷ xs) [] ys inner acc added env slots count e f few short le cover ex z = absurd (omega (arith, count))
    block-bound (x ∷ xs) (v ∷ vs) ys inner acc added env slots count e f few short le cover ex z =
        let a = first-of ys inner acc added x xs xs e f in
        let r = reach-first acc.next x xs a.kind a.kind_is le (omega (arith, few, short)) in
        let y1 : Known = record { symbol = x.symbol; kind = a.kind; is_set = false } in
        let none = cover x.symbol a.fresh in
        let least = behind-least xs (acc.next + width_of a.kind) in
        let reached : slot_behind g acc.next (x ∷ xs) ≡ slot_behind g (acc.next + width_of a.kind) xs = r.0 in
        let fits : acc.next + width_of a.kind ≤ 65535 = r.1 in
        let next : (with_local acc x.symbol a.kind).next ≡ acc.next + width_of a.kind = omega (arith, fits) in
        let z1 = held-bind ys acc s env slots floor ws x.symbol a.kind false v z ex a.fresh none fits (omega (arith, least, reached, few, fits)) (λ t. absurd (cc)) in
        let more = extends-bind slots x.symbol v in
        let w1 = within-bind ys acc s env slots floor ws x.symbol a.kind false v a.fresh fits z in
        let env1 : Env = (x.symbol, length (values_of slots x.symbol)) ∷ env in
        let slots1 : Slots = put slots x.symbol (values_of slots x.symbol ++ v ∷ []) in
        let rest = block-bound xs vs (y1 ∷ ys) inner (with_local acc x.symbol a.kind) added env1 slots1 (omega (arith, count)) a.rest a.others (subst (λ n. slot_behind g n xs ≤ length ws) (sym next) (omega (arith, reached, few))) short (omega (arith, next, fits))
        (covered-bind ys acc s env slots floor ws x.symbol a.kind false v cover) (extends-further floor slots slots1 ex more) z1 in
        record {
          held = rest.held;
          extends = extends-further slots slots1 _ more rest.extends;
          within = through inner (y1 ∷ ys) ys _ _ _ _ env1 env rest.within w1;
        }

    -- ---- the parameters of a method

    known-all_set : (ys : List Known) (x : SymId) → known ys x ≡ None → known (all_set ys) x ≡ None
    unfolding known
    known-all_set [] x e = refl
    known-all_set (y ∷ ys) x e = by-test (same_symbol y.symbol x) yes_case (no_case (known-all_set ys x))
      where
        yes_case : same_symbol y.symbol x ≡ true → known (all_set (y ∷ ys)) x ≡ None
        yes_case t = let no : Some y ≡ None = sym (ap (λ b. cond b (Some y) (known ys x)) t) ∙ e in absurd (cc)

        no_case : (known ys x ≡ None → known (all_set ys) x ≡ None) → same_symbol y.symbol x ≡ false → known (all_set (y ∷ ys)) x ≡ None
        no_case r t = ap (λ b. cond b (Some (record y { is_set = true })) (known (all_set ys) x)) t ∙ r (sym (ap (λ b. cond b (Some y) (known ys x)) t) ∙ e)

    -- the word behind others
    word-behind : (pre : List Word) (w : Word) (rest : List Word) → slice_get (pre ++ w ∷ rest) (length pre) ≡ Some w
    word-behind [] w rest = refl
    word-behind (a ∷ pre) w rest = word-behind pre w rest

    abbrev symbols_of : List Parameter → List SymId
    symbols_of xs = map (λ (x : Parameter). x.symbol) xs

    length-places : (k : Kind) (v : Value) (w : Word) → Alike h store own k v w → length (spread_one w) ≡ width_of k
    length-places k v w (k_unit r x) = refl
    length-places k v w (k_boolean b) = refl
    length-places k v w (k_int n lt) = refl
    length-places k v w (k_long n lt) = refl
    length-places k v w (k_string us r u x) = refl
    length-places k v w (k_strings v2 r) = refl
    length-places k v w (k_this q r ws2 i x) = refl

    first-spread : (k : Kind) (v : Value) (w : Word) → Alike h store own k v w → (rest : List Word) × (spread_one w ≡ w ∷ rest)
    first-spread k v w (k_unit r x) = ([], refl)
    first-spread k v w (k_boolean b) = ([], refl)
    first-spread k v w (k_int n lt) = ([], refl)
    first-spread k v w (k_long n lt) = (Unset ∷ [], refl)
    first-spread k v w (k_string us r u x) = ([], refl)
    first-spread k v w (k_strings v2 r) = ([], refl)
    first-spread k v w (k_this q r ws2 i x) = ([], refl)

    -- the kind of a parameter that isn't by name
    parameter-kind : (x : Parameter) (k : Kind) → kind_of_parameter g x ≡ Some k → kind_in g x.type_id ≡ Some k
    parameter-kind x k e = by-test x.is_by_name yes_case (λ t. sym (ap (λ b. cond b None (kind_in g x.type_id)) t) ∙ e)
      where
        yes_case : x.is_by_name ≡ true → kind_in g x.type_id ≡ Some k
        yes_case t = let no : None ≡ Some k = sym (ap (λ b. cond b None (kind_in g x.type_id)) t) ∙ e in absurd (cc)

    record Parameters (x : Parameter) (xs : List Parameter) (ks : List Kind) : Type 0 where
      first : Kind
      others : List Kind
      first_is : kind_in g x.type_id ≡ Some first
      others_are : kinds_of_parameters g xs ≡ Some others
      all : first ∷ others ≡ ks

    parameters-of : (x : Parameter) (xs : List Parameter) (ks : List Kind) → kinds_of_parameters g (x ∷ xs) ≡ Some ks → Parameters x xs ks
    parameters-of x xs ks e = by_kind (kind_of_parameter g x) refl (kinds_of_parameters g xs) refl
      where
        by_kind : (a : Option Kind) → kind_of_parameter g x ≡ a → (b : Option (List Kind)) → kinds_of_parameters g xs ≡ b → Parameters x xs ks
        by_kind None ea b eb = let no : None ≡ Some ks = sym (ap (λ (o : Option Kind). o >>= λ k. kinds_of_parameters g xs >>= λ l. Some (k ∷ l)) ea) ∙ e in absurd (cc)
        by_kind (Some k) ea None eb =
            let no : None ≡ Some ks = sym (ap (λ (o : Option Kind). o >>= λ k. kinds_of_parameters g xs >>= λ l. Some (k ∷ l)) ea ∙ ap (λ (o : Option (List Kind)). o >>= λ l. Some (k ∷ l)) eb) ∙ e in absurd (cc)
        by_kind (Some k) ea (Some l) eb =
            let is : Some (k ∷ l) ≡ Some ks = sym (ap (λ (o : Option Kind). o >>= λ k. kinds_of_parameters g xs >>= λ l. Some (k ∷ l)) ea ∙ ap (λ (o : Option (List Kind)). o >>= λ l. Some (k ∷ l)) eb) ∙ e in
            record { first = k; others = l; first_is = parameter-kind x k ea; others_are = eb; all = cc }

    -- Parameters are bound to values, which have their words behind others in the local variables.
    pub parameters-bound : (xs : List Parameter) (ks : List Kind) (vs : List Value) (words_in pre rest : List Word) (ys inner : List Known) (acc added : Scope) (env : Env) (slots : Slots)
        → kinds_of_parameters g xs ≡ Some ks → Kept h store own Values ks vs words_in → ws ≡ pre ++ (spread words_in ++ rest) → length pre ≡ acc.next → length ws ≤ 65535
        → bound g (locals_of xs) ys ≡ Some inner → placed g.table g.class.symbol acc (map local_of xs) ≡ Some added → Covered (all_set ys) acc → Extends floor slots → Held h store own (all_set ys) (inside acc s) env slots floor ws
        → (Held h store own (all_set inner) (inside added s) (bind_all (symbols_of xs) vs env slots).env (bind_all (symbols_of xs) vs env slots).slots floor ws) × Extends slots (bind_all (symbols_of xs) vs env slots).slots
    unfolding bound placed bind_all bind
    parameters-bound [] ks vs words_in pre rest ys inner acc added env slots ek kept words here short e f cover ex z =
        let same : ys ≡ inner = cc in
        let there : acc ≡ added = cc in
        (subst (λ i. Held h store own (all_set i) (inside added s) env slots floor ws) same (subst (λ a. Held h store own (all_set ys) (inside a s) env slots floor ws) there z), extends-itself slots)
    parameters-bound (x ∷ xs) ks vs words_in pre rest ys inner acc added env slots ek e_none words here short e f cover ex z =
        let p = parameters-of x xs [] ek in
        let no : p.first ∷ p.others ≡ [] = p.all in
        absurd (cc)
    parameters-bound (x ∷ xs) ks vs words_in pre rest ys inner acc added env slots ek (e_value {k = k} {ks = ks'} {v = v} {vs = vs'} {w = w} {ws = words'} a kept') words here short e f cover ex z =
        let p = parameters-of x xs (k ∷ ks') ek in
        let parted : p.first ∷ p.others ≡ k ∷ ks' = p.all in
        let first : p.first ≡ k = cc in
        let others : p.others ≡ ks' = cc in
        let q = first-of ys inner acc added (local_of x) (locals_of xs) (map local_of xs) e f in
        let same : Some q.kind ≡ Some p.first = sym q.kind_is ∙ p.first_is in
        let is : q.kind ≡ p.first = cc in
        let a' : Alike h store own q.kind v w = subst (λ c. Alike h store own c v w) (sym (is ∙ first)) a in
        let none = cover x.symbol (known-all_set ys x.symbol q.fresh) in
        let size = length-places q.kind v w a' in
        let begins = first-spread q.kind v w a' in
        let tail : List Word = spread words' ++ rest in
        let parts : ws ≡ pre ++ (spread_one w ++ tail) = words ∙ ap (λ l. pre ++ l) (append_assoc (spread_one w) (spread words') rest) in
        let counted : length ws ≡ length pre + (length (spread_one w) + length tail) = ap length parts ∙ length-append pre (spread_one w ++ tail) ∙ ap (λ n. length pre + n) (length-append (spread_one w) tail) in
        let lies : slice_get ws acc.next ≡ Some w = ap (λ l. slice_get l acc.next) (parts ∙ ap (λ l. pre ++ (l ++ tail)) begins.1) ∙ ap (slice_get (pre ++ (w ∷ (begins.0 ++ tail)))) (sym here) ∙ word-behind pre w (begins.0 ++ tail) in
        let fits : acc.next + width_of q.kind ≤ 65535 = omega (arith, counted, size, here, short) in
        let wide : acc.next + width_of q.kind ≤ length ws = omega (arith, counted, size, here) in
        let next : (with_local acc x.symbol q.kind).next ≡ acc.next + width_of q.kind = omega (arith, fits) in
        let z1 = held-bind (all_set ys) acc s env slots floor ws x.symbol q.kind true v z ex (known-all_set ys x.symbol q.fresh) none fits wide (λ t. (w, lies, a')) in
        let more = extends-bind slots x.symbol v in
        let env1 : Env = (x.symbol, length (values_of slots x.symbol)) ∷ env in
        let slots1 : Slots = put slots x.symbol (values_of slots x.symbol ++ v ∷ []) in
        let y1 : Known = record { symbol = x.symbol; kind = q.kind; is_set = false } in
        let rest1 = parameters-bound xs ks' vs' words' (pre ++ spread_one w) rest (y1 ∷ ys) inner (with_local acc x.symbol q.kind) added env1 slots1 (p.others_are ∙ ap (λ (l : List Kind). Some l) others) kept' (parts ∙ sym (append_assoc pre (spread_one w) tail))
        (let l = length-append pre (spread_one w) in omega (arith, l, size, here, next)) short q.rest q.others (covered-bind (all_set ys) acc s env slots floor ws x.symbol q.kind true v cover) (extends-further floor slots slots1 ex more) z1 in
        (rest1.0, extends-further slots slots1 _ more rest1.1)
