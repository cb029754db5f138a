-- What stands for values keeps doing so while a heap grows.
use Rattle.std.proofs.Common.{ℕ, ◌+◌, arith, List, [], ◌∷◌, ◌++◌}
use Rattle.scw_text.specs.declared.number.SymId.{SymId}
use Rattle.scw_core.specs.State.{Env, Slots, Thing, Value}
use Rattle.scw_gen.specs.declared.kind.Kind.{Kind}
use Rattle.scw_gen.specs.declared.operator.Form.{Form}
use Rattle.scw_gen.specs.Scope.{Scope}
use Rattle.scw_gen.specs.Typed.{Known}
use Rattle.scw_heap.specs.Heap.{Entity, used}
use Rattle.scw_heap.proofs.HeapLemmas.{object_at-append, object_at-behind}
use Rattle.scw_back.proofs.Stands.{Alike, Extends, Grows, Held, HeldAt, Holds, IsOf, Kept, Word, e_effect, e_none, e_text, e_value, i_boolean, i_int, i_long, i_string, i_strings, i_unit, k_boolean, k_int, k_long, k_string, k_strings, k_this, k_unit}

pub grows-itself : (h : List Entity) → Grows h h
grows-itself h = record { by = λ r o e. e }

pub grows-further : (a b c : List Entity) → Grows a b → Grows b c → Grows a c
grows-further a b c f g = record { by = λ r o e. g.by r o (f.by r o e) }

pub grows-by : (h more : List Entity) → Grows h (h ++ more)
grows-by h more = record { by = λ r o e. object_at-append h more r o e }

-- the object that is made is there
pub holds-last : (h : List Entity) (o : Entity) → Holds (h ++ o ∷ []) (1 + used h) o
holds-last h o = record { some = λ e. omega (arith, e); there = object_at-behind h [] o }

pub holds-grown : (h h' : List Entity) (r : ℕ) (o : Entity) → Grows h h' → Holds h r o → Holds h' r o
holds-grown h h' r o g x = record { some = x.some; there = g.by r o x.there }

pub alike-grown : (h h' : List Entity) (store : List Thing) (own : SymId) (k : Kind) (v : Value) (w : Word) → Grows h h' → Alike h store own k v w → Alike h' store own k v w
alike-grown h h' store own k v w g (k_unit r x) = k_unit r (holds-grown h h' r _ g x)
alike-grown h h' store own k v w g (k_boolean b) = k_boolean b
alike-grown h h' store own k v w g (k_int n lt) = k_int n lt
alike-grown h h' store own k v w g (k_long n lt) = k_long n lt
alike-grown h h' store own k v w g (k_string us r u x) = k_string us r u (holds-grown h h' r _ g x)
alike-grown h h' store own k v w g (k_strings v2 r) = k_strings v2 r
alike-grown h h' store own k v w g (k_this q r ws i x) = k_this q r ws i (holds-grown h h' r _ g x)

-- a value for which a word stands is of its kind
pub alike-of : (h : List Entity) (store : List Thing) (own : SymId) (k : Kind) (v : Value) (w : Word) → Alike h store own k v w → IsOf store own k v
alike-of h store own k v w (k_unit r x) = i_unit
alike-of h store own k v w (k_boolean b) = i_boolean b
alike-of h store own k v w (k_int n lt) = i_int n lt
alike-of h store own k v w (k_long n lt) = i_long n lt
alike-of h store own k v w (k_string us r u x) = i_string us
alike-of h store own k v w (k_strings v2 r) = i_strings v2
alike-of h store own k v w (k_this q r ws i x) = i

pub kept-grown : (h h' : List Entity) (store : List Thing) (own : SymId) (f : Form) (ks : List Kind) (vs : List Value) (ws : List Word) → Grows h h' → Kept h store own f ks vs ws → Kept h' store own f ks vs ws
kept-grown h h' store own f ks vs ws g e_none = e_none
kept-grown h h' store own f ks vs ws g (e_value a rest) = e_value (alike-grown h h' store own _ _ _ g a) (kept-grown h h' store own _ _ _ _ g rest)
kept-grown h h' store own f ks vs ws g (e_effect i rest) = e_effect i (kept-grown h h' store own _ _ _ _ g rest)
kept-grown h h' store own f ks vs ws g (e_text p u x rest) = e_text p u (holds-grown h h' _ _ g x) (kept-grown h h' store own _ _ _ _ g rest)

pub held_at-grown : (h h' : List Entity) (store : List Thing) (own : SymId) (s : Scope) (env : Env) (slots floor : Slots) (ws : List Word) (x : SymId) (y : Known) → Grows h h' → HeldAt h store own s env slots floor ws x y → HeldAt h' store own s env slots floor ws x y
held_at-grown h h' store own s env slots floor ws x y g z = record {
  slot = z.slot;
  slot_is = z.slot_is;
  kind_is = z.kind_is;
  within = z.within;
  binding = z.binding;
  bound = z.bound;
  new = z.new;
  value = z.value;
  there = z.there;
  held = λ e. (let a = z.held e in (a.0, a.1, alike-grown h h' store own y.kind z.value a.0 g a.2));
}

pub held-grown : (h h' : List Entity) (store : List Thing) (own : SymId) (ys : List Known) (s : Scope) (env : Env) (slots floor : Slots) (ws : List Word) → Grows h h' → Held h store own ys s env slots floor ws → Held h' store own ys s env slots floor ws
held-grown h h' store own ys s env slots floor ws g z = record { at = λ x y e. held_at-grown h h' store own s env slots floor ws x y g (z.at x y e); apart = z.apart; wide = z.wide }

-- ---- bindings

pub extends-itself : (a : Slots) → Extends a a
extends-itself a = record { by = λ x k v e. e }

pub extends-further : (a b c : Slots) → Extends a b → Extends b c → Extends a c
extends-further a b c f g = record { by = λ x k v e. g.by x k v (f.by x k v e) }

-- what is held stays held while more is bound
pub held-later : (h : List Entity) (store : List Thing) (own : SymId) (ys : List Known) (s : Scope) (env : Env) (slots slots' floor : Slots) (ws : List Word) → Extends slots slots' → Held h store own ys s env slots floor ws → Held h store own ys s env slots' floor ws
held-later h store own ys s env slots slots' floor ws more z = record {
  at = λ x y e.
      let a = z.at x y e in
      record { slot = a.slot; slot_is = a.slot_is; kind_is = a.kind_is; within = a.within; binding = a.binding; bound = a.bound; new = a.new; value = a.value; there = more.by x a.binding a.value a.there; held = a.held };
  apart = z.apart;
  wide = z.wide;
}
