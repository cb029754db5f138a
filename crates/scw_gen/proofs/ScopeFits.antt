-- Slots of locals have 16 bits.
use Rattle.std.proofs.Common.{◌≡◌, ℕ, ◌≤◌, Bool, true, false, cond, List, [], ◌∷◌, ◌++◌, Some, subst, arith}
use Rattle.std.specs.Prelude.{find}
use Rattle.scw_text.specs.declared.number.SymId.{SymId}
use Rattle.scw_core.specs.Program.{Table}
use Rattle.scw_core.specs.Types.{same_symbol}
use Rattle.scw_core.specs.declared.tree.Local.{Local}
use Rattle.scw_gen.specs.Kind.{kind_at}
use Rattle.scw_gen.specs.Scope.{Scope, from, inside, placed, slot_of, with_local}
use Rattle.scw_gen.specs.declared.scope.Slot.{Slot}
use Rattle.scw_gen.proofs.Steps.{bound}

abbrev Places : List Slot → Type 0
Places [] = Unit {0}
Places (s ∷ ss) = (s.place ≤ 65535) × Places ss

places-append : (a b : List Slot) → Places a → Places b → Places (a ++ b)
places-append [] b h k = k
places-append (s ∷ a) b h k = (h.0, places-append a b h.1 k)

pub record ScopeFits (s : Scope) : Type 0 where
  pub slots : Places s.slots
  pub next : s.next ≤ 65535

found-fits : (x : SymId) (ss : List Slot) (s : Slot) → Places ss → find (λ (slot : Slot). same_symbol slot.symbol x) ss ≡ Some s → s.place ≤ 65535
found-fits x [] s h e = absurd (cc)
found-fits x (t ∷ ts) s h e = by (same_symbol t.symbol x) e (λ k. found-fits x ts s h.1 k)
  where
    by : (b : Bool) → cond b (Some t) (find (λ (slot : Slot). same_symbol slot.symbol x) ts) ≡ Some s → (find (λ (slot : Slot). same_symbol slot.symbol x) ts ≡ Some s → s.place ≤ 65535) → s.place ≤ 65535
    by true k later = let same : t ≡ s = cc in subst (λ (u : Slot). u.place ≤ 65535) same h.0
    by false k later = later k

pub slot-fits : (s : Scope) (x : SymId) (slot : Slot) → ScopeFits s → slot_of s x ≡ Some slot → slot.place ≤ 65535
unfolding slot_of
slot-fits s x slot h e = found-fits x s.slots slot h.slots e

pub placed-fits : (table : Table) (own : SymId) (s : Scope) (xs : List Local) (t : Scope) → ScopeFits s → placed table own s xs ≡ Some t → ScopeFits t
unfolding placed
placed-fits table own s [] t h e = let same : s ≡ t = cc in subst ScopeFits same h
placed-fits table own s (x ∷ xs) t h e =
    let b = bound (kind_at table own x.type_id) (λ k. placed table own (with_local s x.symbol k) xs) t e in
    placed-fits table own (with_local s x.symbol b.0) xs t
    (record { slots = places-append s.slots (record { symbol = x.symbol; place = s.next; kind = b.0 } ∷ []) h.slots (h.next, tt); next = omega arith })
    b.2

pub from-fits : (next : ℕ) → next ≤ 65535 → ScopeFits (from next)
from-fits next le = record { slots = tt; next = le }

pub inside-fits : (inner outer : Scope) → ScopeFits inner → ScopeFits outer → ScopeFits (inside inner outer)
inside-fits inner outer h k = record { slots = places-append inner.slots outer.slots h.slots k.slots; next = h.next }
