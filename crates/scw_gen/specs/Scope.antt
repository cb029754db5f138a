-- Where locals stand in a frame: JVMS 2.6.1. A slot is taken while its local is bound, and by no other then.
use Rattle.std.specs.Prelude.{ℕ, List, [], ◌∷◌, ◌++◌, Option, Some, find}
use Rattle.scw_text.specs.declared.number.SymId.{SymId}
use Rattle.scw_core.specs.Program.{Table}
use Rattle.scw_core.specs.Types.{same_symbol}
use Rattle.scw_core.specs.declared.tree.Local.{Local}
use Rattle.scw_gen.specs.Outcome.{◌>>=◌}
use Rattle.scw_gen.specs.Instr.{plus}
use Rattle.scw_gen.specs.Kind.{kind_at, width_of}
use Rattle.scw_gen.specs.declared.kind.Kind.{Kind}
use Rattle.scw_gen.specs.declared.scope.Scope as rust
use Rattle.scw_gen.specs.declared.scope.Slot.{Slot}

-- the locals that are bound, those of the innermost block first, and the first slot that is free
pub record Scope : Type 0 where
  pub slots : List Slot
  pub next : ℕ

abbrev pub scope_of : rust.Scope → Scope
scope_of s = record { slots = s.slots.items; next = s.next }

-- no local, with this slot as the first that is free
abbrev pub from : ℕ → Scope
from next = record { slots = []; next = next }

unfoldable pub slot_of : Scope → SymId → Option Slot
slot_of s x = find (λ (slot : Slot). same_symbol slot.symbol x) s.slots

-- with a local more, behind the others
abbrev pub with_local : Scope → SymId → Kind → Scope
with_local s x k = record {
  slots = s.slots ++ record { symbol = x; place = s.next; kind = k } ∷ [];
  next = plus s.next (width_of k);
}

-- with locals more, in slots one behind the other
unfoldable pub placed : Table → SymId → Scope → List Local → Option Scope
placed table own s [] = Some s
placed table own s (x ∷ xs) = kind_at table own x.type_id >>= λ k. placed table own (with_local s x.symbol k) xs

-- the first scope, inside the second
abbrev pub inside : Scope → Scope → Scope
inside inner outer = record { slots = inner.slots ++ outer.slots; next = inner.next }
