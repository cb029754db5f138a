-- Values, and the state of a run.
use Rattle.std.specs.Prelude.{ℕ, List, [], ◌∷◌, ◌++◌, Bool, true, false, cond, ◌&&◌, not, Option, Some, None, option_map, option_and_then, unwrap_or, nat_eq, length, slice_get, slice_set}
use Rattle.scw_text.specs.declared.number.SymId.{SymId}
use Rattle.scw_core.specs.declared.operator.TextId.{TextId}
use Rattle.scw_core.specs.declared.tree.Local.{Local}
use Rattle.scw_core.specs.Types.{Erased, void, boolean, char, int, long, unit_ref, ref, arr, same_symbol, same_text}
use Rattle.scw_core.specs.Tree.{Tree}
use Rattle.scw_core.specs.Program.{look}

-- a number is given by its bits, a string by its UTF-16 units
pub data Value : Type 0 where
  unit_v : Value
  boolean_v : Bool → Value
  char_v : ℕ → Value
  int_v : ℕ → Value
  long_v : ℕ → Value
  null_v : Value
  string_v : List ℕ → Value
  -- a place in the store
  ref_v : ℕ → Value

-- which binding of each local is meant: the k-th of that local since the run began
abbrev pub Env : Type 0
Env = List (SymId × ℕ)

-- what a reference leads to
pub data Thing : Type 0 where
  -- its class, its fields, and for classes of its linearisation the environment in which their code stands
  instance : SymId → List (SymId × Value) → List (SymId × Env) → Thing
  -- the type of its elements
  array : Erased → List Value → Thing
  -- the binary name of its class, its parameters, its body, and where it was made
  function : TextId → List Local → Tree → Env → Thing
  -- a by-name argument, and where it was made
  by_name : Tree → Env → Thing
  cell : Value → Thing

-- for each local the values of all its bindings
abbrev pub Slots : Type 0
Slots = List (SymId × List Value)

pub record State : Type 0 where
  pub store : List Thing
  pub slots : Slots
  -- the objects that were made: the instance in which each stands or the unit value, and its symbol
  pub modules : List ((Value × SymId) × Value)
  -- the static fields that were set, each by its class and itself, the latest first
  pub statics : List ((SymId × SymId) × Value)

abbrev pub empty_state : State
empty_state = record { store = []; slots = []; modules = []; statics = [] }

-- what a field, an element or a local of a block begins with
abbrev pub zero_of : Erased → Value
zero_of void = null_v
zero_of boolean = boolean_v false
zero_of char = char_v 0
zero_of int = int_v 0
zero_of long = long_v 0
zero_of unit_ref = null_v
zero_of (ref c) = null_v
zero_of (arr e) = null_v

-- ---- whether two values are one: the same reference, or the same kind and contents

abbrev pub same_boolean : Bool → Bool → Bool
same_boolean true b = b
same_boolean false b = not b

abbrev pub is_unit : Value → Bool
is_unit unit_v = true
is_unit _ = false

abbrev pub is_boolean : Bool → Value → Bool
is_boolean a (boolean_v b) = same_boolean a b
is_boolean a _ = false

abbrev pub is_char : ℕ → Value → Bool
is_char a (char_v b) = nat_eq a b
is_char a _ = false

abbrev pub is_int : ℕ → Value → Bool
is_int a (int_v b) = nat_eq a b
is_int a _ = false

abbrev pub is_long : ℕ → Value → Bool
is_long a (long_v b) = nat_eq a b
is_long a _ = false

abbrev pub is_null : Value → Bool
is_null null_v = true
is_null _ = false

abbrev pub is_string : List ℕ → Value → Bool
is_string a (string_v b) = same_text a b
is_string a _ = false

abbrev pub is_reference : ℕ → Value → Bool
is_reference a (ref_v b) = nat_eq a b
is_reference a _ = false

abbrev pub same_value : Value → Value → Bool
same_value unit_v w = is_unit w
same_value (boolean_v b) w = is_boolean b w
same_value (char_v n) w = is_char n w
same_value (int_v n) w = is_int n w
same_value (long_v n) w = is_long n w
same_value null_v w = is_null w
same_value (string_v us) w = is_string us w
same_value (ref_v r) w = is_reference r w

-- ---- finite maps

-- the first that stands beside the symbol is set, and else there is one more at the end
unfoldable pub put : {A : Type 0} → List (SymId × A) → SymId → A → List (SymId × A)
put [] s v = (s, v) ∷ []
put (x ∷ xs) s v = cond (same_symbol x.0 s) ((s, v) ∷ xs) (x ∷ put xs s v)

unfoldable pub module_at : List ((Value × SymId) × Value) → Value → SymId → Option Value
module_at [] q o = None
module_at (x ∷ xs) q o = cond (same_value x.0.0 q && same_symbol x.0.1 o) (Some x.1) (module_at xs q o)

-- a static field is null until it is set
unfoldable pub static_at : List ((SymId × SymId) × Value) → SymId → SymId → Value
static_at [] c f = null_v
static_at (x ∷ xs) c f = cond (same_symbol x.0.0 c && same_symbol x.0.1 f) x.1 (static_at xs c f)

-- ---- locals

unfoldable pub values_of : Slots → SymId → List Value
values_of slots n = unwrap_or (look slots n) []

unfoldable pub read_slot : Env → Slots → SymId → Option Value
read_slot env slots n = option_and_then (λ k. slice_get (values_of slots n) k) (look env n)

unfoldable pub write_slot : Env → Slots → SymId → Value → Option Slots
write_slot env slots n v = option_map (λ k. put slots n (slice_set (values_of slots n) k v)) (look env n)

-- where code runs: which bindings it sees, and the values of all bindings
pub record Bound : Type 0 where
  pub env : Env
  pub slots : Slots

-- a local is bound anew, with a value
unfoldable pub bind : SymId → Value → Env → Slots → Bound
bind n v env slots = record { env = (n, length (values_of slots n)) ∷ env; slots = put slots n (values_of slots n ++ v ∷ []) }

-- Locals are bound anew in order, each with its value. In a formed program there are as many values as locals.
unfoldable pub bind_all : List SymId → List Value → Env → Slots → Bound
bind_all [] vs env slots = record { env = env; slots = slots }
bind_all (n ∷ ns) [] env slots = record { env = env; slots = slots }
bind_all (n ∷ ns) (v ∷ vs) env slots = let b = bind n v env slots in bind_all ns vs b.env b.slots
