-- The calls of a store or a sink in memory: which fail, and how many calls and faults there were.
use Rattle.std.specs.Prelude.{ℕ, ◌+◌, ◌-◌, ◌^◌, min, Bool, true, ◌&&◌, if◌then◌else◌, nat_le, nat_lt, nat_eq, List, [], ◌∷◌}
use Rattle.std.specs.List.{list_any}
use Rattle.scw_outside.specs.declared.calls.Calls.{Calls}

-- no call, and no fault
abbrev pub fresh : List ℕ → Calls
fresh listed = record { listed = listed; made = 0; faults = 0 }

-- no number on the list is past n
abbrev pub none_after : ℕ → List ℕ → Bool
none_after n [] = true
none_after n (k ∷ ks) = nat_le k n && none_after n ks

-- no listed call is still to come
abbrev pub is_over : Calls → Bool
is_over calls = none_after calls.made calls.listed

-- n is on the list
abbrev pub is_listed : ℕ → List ℕ → Bool
is_listed n ks = list_any (λ k. nat_eq k n) ks

-- the call to come is listed: calls are counted from 1, and no further than a u64
abbrev pub next_fails : Calls → Bool
next_fails calls = nat_lt calls.made (2 ^ 64 - 1) && is_listed (calls.made + 1) calls.listed

-- one more, or the last value
abbrev pub risen : ℕ → ℕ
risen n = min (n + 1) (2 ^ 64 - 1)

-- after a call, which failed or not
abbrev pub after : Bool → Calls → Calls
after failed calls = record { listed = calls.listed; made = risen calls.made; faults = if failed then risen calls.faults else calls.faults }
