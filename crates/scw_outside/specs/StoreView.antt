-- What a store in memory shows of itself.
use Rattle.std.specs.Prelude.{ℕ, Bool, true, false, List, Result, Ok, Err}
use Rattle.scw_outside.specs.declared.calls.Calls.{Calls}
use Rattle.scw_outside.specs.declared.mem_store.MemStore.{MemStore}
use Rattle.scw_outside.specs.declared.store.StoreFault.{StoreFault}
use Rattle.scw_outside.specs.declared.store.StoreFault.TheVariants.{Failed, NoMemory}

-- the names and what they hold
abbrev pub entries_of : MemStore → List (List ℕ × List ℕ)
entries_of s = s.entries

-- the calls so far, and those that are to fail
abbrev pub store_calls : MemStore → Calls
store_calls s = s.calls

-- the call failed, and not for want of memory
abbrev pub has_failed : {T : Type 0} → Result T StoreFault → Bool
has_failed (Ok x) = false
has_failed (Err Failed) = true
has_failed (Err NoMemory) = false
