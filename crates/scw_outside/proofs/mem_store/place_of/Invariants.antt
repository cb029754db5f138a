use Rattle.std.proofs.Common.{◌≡◌, ◌++◌, List, ℕ, take, drop}
use Rattle.scw_outside.specs.Entries.{with_entry}
use Rattle.scw_outside.proofs.mem_store.place_of.Given as goal

abbrev pub invariant-loop-i : goal.invariant-loop-i
invariant-loop-i l = (b : List ℕ) → with_entry l.name b l.entries ≡ take l.i l.entries ++ with_entry l.name b (drop l.i l.entries)
