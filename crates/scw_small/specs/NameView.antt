-- The names that a value of the program stands for.
use Rattle.std.specs.Prelude.{◌≡◌, ℕ, List, map, Option, Some, Result, Ok, Err, Vec}
use Rattle.std.specs.declared.alloc.Global.{Global}
use Rattle.scw_reader.specs.declared.failure.Failure.{Failure}
use Rattle.scw_reader.specs.Outcome.{Fails}
use Rattle.scw_reader.specs.Syntax.{Name}
use Rattle.scw_small.specs.declared.names.Names.{Names}

abbrev pub seen_entry : {V : Type 0} → Vec ℕ Global × V → Name × V
seen_entry e = (e.0.items, e.1)

abbrev pub names_of : {V : Type 0} → Names V → List (Name × V)
names_of n = map seen_entry n.entries.entries

-- what a function ensures that adds a name
abbrev pub Adds : {V : Type 0} → Option (List (Name × V)) → Result (Unit {0}) Failure → List (Name × V) → Type 0
Adds added (Ok u) names = added ≡ Some names
Adds added (Err e) names = Fails e added
