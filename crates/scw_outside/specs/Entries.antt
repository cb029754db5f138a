-- Entries as a map: of two entries of one name the first counts.
use Rattle.std.specs.Prelude.{ℕ, if◌then◌else◌, List, [], ◌∷◌, Some, None}
use Rattle.scw_outside.specs.Content.{Files, same_name}

-- what the entries hold
abbrev pub held : List (List ℕ × List ℕ) → Files
held [] n = None
held (e ∷ es) n = if same_name e.0 n then Some e.1 else held es n

-- the entries, with these bytes for the name
abbrev pub with_entry : List ℕ → List ℕ → List (List ℕ × List ℕ) → List (List ℕ × List ℕ)
with_entry n b [] = (n, b) ∷ []
with_entry n b (e ∷ es) = if same_name e.0 n then (n, b) ∷ es else e ∷ with_entry n b es
