-- Which classes are reached in one step more.
use Rattle.std.specs.Prelude.{ℕ, Bool, false, ◌||◌, List, [], map, length, slice_index_or, ◌==◌}
use Rattle.std.specs.List.{list_any, range_with_len}

-- the class at the first number reaches that at the second
abbrev pub bit : List (List Bool) → ℕ → ℕ → Bool
bit rows c d = slice_index_or (slice_index_or rows c []) d false

-- a class with these direct supertypes reaches another in a step more
abbrev pub next_bit : List (List Bool) → List ℕ → ℕ → ℕ → Bool
next_bit rows supers c d = c == d || list_any (λ s. bit rows s d) supers

abbrev pub next_row : List (List ℕ) → List (List Bool) → ℕ → List Bool
next_row supers rows c = map (next_bit rows (slice_index_or supers c []) c) (range_with_len 0 (length supers))

abbrev pub next_rows : List (List ℕ) → List (List Bool) → List (List Bool)
next_rows supers rows = map (next_row supers rows) (range_with_len 0 (length supers))
