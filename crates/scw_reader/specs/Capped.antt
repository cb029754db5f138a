-- Depths, counted up to one more than the limit, and the limits that are looked at once a tree is read. No public clause
-- cites this file.
use Rattle.std.specs.Prelude.{ℕ, ◌+◌, ◌≤◌, min, max}
use Rattle.scw_reader.specs.declared.limit.TheConstants.{MAX_DEPTH, MAX_PARAMETERS}
use Rattle.scw_reader.specs.Syntax.{Source}
use Rattle.scw_reader.specs.Limits.{source_depth, most_parameters}

abbrev pub capped : ℕ → ℕ
capped n = min n (MAX_DEPTH + 1)

abbrev pub IsSmall : Source → Type 0
IsSmall e = (source_depth e ≤ MAX_DEPTH) × (max (most_parameters e.before) (most_parameters e.after) ≤ MAX_PARAMETERS)
