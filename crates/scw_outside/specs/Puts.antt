-- What is left of a text where a sink failed in the middle of it.
use Rattle.std.specs.Prelude.{◌≡◌, ℕ, ◌<◌, List, length, take, Option}
use Rattle.std.specs.Io.KnownBytes.{append_known}

-- the sink took a front of the bytes, and not all of them
abbrev pub TookPart : Option (List ℕ) → Option (List ℕ) → List ℕ → Type 0
TookPart old new bytes = (n : ℕ) × (n < length bytes) × (new ≡ append_known old (take n bytes))
