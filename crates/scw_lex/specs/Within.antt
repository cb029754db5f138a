-- Where a piece of a text ends.
use Rattle.std.specs.Prelude.{ℕ, ◌+◌, ◌<◌, ◌≤◌}
use Rattle.scw_lex.specs.declared.piece.Piece.{Piece}
use Rattle.scw_lex.specs.declared.piece.Piece.TheVariants as piece

-- the piece is at least one character, and lies in a text of so many
abbrev pub IsWithin : ℕ → Piece → Type 0
IsWithin n (piece.Skip len) = (0 < len) × (len ≤ n)
IsWithin n (piece.Token kind len) = (0 < len) × (len ≤ n)
IsWithin n (piece.Refused rule before len) = before + len ≤ n
