-- How a comment is found: SLS 1.4. No public clause cites this file: it says of each step of the lexer what it gives.
use Rattle.std.specs.Prelude.{ℕ, zero, suc, ◌+◌, Bool, true, false, not, List, [], ◌∷◌, codes, Option, Some, None, if◌then◌else◌}
use Rattle.std.specs.List.{prefix_len}
use Rattle.scw_text.specs.declared.rule.Rule.TheVariants as rule
use Rattle.scw_lex.specs.declared.comment.Begun.{Begun}
use Rattle.scw_lex.specs.declared.comment.Begun.TheVariants as begun
use Rattle.scw_lex.specs.declared.piece.Piece.{Piece}
use Rattle.scw_lex.specs.declared.piece.Piece.TheVariants as piece
use Rattle.scw_lex.specs.Character.{is_of}

-- how many characters stand before the line end
abbrev pub line_len : List ℕ → ℕ
line_len text = prefix_len (λ c. not (is_of (codes "\n") c)) text

abbrev pub begun_by : ℕ → Begun
begun_by c = if is_of (codes "*") c then begun.Star else if is_of (codes "/") c then begun.Slash else begun.Nothing

-- how many characters a comment has behind its `/*`, if it is closed; before them stand so many, in so many comments
-- inside it, and a character that may begin `*/` or `/*`
abbrev pub block_len : ℕ → Begun → ℕ → List ℕ → Option ℕ
block_len inner before n [] = None
block_len inner begun.Nothing n (c ∷ cs) = block_len inner (begun_by c) (n + 1) cs
block_len zero begun.Star n (c ∷ cs) = if is_of (codes "/") c then Some (n + 1) else block_len zero (begun_by c) (n + 1) cs
block_len (suc inner) begun.Star n (c ∷ cs) =
    if is_of (codes "/") c then block_len inner begun.Nothing (n + 1) cs else block_len (suc inner) (begun_by c) (n + 1) cs
block_len inner begun.Slash n (c ∷ cs) =
    if is_of (codes "*") c then block_len (inner + 1) begun.Nothing (n + 1) cs else block_len inner (begun_by c) (n + 1) cs

abbrev pub block_piece : Option ℕ → Piece
block_piece (Some n) = piece.Skip (n + 2)
block_piece None = piece.Refused rule.OpenComment 0 2

-- the comment that begins the text
abbrev pub comment_piece : List ℕ → Piece
comment_piece [] = piece.Skip 0
comment_piece (c ∷ []) = piece.Skip (line_len (c ∷ []))
comment_piece (c ∷ d ∷ ds) = if is_of (codes "*") d then block_piece (block_len 0 begun.Nothing 0 ds) else piece.Skip (line_len (c ∷ d ∷ ds))
