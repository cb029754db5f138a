-- How an identifier is found: SLS 1.1. No public clause cites this file: it says of each step of the lexer what it gives.
use Rattle.std.specs.Prelude.{ℕ, ◌+◌, ◌-◌, Bool, true, false, not, ◌&&◌, nat_eq, nat_lt, List, [], ◌∷◌, length, take, drop, slice_index, codes, Option, Some, None, if◌then◌else◌}
use Rattle.std.specs.List.{prefix_len}
use Rattle.std.specs.Str.{byte, encode_utf8_all}
use Rattle.scw_text.specs.declared.rule.Rule.TheVariants as rule
use Rattle.scw_lex.specs.declared.name.TheConstants.{MAX_NAME_BYTES}
use Rattle.scw_lex.specs.declared.piece.Piece.{Piece}
use Rattle.scw_lex.specs.declared.piece.Piece.TheVariants as piece
use Rattle.scw_lex.specs.declared.reserved.Reserved.{Reserved}
use Rattle.scw_lex.specs.declared.token.Tok.TheVariants as tok
use Rattle.scw_lex.specs.Character.{is_of, begins, is_word, is_letter, is_operator}
use Rattle.scw_lex.specs.Reserved.{token_of, word_of}

-- a comment begins with the text
abbrev pub begins_comment : List ℕ → Bool
begins_comment [] = false
begins_comment (c ∷ cs) = is_of (codes "/") c && begins (is_of (codes "/*")) cs

-- how many operator characters stand at the front, before any comment
abbrev pub operator_len : List ℕ → ℕ
operator_len [] = 0
operator_len (c ∷ cs) = if is_operator c && not (begins_comment (c ∷ cs)) then 1 + operator_len cs else 0

-- operator characters join the word: it ends in `_`, which isn't its first character
abbrev pub is_joining : List ℕ → Bool
is_joining word = nat_lt 1 (length word) && nat_eq (slice_index word (length word - 1)) (byte "_")

abbrev pub joined_len : ℕ → List ℕ → ℕ
joined_len n text = if is_joining (take n text) then n + operator_len (drop n text) else n

-- how many characters the identifier has that begins with a letter, and that begins the text
unfoldable pub word_name_len : List ℕ → ℕ
word_name_len text = joined_len (prefix_len is_word text) text

abbrev pub name_len : List ℕ → ℕ
name_len text = if begins is_letter text then word_name_len text else operator_len text

-- `\u` stands at the end of the name and behind it
abbrev pub is_escape_split : List ℕ → List ℕ → Bool
is_escape_split name rest = nat_eq (slice_index name (length name - 1)) (byte "\\") && begins (is_of (codes "u")) rest

-- the token of an identifier that isn't reserved, before this rest: a long name is refused before an interpolator, and
-- this before `\u`
abbrev pub plain_name : List ℕ → List ℕ → Piece
plain_name name rest =
    if nat_lt MAX_NAME_BYTES (length (encode_utf8_all name)) then piece.Refused rule.BadName 0 (length name)
    else if begins is_letter name && begins (is_of (codes "\"")) rest then piece.Refused rule.LeftOutToken 0 (length name)
    else if is_escape_split name rest then piece.Refused rule.LeftOutToken (length name - 1) 2
    else piece.Token (tok.Id name) (length name)

-- the token of an identifier, or of the reserved word or sign that it is
abbrev pub named : List ℕ → List ℕ → Option Reserved → Piece
named name rest (Some w) = piece.Token (token_of w) (length name)
named name rest None = plain_name name rest

unfoldable pub name_piece : List ℕ → Piece
name_piece text = named (take (name_len text) text) (drop (name_len text) text) (word_of (take (name_len text) text))
