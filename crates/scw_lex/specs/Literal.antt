-- How characters, strings and backquoted identifiers are found: SLS 1.3.4, 1.3.5 and 1.1. No public clause cites this
-- file: it says of each step of the lexer what it gives.
use Rattle.std.specs.Prelude.{ℕ, zero, suc, ◌+◌, Bool, true, false, not, ◌&&◌, ◌||◌, nat_eq, nat_lt, List, [], ◌∷◌, ◌++◌, length, take, drop, slice_index, codes, Option, Some, None, Result, Ok, Err, if◌then◌else◌}
use Rattle.std.specs.List.{prefix_len, flat_map}
use Rattle.std.specs.Char.Escape.{encode_utf16}
use Rattle.std.specs.Str.{byte, encode_utf8_all}
use Rattle.scw_text.specs.Modified.{modified}
use Rattle.scw_text.specs.declared.rule.Rule.TheVariants as rule
use Rattle.scw_lex.specs.declared.literal.TheConstants.{MAX_TEXT_BYTES}
use Rattle.scw_lex.specs.declared.name.TheConstants.{MAX_NAME_BYTES}
use Rattle.scw_lex.specs.declared.escape.Spelling.{Spelling}
use Rattle.scw_lex.specs.declared.piece.Piece.{Piece}
use Rattle.scw_lex.specs.declared.piece.Piece.TheVariants as piece
use Rattle.scw_lex.specs.declared.token.Tok.TheVariants as tok
use Rattle.scw_lex.specs.Character.{is_of, begins, is_letter}
use Rattle.scw_lex.specs.Name.{word_name_len}
use Rattle.scw_lex.specs.Escape.{escape_at, escape_place}

-- ---- characters

-- the `'` before the text begins a symbol literal
abbrev pub is_symbol : List ℕ → Bool
is_symbol [] = false
is_symbol (c ∷ cs) = is_letter c && not (begins (is_of (codes "'")) cs)

-- with the backslash before it
abbrev pub behind_backslash : Spelling → Spelling
behind_backslash s = record { unit = s.unit; len = s.len + 1 }

-- behind the backslash
abbrev pub escaped_content : List ℕ → Option Spelling
escaped_content [] = None
escaped_content (c ∷ cs) = if is_of (codes "\n\r") c then None else Some (behind_backslash (escape_at (c ∷ cs)))

abbrev pub plain_content : ℕ → Option Spelling
plain_content c = if nat_lt c 0x10000 then Some (record { unit = Some c; len = 1 }) else None

-- what stands behind the quote
abbrev pub content_at : List ℕ → Option Spelling
content_at [] = None
content_at (c ∷ cs) = if is_of (codes "'\n\r") c then None else if is_of (codes "\\") c then escaped_content cs else plain_content c

abbrev pub closed_unit : Option ℕ → ℕ → Piece
closed_unit (Some unit) n = piece.Token (tok.Char unit) (n + 2)
closed_unit None n = piece.Refused rule.BadEscape 1 1

-- a `'` stands behind so many characters
abbrev pub is_closed_at : List ℕ → ℕ → Bool
is_closed_at text at = begins (is_of (codes "'")) (drop at text)

abbrev pub closed_character : List ℕ → Option Spelling → Piece
closed_character text None = piece.Refused rule.OpenText 0 1
closed_character text (Some content) =
    if is_closed_at text content.len then closed_unit content.unit content.len else piece.Refused rule.OpenText 0 1

-- behind the quote
unfoldable pub character_piece : List ℕ → Piece
character_piece text = if is_symbol text then piece.Refused rule.LeftOutToken 0 (word_name_len text + 1) else closed_character text (content_at text)

-- ---- strings of one line

-- how many characters stand before the closing quote; before the text stand so many, the last of them a backslash that
-- escapes, or not
abbrev pub closing_quote : ℕ → Bool → List ℕ → Option ℕ
closing_quote n is_escaped [] = None
closing_quote n is_escaped (c ∷ cs) =
    if is_of (codes "\n\r") c then None
    else if not is_escaped && is_of (codes "\"") c then Some n
    else closing_quote (n + 1) (not is_escaped && is_of (codes "\\") c) cs

abbrev pub plain_units : List ℕ → List ℕ
plain_units text = flat_map encode_utf16 text

-- go on behind an escape: with the characters that still belong to it, and the units so far
abbrev pub after_escape : (ℕ → List ℕ → Result (List ℕ) ℕ) → ℕ → List ℕ → Option ℕ → ℕ → Result (List ℕ) ℕ
after_escape go at units (Some unit) n = go n (units ++ unit ∷ [])
after_escape go at units None n = Err at

-- The units of a text with escapes, behind these units, or how many characters stand before the first escape that is not
-- in the list. Before the text stand so many characters, and its first ones still belong to an escape.
abbrev pub escaped_units : ℕ → ℕ → List ℕ → List ℕ → Result (List ℕ) ℕ
escaped_units skipped at units [] = Ok units
escaped_units (suc n) at units (c ∷ cs) = escaped_units n (at + 1) units cs
escaped_units zero at units (c ∷ cs) =
    if is_of (codes "\\") c then after_escape (λ n us. escaped_units n (at + 1) us cs) at units (escape_at cs).unit (escape_at cs).len
    else escaped_units 0 (at + 1) (units ++ encode_utf16 c) cs

abbrev pub is_long : List ℕ → Bool
is_long units = nat_lt MAX_TEXT_BYTES (length (modified units))

abbrev pub string_of : List ℕ → ℕ → Piece
string_of units n = if is_long units then piece.Refused rule.LongText 0 n else piece.Token (tok.Str units) n

abbrev pub closed_line : ℕ → Result (List ℕ) ℕ → Piece
closed_line n (Ok units) = string_of units (n + 2)
closed_line n (Err at) = piece.Refused rule.BadEscape (at + 1) 1

abbrev pub line_piece : List ℕ → Option ℕ → Piece
line_piece text None = piece.Refused rule.OpenText 0 1
line_piece text (Some n) = closed_line n (escaped_units 0 0 [] (take n text))

-- behind the quote
unfoldable pub line_string : List ℕ → Piece
line_string text = line_piece text (closing_quote 0 false text)

-- ---- strings of many lines

-- the text begins with so many quotes, which may be followed by more
abbrev pub begins_quotes : ℕ → List ℕ → Bool
begins_quotes zero text = true
begins_quotes (suc n) [] = false
begins_quotes (suc n) (c ∷ cs) = is_of (codes "\"") c && begins_quotes n cs

-- how many characters stand before the closing quotes, which are the last three of the first run of three or more; before
-- the text stand so many
abbrev pub closing_quotes : ℕ → List ℕ → Option ℕ
closing_quotes n [] = None
closing_quotes n (c ∷ cs) = if begins_quotes 3 (c ∷ cs) && not (begins_quotes 4 (c ∷ cs)) then Some n else closing_quotes (n + 1) cs

abbrev pub lines_token : List ℕ → ℕ → Option ℕ → Piece
lines_token units n (Some at) = piece.Refused rule.LeftOutToken (at + 3) 2
lines_token units n None = piece.Token (tok.Str units) n

abbrev pub closed_lines : List ℕ → Piece
closed_lines content =
    if is_long (plain_units content) then piece.Refused rule.LongText 0 (length content + 6)
    else lines_token (plain_units content) (length content + 6) (escape_place 0 content)

abbrev pub lines_piece : List ℕ → Option ℕ → Piece
lines_piece text None = piece.Refused rule.OpenText 0 3
lines_piece text (Some n) = closed_lines (take n text)

-- behind the three quotes
unfoldable pub lines_string : List ℕ → Piece
lines_string text = lines_piece text (closing_quotes 0 text)

-- behind the first quote
abbrev pub string_piece : List ℕ → Piece
string_piece [] = line_string []
string_piece (c ∷ []) = line_string (c ∷ [])
string_piece (c ∷ d ∷ ds) = if is_of (codes "\"") c && is_of (codes "\"") d then lines_string ds else line_string (c ∷ d ∷ ds)

-- ---- backquoted identifiers

-- how many characters stand before the next backquote or line end
abbrev pub back_len : List ℕ → ℕ
back_len text = prefix_len (λ c. not (is_of (codes "`\n") c)) text

abbrev pub back_token : List ℕ → Option ℕ → Piece
back_token name (Some at) = piece.Refused rule.LeftOutToken (at + 1) 2
back_token name None = piece.Token (tok.Back name) (length name + 2)

abbrev pub closed_back : List ℕ → Piece
closed_back name =
    if nat_eq (length name) 0 || nat_lt MAX_NAME_BYTES (length (encode_utf8_all name)) then piece.Refused rule.BadName 0 (length name + 2)
    else back_token name (escape_place 0 name)

-- behind the backquote
unfoldable pub back_piece : List ℕ → Piece
back_piece text =
    if begins (is_of (codes "`")) (drop (back_len text) text) then closed_back (take (back_len text) text) else piece.Refused rule.OpenText 0 1
