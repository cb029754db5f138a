-- Escapes: SLS 1.3.6, and `\u` of SLS 1.1. No public clause cites this file: it says of each step of the lexer what it
-- gives.
use Rattle.std.specs.Prelude.{ℕ, ◌+◌, ◌*◌, min, Bool, true, false, ◌&&◌, nat_eq, nat_lt, List, [], ◌∷◌, codes, Option, Some, None, if◌then◌else◌}
use Rattle.std.specs.List.{prefix_len}
use Rattle.std.specs.Char.{is_ascii_hexdigit, digit_value}
use Rattle.scw_lex.specs.declared.escape.Spelling.{Spelling}
use Rattle.scw_lex.specs.declared.escape.TheConstants.{ESCAPES}
use Rattle.scw_lex.specs.Character.{is_of, begins}

-- the code unit that the table has for the character
abbrev pub unit_in : List (ℕ × ℕ) → ℕ → Option ℕ
unit_in [] c = None
unit_in (e ∷ es) c = if nat_eq e.0 c then Some e.1 else unit_in es c

-- the number of a hexadecimal digit, and 0 for what is none
abbrev pub hex_value : ℕ → ℕ
hex_value c = if nat_lt (digit_value c) 16 then digit_value c else 0

-- the code unit that four digits write
abbrev pub four_digits : List ℕ → ℕ
four_digits [] = 0
four_digits (a ∷ []) = 0
four_digits (a ∷ b ∷ []) = 0
four_digits (a ∷ b ∷ c ∷ []) = 0
four_digits (a ∷ b ∷ c ∷ d ∷ ds) = ((hex_value a * 16 + hex_value b) * 16 + hex_value c) * 16 + hex_value d

abbrev pub of_digits : ℕ → List ℕ → Spelling
of_digits n text = if nat_eq n 4 then record { unit = Some (four_digits text); len = n + 1 } else record { unit = None; len = n + 1 }

-- behind `\u`: four hexadecimal digits, or less, which make no escape
abbrev pub unicode_escape : List ℕ → Spelling
unicode_escape text = of_digits (min (prefix_len is_ascii_hexdigit text) 4) text

-- behind the backslash
abbrev pub escape_at : List ℕ → Spelling
escape_at [] = record { unit = None; len = 0 }
escape_at (c ∷ cs) = if is_of (codes "u") c then unicode_escape cs else record { unit = unit_in ESCAPES c; len = 1 }

-- how many characters stand before the first `\u`, if there is one, behind so many others
abbrev pub escape_place : ℕ → List ℕ → Option ℕ
escape_place n [] = None
escape_place n (c ∷ cs) = if is_of (codes "\\") c && begins (is_of (codes "u")) cs then Some n else escape_place (n + 1) cs
