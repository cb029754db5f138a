-- How a number is found: SLS 1.3.1, with the floating forms of 1.3.2. No public clause cites this file: it says of each
-- step of the lexer what it gives.
use Rattle.std.specs.Prelude.{ℕ, ◌+◌, ◌^◌, Bool, true, false, ◌&&◌, nat_eq, nat_lt, nat_le, List, [], ◌∷◌, length, take, drop, codes, Option, Some, None, if◌then◌else◌}
use Rattle.std.specs.List.{prefix_len}
use Rattle.std.specs.Char.{is_ascii_digit, is_ascii_hexdigit}
use Rattle.std.specs.Str.Parse.{digits_value}
use Rattle.scw_text.specs.declared.rule.Rule.TheVariants as rule
use Rattle.scw_lex.specs.declared.number.TheConstants.{MAX_INT, MAX_LONG, MAX_INT_BITS}
use Rattle.scw_lex.specs.declared.piece.Piece.{Piece}
use Rattle.scw_lex.specs.declared.piece.Piece.TheVariants as piece
use Rattle.scw_lex.specs.declared.token.Tok.TheVariants as tok
use Rattle.scw_lex.specs.Character.{is_of, begins}

-- the number of the digits, if it has at most 64 bits
unfoldable pub value_of : ℕ → List ℕ → Option ℕ
value_of radix digits = if nat_lt (digits_value radix digits) (2 ^ 64) then Some (digits_value radix digits) else None

abbrev pub begins_long : List ℕ → Bool
begins_long text = begins (is_of (codes "lL")) text

-- ---- hexadecimal numbers, which give bits

abbrev pub hex_int : Option ℕ → ℕ → Piece
hex_int None len = piece.Refused rule.BadNumber 0 len
hex_int (Some value) len = if nat_le value MAX_INT_BITS then piece.Token (tok.Int value) len else piece.Refused rule.BadNumber 0 len

abbrev pub hex_long : Option ℕ → ℕ → Piece
hex_long None len = piece.Refused rule.BadNumber 0 len
hex_long (Some value) len = piece.Token (tok.Long value) len

-- of these digits, before this rest
abbrev pub hex_of : List ℕ → List ℕ → Piece
hex_of digits rest =
    if begins_long rest then hex_long (value_of 16 digits) (length digits + 3) else hex_int (value_of 16 digits) (length digits + 2)

-- behind `0x`
unfoldable pub hex_number : List ℕ → Piece
hex_number text = hex_of (take (prefix_len is_ascii_hexdigit text) text) (drop (prefix_len is_ascii_hexdigit text) text)

-- ---- decimal numbers

abbrev pub has_leading_zero : List ℕ → Bool
has_leading_zero [] = false
has_leading_zero (c ∷ []) = false
has_leading_zero (c ∷ d ∷ ds) = is_of (codes "0") c

abbrev pub int_of : ℕ → ℕ → Piece
int_of value len =
    if nat_le value MAX_INT then piece.Token (tok.Int value) len
    else if nat_eq value (MAX_INT + 1) then piece.Token tok.MinInt len
    else piece.Refused rule.BadNumber 0 len

abbrev pub long_of : ℕ → ℕ → Piece
long_of value len =
    if nat_le value MAX_LONG then piece.Token (tok.Long value) len
    else if nat_eq value (MAX_LONG + 1) then piece.Token tok.MinLong len
    else piece.Refused rule.BadNumber 0 len

abbrev pub decimal_value : List ℕ → Option ℕ
decimal_value digits = if has_leading_zero digits then None else value_of 10 digits

abbrev pub suffixed : Bool → ℕ → Option ℕ → Piece
suffixed true n None = piece.Refused rule.BadNumber 0 (n + 1)
suffixed true n (Some value) = long_of value (n + 1)
suffixed false n None = piece.Refused rule.BadNumber 0 n
suffixed false n (Some value) = int_of value n

-- long or not
abbrev pub decimal_number : List ℕ → Bool → Piece
decimal_number digits is_long = suffixed is_long (length digits) (decimal_value digits)

-- ---- floating forms

-- one more than the digits, if there are any
abbrev pub with_digits : ℕ → ℕ
with_digits n = if nat_eq n 0 then 0 else 1 + n

-- a point and digits
abbrev pub fraction_len : List ℕ → ℕ
fraction_len [] = 0
fraction_len (c ∷ cs) = if is_of (codes ".") c then with_digits (prefix_len is_ascii_digit cs) else 0

-- digits of an exponent, with a sign or without one
abbrev pub signed_len : List ℕ → ℕ
signed_len [] = 0
signed_len (c ∷ cs) = if is_of (codes "+-") c then with_digits (prefix_len is_ascii_digit cs) else prefix_len is_ascii_digit (c ∷ cs)

abbrev pub exponent_len : List ℕ → ℕ
exponent_len [] = 0
exponent_len (c ∷ cs) = if is_of (codes "eE") c then with_digits (signed_len cs) else 0

abbrev pub suffix_len : List ℕ → ℕ
suffix_len text = if begins (is_of (codes "fFdD")) text then 1 else 0

abbrev pub after_fraction : ℕ → List ℕ → ℕ
after_fraction fraction rest = fraction + exponent_len rest + suffix_len (drop (exponent_len rest) rest)

-- how many characters behind digits make a floating form of them
unfoldable pub float_len : List ℕ → ℕ
float_len text = after_fraction (fraction_len text) (drop (fraction_len text) text)

-- ---- the number that begins the text

abbrev pub decimal_of : List ℕ → List ℕ → Piece
decimal_of digits rest =
    if nat_lt 0 (float_len rest) then piece.Refused rule.BadNumber 0 (length digits + float_len rest) else decimal_number digits (begins_long rest)

unfoldable pub decimal_piece : List ℕ → Piece
decimal_piece text = decimal_of (take (prefix_len is_ascii_digit text) text) (drop (prefix_len is_ascii_digit text) text)

unfoldable pub number_piece : List ℕ → Piece
number_piece [] = decimal_piece []
number_piece (c ∷ []) = decimal_piece (c ∷ [])
number_piece (c ∷ d ∷ ds) =
    if is_of (codes "0") c && (is_of (codes "xX") d && begins is_ascii_hexdigit ds) then hex_number ds else decimal_piece (c ∷ d ∷ ds)

-- a point, or a floating form that begins with it
abbrev pub point_piece : List ℕ → Piece
point_piece text = if nat_lt 0 (fraction_len text) then piece.Refused rule.BadNumber 0 (float_len text) else piece.Token tok.KwDot 1
