-- How the next token is found. No public clause cites this file: it says of each step of the reader what it gives, and
-- proofs/LexingLemmas.antt says that this is what the layout asks for.
use Rattle.std.specs.Prelude.{ℕ, max, Bool, false, ◌&&◌, ◌||◌, if◌then◌else◌, nat_lt, nat_le, List, [], ◌∷◌, length, take, drop, map, codes, Option, Some, None, ◌^◌}
use Rattle.std.specs.List.{prefix_len}
use Rattle.std.specs.Str.{bytes_eq}
use Rattle.std.specs.Str.Parse.{digits_value}
use Rattle.scw_reader.specs.declared.token.Word.{Word}
use Rattle.scw_reader.specs.declared.token.Sign.{Sign}
use Rattle.scw_reader.specs.declared.token.Token.{Token}
use Rattle.scw_reader.specs.declared.token.Token.TheVariants as token
use Rattle.scw_reader.specs.declared.token.TheConstants.{WORDS, SIGNS, MAX_INT, MAX_LONG}
use Rattle.scw_reader.specs.declared.class.Class.{Class}
use Rattle.scw_reader.specs.declared.class.Class.TheVariants as class
use Rattle.scw_reader.specs.Character.{is_of, is_in}
use Rattle.scw_reader.specs.Token.{is_name}
use Rattle.scw_reader.specs.Layout.{goes_on, is_gap, is_after_lines}
use Rattle.scw_reader.specs.Outcome.{◌>>=◌}

-- the characters of the class that the bytes begin with, and what follows them
abbrev pub front : Class → List ℕ → List ℕ
front class bytes = take (prefix_len (is_in class) bytes) bytes

abbrev pub after : Class → List ℕ → List ℕ
after class bytes = drop (prefix_len (is_in class) bytes) bytes

-- the token, and the bytes that follow it
abbrev pub with_rest : List ℕ → Option Token → Option (Token × List ℕ)
with_rest rest None = None
with_rest rest (Some t) = Some (t, rest)

-- what stands in the table beside the text
abbrev pub lookup : {A : Type 0} → List (List ℕ × A) → List ℕ → Option A
lookup [] text = None
lookup (e ∷ es) text = if bytes_eq e.0 text then Some e.1 else lookup es text

unfoldable pub word_of : List ℕ → Option Word
word_of text = lookup (map (λ e. (e.0.now, e.1)) WORDS) text

unfoldable pub sign_of : List ℕ → Option Sign
sign_of text = lookup (map (λ e. (e.0.now, e.1)) SIGNS) text

abbrev pub named : List ℕ → Option Word → Option Token
named text (Some w) = Some (token.Word w)
named text None = if is_name text then Some (token.Name text) else None

unfoldable pub word_at : List ℕ → Option (Token × List ℕ)
word_at bytes = with_rest (after class.Word bytes) (named (front class.Word bytes) (word_of (front class.Word bytes)))

abbrev pub has_leading_zero : List ℕ → Bool
has_leading_zero [] = false
has_leading_zero (c ∷ []) = false
has_leading_zero (c ∷ d ∷ ds) = is_of (codes "0") c

-- the number of some digits that fits 64 bits
abbrev pub value_of : List ℕ → Option ℕ
value_of digits = if nat_lt 0 (length digits) && nat_lt (digits_value 10 digits) (2 ^ 64) then Some (digits_value 10 digits) else None

-- the number of digits without a leading zero
unfoldable pub numeral : List ℕ → Option ℕ
numeral digits = if has_leading_zero digits then None else value_of digits

abbrev pub int_of : ℕ → Option Token
int_of n = if nat_le n MAX_INT then Some (token.Int n) else None

abbrev pub long_of : ℕ → Option Token
long_of n = if nat_le n MAX_LONG then Some (token.Long n) else None

abbrev pub suffixed : ℕ → List ℕ → Option (Token × List ℕ)
suffixed n [] = with_rest [] (int_of n)
suffixed n (c ∷ cs) = if is_of (codes "L") c then with_rest cs (long_of n) else with_rest (c ∷ cs) (int_of n)

unfoldable pub number_at : List ℕ → Option (Token × List ℕ)
number_at bytes = numeral (front class.Digit bytes) >>= λ n. suffixed n (after class.Digit bytes)

abbrev pub closed : List ℕ → List ℕ → Option (Token × List ℕ)
closed text [] = None
closed text (c ∷ cs) = if is_of (codes "\"") c then Some (token.Text text, cs) else None

-- behind the first quote
unfoldable pub text_at : List ℕ → Option (Token × List ℕ)
text_at bytes = closed (front class.Text bytes) (after class.Text bytes)

-- an operator as long as it can be, or one other character
abbrev pub sign_len : List ℕ → ℕ
sign_len bytes = max 1 (prefix_len (is_in class.Operator) bytes)

abbrev pub signed : Option Sign → Option Token
signed None = None
signed (Some s) = Some (token.Sign s)

unfoldable pub sign_at : List ℕ → Option (Token × List ℕ)
sign_at bytes = with_rest (drop (sign_len bytes) bytes) (signed (sign_of (take (sign_len bytes) bytes)))

abbrev pub some_token_at : List ℕ → Option (Token × List ℕ)
some_token_at [] = None
some_token_at (c ∷ cs) =
    if is_in class.Digit c then number_at (c ∷ cs) else (if is_in class.Word c then word_at (c ∷ cs)
    else (if is_of (codes "\"") c then text_at cs else sign_at (c ∷ cs)))

-- the token that the bytes begin with, and what follows it
unfoldable pub token_at : List ℕ → Option (Token × List ℕ)
token_at bytes = some_token_at bytes >>= λ p. (if goes_on p.0 p.1 then None else Some p)

abbrev pub behind : Bool → List ℕ → List ℕ → Option (Option (Token × List ℕ))
behind lines gap [] = Some None
behind lines gap (c ∷ cs) = token_at (c ∷ cs) >>= λ p. (if is_gap (lines || is_after_lines p.0) gap then Some (Some p) else None)

-- the next token and what follows it, or nothing at the end
unfoldable pub next_at : Bool → List ℕ → Option (Option (Token × List ℕ))
next_at lines bytes = behind lines (front class.Blank bytes) (after class.Blank bytes)
