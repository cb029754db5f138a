-- The texts of tokens, and of what is left out of the language or breaks a limit, whole: SLS 1.1 and 1.3. Each is a front of
-- what is left of a source, before a rest; the rest counts only where a comment begins, where quotes go on, and where an
-- identifier stands directly before a string or an escape.
use Rattle.std.specs.Prelude.{◌≡◌, ℕ, ◌+◌, ◌<◌, Bool, true, false, not, List, [], ◌∷◌, ◌++◌, length, codes, Some, None, IsTrue}
use Rattle.std.specs.List.{list_all}
use Rattle.std.specs.Char.{is_ascii_digit, is_ascii_hexdigit}
use Rattle.std.specs.Char.Escape.{encode_utf16}
use Rattle.std.specs.Str.Parse.{digits_value}
use Rattle.scw_text.specs.declared.rule.Rule.TheVariants as rule
use Rattle.scw_lex.specs.declared.escape.TheConstants.{ESCAPES}
use Rattle.scw_lex.specs.declared.piece.Piece.{Piece}
use Rattle.scw_lex.specs.declared.piece.Piece.TheVariants as piece
use Rattle.scw_lex.specs.declared.reserved.Reserved.{Reserved}
use Rattle.scw_lex.specs.declared.token.Tok.TheVariants as tok
use Rattle.scw_lex.specs.Character.{is_of, begins, is_word, is_letter, is_operator}
use Rattle.scw_lex.specs.Reserved.{token_of, word_of, separator}
use Rattle.scw_lex.specs.Name.{begins_comment, named}
use Rattle.scw_lex.specs.Number.{value_of, hex_int, hex_long, decimal_number}
use Rattle.scw_lex.specs.Escape.{unit_in}
use Rattle.scw_lex.specs.Literal.{string_of, closed_lines, closed_back}

-- ---- identifiers: SLS 1.1

-- a letter, and then letters and digits
pub record IsWord (text : List ℕ) : Type 0 where
  pub letter : IsTrue (begins is_letter text)
  pub word : IsTrue (list_all is_word text)

-- operator characters, at least one; no comment begins in them before this rest
pub record IsOperator (text rest : List ℕ) : Type 0 where
  pub any : 0 < length text
  pub operator : IsTrue (list_all is_operator text)
  pub no_comment : (before more : List ℕ) → text ≡ before ++ more → 0 < length more → begins_comment (more ++ rest) ≡ false

-- an identifier without backquotes, or a reserved word or sign
pub data IsIdentifier : List ℕ → List ℕ → Type 0 where
  word : {text rest : List ℕ} → IsWord text → IsIdentifier text rest
  joined : {text operator rest : List ℕ} → IsWord text → IsOperator operator rest → IsIdentifier (text ++ (codes "_" ++ operator)) rest
  operator : {text rest : List ℕ} → IsOperator text rest → IsIdentifier text rest

-- ---- numbers: SLS 1.3.1 and 1.3.2

abbrev pub AreDigits : (ℕ → Bool) → List ℕ → Type 0
AreDigits test text = (0 < length text) × IsTrue (list_all test text)

abbrev pub IsOneOf : List ℕ → ℕ → Type 0
IsOneOf text c = IsTrue (is_of text c)

-- a fraction: a point and digits
pub data IsFraction : List ℕ → Type 0 where
  fraction : {digits : List ℕ} → AreDigits is_ascii_digit digits → IsFraction (codes "." ++ digits)

pub data IsExponent : List ℕ → Type 0 where
  plain : {e : ℕ} {digits : List ℕ} → IsOneOf (codes "eE") e → AreDigits is_ascii_digit digits → IsExponent (e ∷ digits)
  signed : {e sign : ℕ} {digits : List ℕ} → IsOneOf (codes "eE") e → IsOneOf (codes "+-") sign → AreDigits is_ascii_digit digits → IsExponent (e ∷ sign ∷ digits)

pub data IsFloatType : List ℕ → Type 0 where
  suffix : {c : ℕ} → IsOneOf (codes "fFdD") c → IsFloatType (c ∷ [])

-- the part, or nothing
abbrev pub IsOptional : (List ℕ → Type 0) → List ℕ → Type 0
IsOptional Is [] = Unit {0}
IsOptional Is (c ∷ cs) = Is (c ∷ cs)

-- digits, or none before a fraction; then a fraction, an exponent, a type, at least one of the three
pub record IsFloating (text : List ℕ) : Type 0 where
  pub digits : List ℕ
  pub fraction : List ℕ
  pub exponent : List ℕ
  pub suffix : List ℕ
  pub whole : text ≡ digits ++ (fraction ++ (exponent ++ suffix))
  pub digits_are : IsTrue (list_all is_ascii_digit digits)
  pub fraction_is : IsOptional IsFraction fraction
  pub exponent_is : IsOptional IsExponent exponent
  pub suffix_is : IsOptional IsFloatType suffix
  pub begun : 0 < length digits + length fraction
  pub any : 0 < length fraction + (length exponent + length suffix)

-- ---- characters and strings: SLS 1.3.4 to 1.3.6

-- an escape, with the code unit that it stands for
pub data IsEscape : List ℕ → ℕ → Type 0 where
  simple : {c unit : ℕ} → unit_in ESCAPES c ≡ Some unit → IsEscape (codes "\\" ++ (c ∷ [])) unit
  unicode : {digits : List ℕ} → IsTrue (list_all is_ascii_hexdigit digits) → length digits ≡ 4 → IsEscape (codes "\\u" ++ digits) (digits_value 16 digits)

-- what stands in the place of an escape between the quotes of a character, and is none
pub data IsBadEscape : List ℕ → Type 0 where
  simple : {c : ℕ} → IsTrue (not (is_of (codes "u\n\r") c)) → unit_in ESCAPES c ≡ None → IsBadEscape (codes "\\" ++ (c ∷ []))
  unicode : {digits : List ℕ} → IsTrue (list_all is_ascii_hexdigit digits) → length digits < 4 → IsBadEscape (codes "\\u" ++ digits)

-- what stands between the quotes of a character, with its code unit
pub data IsContent : List ℕ → ℕ → Type 0 where
  plain : {c : ℕ} → IsTrue (not (is_of (codes "'\\\n\r") c)) → c < 0x10000 → IsContent (c ∷ []) c
  escape : {text : List ℕ} {unit : ℕ} → IsEscape text unit → IsContent text unit

-- what stands between the quotes of a string of one line, with its code units
pub data Spells : List ℕ → List ℕ → Type 0 where
  none : Spells [] []
  plain : {c : ℕ} {text units : List ℕ} → IsTrue (not (is_of (codes "\"\\\n\r") c)) → Spells text units → Spells (c ∷ text) (encode_utf16 c ++ units)
  escape : {e text units : List ℕ} {unit : ℕ} → IsEscape e unit → Spells text units → Spells (e ++ text) (unit ∷ units)

-- the same without regard to the list of escapes: a backslash takes the next character with it
pub data IsLine : List ℕ → Type 0 where
  none : IsLine []
  plain : {c : ℕ} {text : List ℕ} → IsTrue (not (is_of (codes "\"\\\n\r") c)) → IsLine text → IsLine (c ∷ text)
  pair : {c : ℕ} {text : List ℕ} → IsTrue (not (is_of (codes "\n\r") c)) → IsLine text → IsLine (codes "\\" ++ (c ∷ text))

-- no escape begins with the backslash behind so much of the text, and before it all escapes are in the list
pub record HasBadEscape (text : List ℕ) (at : ℕ) : Type 0 where
  pub good : List ℕ
  pub units : List ℕ
  pub rest : List ℕ
  pub whole : text ≡ good ++ (codes "\\" ++ rest)
  pub place : at ≡ length good
  pub spelled : Spells good units
  pub bad : (e more : List ℕ) (unit : ℕ) → codes "\\" ++ rest ≡ e ++ more → IsEscape e unit → ⊥

-- the text has no run of three quotes, and doesn't end with a quote
pub record HasNoRun (text : List ℕ) : Type 0 where
  pub no_three : (before after : List ℕ) → text ≡ before ++ (codes "\"\"\"" ++ after) → ⊥
  pub no_last : (before : List ℕ) → text ≡ before ++ codes "\"" → ⊥

abbrev pub is_quote : ℕ → Bool
is_quote c = is_of (codes "\"") c

-- ---- all of them

-- what becomes of the front of a text, before this rest; all lengths count characters
pub data Lexical : List ℕ → List ℕ → Piece → Type 0 where
  identifier : {text rest : List ℕ} → IsIdentifier text rest → Lexical text rest (named text rest (word_of text))
  backquoted : (name : List ℕ) {rest : List ℕ} → IsTrue (list_all (λ c. not (is_of (codes "`\n") c)) name) → Lexical (codes "`" ++ (name ++ codes "`")) rest (closed_back name)
  sign : {c : ℕ} {rest : List ℕ} {w : Reserved} → separator c ≡ Some w → Lexical (c ∷ []) rest (piece.Token (token_of w) 1)
  decimal : {digits rest : List ℕ} → AreDigits is_ascii_digit digits → Lexical digits rest (decimal_number digits false)
  decimal_long : (digits : List ℕ) (l : ℕ) {rest : List ℕ} → AreDigits is_ascii_digit digits → IsOneOf (codes "lL") l → Lexical (digits ++ (l ∷ [])) rest (decimal_number digits true)
  hexadecimal : {x : ℕ} {digits rest : List ℕ} → IsOneOf (codes "xX") x → AreDigits is_ascii_hexdigit digits
      → Lexical (codes "0" ++ (x ∷ digits)) rest (hex_int (value_of 16 digits) (length digits + 2))
  hexadecimal_long : (digits : List ℕ) (x l : ℕ) {rest : List ℕ} → IsOneOf (codes "xX") x → AreDigits is_ascii_hexdigit digits → IsOneOf (codes "lL") l
      → Lexical (codes "0" ++ (x ∷ (digits ++ (l ∷ [])))) rest (hex_long (value_of 16 digits) (length digits + 3))
  floating : {text rest : List ℕ} → IsFloating text → Lexical text rest (piece.Refused rule.BadNumber 0 (length text))
  character : {content rest : List ℕ} {unit : ℕ} → IsContent content unit → Lexical (codes "'" ++ (content ++ codes "'")) rest (piece.Token (tok.Char unit) (length content + 2))
  bad_character : {content rest : List ℕ} → IsBadEscape content → Lexical (codes "'" ++ (content ++ codes "'")) rest (piece.Refused rule.BadEscape 1 1)
  -- the letter behind the quote isn't itself directly followed by a quote
  symbol : {c : ℕ} {name rest : List ℕ} → IsIdentifier (c ∷ name) rest → IsTrue (is_letter c) → begins (is_of (codes "'")) (name ++ rest) ≡ false
      → Lexical (codes "'" ++ (c ∷ name)) rest (piece.Refused rule.LeftOutToken 0 (length (c ∷ name) + 1))
  string : {content units rest : List ℕ} → Spells content units → (content ≡ [] → begins is_quote rest ≡ false)
      → Lexical (codes "\"" ++ (content ++ codes "\"")) rest (string_of units (length content + 2))
  bad_string : {content rest : List ℕ} {at : ℕ} → IsLine content → HasBadEscape content at → Lexical (codes "\"" ++ (content ++ codes "\"")) rest (piece.Refused rule.BadEscape (at + 1) 1)
  lines : (before quotes : List ℕ) {rest : List ℕ} → HasNoRun before → IsTrue (list_all is_quote quotes) → begins is_quote rest ≡ false
      → Lexical (codes "\"\"\"" ++ ((before ++ quotes) ++ codes "\"\"\"")) rest (closed_lines (before ++ quotes))
