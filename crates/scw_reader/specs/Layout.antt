-- How tokens stand in a source: each is the longest that begins at its place (SLS 1), with spaces between them. A line
-- feed may stand only behind `;` or `{`, before `}`, and at the end. There are no tabs and no comments.
use Rattle.std.specs.Prelude.{◌≡◌, ℕ, Bool, true, false, not, ◌&&◌, ◌||◌, nat_eq, List, [], ◌∷◌, ◌++◌, codes, IsTrue}
use Rattle.std.specs.Char.{is_ascii_digit, is_ascii_hexdigit}
use Rattle.std.specs.List.{list_all}
use Rattle.scw_reader.specs.declared.token.Sign.TheVariants as sign
use Rattle.scw_reader.specs.declared.token.Token.{Token}
use Rattle.scw_reader.specs.declared.token.Token.TheVariants as token
use Rattle.scw_reader.specs.declared.class.Class.TheVariants as class
use Rattle.scw_reader.specs.Character.{is_of, is_in}
use Rattle.scw_reader.specs.Token.{sign_text, token_text, begins, is_token}

-- ---- the longest token

-- the digits of an exponent, which may have a sign: SLS 1.3.2
abbrev pub is_exponent : List ℕ → Bool
is_exponent [] = false
is_exponent (c ∷ cs) = is_ascii_digit c || (is_of (codes "+-") c && begins is_ascii_digit cs)

-- The bytes behind decimal digits make a longer number of them: a digit, the suffix of a long or of a floating form, an
-- exponent, a fraction, or the digits of a hexadecimal number behind `0`: SLS 1.3.1 and 1.3.2. So `1else` has two tokens,
-- and `1def` has none.
abbrev pub number_goes_on : ℕ → List ℕ → Bool
number_goes_on n [] = false
number_goes_on n (c ∷ cs) =
    is_ascii_digit c || (is_of (codes "LlFfDd") c || ((is_of (codes "Ee") c && is_exponent cs)
    || ((is_of (codes ".") c && begins is_ascii_digit cs) || (nat_eq n 0 && (is_of (codes "Xx") c && begins is_ascii_hexdigit cs)))))

-- The bytes behind the token make a longer one of it. An empty text and one more quote begin a text of many lines
-- (SLS 1.3.5).
abbrev pub goes_on : Token → List ℕ → Bool
goes_on (token.Word w) bytes = begins (is_in class.Word) bytes
goes_on (token.Sign s) bytes = begins (is_in class.Operator) (sign_text s) && begins (is_in class.Operator) bytes
goes_on (token.Name name) bytes = begins (is_in class.Word) bytes
goes_on (token.Int n) bytes = number_goes_on n bytes
goes_on (token.Long n) bytes = false
goes_on (token.Text []) bytes = begins (is_of (codes "\"")) bytes
goes_on (token.Text (c ∷ cs)) bytes = false

-- ---- the gaps

-- line feeds may stand behind the token
abbrev pub is_before_lines : Token → Bool
is_before_lines (token.Sign sign.Semicolon) = true
is_before_lines (token.Sign sign.OpenBrace) = true
is_before_lines _ = false

-- line feeds may stand before the token
abbrev pub is_after_lines : Token → Bool
is_after_lines (token.Sign sign.CloseBrace) = true
is_after_lines _ = false

abbrev pub is_gap_char : Bool → ℕ → Bool
is_gap_char lines c = is_of (codes " ") c || (lines && is_of (codes "\n") c)

-- spaces, and line feeds where they may stand
abbrev pub is_gap : Bool → List ℕ → Bool
is_gap lines gap = list_all (is_gap_char lines) gap

-- ---- the source

-- the bytes are a gap, the token, and a rest of which the fact holds; line feeds may stand in the gap or not
pub record Begins (lines : Bool) (bytes : List ℕ) (t : Token) (Rest : List ℕ → Type 0) : Type 0 where
  pub gap : List ℕ
  pub rest : List ℕ
  pub whole : bytes ≡ gap ++ (token_text t ++ rest)
  pub blank : IsTrue (is_gap (lines || is_after_lines t) gap)
  pub token : IsTrue (is_token t)
  pub longest : IsTrue (not (goes_on t rest))
  pub follows : Rest rest

-- the bytes are these tokens, with gaps between them; line feeds may stand in the first gap or not
abbrev pub AreFrom : Bool → List ℕ → List Token → Type 0
AreFrom lines bytes [] = IsTrue (is_gap true bytes)
AreFrom lines bytes (t ∷ ts) = Begins lines bytes t (λ rest. AreFrom (is_before_lines t) rest ts)

-- the bytes are these tokens
abbrev pub Spelled : List ℕ → List Token → Type 0
Spelled bytes tokens = AreFrom false bytes tokens
