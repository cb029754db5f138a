-- What stands between two tokens: SLS 1.2. A line end is U+000A; white space, and a line that has nothing else, may hold
-- spaces, tabs, form feeds and carriage returns.
use Rattle.std.specs.Prelude.{◌≡◌, ℕ, ◌+◌, ◌<◌, Bool, true, false, not, ◌&&◌, ◌||◌, List, [], ◌∷◌, ◌++◌, length, codes, take, Option, Some, None, IsTrue, if◌then◌else◌}
use Rattle.std.specs.List.{list_all}
use Rattle.std.specs.Str.{encode_utf8_all}
use Rattle.scw_lex.specs.declared.token.Gap.{Gap}
use Rattle.scw_lex.specs.declared.token.Gap.TheVariants as gap
use Rattle.scw_lex.specs.Character.{is_of}

abbrev pub is_line_end : ℕ → Bool
is_line_end c = is_of (codes "\n") c

abbrev pub is_blank : ℕ → Bool
is_blank c = is_of (codes " \t\r\u{c}") c

-- ---- in words

-- a line end, then white space alone, then a line end stand in the text
pub record HasBlankLine (text : List ℕ) : Type 0 where
  pub before : List ℕ
  pub line : List ℕ
  pub after : List ℕ
  pub whole : text ≡ before ++ (codes "\n" ++ (line ++ (codes "\n" ++ after)))
  pub blank : IsTrue (list_all is_blank line)

-- the first line end of the text, which begins at the one byte, is the other
pub record IsFirstLineEnd (at : ℕ) (text : List ℕ) (first : ℕ) : Type 0 where
  pub before : List ℕ
  pub after : List ℕ
  pub whole : text ≡ before ++ (codes "\n" ++ after)
  pub none : IsTrue (list_all (λ c. not (is_line_end c)) before)
  pub place : first ≡ at + length (encode_utf8_all before)

-- the text between two tokens, which begins at the byte, is this gap
abbrev pub IsGap : ℕ → List ℕ → Gap → Type 0
IsGap at text gap.Joined = IsTrue (list_all (λ c. not (is_line_end c)) text)
IsGap at text (gap.LineEnd first) = IsFirstLineEnd at text first × (HasBlankLine text → ⊥)
IsGap at text (gap.BlankLine first) = IsFirstLineEnd at text first × HasBlankLine text

-- ---- as it is found

-- how many characters stand before the first line end; before the text stand so many
abbrev pub line_end : ℕ → List ℕ → Option ℕ
line_end n [] = None
line_end n (c ∷ cs) = if is_line_end c then Some n else line_end (n + 1) cs

-- a blank line stands in the text; white space alone stands before it, back to a line end, or not
abbrev pub has_blank_line : Bool → List ℕ → Bool
has_blank_line is_open [] = false
has_blank_line is_open (c ∷ cs) = if is_line_end c then is_open || has_blank_line true cs else has_blank_line (is_open && is_blank c) cs

abbrev pub ended : ℕ → List ℕ → Option ℕ → Gap
ended at text None = gap.Joined
ended at text (Some n) =
    if has_blank_line false text then gap.BlankLine (at + length (encode_utf8_all (take n text)))
    else gap.LineEnd (at + length (encode_utf8_all (take n text)))

-- the gap that the text is, which begins at the byte
unfoldable pub gap_of : ℕ → List ℕ → Gap
gap_of at text = ended at text (line_end 0 text)
