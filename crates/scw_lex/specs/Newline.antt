-- Where a line end is a newline token: SLS 1.2. It is said of the whole list of lexemes.
use Rattle.std.specs.Prelude.{◌≡◌, ◌≢◌, ℕ, ◌+◌, ◌^◌, ◌<◌, Bool, true, false, List, [], ◌∷◌, ◌++◌, Option, Some, None, IsTrue}
use Rattle.scw_text.specs.declared.span.Span.{Span}
use Rattle.scw_lex.specs.declared.token.Tok.{Tok}
use Rattle.scw_lex.specs.declared.token.Tok.TheVariants as tok
use Rattle.scw_lex.specs.declared.token.Token.{Token}
use Rattle.scw_lex.specs.declared.token.Gap.{Gap}
use Rattle.scw_lex.specs.declared.token.Gap.TheVariants as gap
use Rattle.scw_lex.specs.declared.token.Lexeme.{Lexeme}
use Rattle.scw_lex.specs.declared.bracket.Bracket.{Bracket}
use Rattle.scw_lex.specs.declared.bracket.Bracket.TheVariants as bracket
use Rattle.scw_lex.specs.declared.bracket.Mark.{Mark}
use Rattle.scw_lex.specs.declared.bracket.Mark.TheVariants as mark

-- ---- the ends and beginnings of statements

-- the token can end a statement
abbrev pub can_end : Tok → Bool
can_end (tok.Int n) = true
can_end (tok.Long n) = true
can_end tok.MinInt = true
can_end tok.MinLong = true
can_end (tok.Char c) = true
can_end (tok.Str text) = true
can_end (tok.Id name) = true
can_end (tok.Back name) = true
can_end tok.KwThis = true
can_end tok.KwNull = true
can_end tok.KwTrue = true
can_end tok.KwFalse = true
can_end tok.KwReturn = true
can_end tok.KwType = true
can_end tok.KwUnderscore = true
can_end tok.KwCloseParenthesis = true
can_end tok.KwCloseBracket = true
can_end tok.KwCloseBrace = true
can_end _ = false

-- a class or an object begins with the token, behind its modifiers
abbrev pub is_template : Tok → Bool
is_template tok.KwClass = true
is_template tok.KwObject = true
is_template _ = false

-- The token can begin a statement: `case` where a class or an object follows, and nothing before the end of the source.
abbrev pub can_begin : Tok → Bool → Bool
can_begin tok.KwCase is_before_template = is_before_template
can_begin tok.KwCatch is_before_template = false
can_begin tok.KwElse is_before_template = false
can_begin tok.KwExtends is_before_template = false
can_begin tok.KwFinally is_before_template = false
can_begin tok.KwForSome is_before_template = false
can_begin tok.KwMatch is_before_template = false
can_begin tok.KwWith is_before_template = false
can_begin tok.KwYield is_before_template = false
can_begin tok.KwComma is_before_template = false
can_begin tok.KwDot is_before_template = false
can_begin tok.KwSemicolon is_before_template = false
can_begin tok.KwColon is_before_template = false
can_begin tok.KwEquals is_before_template = false
can_begin tok.KwArrow is_before_template = false
can_begin tok.KwLeftArrow is_before_template = false
can_begin tok.KwUpperBound is_before_template = false
can_begin tok.KwViewBound is_before_template = false
can_begin tok.KwLowerBound is_before_template = false
can_begin tok.KwHash is_before_template = false
can_begin tok.KwOpenBracket is_before_template = false
can_begin tok.KwCloseParenthesis is_before_template = false
can_begin tok.KwCloseBracket is_before_template = false
can_begin tok.KwCloseBrace is_before_template = false
can_begin tok.Nl is_before_template = false
can_begin tok.Nl2 is_before_template = false
can_begin tok.Eof is_before_template = false
can_begin _ is_before_template = true

-- the last of the lexemes can end a statement
abbrev pub ends : List Lexeme → Bool
ends [] = false
ends (x ∷ []) = can_end x.token.kind
ends (x ∷ (y ∷ ys)) = ends (y ∷ ys)

-- the lexemes begin with `class` or `object`
abbrev pub begins_template : List Lexeme → Bool
begins_template [] = false
begins_template (x ∷ xs) = is_template x.token.kind

-- ---- brackets

-- `case` is a bracket up to its `=>`, but not where it belongs to a class or an object
abbrev pub mark_of : Tok → Bool → Mark
mark_of tok.KwOpenParenthesis is_before_template = mark.Opens bracket.Parenthesis
mark_of tok.KwCloseParenthesis is_before_template = mark.Closes bracket.Parenthesis
mark_of tok.KwOpenBracket is_before_template = mark.Opens bracket.Square
mark_of tok.KwCloseBracket is_before_template = mark.Closes bracket.Square
mark_of tok.KwOpenBrace is_before_template = mark.Opens bracket.Brace
mark_of tok.KwCloseBrace is_before_template = mark.Closes bracket.Brace
mark_of tok.KwCase true = mark.Neither
mark_of tok.KwCase false = mark.Opens bracket.Case
mark_of tok.KwArrow is_before_template = mark.Closes bracket.Case
mark_of _ is_before_template = mark.Neither

-- what each of the lexemes is among the brackets, where others follow them
abbrev pub marks_of : List Lexeme → List Lexeme → List Mark
marks_of [] after = []
marks_of (x ∷ xs) after = mark_of x.token.kind (begins_template (xs ++ after)) ∷ marks_of xs after

-- The mark opens and closes nothing where this is the innermost open bracket: a closer closes only its own kind.
abbrev pub IsIdle : Option Bracket → Mark → Type 0
IsIdle innermost (mark.Opens c) = ⊥
IsIdle innermost (mark.Closes c) = innermost ≢ Some c
IsIdle innermost mark.Neither = Unit {0}

-- between the marks each bracket that opens closes again, and the one that is innermost before them stays open
pub data Balanced : Option Bracket → List Mark → Type 0 where
  nothing : {innermost : Option Bracket} → Balanced innermost []
  idle : {innermost : Option Bracket} {m : Mark} {ms : List Mark} → IsIdle innermost m → Balanced innermost ms → Balanced innermost (m ∷ ms)
  pair : {innermost : Option Bracket} {c : Bracket} {inside ms : List Mark} → Balanced (Some c) inside → Balanced innermost ms
      → Balanced innermost (mark.Opens c ∷ (inside ++ mark.Closes c ∷ ms))

-- the bracket that is innermost behind the marks, or none if none is open there
pub data Innermost : List Mark → Option Bracket → Type 0 where
  none : {ms : List Mark} → Balanced None ms → Innermost ms None
  some : {c : Bracket} {inside : List Mark} (before : List Mark) → Balanced (Some c) inside → Innermost (before ++ mark.Opens c ∷ inside) (Some c)

-- a line end may be a newline token there: between braces, and outside all brackets
abbrev pub is_enabled : Option Bracket → Bool
is_enabled None = true
is_enabled (Some bracket.Brace) = true
is_enabled (Some bracket.Parenthesis) = false
is_enabled (Some bracket.Square) = false
is_enabled (Some bracket.Case) = false

-- ---- newline tokens

abbrev pub has_line_end : Gap → Bool
has_line_end gap.Joined = false
has_line_end (gap.LineEnd at) = true
has_line_end (gap.BlankLine at) = true

-- a newline token stands between `before` and x, behind which stands `after`
pub record Newline (before : List Lexeme) (x : Lexeme) (after : List Lexeme) : Type 0 where
  -- there is a line end between them,
  pub line_end : IsTrue (has_line_end x.gap)
  -- a statement can end there,
  pub end : IsTrue (ends before)
  -- another can begin there,
  pub begin : IsTrue (can_begin x.token.kind (begins_template after))
  -- and the bracket that is innermost there is none or a brace
  pub innermost : Option Bracket
  pub inside : Innermost (marks_of before (x ∷ after)) innermost
  pub enabled : IsTrue (is_enabled innermost)

-- a span can name the first line end of the gap
abbrev pub HasPlace : Gap → Type 0
HasPlace gap.Joined = Unit {0}
HasPlace (gap.LineEnd at) = at + 1 < 2 ^ 32
HasPlace (gap.BlankLine at) = at + 1 < 2 ^ 32

-- the one byte of a source
abbrev pub IsByte : ℕ → ℕ → Span → Type 0
IsByte file at span = (span.file ≡ file) × (span.start ≡ at) × (span.end ≡ at + 1)

-- the newline token of the line ends in a gap: `Nl`, or `Nl2` with a blank line, at the first of them
abbrev pub IsNewline : ℕ → Gap → Token → Type 0
IsNewline file gap.Joined newline = ⊥
IsNewline file (gap.LineEnd at) newline = (newline.kind ≡ tok.Nl) × IsByte file at newline.span
IsNewline file (gap.BlankLine at) newline = (newline.kind ≡ tok.Nl2) × IsByte file at newline.span

-- the tokens of the second lexemes, which stand behind the first, with the newline tokens before and among them: none, or
-- the first with no newline token before it, or with one
pub data FilledFrom : List Lexeme → List Lexeme → List Token → Type 0 where
  finished : {before : List Lexeme} → FilledFrom before [] []
  joined : {before after : List Lexeme} {x : Lexeme} {tokens : List Token} → (Newline before x after → ⊥)
      → FilledFrom (before ++ x ∷ []) after tokens → FilledFrom before (x ∷ after) (x.token ∷ tokens)
  broken : {before after : List Lexeme} {x : Lexeme} {newline : Token} {tokens : List Token} → Newline before x after
      → IsNewline x.token.span.file x.gap newline → FilledFrom (before ++ x ∷ []) after tokens → FilledFrom before (x ∷ after) (newline ∷ (x.token ∷ tokens))

-- the tokens of the lexemes, with the newline tokens between them
abbrev pub WithNewlines : List Lexeme → List Token → Type 0
WithNewlines lexemes tokens = FilledFrom [] lexemes tokens
