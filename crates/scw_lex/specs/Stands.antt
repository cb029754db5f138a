-- What stands at the front of what is left of a source: SLS 1. White space, a comment, the longest text that begins there,
-- or what isn't closed, or a character with which nothing begins. One thing stands there, and it is what the
-- lexer finds: proofs/StandsLemmas.antt.
use Rattle.std.specs.Prelude.{◌≡◌, ℕ, ◌≤◌, Bool, not, List, ◌∷◌, ◌++◌, length, codes, IsTrue, if◌then◌else◌}
use Rattle.std.specs.List.{list_all}
use Rattle.scw_text.specs.declared.rule.Rule.TheVariants as rule
use Rattle.scw_lex.specs.declared.character.Class.TheVariants as class
use Rattle.scw_lex.specs.declared.piece.Piece.{Piece}
use Rattle.scw_lex.specs.declared.piece.Piece.TheVariants as piece
use Rattle.scw_lex.specs.Character.{is_of, begins, class_of}
use Rattle.scw_lex.specs.Literal.{begins_quotes}
use Rattle.scw_lex.specs.Lexical.{Lexical}

-- ---- comments: SLS 1.4

-- the text holds neither `*/` nor `/*`
pub record IsPlain (text : List ℕ) : Type 0 where
  pub no_end : (before after : List ℕ) → text ≡ before ++ (codes "*/" ++ after) → ⊥
  pub no_begin : (before after : List ℕ) → text ≡ before ++ (codes "/*" ++ after) → ⊥

-- What stands behind `/*` up to the `*/` that closes it, with that; other comments may stand inside. The marks are read from
-- left to right, none with a part of another: `/*/` is open.
pub data IsInner : List ℕ → Type 0 where
  closes : (plain : List ℕ) → IsPlain (plain ++ codes "*") → IsInner (plain ++ codes "*/")
  nests : (plain : List ℕ) {inner more : List ℕ} → IsPlain (plain ++ codes "/") → IsInner inner → IsInner more → IsInner (plain ++ (codes "/*" ++ (inner ++ more)))

abbrev pub is_line_end : ℕ → Bool
is_line_end c = is_of (codes "\n") c

-- a comment before this rest
pub data IsComment : List ℕ → List ℕ → Type 0 where
  line : {text rest : List ℕ} → IsTrue (list_all (λ c. not (is_line_end c)) text) → IsTrue (not (begins (λ c. not (is_line_end c)) rest))
      → IsComment (codes "//" ++ text) rest
  block : {inner rest : List ℕ} → IsInner inner → IsComment (codes "/*" ++ inner) rest

-- ---- what stands there

-- no front of the text is the text of a token, or of what is left out or breaks a limit
abbrev pub NothingBegins : List ℕ → Type 0
NothingBegins text = (front rest : List ℕ) (p : Piece) → text ≡ front ++ rest → Lexical front rest p → ⊥

-- no longer front than this one is
abbrev pub IsLongest : List ℕ → List ℕ → Type 0
IsLongest front rest = (other more : List ℕ) (p : Piece) → front ++ rest ≡ other ++ more → Lexical other more p → length other ≤ length front

-- what stands at the front of a text
pub data Stands : List ℕ → Piece → Type 0 where
  white : {c : ℕ} {cs : List ℕ} → class_of c ≡ class.White → Stands (c ∷ cs) (piece.Skip 1)
  comment : {front rest : List ℕ} → IsComment front rest → Stands (front ++ rest) (piece.Skip (length front))
  longest : {front rest : List ℕ} {p : Piece} → Lexical front rest p → IsLongest front rest → Stands (front ++ rest) p
  open_comment : {text : List ℕ} → ((front rest : List ℕ) → codes "/*" ++ text ≡ front ++ rest → IsComment front rest → ⊥)
      → Stands (codes "/*" ++ text) (piece.Refused rule.OpenComment 0 2)
  open_text : {c : ℕ} {cs : List ℕ} → class_of c ≡ class.Quote → NothingBegins (c ∷ cs)
      → Stands (c ∷ cs) (piece.Refused rule.OpenText 0 (if begins_quotes 3 (c ∷ cs) then 3 else 1))
  bad_char : {c : ℕ} {cs : List ℕ} → class_of c ≡ class.Other → Stands (c ∷ cs) (piece.Refused rule.BadChar 0 1)
