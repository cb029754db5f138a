-- How the tokens of a source follow one another: SLS 1. From the front on, white space and comments are passed over, each
-- token is read with what stands before it, and the first break of a rule ends the reading.
use Rattle.std.specs.Prelude.{◌≡◌, ℕ, ◌+◌, ◌<◌, List, [], ◌∷◌, ◌++◌, length, take, drop}
use Rattle.std.specs.Str.{encode_utf8_all}
use Rattle.scw_text.specs.Rule.{number_of}
use Rattle.scw_text.specs.declared.rule.Rule.{Rule}
use Rattle.scw_text.specs.declared.refusal.Refusal.{Refusal}
use Rattle.scw_text.specs.declared.refusal.Fault.{Fault}
use Rattle.scw_text.specs.declared.refusal.Fault.TheVariants as fault
use Rattle.scw_lex.specs.declared.piece.Piece.TheVariants as piece
use Rattle.scw_lex.specs.declared.lexer.Reading.{Reading}
use Rattle.scw_lex.specs.declared.lexer.Reading.TheVariants as reading
use Rattle.scw_lex.specs.declared.token.Gap.{Gap}
use Rattle.scw_lex.specs.declared.token.Tok.{Tok}
use Rattle.scw_lex.specs.declared.token.Tok.TheVariants as tok
use Rattle.scw_lex.specs.declared.token.Lexeme.{Lexeme}
use Rattle.scw_lex.specs.Gap.{IsGap}
use Rattle.scw_lex.specs.Stands.{Stands}

-- how many bytes the characters have in UTF-8
abbrev pub bytes : List ℕ → ℕ
bytes text = length (encode_utf8_all text)

-- the token of this kind, with this gap before it and these bytes
pub record IsLexeme (file start end : ℕ) (gap : Gap) (kind : Tok) (lexeme : Lexeme) : Type 0 where
  pub gap_is : lexeme.gap ≡ gap
  pub kind_is : lexeme.token.kind ≡ kind
  pub file_is : lexeme.token.span.file ≡ file
  pub start_is : lexeme.token.span.start ≡ start
  pub end_is : lexeme.token.span.end ≡ end

-- the refusal by this rule, of these bytes
pub record IsRefusal (file start end : ℕ) (rule : Rule) (refusal : Refusal) : Type 0 where
  pub rule_is : refusal.rule ≡ number_of rule
  pub file_is : refusal.span.file ≡ file
  pub start_is : refusal.span.start ≡ start
  pub end_is : refusal.span.end ≡ end
  pub words_are : refusal.words ≡ []

-- what is read of a text: a token, with the byte and the text behind it, or the end, or a refusal
pub data Found : Type 0 where
  Taken : Lexeme → ℕ → List ℕ → Found
  Ended : Lexeme → Found
  Failed : Refusal → Found

-- What is read of the text, which begins at a byte. Before it stands the text since the token before, which begins at its
-- own byte.
pub data Next (file : ℕ) : (since : ℕ) (between : List ℕ) (at : ℕ) (text : List ℕ) → Found → Type 0 where
  ends : {since : ℕ} {between : List ℕ} {at : ℕ} {gap : Gap} {lexeme : Lexeme} → IsGap since between gap → IsLexeme file at at gap tok.Eof lexeme
      → Next file since between at [] (Ended lexeme)
  passes : {since : ℕ} {between : List ℕ} {at c : ℕ} {cs : List ℕ} {n : ℕ} {found : Found} → Stands (c ∷ cs) (piece.Skip n)
      → Next file since (between ++ take n (c ∷ cs)) (at + bytes (take n (c ∷ cs))) (drop n (c ∷ cs)) found → Next file since between at (c ∷ cs) found
  takes : {since : ℕ} {between : List ℕ} {at c : ℕ} {cs : List ℕ} {n : ℕ} {gap : Gap} {kind : Tok} {lexeme : Lexeme} → Stands (c ∷ cs) (piece.Token kind n)
      → IsGap since between gap → IsLexeme file at (at + bytes (take n (c ∷ cs))) gap kind lexeme
      → Next file since between at (c ∷ cs) (Taken lexeme (at + bytes (take n (c ∷ cs))) (drop n (c ∷ cs)))
  fails : {since : ℕ} {between : List ℕ} {at c : ℕ} {cs : List ℕ} {rule : Rule} {before n : ℕ} {refusal : Refusal}
      → Stands (c ∷ cs) (piece.Refused rule before n)
      → IsRefusal file (at + bytes (take before (c ∷ cs))) (at + bytes (take before (c ∷ cs)) + bytes (take n (drop before (c ∷ cs)))) rule refusal
      → Next file since between at (c ∷ cs) (Failed refusal)

-- the fault is what is read of the text, unless memory ran out
abbrev pub Fails : ℕ → ℕ → List ℕ → Fault → Type 0
Fails file at text (fault.Refused refusal) = Next file at [] at text (Failed refusal)
Fails file at text fault.NoMemory = Unit {0}

-- what was read, where this byte and text are behind it
abbrev pub found : Reading → ℕ → List ℕ → Found
found (reading.Token lexeme) at text = Taken lexeme at text
found (reading.End lexeme) at text = Ended lexeme

-- where it is no end, fewer characters are left than were
abbrev pub Advances : Reading → ℕ → ℕ → Type 0
Advances (reading.Token lexeme) old new = new < old
Advances (reading.End lexeme) old new = Unit {0}

-- the tokens of the text, which begins at the byte, and its end
pub data Lexes (file : ℕ) : (at : ℕ) (text : List ℕ) → List Lexeme → Type 0 where
  last : {at : ℕ} {text : List ℕ} {lexeme : Lexeme} → Next file at [] at text (Ended lexeme) → Lexes file at text (lexeme ∷ [])
  more : {at : ℕ} {text : List ℕ} {lexeme : Lexeme} {end : ℕ} {rest : List ℕ} {lexemes : List Lexeme} → Next file at [] at text (Taken lexeme end rest)
      → Lexes file end rest lexemes → Lexes file at text (lexeme ∷ lexemes)

-- the text, which begins at the byte, has this refusal
pub data Refuses (file : ℕ) : (at : ℕ) (text : List ℕ) → Refusal → Type 0 where
  first : {at : ℕ} {text : List ℕ} {refusal : Refusal} → Next file at [] at text (Failed refusal) → Refuses file at text refusal
  later : {at : ℕ} {text : List ℕ} {lexeme : Lexeme} {end : ℕ} {rest : List ℕ} {refusal : Refusal} → Next file at [] at text (Taken lexeme end rest)
      → Refuses file end rest refusal → Refuses file at text refusal

-- the fault is that of the text, unless memory ran out
abbrev pub HasFault : ℕ → List ℕ → Fault → Type 0
HasFault file text (fault.Refused refusal) = Refuses file 0 text refusal
HasFault file text fault.NoMemory = Unit {0}
