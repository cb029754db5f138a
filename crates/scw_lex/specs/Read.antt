-- What a filter of newlines has read, and what it holds then. No definition of what newline tokens are rests on this file.
use Rattle.std.specs.Prelude.{◌≡◌, ℕ, Bool, List, [], ◌∷◌, ◌++◌, Option, Some, None}
use Rattle.scw_lex.specs.declared.token.Token.{Token}
use Rattle.scw_lex.specs.declared.token.Gap.{Gap}
use Rattle.scw_lex.specs.declared.token.Gap.TheVariants as gap
use Rattle.scw_lex.specs.declared.token.Lexeme.{Lexeme}
use Rattle.scw_lex.specs.declared.newline.Pending.{Pending}
use Rattle.scw_lex.specs.declared.newline.Settled.{Settled}
use Rattle.scw_lex.specs.declared.newline.NewlineFilter.{NewlineFilter}
use Rattle.scw_lex.specs.Newline.{can_end, ends, mark_of, marks_of, IsNewline, FilledFrom}
use Rattle.scw_lex.specs.Filter.{after_mark, after_marks, kept, with_newline}

-- the token is put behind, with its newline token if that may stand there
pub record IsAdded (old : Settled) (pending : Pending) (is_before_template : Bool) (new : Settled) : Type 0 where
  pub tokens : new.tokens ≡ with_newline old.tokens (kept old.is_ended old.brackets pending.newline pending.token.kind is_before_template) ++ pending.token ∷ []
  pub brackets : new.brackets ≡ after_mark old.brackets (mark_of pending.token.kind is_before_template)
  pub is_ended : new.is_ended ≡ can_end pending.token.kind

-- All is settled of the lexemes `done`, behind which stand others: whatever tokens fill these, the tokens of all begin
-- with those that are settled.
pub record IsSettled (s : Settled) (done : List Lexeme) (after : List Lexeme) : Type 0 where
  pub is_ended : s.is_ended ≡ ends done
  pub brackets : s.brackets ≡ after_marks [] (marks_of done after)
  pub tokens : (tokens : List Token) → FilledFrom done after tokens → FilledFrom [] (done ++ after) (s.tokens ++ tokens)

-- the newline token is that of the gap, if there is one
abbrev pub NewlineOf : ℕ → Gap → Option Token → Type 0
NewlineOf file g None = g ≡ gap.Joined
NewlineOf file g (Some newline) = IsNewline file g newline

-- what is pending is that lexeme
pub record IsPending (p : Pending) (x : Lexeme) : Type 0 where
  pub newline : NewlineOf x.token.span.file x.gap p.newline
  pub token : p.token ≡ x.token

-- what is pending are those lexemes, of which there is one at most
abbrev pub ArePending : Option Pending → List Lexeme → Type 0
ArePending None xs = xs ≡ []
ArePending (Some p) xs = (x : Lexeme) × (xs ≡ x ∷ []) × IsPending p x

-- the filter has read the lexemes
pub record HasRead (filter : NewlineFilter) (lexemes : List Lexeme) : Type 0 where
  pub done : List Lexeme
  pub last : List Lexeme
  pub whole : lexemes ≡ done ++ last
  pub pending : ArePending filter.pending last
  pub settled : (after : List Lexeme) → IsSettled filter.settled done (last ++ after)
