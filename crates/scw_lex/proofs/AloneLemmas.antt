-- Each list of lexemes has one list of tokens with newlines.
use Rattle.std.proofs.Common.{◌≡◌, ℕ, ◌+◌, ◌≤◌, true, false, List, [], ◌∷◌, ◌++◌, Option, refl, sym, ap, subst, ◌∙◌, inl, inr, arith}
use Rattle.std.proofs.Math.Bridge.{le_prop}
use Rattle.std.proofs.lemmas.Bool.{cases_Bool}
use Rattle.scw_text.specs.declared.span.Span.{Span}
use Rattle.scw_lex.specs.declared.token.Tok.TheVariants as tok
use Rattle.scw_lex.specs.declared.token.Token.{Token}
use Rattle.scw_lex.specs.declared.token.Gap.{Gap}
use Rattle.scw_lex.specs.declared.token.Gap.TheVariants as gap
use Rattle.scw_lex.specs.declared.token.Lexeme.{Lexeme}
use Rattle.scw_lex.specs.declared.bracket.Bracket.{Bracket}
use Rattle.scw_lex.specs.declared.bracket.Mark.{Mark}
use Rattle.scw_lex.specs.Filter.{innermost, after_marks}
use Rattle.scw_lex.proofs.BracketLemmas.{innermost_found, innermost_alone}
use Rattle.scw_lex.specs.Newline.{has_line_end, IsByte, IsNewline, FilledFrom, finished, joined, broken, WithNewlines, Innermost}
use Rattle.scw_lex.proofs.NewlineLemmas.{test_there, test_true, test_false}

-- ---- at most one

abbrev pub span_of : (file start end : ℕ) → start ≤ end → Span
span_of file start end ordered = record { file = file; start = start; end = end; ordered = ordered }

pub same_parts : (f g s t e u : ℕ) → f ≡ g → s ≡ t → e ≡ u → (h : s ≤ e) (k : t ≤ u) → span_of f s e h ≡ span_of g t u k
same_parts f g s t e u p q r =
    subst (λ g. (h : s ≤ e) (k : t ≤ u) → span_of f s e h ≡ span_of g t u k) p
    (subst (λ t. (h : s ≤ e) (k : t ≤ u) → span_of f s e h ≡ span_of f t u k) q
    (subst (λ u. (h : s ≤ e) (k : s ≤ u) → span_of f s e h ≡ span_of f s u k) r
    (λ h k. ap (λ o. span_of f s e o) (le_prop h k))))

same_byte : (file at : ℕ) (a b : Span) → IsByte file at a → IsByte file at b → a ≡ b
same_byte file at a b h k =
    same_parts a.file b.file a.start b.start a.end b.end (h.0 ∙ sym k.0) (h.1 ∙ sym k.1) (h.2 ∙ sym k.2) a.ordered b.ordered

pub same_token : (a b : Token) → a.kind ≡ b.kind → a.span ≡ b.span → a ≡ b
same_token a b p q =
    let first : ◌≡◌ {A = Token} (record { kind = a.kind; span = a.span }) (record { kind = b.kind; span = a.span }) = ap (λ k. record { kind = k; span = a.span }) p in
    first ∙ ap (λ s. record { kind = b.kind; span = s }) q

newline_alone : (file : ℕ) (g : Gap) (a b : Token) → IsNewline file g a → IsNewline file g b → a ≡ b
newline_alone file gap.Joined a b h k = absurd h
newline_alone file (gap.LineEnd at) a b h k = same_token a b (h.0 ∙ sym k.0) (same_byte file at a.span b.span h.1 k.1)
newline_alone file (gap.BlankLine at) a b h k = same_token a b (h.0 ∙ sym k.0) (same_byte file at a.span b.span h.1 k.1)

filled_alone : {before after : List Lexeme} {tokens others : List Token} → FilledFrom before after tokens → FilledFrom before after others → others ≡ tokens
filled_alone finished finished = refl
filled_alone (joined {x} out f) (joined away g) = ap (λ l. x.token ∷ l) (filled_alone f g)
filled_alone (joined out f) (broken here is g) = absurd (out here)
filled_alone (broken here is f) (joined out g) = absurd (out here)
filled_alone (broken {x} {newline} {tokens} here is f) (broken {newline = other} there so g) =
    ap (λ l. other ∷ (x.token ∷ l)) (filled_alone f g) ∙ ap (λ n. n ∷ (x.token ∷ tokens)) (newline_alone x.token.span.file x.gap other newline so is)

-- ---- at least one

some_newline : (file : ℕ) (g : Gap) → has_line_end g ≡ true → (newline : Token) × IsNewline file g newline
some_newline file gap.Joined h = absurd cc
some_newline file (gap.LineEnd at) h = (record { kind = tok.Nl; span = span_of file at (at + 1) (omega arith) }, (refl, (refl, refl, refl)))
some_newline file (gap.BlankLine at) h = (record { kind = tok.Nl2; span = span_of file at (at + 1) (omega arith) }, (refl, (refl, refl, refl)))

filled_some : (before after : List Lexeme) → (tokens : List Token) × FilledFrom before after tokens
filled_some before [] = ([], finished)
filled_some before (x ∷ after) =
    let rest = filled_some (before ++ x ∷ []) after in
    elim (cases_Bool (has_line_end x.gap)) [
      | inr none ↦ (x.token ∷ rest.0, joined (λ n. let f : true ≡ false = sym n.line_end ∙ none in cc) rest.1)
      | inl line ↦ elim (cases_Bool (test_there before x after)) [
        | inr none ↦ (x.token ∷ rest.0, joined (test_false before x after none) rest.1)
        | inl some ↦
            let newline = some_newline x.token.span.file x.gap line in
            (newline.0 ∷ (x.token ∷ rest.0), broken (test_true before x after some line) newline.1 rest.1)
      ]
    ]

pub some_tokens : (lexemes : List Lexeme) → (tokens : List Token) × WithNewlines lexemes tokens
some_tokens lexemes = filled_some [] lexemes

pub one_list : (lexemes : List Lexeme) (tokens others : List Token) → WithNewlines lexemes tokens → WithNewlines lexemes others → tokens ≡ others
one_list lexemes tokens others h k = filled_alone k h

-- ---- the same of brackets

pub some_bracket : (marks : List Mark) → (b : Option Bracket) × Innermost marks b
some_bracket marks = (innermost (after_marks [] marks), innermost_found marks)

pub one_bracket : (marks : List Mark) (b c : Option Bracket) → Innermost marks b → Innermost marks c → b ≡ c
one_bracket marks b c h k = innermost_alone h k
