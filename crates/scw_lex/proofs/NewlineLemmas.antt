-- What the filter holds gives the tokens with their newlines.
use Rattle.std.proofs.Common.{◌≡◌, Bool, true, false, cond, List, [], ◌∷◌, ◌++◌, Option, Some, None, refl, sym, ap, ◌∙◌, append_assoc, append-nil, IsTrue}
use Rattle.std.specs.Prelude.{◌&&◌}
use Rattle.std.proofs.lemmas.Bool.{and_parts, and_from}
use Rattle.scw_lex.specs.declared.token.Token.{Token}
use Rattle.scw_lex.specs.declared.token.Gap.{Gap}
use Rattle.scw_lex.specs.declared.token.Gap.TheVariants as gap
use Rattle.scw_lex.specs.declared.token.Lexeme.{Lexeme}
use Rattle.scw_lex.specs.declared.bracket.Bracket.{Bracket}
use Rattle.scw_lex.specs.declared.newline.Pending.{Pending}
use Rattle.scw_lex.specs.declared.newline.Settled.{Settled}
use Rattle.scw_lex.specs.declared.newline.NewlineFilter.{NewlineFilter}
use Rattle.scw_lex.specs.Newline.{can_end, can_begin, is_enabled, ends, mark_of, marks_of, is_template, begins_template, has_line_end, Newline, IsNewline, FilledFrom, finished, joined, broken, WithNewlines}
use Rattle.scw_lex.specs.Filter.{innermost, after_mark, after_marks, kept, with_newline}
use Rattle.scw_lex.specs.Read.{IsAdded, IsSettled, NewlineOf, IsPending, HasRead}
use Rattle.scw_lex.proofs.BracketLemmas.{innermost_found, innermost_is, after_marks-append}

-- ---- one lexeme more

ends-append : (xs : List Lexeme) (x : Lexeme) → ends (xs ++ x ∷ []) ≡ can_end x.token.kind
ends-append [] x = refl
ends-append (y ∷ []) x = refl
ends-append (y ∷ (z ∷ zs)) x = ends-append (z ∷ zs) x

marks_of-append : (xs : List Lexeme) (x : Lexeme) (after : List Lexeme)
    → marks_of (xs ++ x ∷ []) after ≡ marks_of xs (x ∷ after) ++ mark_of x.token.kind (begins_template after) ∷ []
marks_of-append [] x after = refl
marks_of-append (y ∷ ys) x after =
    let first : mark_of y.token.kind (begins_template ((ys ++ x ∷ []) ++ after)) ≡ mark_of y.token.kind (begins_template (ys ++ x ∷ after))
    = ap (λ l. mark_of y.token.kind (begins_template l)) (append_assoc ys (x ∷ []) after) in
    ap (λ m. m ∷ marks_of (ys ++ x ∷ []) after) first
    ∙ ap (λ l. mark_of y.token.kind (begins_template (ys ++ x ∷ after)) ∷ l) (marks_of-append ys x after)

-- ---- whether a newline token stands there

-- the test is true where a newline token stands between, as far as brackets and tokens tell
abbrev pub test : Bool → List Bracket → Lexeme → Bool → Bool
test is_ended brackets x b = is_ended && (can_begin x.token.kind b && is_enabled (innermost brackets))

-- a newline token stands before x, or none, as the filter keeps it
abbrev Stands : List Lexeme → Lexeme → List Lexeme → Option Token → Type 0
Stands done x after None = Newline done x after → ⊥
Stands done x after (Some newline) = Newline done x after × IsNewline x.token.span.file x.gap newline

module _ (done : List Lexeme) (x : Lexeme) (after : List Lexeme) where
  abbrev pub test_there : Bool
  test_there = test (ends done) (after_marks [] (marks_of done (x ∷ after))) x (begins_template after)

  pub test_true : test_there ≡ true → IsTrue (has_line_end x.gap) → Newline done x after
  test_true h l =
      let some = and_parts (ends done) _ h in
      let more = and_parts (can_begin x.token.kind (begins_template after)) _ some.1 in
      record { innermost = innermost (after_marks [] (marks_of done (x ∷ after))); line_end = l; end = some.0; begin = more.0; inside = innermost_found (marks_of done (x ∷ after)); enabled = more.1 }

  pub test_false : test_there ≡ false → Newline done x after → ⊥
  test_false h n =
      let open_there : is_enabled (innermost (after_marks [] (marks_of done (x ∷ after)))) ≡ true = ap is_enabled (innermost_is n.inside) ∙ n.enabled in
      let true_there : test_there ≡ true = and_from (ends done) _ n.end (and_from (can_begin x.token.kind (begins_template after)) _ n.begin open_there) in
      let f : true ≡ false = sym true_there ∙ h in
      cc

  joined_none : x.gap ≡ gap.Joined → Newline done x after → ⊥
  joined_none e n = let f : false ≡ true = sym (ap has_line_end e) ∙ n.line_end in cc

  newline_ends : (g : Gap) (newline : Token) → x.gap ≡ g → IsNewline x.token.span.file g newline → IsTrue (has_line_end x.gap)
  newline_ends gap.Joined newline e h = absurd h
  newline_ends (gap.LineEnd at) newline e h = ap has_line_end e
  newline_ends (gap.BlankLine at) newline e h = ap has_line_end e

  stands_kept : (newline : Option Token) (t : Bool) → test_there ≡ t → NewlineOf x.token.span.file x.gap newline → Stands done x after (cond t newline None)
  stands_kept newline false e h = test_false e
  stands_kept None true e h = joined_none h
  stands_kept (Some newline) true e h = (test_true e (newline_ends x.gap newline refl h), h)

  stands : (newline : Option Token) → NewlineOf x.token.span.file x.gap newline
      → Stands done x after (kept (ends done) (after_marks [] (marks_of done (x ∷ after))) newline x.token.kind (begins_template after))
  stands newline h = stands_kept newline test_there refl h

  -- tokens that begin with the settled ones, where one lexeme more is settled
  filled_more : (settled tokens : List Token) (newline : Option Token) → Stands done x after newline
      → ((tokens : List Token) → FilledFrom done (x ∷ after) tokens → FilledFrom [] (done ++ x ∷ after) (settled ++ tokens))
      → FilledFrom (done ++ x ∷ []) after tokens → FilledFrom [] ((done ++ x ∷ []) ++ after) ((with_newline settled newline ++ x.token ∷ []) ++ tokens)
  filled_more settled tokens None here before f = simp append_assoc (before (x.token ∷ tokens) (joined here f))
  filled_more settled tokens (Some newline) here before f = simp append_assoc (before (newline ∷ (x.token ∷ tokens)) (broken here.0 here.1 f))

-- one lexeme more is settled
pub settled_more : (s t : Settled) (p : Pending) (x : Lexeme) (done after : List Lexeme) (b : Bool) → IsPending p x → b ≡ begins_template after
    → IsSettled s done (x ∷ after) → IsAdded s p b t → IsSettled t (done ++ x ∷ []) after
settled_more s t p x done after b is e so added = record {
  is_ended = added.is_ended ∙ ap (λ u. can_end u.kind) is.token ∙ sym (ends-append done x);
  brackets =
      let m : mark_of p.token.kind b ≡ mark_of x.token.kind (begins_template after) = ap (λ u. mark_of u.kind b) is.token ∙ ap (λ c. mark_of x.token.kind c) e in
      added.brackets ∙ ap (λ bs. after_mark bs (mark_of p.token.kind b)) so.brackets ∙ ap (λ m. after_mark (after_marks [] (marks_of done (x ∷ after))) m) m
      ∙ sym (after_marks-append [] (marks_of done (x ∷ after)) (mark_of x.token.kind (begins_template after) ∷ []))
      ∙ ap (λ ms. after_marks [] ms) (sym (marks_of-append done x after));
  tokens = λ tokens f.
      let same : t.tokens ≡ with_newline s.tokens (kept (ends done) (after_marks [] (marks_of done (x ∷ after))) p.newline x.token.kind (begins_template after)) ++ x.token ∷ []
      = added.tokens ∙ rw (so.is_ended, so.brackets, is.token, e) refl in
      rw same (filled_more done x after s.tokens tokens _ (stands done x after p.newline is.newline) so.tokens f);
}

-- all is settled
pub settled_all : (s : Settled) (done : List Lexeme) → IsSettled s done [] → WithNewlines done s.tokens
settled_all s done so = simp append-nil at (so.tokens [] finished)

-- ---- the filter

pub read_none : (filter : NewlineFilter) → filter.pending ≡ None → filter.settled.tokens ≡ [] → filter.settled.brackets ≡ [] → filter.settled.is_ended ≡ false → HasRead filter []
read_none filter p t b e = record {
  done = [];
  last = [];
  whole = refl;
  pending = rw p refl;
  settled = λ after. record { is_ended = e; brackets = b; tokens = λ tokens f. rw t f };
}

-- the first lexeme, or the next one where none is pending
pub read_first : (old new : NewlineFilter) (p : Pending) (x : Lexeme) → old.pending ≡ None → new.pending ≡ Some p → IsPending p x → new.settled ≡ old.settled
    → (lexemes : List Lexeme) → HasRead old lexemes → HasRead new (lexemes ++ x ∷ [])
read_first old new p x was is of same lexemes read =
    let last : read.last ≡ [] = rw was at read.pending in
    let settled : (after : List Lexeme) → IsSettled old.settled read.done after = λ after. rw last at (read.settled after) in
    record {
      done = read.done;
      last = x ∷ [];
      whole = ap (λ l. l ++ x ∷ []) (read.whole ∙ ap (λ l. read.done ++ l) last ∙ append-nil read.done);
      pending = rw is (x, refl, of);
      settled = λ after. rw same (settled (x ∷ after));
    }

-- the next lexeme, by which the pending one is settled
pub read_next : (old new : NewlineFilter) (q p : Pending) (x : Lexeme) → old.pending ≡ Some q → new.pending ≡ Some p → IsPending p x
    → IsAdded old.settled q (is_template x.token.kind) new.settled → (lexemes : List Lexeme) → HasRead old lexemes → HasRead new (lexemes ++ x ∷ [])
read_next old new q p x was is of added lexemes read =
    let before = rw was at read.pending in
    let y = before.0 in
    let last : read.last ≡ y ∷ [] = before.1 in
    let settled : (after : List Lexeme) → IsSettled old.settled read.done (y ∷ after) = λ after. rw last at (read.settled after) in
    record {
      done = read.done ++ y ∷ [];
      last = x ∷ [];
      whole = ap (λ l. l ++ x ∷ []) (read.whole ∙ ap (λ l. read.done ++ l) last);
      pending = rw is (x, refl, of);
      settled = λ after. settled_more old.settled new.settled q y read.done (x ∷ after) _ before.2 refl (settled (x ∷ after)) added;
    }

-- no lexeme is pending at the end
pub ended_none : (filter : NewlineFilter) → filter.pending ≡ None → (lexemes : List Lexeme) → HasRead filter lexemes → WithNewlines lexemes filter.settled.tokens
ended_none filter was lexemes read =
    let last : read.last ≡ [] = rw was at read.pending in
    let settled : IsSettled filter.settled read.done [] = rw last at (read.settled []) in
    let whole : lexemes ≡ read.done = read.whole ∙ ap (λ l. read.done ++ l) last ∙ append-nil read.done in
    rw whole (settled_all filter.settled read.done settled)

-- the pending lexeme is the last
pub ended_last : (filter : NewlineFilter) (q : Pending) (t : Settled) → filter.pending ≡ Some q → IsAdded filter.settled q false t
    → (lexemes : List Lexeme) → HasRead filter lexemes → WithNewlines lexemes t.tokens
ended_last filter q t was added lexemes read =
    let before = rw was at read.pending in
    let y = before.0 in
    let last : read.last ≡ y ∷ [] = before.1 in
    let settled : IsSettled filter.settled read.done (y ∷ []) = rw last at (read.settled []) in
    let whole : lexemes ≡ read.done ++ y ∷ [] = read.whole ∙ ap (λ l. read.done ++ l) last in
    rw whole (settled_all t (read.done ++ y ∷ []) (settled_more filter.settled t q y read.done [] false before.2 refl settled added))
