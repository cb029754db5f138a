-- What is found at the front of a text is what stands there, and nothing else does.
use Rattle.std.proofs.Common.{◌≡◌, ℕ, Bool, true, false, cond, List, [], ◌∷◌, ◌++◌, codes, refl, sym, ap, ◌∙◌, subst, ◌⊎◌, inl, inr}
use Rattle.std.specs.Prelude.{◌||◌, nat_eq}
use Rattle.std.proofs.lemmas.Bool.{and_parts, both_ways, eqb-true}
use Rattle.scw_text.specs.declared.rule.Rule.TheVariants as rule
use Rattle.scw_lex.specs.declared.character.Class.{Class}
use Rattle.scw_lex.specs.declared.character.Class.TheVariants as class
use Rattle.scw_lex.specs.declared.piece.Piece.{Piece}
use Rattle.scw_lex.specs.declared.piece.Piece.TheVariants as piece
use Rattle.scw_lex.specs.Character.{is_of, begins, class_of}
use Rattle.scw_lex.specs.Reserved.{separator}
use Rattle.scw_lex.specs.Name.{begins_comment, name_piece}
use Rattle.scw_lex.specs.Comment.{comment_piece}
use Rattle.scw_lex.specs.Number.{point_piece}
use Rattle.scw_lex.specs.Literal.{back_piece, string_piece, character_piece, begins_quotes}
use Rattle.scw_lex.specs.Front.{separated, separator_piece, quote_piece, operator_piece, by_class, piece_at}
use Rattle.scw_lex.specs.Lexical.{Lexical}
use Rattle.scw_lex.specs.Stands.{NothingBegins, IsLongest, Stands}
use Rattle.scw_lex.proofs.CommentLemmas.{is_of_one, comment_stands, comment_is, comment_begins, open_is}
use Rattle.scw_lex.proofs.HeadLemmas.{Head, View, head_at, head_by, view, no_view, quote_is_one}
use Rattle.scw_lex.proofs.BestLemmas.{Best, best_stands, best_is_one, nothing_is}
use Rattle.scw_lex.proofs.NamesStand.{letter_best, operator_best, bracket_best}
use Rattle.scw_lex.proofs.NumbersStand.{digit_best, point_best}
use Rattle.scw_lex.proofs.CharactersStand.{Judged, character_judged, back_judged}
use Rattle.scw_lex.proofs.LinesStand.{string_judged}

-- ---- by the first character

separator_best : (c : ℕ) (cs : List ℕ) → class_of c ≡ class.Separator → Best (c ∷ cs) (separator_piece (c ∷ cs))
separator_best c cs h = by (is_of (codes ".") c) refl
  where
    by : (b : Bool) → is_of (codes ".") c ≡ b → Best (c ∷ cs) (cond b (point_piece (c ∷ cs)) (separated (separator c)))
    by true e = point_best c cs e
    by false e = bracket_best c cs h e

quote_judged : (c : ℕ) (cs : List ℕ) → class_of c ≡ class.Quote → Judged c cs (quote_piece (c ∷ cs))
quote_judged c cs h = by (is_of (codes "`") c) refl (is_of (codes "\"") c) refl
  where
    single : is_of (codes "`") c ≡ false → is_of (codes "\"") c ≡ false → 39 ≡ c
    single x y = by (nat_eq 96 c) (nat_eq 39 c) refl (nat_eq 34 c) x y (quote_is_one c h)
      where
        by : (p q : Bool) → nat_eq 39 c ≡ q → (r : Bool) → (p || false) ≡ false → (r || false) ≡ false → (p || (q || (r || false))) ≡ true → 39 ≡ c
        by p true e r x y z = eqb-true 39 c e
        by true false e r x y z = absurd cc
        by false false e true x y z = absurd cc
        by false false e false x y z = absurd cc

    by : (b : Bool) → is_of (codes "`") c ≡ b → (d : Bool) → is_of (codes "\"") c ≡ d → Judged c cs (cond b (back_piece cs) (cond d (string_piece cs) (character_piece cs)))
    by true e d f = subst (λ x. Judged x cs (back_piece cs)) (is_of_one 96 c e) (back_judged cs)
    by false e true f = subst (λ x. Judged x cs (string_piece cs)) (is_of_one 34 c f) (string_judged cs)
    by false e false f = subst (λ x. Judged x cs (character_piece cs)) (single e f) (character_judged cs)

judged_stands : (c : ℕ) (cs : List ℕ) (p : Piece) → class_of c ≡ class.Quote → Judged c cs p → Stands (c ∷ cs) p
judged_stands c cs p h (Judged.closed b) = best_stands (c ∷ cs) p b
judged_stands c cs p h (Judged.unclosed n e) = subst (λ q. Stands (c ∷ cs) q) (sym e) (Stands.open_text h n)

-- ---- what is found stands there

operator_stands : (c : ℕ) (cs : List ℕ) → class_of c ≡ class.Operator → Stands (c ∷ cs) (operator_piece (c ∷ cs))
operator_stands c cs h = by (begins_comment (c ∷ cs)) refl
  where
    by : (b : Bool) → begins_comment (c ∷ cs) ≡ b → Stands (c ∷ cs) (cond b (comment_piece (c ∷ cs)) (name_piece (c ∷ cs)))
    by true e = let a = and_parts (is_of (codes "/") c) (begins (is_of (codes "/*")) cs) e in comment_stands c cs a.0 a.1
    by false e = best_stands (c ∷ cs) (name_piece (c ∷ cs)) (operator_best c cs h e)

-- what is found at the front of a text stands there
pub stands : (c : ℕ) (cs : List ℕ) → Stands (c ∷ cs) (piece_at (c ∷ cs))
unfolding piece_at
stands c cs = by (class_of c) refl
  where
    by : (k : Class) → class_of c ≡ k → Stands (c ∷ cs) (by_class k (c ∷ cs))
    by class.Letter h = best_stands (c ∷ cs) (by_class class.Letter (c ∷ cs)) (letter_best c cs h)
    by class.Digit h = best_stands (c ∷ cs) (by_class class.Digit (c ∷ cs)) (digit_best c cs h)
    by class.White h = Stands.white h
    by class.Separator h = best_stands (c ∷ cs) (by_class class.Separator (c ∷ cs)) (separator_best c cs h)
    by class.Quote h = judged_stands c cs (quote_piece (c ∷ cs)) h (quote_judged c cs h)
    by class.Operator h = operator_stands c cs h
    by class.Other h = Stands.bad_char h

-- ---- and nothing else

no_operator : (c : ℕ) (cs : List ℕ) → begins_comment (c ∷ cs) ≡ true → (other more : List ℕ) (q : Piece) → c ∷ cs ≡ other ++ more → View Head.Operator other more q → ⊥
no_operator c cs h other more q e (View.operator o) = both_ways (begins_comment (c ∷ cs)) (ap begins_comment e ∙ o.no_comment [] other refl o.any) h

-- the longest text there is found, or there is none
abbrev Decided : ℕ → List ℕ → Piece → Type 0
Decided c cs p = Best (c ∷ cs) p ⊎ NothingBegins (c ∷ cs)

nothing_here : (c : ℕ) (cs : List ℕ) → head_at c ≡ Head.Nothing → NothingBegins (c ∷ cs)
nothing_here c cs h = nothing_is Head.Nothing c cs h (λ other more q e v. no_view other more q v)

judged_decided : (c : ℕ) (cs : List ℕ) (p : Piece) → Judged c cs p → Decided c cs p
judged_decided c cs p (Judged.closed b) = inl b
judged_decided c cs p (Judged.unclosed n e) = inr n

decided : (c : ℕ) (cs : List ℕ) → Decided c cs (piece_at (c ∷ cs))
unfolding piece_at
decided c cs = by (class_of c) refl
  where
    operator : class_of c ≡ class.Operator → (b : Bool) → begins_comment (c ∷ cs) ≡ b → Decided c cs (cond b (comment_piece (c ∷ cs)) (name_piece (c ∷ cs)))
    operator h true e = inr (nothing_is Head.Operator c cs (ap (λ k. head_by k c) h) (no_operator c cs e))
    operator h false e = inl (operator_best c cs h e)

    by : (k : Class) → class_of c ≡ k → Decided c cs (by_class k (c ∷ cs))
    by class.Letter h = inl (letter_best c cs h)
    by class.Digit h = inl (digit_best c cs h)
    by class.White h = inr (nothing_here c cs (ap (λ k. head_by k c) h))
    by class.Separator h = inl (separator_best c cs h)
    by class.Quote h = judged_decided c cs (quote_piece (c ∷ cs)) (quote_judged c cs h)
    by class.Operator h = operator h (begins_comment (c ∷ cs)) refl
    by class.Other h = inr (nothing_here c cs (ap (λ k. head_by k c) h))

longest_is_found : (text front rest : List ℕ) (p : Piece) → text ≡ front ++ rest → Lexical front rest p → IsLongest front rest → p ≡ piece_at text
longest_is_found [] [] rest p e l m = absurd (no_view [] rest p (view [] rest p l))
longest_is_found [] (d ∷ ds) rest p e l m = absurd cc
longest_is_found (c ∷ cs) front rest p e l m = by (decided c cs)
  where
    by : Decided c cs (piece_at (c ∷ cs)) → p ≡ piece_at (c ∷ cs)
    by (inl b) = best_is_one (c ∷ cs) front rest (piece_at (c ∷ cs)) p b e l m
    by (inr n) = absurd (n front rest p e l)

open_is_found : (c : ℕ) (cs : List ℕ) (p : Piece) → NothingBegins (c ∷ cs) → Judged c cs p → piece.Refused rule.OpenText 0 (cond (begins_quotes 3 (c ∷ cs)) 3 1) ≡ p
open_is_found c cs p n (Judged.closed b) = absurd (n b.front b.rest p b.whole b.lexical)
open_is_found c cs p n (Judged.unclosed k e) = sym e

-- the piece of a text that begins with a comment
comment_found : (text : List ℕ) → begins_comment text ≡ true → piece_at text ≡ comment_piece text
unfolding piece_at class_of
comment_found [] h = absurd cc
comment_found (c ∷ cs) h =
    let a = and_parts (is_of (codes "/") c) (begins (is_of (codes "/*")) cs) h in
    by c (is_of_one 47 c a.0) h
  where
    by : (c : ℕ) → 47 ≡ c → begins_comment (c ∷ cs) ≡ true → piece_at (c ∷ cs) ≡ comment_piece (c ∷ cs)
    by c e h = subst (λ d. begins_comment (d ∷ cs) ≡ true → piece_at (d ∷ cs) ≡ comment_piece (d ∷ cs)) e (λ h. rw h refl) h

-- what stands at the front of a text is what is found there
pub only : (text : List ℕ) (p : Piece) → Stands text p → p ≡ piece_at text
unfolding piece_at
only text p (Stands.white {c} {cs} h) = rw h refl
only text p (Stands.comment {front} {rest} k) = sym (comment_found (front ++ rest) (comment_begins front rest k) ∙ comment_is front rest k)
only text p (Stands.longest {front} {rest} l m) = longest_is_found (front ++ rest) front rest p refl l m
only text p (Stands.open_comment {text = t} n) = sym (comment_found (codes "/*" ++ t) refl ∙ open_is t n)
only text p (Stands.open_text {c} {cs} h n) = open_is_found c cs (quote_piece (c ∷ cs)) n (quote_judged c cs h) ∙ sym (rw h refl)
only text p (Stands.bad_char {c} {cs} h) = rw h refl

-- one piece stands at the front of a text
pub one_piece : (text : List ℕ) (p q : Piece) → Stands text p → Stands text q → p ≡ q
one_piece text p q a b = only text p a ∙ sym (only text q b)
