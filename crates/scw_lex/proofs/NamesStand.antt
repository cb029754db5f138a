-- Identifiers, and reserved words and signs, stand where they are found.
use Rattle.std.proofs.Common.{◌≡◌, ℕ, ◌<◌, ◌≤◌, true, false, cond, List, [], ◌∷◌, ◌++◌, length, take, drop, codes, refl, sym, ap, ◌∙◌, subst, arith, Option, Some, None, is_some}
use Rattle.std.proofs.lemmas.List.{take-append-drop, length-take-le}
use Rattle.scw_lex.specs.declared.character.Class.TheVariants as class
use Rattle.scw_lex.specs.declared.piece.Piece.{Piece}
use Rattle.scw_lex.specs.declared.piece.Piece.TheVariants as piece
use Rattle.scw_lex.specs.declared.reserved.Reserved.{Reserved}
use Rattle.scw_lex.specs.Character.{is_of, is_letter, is_operator, is_letter_class, is_operator_class, class_of}
use Rattle.scw_lex.specs.Reserved.{token_of, word_of, separator}
use Rattle.scw_lex.specs.Name.{begins_comment, operator_len, word_name_len, named, name_piece}
use Rattle.scw_lex.specs.Front.{separated}
use Rattle.scw_lex.specs.Lexical.{IsIdentifier, Lexical}
use Rattle.scw_lex.proofs.TextLemmas.{same_fronts, first_is}
use Rattle.scw_lex.proofs.IdentifierLemmas.{operator_here, operator_is_long, operator_len_fits, identifier_here, identifier_is_long, word_name_len_fits}
use Rattle.scw_lex.proofs.HeadLemmas.{Head, View, head_by, separator_is_some}
use Rattle.scw_lex.proofs.BestLemmas.{Rival, Best, best_is}

-- what becomes of a name is said by its text and its rest
same_name : (front rest other more : List ℕ) → front ++ rest ≡ other ++ more → length other ≡ length front → named other more (word_of other) ≡ named front rest (word_of front)
same_name front rest other more e l =
    let s = same_fronts other more front rest (sym e) l in
    ap (λ f. named f more (word_of f)) s.0 ∙ ap (λ r. named front r (word_of front)) s.1

name_rival : (t : List ℕ) (n : ℕ) (other more : List ℕ) → n ≤ length t → t ≡ other ++ more → length other ≤ n
    → Rival (take n t) (named (take n t) (drop n t) (word_of (take n t))) other (named other more (word_of other))
name_rival t n other more f e l =
    let k : length (take n t) ≡ n = length-take-le n t f in
    record { shorter = omega (arith, k, l); same = same_name (take n t) (drop n t) other more (take-append-drop n t ∙ e) }

word_rival : (t other more : List ℕ) (q : Piece) → t ≡ other ++ more → View Head.Letter other more q
    → Rival (take (word_name_len t) t) (named (take (word_name_len t) t) (drop (word_name_len t) t) (word_of (take (word_name_len t) t))) other q
word_rival t other more q e (View.name i h) =
    let l : length other ≤ word_name_len t = subst (λ u. length other ≤ word_name_len u) (sym e) (identifier_is_long other more i h) in
    name_rival t (word_name_len t) other more (word_name_len_fits t) e l

operator_rival : (t other more : List ℕ) (q : Piece) → t ≡ other ++ more → View Head.Operator other more q
    → Rival (take (operator_len t) t) (named (take (operator_len t) t) (drop (operator_len t) t) (word_of (take (operator_len t) t))) other q
operator_rival t other more q e (View.operator o) =
    let l : length other ≤ operator_len t = subst (λ u. length other ≤ operator_len u) (sym e) (operator_is_long other more o) in
    name_rival t (operator_len t) other more (operator_len_fits t) e l

pub letter_best : (c : ℕ) (cs : List ℕ) → class_of c ≡ class.Letter → Best (c ∷ cs) (name_piece (c ∷ cs))
unfolding name_piece
letter_best c cs h =
    let l : is_letter c ≡ true = ap is_letter_class h in
    let n : ℕ = word_name_len (c ∷ cs) in
    rw l (best_is Head.Letter c cs (take n (c ∷ cs)) (drop n (c ∷ cs)) (named (take n (c ∷ cs)) (drop n (c ∷ cs)) (word_of (take n (c ∷ cs)))) (ap (λ k. head_by k c) h)
    (sym (take-append-drop n (c ∷ cs))) (Lexical.identifier (identifier_here c cs l)) (word_rival (c ∷ cs)))

pub operator_best : (c : ℕ) (cs : List ℕ) → class_of c ≡ class.Operator → begins_comment (c ∷ cs) ≡ false → Best (c ∷ cs) (name_piece (c ∷ cs))
unfolding name_piece
operator_best c cs h k =
    let l : is_letter c ≡ false = ap is_letter_class h in
    let o : is_operator c ≡ true = ap is_operator_class h in
    let n : ℕ = operator_len (c ∷ cs) in
    let any : 0 < n = rw (o, k) (omega arith) in
    let len : length (take n (c ∷ cs)) ≡ n = length-take-le n (c ∷ cs) (operator_len_fits (c ∷ cs)) in
    rw l (best_is Head.Operator c cs (take n (c ∷ cs)) (drop n (c ∷ cs)) (named (take n (c ∷ cs)) (drop n (c ∷ cs)) (word_of (take n (c ∷ cs)))) (ap (λ k. head_by k c) h)
    (sym (take-append-drop n (c ∷ cs))) (Lexical.identifier (IsIdentifier.operator (operator_here (c ∷ cs) (omega (arith, len, any))))) (operator_rival (c ∷ cs)))

bracket_rival : (c : ℕ) (w : Reserved) (cs other more : List ℕ) (q : Piece) → separator c ≡ Some w → c ∷ cs ≡ other ++ more → View Head.Bracket other more q → Rival (c ∷ []) (piece.Token (token_of w) 1) other q
bracket_rival c w cs other more q h e (View.bracket {c = d} {w = v} k) =
    let same : separated (Some v) ≡ separated (Some w) = ap separated (sym k ∙ ap separator (sym (first_is e)) ∙ h) in
    record { shorter = omega arith; same = λ l. same }

pub bracket_best : (c : ℕ) (cs : List ℕ) → class_of c ≡ class.Separator → is_of (codes ".") c ≡ false → Best (c ∷ cs) (separated (separator c))
bracket_best c cs h n = by (separator c) refl (separator_is_some c h)
  where
    by : (o : Option Reserved) → separator c ≡ o → is_some o ≡ true → Best (c ∷ cs) (separated o)
    by None e k = absurd cc
    by (Some w) e k = best_is Head.Bracket c cs (c ∷ []) cs (piece.Token (token_of w) 1) (ap (λ k. head_by k c) h ∙ ap (λ b. cond b Head.Point Head.Bracket) n) refl (Lexical.sign e)
        (λ other more q w2 v. bracket_rival c w cs other more q e w2 v)
