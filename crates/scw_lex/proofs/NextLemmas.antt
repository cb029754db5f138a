-- How the reading of one token goes on: what is passed over belongs to the gap.
use Rattle.std.proofs.Common.{◌≡◌, ℕ, ◌+◌, ◌-◌, ◌<◌, ◌≤◌, Bool, true, false, List, [], ◌∷◌, ◌++◌, length, take, drop, refl, sym, ap, ◌∙◌, subst, arith, append_assoc}
use Rattle.std.specs.Prelude.{nat_eq}
use Rattle.std.proofs.lemmas.Bool.{eqb-true}
use Rattle.std.proofs.lemmas.List.{take-append-drop, take-append-le, take_all, length-append, length-drop}
use Rattle.scw_text.specs.declared.rule.Rule.{Rule}
use Rattle.scw_text.specs.declared.refusal.Refusal.{Refusal}
use Rattle.scw_lex.specs.declared.piece.Piece.{Piece}
use Rattle.scw_lex.specs.declared.piece.Piece.TheVariants as piece
use Rattle.scw_lex.specs.declared.token.Tok.{Tok}
use Rattle.scw_lex.specs.declared.token.Tok.TheVariants as tok
use Rattle.scw_lex.specs.declared.token.Lexeme.{Lexeme}
use Rattle.scw_lex.specs.Gap.{gap_of}
use Rattle.scw_lex.proofs.GapLemmas.{gap_is}
use Rattle.scw_lex.proofs.StandsLemmas.{stands}
use Rattle.scw_lex.specs.Front.{piece_at}
use Rattle.scw_lex.specs.Stands.{Stands}
use Rattle.scw_lex.specs.Lexing.{bytes, IsLexeme, IsRefusal, Found, Next}

-- what is found at the front of a text stands there
found_stands : (c : ℕ) (cs : List ℕ) (p : Piece) → piece_at (c ∷ cs) ≡ p → Stands (c ∷ cs) p
found_stands c cs p e = subst (λ q. Stands (c ∷ cs) q) e (stands c cs)

-- What is read of the text that is left is what is read of the whole, which begins at its own byte. The text that is left is
-- the end of the whole.
pub record ReadSoFar (file since : ℕ) (from : List ℕ) (at : ℕ) (text : List ℕ) : Type 0 where
  pub between : List ℕ
  pub whole : from ≡ between ++ text
  pub goes_on : (found : Found) → Next file since between at text found → Next file since [] since from found

pub read_none : (file at : ℕ) (text : List ℕ) → ReadSoFar file at text at text
read_none file at text = record { between = []; whole = refl; goes_on = λ found next. next }

pub read_more : (file since : ℕ) (from : List ℕ) (at : ℕ) (text : List ℕ) (n : ℕ) → ReadSoFar file since from at text → 0 < length text → piece_at text ≡ piece.Skip n
    → ReadSoFar file since from (at + bytes (take n text)) (drop n text)
read_more file since from at [] n r l e = absurd (omega (arith, l))
read_more file since from at (c ∷ cs) n r l e = record {
  between = r.between ++ take n (c ∷ cs);
  whole = r.whole ∙ ap (λ t. r.between ++ t) (sym (take-append-drop n (c ∷ cs))) ∙ sym (append_assoc r.between (take n (c ∷ cs)) (drop n (c ∷ cs)));
  goes_on = λ found next. r.goes_on found (Next.passes (found_stands c cs (piece.Skip n) e) next);
}

-- what stands before the text that is left
pub gap_text : (file since : ℕ) (from : List ℕ) (at : ℕ) (text front : List ℕ) (r : ReadSoFar file since from at text) → front ≡ take (length from - length text) from → front ≡ r.between
gap_text file since from at text front r e =
    let a : length from ≡ length r.between + length text = ap length r.whole ∙ length-append r.between text in
    let n : length from - length text ≡ length r.between = omega (arith, a) in
    let l : length r.between ≤ length r.between = omega arith in
    e ∙ ap (λ k. take k from) n ∙ ap (take (length r.between)) r.whole ∙ take-append-le (length r.between) r.between text l ∙ take_all (length r.between) r.between l

pub left_is_shorter : (file since : ℕ) (from : List ℕ) (at : ℕ) (text : List ℕ) → ReadSoFar file since from at text → length text ≤ length from
left_is_shorter file since from at text r =
    let a : length from ≡ length r.between + length text = ap length r.whole ∙ length-append r.between text in
    omega (arith, a)

pub token_is_next : (file since : ℕ) (from : List ℕ) (at : ℕ) (text front : List ℕ) (kind : Tok) (n : ℕ) (lexeme : Lexeme) → ReadSoFar file since from at text → 0 < length text
    → piece_at text ≡ piece.Token kind n → front ≡ take (length from - length text) from → IsLexeme file at (at + bytes (take n text)) (gap_of since front) kind lexeme
    → Next file since [] since from (Found.Taken lexeme (at + bytes (take n text)) (drop n text))
token_is_next file since from at [] front kind n lexeme r l e f is = absurd (omega (arith, l))
token_is_next file since from at (c ∷ cs) front kind n lexeme r l e f is =
    let g = gap_text file since from at (c ∷ cs) front r f in
    r.goes_on (Found.Taken lexeme (at + bytes (take n (c ∷ cs))) (drop n (c ∷ cs)))
    (Next.takes (found_stands c cs (piece.Token kind n) e) (gap_is since r.between) (subst (λ b. IsLexeme file at (at + bytes (take n (c ∷ cs))) (gap_of since b) kind lexeme) g is))

pub refusal_is_next : (file since : ℕ) (from : List ℕ) (at : ℕ) (text : List ℕ) (rule : Rule) (before n : ℕ) (refusal : Refusal) → ReadSoFar file since from at text → 0 < length text
    → piece_at text ≡ piece.Refused rule before n → IsRefusal file (at + bytes (take before text)) (at + bytes (take before text) + bytes (take n (drop before text))) rule refusal
    → Next file since [] since from (Found.Failed refusal)
refusal_is_next file since from at [] rule before n refusal r l e is = absurd (omega (arith, l))
refusal_is_next file since from at (c ∷ cs) rule before n refusal r l e is = r.goes_on (Found.Failed refusal) (Next.fails (found_stands c cs (piece.Refused rule before n) e) is)

-- the end, as a token of no characters
pub end_is_next : (file since : ℕ) (from : List ℕ) (at : ℕ) (text : List ℕ) (lexeme : Lexeme) → ReadSoFar file since from at text → length text ≡ 0
    → IsLexeme file at (at + bytes (take 0 text)) (gap_of since from) tok.Eof lexeme → Next file since [] since from (Found.Ended lexeme)
end_is_next file since from at (c ∷ cs) lexeme r l is = absurd (omega (arith, l))
end_is_next file since from at [] lexeme r l is =
    let z : at + 0 ≡ at = omega arith in
    let all : from ≡ r.between = gap_text file since from at [] from r (sym (take_all (length from - 0) from (omega arith))) in
    let here : IsLexeme file at (at + 0) (gap_of since r.between) tok.Eof lexeme = subst (λ b. IsLexeme file at (at + 0) (gap_of since b) tok.Eof lexeme) all is in
    r.goes_on (Found.Ended lexeme) (Next.ends (gap_is since r.between) (rw z at here))

-- tests of emptiness
pub some_left : (text : List ℕ) → false ≡ nat_eq (length text) 0 → 0 < length text
some_left [] h = absurd cc
some_left (c ∷ cs) h = omega arith

pub none_left : (text : List ℕ) → true ≡ nat_eq (length text) 0 → length text ≡ 0
none_left text h = eqb-true (length text) 0 (sym h)
