-- The longest text at the front of a text, and that no other is as long and another thing.
use Rattle.std.proofs.Common.{◌≡◌, ℕ, ◌<◌, ◌≤◌, List, ◌∷◌, ◌++◌, length, sym, ◌∙◌, subst, arith}
use Rattle.scw_lex.specs.declared.piece.Piece.{Piece}
use Rattle.scw_lex.specs.Lexical.{Lexical}
use Rattle.scw_lex.specs.Stands.{NothingBegins, IsLongest, Stands}
use Rattle.scw_lex.proofs.HeadLemmas.{Head, View, head_at, view_at}

-- the other is no longer, and what becomes of one as long is the same
pub record Rival (front : List ℕ) (p : Piece) (other : List ℕ) (q : Piece) : Type 0 where
  pub shorter : length other ≤ length front
  pub same : length other ≡ length front → q ≡ p

pub record Best (text : List ℕ) (p : Piece) : Type 0 where
  pub front : List ℕ
  pub rest : List ℕ
  pub whole : text ≡ front ++ rest
  pub lexical : Lexical front rest p
  pub most : (other more : List ℕ) (q : Piece) → text ≡ other ++ more → Lexical other more q → Rival front p other q

pub shorter : (front other : List ℕ) (p q : Piece) → length other < length front → Rival front p other q
shorter front other p q l = record { shorter = omega (arith, l); same = λ e. absurd (omega (arith, l, e)) }

pub best_is : (h : Head) (c : ℕ) (cs front rest : List ℕ) (p : Piece) → head_at c ≡ h → c ∷ cs ≡ front ++ rest → Lexical front rest p
    → ((other more : List ℕ) (q : Piece) → c ∷ cs ≡ other ++ more → View h other more q → Rival front p other q) → Best (c ∷ cs) p
best_is h c cs front rest p k e l most = record {
  front = front;
  rest = rest;
  whole = e;
  lexical = l;
  most = λ other more q w o. most other more q w (subst (λ j. View j other more q) k (view_at c cs other more q w o));
}

pub nothing_is : (h : Head) (c : ℕ) (cs : List ℕ) → head_at c ≡ h → ((other more : List ℕ) (q : Piece) → c ∷ cs ≡ other ++ more → View h other more q → ⊥) → NothingBegins (c ∷ cs)
nothing_is h c cs k none = λ other more q e o. none other more q e (subst (λ j. View j other more q) k (view_at c cs other more q e o))

pub best_stands : (text : List ℕ) (p : Piece) → Best text p → Stands text p
best_stands text p b = subst (λ t. Stands t p) (sym b.whole) (Stands.longest b.lexical (λ other more q e o. (b.most other more q (b.whole ∙ e) o).shorter))

-- the longest text has the one piece
pub best_is_one : (text front rest : List ℕ) (p q : Piece) → Best text p → text ≡ front ++ rest → Lexical front rest q → IsLongest front rest → q ≡ p
best_is_one text front rest p q b e l longest =
    let r = b.most front rest q e l in
    let s = r.shorter in
    let k : length b.front ≤ length front = longest b.front b.rest p (sym e ∙ b.whole) b.lexical in
    r.same (omega (arith, s, k))
