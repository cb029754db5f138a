-- Lists of bytes.
use Rattle.std.proofs.Common.{ℕ, suc, ◌+◌, ◌<◌, List, ◌∷◌, ◌++◌, length, get_or, take, drop, inl, inr, lit<, arith}
use Rattle.std.proofs.lemmas.Bool.{cases_lt}
use Rattle.std.proofs.lemmas.List.{get_or-drop, get_or-take, get_or-append-add, get_or_past, length-take}

-- each number is a byte
pub record AreBytes (bs : List ℕ) : Type 0 where
  pub each : (i : ℕ) → get_or bs i 0 < 256

pub AreBytes-head : (b : ℕ) (bs : List ℕ) → AreBytes (b ∷ bs) → b < 256
AreBytes-head b bs h = h.each 0

pub AreBytes-tail : (b : ℕ) (bs : List ℕ) → AreBytes (b ∷ bs) → AreBytes bs
AreBytes-tail b bs h = record { each = λ i. let one : get_or (b ∷ bs) (suc i) 0 < 256 = h.each (suc i) in one }

pub AreBytes-drop : (n : ℕ) (bs : List ℕ) → AreBytes bs → AreBytes (drop n bs)
AreBytes-drop n bs h = record { each = λ i. rw (get_or-drop n bs i 0) (h.each (n + i)) }

pub AreBytes-take : (n : ℕ) (bs : List ℕ) → AreBytes bs → AreBytes (take n bs)
AreBytes-take n bs h = record { each = λ i. elim (cases_lt i n) [ inl lt ↦ rw (get_or-take n bs i 0 lt) (h.each i) | inr le ↦ rw (get_or_past (take n bs) i 0 (omega (arith, length-take n bs))) (lit< tt) ] }

pub AreBytes-right : (xs ys : List ℕ) → AreBytes (xs ++ ys) → AreBytes ys
AreBytes-right xs ys h = record { each = λ i. rw (get_or-append-add xs ys i 0) at (h.each (length xs + i)) }
