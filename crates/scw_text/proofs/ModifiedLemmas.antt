-- Modified UTF-8: what is written is read again, and what is read was written so.
use Rattle.std.proofs.Common.{◌≡◌, ℕ, zero, suc, ◌+◌, ◌-◌, ◌<◌, ◌≤◌, true, List, [], ◌∷◌, ◌++◌, length, take, Result, Ok, Err, refl, sym, ap, ◌∙◌, append_assoc, subst, arith, IsTrue}
use Rattle.std.proofs.lemmas.Bool.{and_parts, and_from, ltb-true, lt-ltb}
use Rattle.std.proofs.lemmas.List.{length-append, append-nil}
use Rattle.std.proofs.Math.Seq.{take-append-add}
use Rattle.std.specs.List.{list_all}
use Rattle.scw_text.specs.Modified.{unit_bytes, modified, is_unit, unit_at, with_unit, after_unit, units_from, units_of}
use Rattle.scw_text.proofs.ByteLemmas.{AreBytes}
use Rattle.scw_text.proofs.UnitLemmas.{Begins, Stops, some_bytes, unit_at-unit_bytes, unit_at_begins}

-- one unit more
pub units_from-unit : (n : ℕ) (bytes : List ℕ) (u : ℕ) (rest : List ℕ) → unit_at bytes ≡ Ok (u, rest) → units_from (suc n) bytes ≡ with_unit u (length bytes - length rest) (units_from n rest)
unfolding units_from unit_at
units_from-unit n [] u rest e = cc
units_from-unit n (b ∷ bs) u rest e = ap (after_unit (units_from n) (length (b ∷ bs))) e

-- no unit
pub units_from-stop : (n b : ℕ) (bs : List ℕ) (k : ℕ) → unit_at (b ∷ bs) ≡ Err k → units_from (suc n) (b ∷ bs) ≡ Err k
unfolding units_from
units_from-stop n b bs k e = ap (after_unit (units_from n) (length (b ∷ bs))) e

from_again : (n : ℕ) (us : List ℕ) → length (modified us) ≤ n → IsTrue (list_all is_unit us) → units_from n (modified us) ≡ Ok us
unfolding units_from
from_again zero [] le h = refl
from_again (suc n) [] le h = refl
from_again zero (u ∷ us) le h = absurd (let some = some_bytes u in omega (arith, length-append (unit_bytes u) (modified us)))
from_again (suc n) (u ∷ us) le h =
    let p = and_parts (is_unit u) (list_all is_unit us) h in
    let some = some_bytes u in
    let less : length (modified us) ≤ n = omega (arith, length-append (unit_bytes u) (modified us)) in
    let one = unit_at-unit_bytes u (modified us) (ltb-true u 0x10000 p.0) in
    units_from-unit n (unit_bytes u ++ modified us) u (modified us) one
    ∙ ap (with_unit u (length (unit_bytes u ++ modified us) - length (modified us))) (from_again n us less p.1)

-- the units are read again from what is written for them
pub units_of-modified : (us : List ℕ) → IsTrue (list_all is_unit us) → units_of (modified us) ≡ Ok us
units_of-modified us h = from_again (length (modified us)) us (omega arith) h

-- ---- whole texts

by_result : (bytes : List ℕ) (P : Type 0) → ((u : ℕ) (rest : List ℕ) → unit_at bytes ≡ Ok (u, rest) → bytes ≡ unit_bytes u ++ rest → u < 0x10000 → P) → ((k : ℕ) → unit_at bytes ≡ Err k → Stops bytes k → P)
    → (r : Result (ℕ × List ℕ) ℕ) → unit_at bytes ≡ r → Begins bytes r → P
by_result bytes P unit stop (Ok x) e h = unit x.0 x.1 e h.0 h.1
by_result bytes P unit stop (Err k) e h = stop k e h

-- the bytes begin with a unit, or they don't
pub by_unit : (bytes : List ℕ) (P : Type 0) → ((u : ℕ) (rest : List ℕ) → unit_at bytes ≡ Ok (u, rest) → bytes ≡ unit_bytes u ++ rest → u < 0x10000 → P) → ((k : ℕ) → unit_at bytes ≡ Err k → Stops bytes k → P) → P
by_unit bytes P unit stop = by_result bytes P unit stop (unit_at bytes) refl (unit_at_begins bytes)

-- no bytes are no units
pub units_from-nil : (n : ℕ) → units_from n [] ≡ Ok []
unfolding units_from
units_from-nil zero = refl
units_from-nil (suc n) = refl

-- a unit has bytes, so that fewer are left
pub fewer : (u : ℕ) (bytes rest : List ℕ) → bytes ≡ unit_bytes u ++ rest → length rest < length bytes
fewer u bytes rest e = let some = some_bytes u in omega (arith, ap length e, length-append (unit_bytes u) rest)

-- as many units as there are bytes are enough
same_units : (n m : ℕ) (bytes : List ℕ) → length bytes ≤ n → length bytes ≤ m → units_from n bytes ≡ units_from m bytes
same_units n m [] le le' = units_from-nil n ∙ sym (units_from-nil m)
same_units zero m (b ∷ bs) le le' = absurd (omega arith)
same_units (suc n) zero (b ∷ bs) le le' = absurd (omega arith)
same_units (suc n) (suc m) (b ∷ bs) le le' =
    by_unit (b ∷ bs) (units_from (suc n) (b ∷ bs) ≡ units_from (suc m) (b ∷ bs))
    (λ u rest e is lt.
    let less = fewer u (b ∷ bs) rest is in
    units_from-unit n (b ∷ bs) u rest e
    ∙ ap (with_unit u (length (b ∷ bs) - length rest)) (same_units n m rest (omega arith) (omega arith))
    ∙ sym (units_from-unit m (b ∷ bs) u rest e))
    (λ k e s. units_from-stop n b bs k e ∙ sym (units_from-stop m b bs k e))

-- the first unit, and those after it
pub units_of-unit : (bytes : List ℕ) (u : ℕ) (rest : List ℕ) → unit_at bytes ≡ Ok (u, rest) → bytes ≡ unit_bytes u ++ rest → units_of bytes ≡ with_unit u (length bytes - length rest) (units_of rest)
units_of-unit bytes u rest e is =
    let less = fewer u bytes rest is in
    same_units (length bytes) (suc (length bytes)) bytes (omega arith) (omega arith)
    ∙ units_from-unit (length bytes) bytes u rest e
    ∙ ap (with_unit u (length bytes - length rest)) (same_units (length bytes) (length rest) rest (omega arith) (omega arith))

-- the bytes stop to be a text: inside or at their end, after the beginning of one, and the byte at the place decides
pub record StopsUnits (bytes : List ℕ) (p : ℕ) : Type 0 where
  pub within : p ≤ length bytes
  pub begun : (us : List ℕ) × (more : List ℕ) × IsTrue (list_all is_unit us) × (modified us ≡ take p bytes ++ more)
  pub decided : p < length bytes → (more : List ℕ) → units_of (take (suc p) bytes ++ more) ≡ Err p

-- what is read was written so
abbrev pub IsReadFrom : List ℕ → Result (List ℕ) ℕ → Type 0
IsReadFrom bytes (Ok us) = (modified us ≡ bytes) × IsTrue (list_all is_unit us)
IsReadFrom bytes (Err p) = StopsUnits bytes p

-- after a unit
first_read : (u : ℕ) (rest : List ℕ) (r : Result (List ℕ) ℕ) → u < 0x10000 → IsReadFrom rest r → IsReadFrom (unit_bytes u ++ rest) (with_unit u (length (unit_bytes u)) r)
first_read u rest (Ok us) lt h = (ap (λ (l : List ℕ). unit_bytes u ++ l) h.0, and_from (is_unit u) (list_all is_unit us) (lt-ltb u 0x10000 lt) h.1)
first_read u rest (Err p) lt h =
    let size = length (unit_bytes u) in
    record {
      within = let w = h.within in omega (arith, length-append (unit_bytes u) rest);
      begun =
          let vs = h.begun.0 in
          let more = h.begun.1 in (
            u ∷ vs,
            more,
            and_from (is_unit u) (list_all is_unit vs) (lt-ltb u 0x10000 lt) h.begun.2,
            ap (λ (l : List ℕ). unit_bytes u ++ l) h.begun.3 ∙ sym (append_assoc (unit_bytes u) (take p rest) more) ∙ ap (λ (l : List ℕ). l ++ more) (sym (take-append-add (unit_bytes u) rest p)),
          );
      decided = λ inside more.
          let tail = take (suc p) rest ++ more in
          let room : p < length rest = omega (arith, length-append (unit_bytes u) rest) in
          let count : suc (size + p) ≡ size + suc p = omega arith in
          let cut : take (suc (size + p)) (unit_bytes u ++ rest) ++ more ≡ unit_bytes u ++ tail =
          ap (λ (n : ℕ). take n (unit_bytes u ++ rest) ++ more) count ∙ ap (λ (l : List ℕ). l ++ more) (take-append-add (unit_bytes u) rest (suc p)) ∙ append_assoc (unit_bytes u) (take (suc p) rest) more in
          let taken : length (unit_bytes u ++ tail) - length tail ≡ size = omega (arith, length-append (unit_bytes u) tail) in
          ap units_of cut
          ∙ units_of-unit (unit_bytes u ++ tail) u tail (unit_at-unit_bytes u tail lt) refl
          ∙ ap (with_unit u (length (unit_bytes u ++ tail) - length tail)) (h.decided room more)
          ∙ ap (λ (n : ℕ). Err (n + p)) taken;
    }

-- no unit
none_read : (bytes : List ℕ) (k : ℕ) → Stops bytes k → ((more : List ℕ) → k < length bytes → units_of (take (suc k) bytes ++ more) ≡ Err k) → StopsUnits bytes k
none_read bytes k s all =
    let v = s.begun.0 in
    record {
      within = s.within;
      begun = (v ∷ [], s.begun.1, and_from (is_unit v) true (lt-ltb v 0x10000 s.begun.2) refl, append-nil (unit_bytes v) ∙ s.begun.3);
      decided = λ inside more. all more inside;
    }

all_read : (n : ℕ) (bytes : List ℕ) → length bytes ≤ n → IsReadFrom bytes (units_from n bytes)
all_read n [] le = subst (IsReadFrom []) (sym (units_from-nil n)) (refl, refl)
all_read zero (b ∷ bs) le = absurd (omega arith)
all_read (suc n) (b ∷ bs) le =
    by_unit (b ∷ bs) (IsReadFrom (b ∷ bs) (units_from (suc n) (b ∷ bs)))
    (λ u rest e is lt.
    let less = fewer u (b ∷ bs) rest is in
    let later = all_read n rest (omega arith) in
    let taken : length (b ∷ bs) - length rest ≡ length (unit_bytes u) = omega (arith, ap length is, length-append (unit_bytes u) rest) in
    let whole = units_from-unit n (b ∷ bs) u rest e ∙ ap (λ (k : ℕ). with_unit u k (units_from n rest)) taken in
    subst (IsReadFrom (b ∷ bs)) (sym whole) (subst (λ (l : List ℕ). IsReadFrom l (with_unit u (length (unit_bytes u)) (units_from n rest))) (sym is) (first_read u rest (units_from n rest) lt later)))
    (λ k e s. subst (IsReadFrom (b ∷ bs)) (sym (units_from-stop n b bs k e))
    (none_read (b ∷ bs) k s (λ more inside. units_from-stop (length (take k bs ++ more)) b (take k bs ++ more) k (s.decided inside more))))

-- what is read was written so, and what isn't stops to be a text
pub units_of_reads : (bytes : List ℕ) → IsReadFrom bytes (units_of bytes)
units_of_reads bytes = all_read (length bytes) bytes (omega arith)

pub units_of_written : (bytes us : List ℕ) → units_of bytes ≡ Ok us → (modified us ≡ bytes) × IsTrue (list_all is_unit us)
units_of_written bytes us e = subst (IsReadFrom bytes) e (units_of_reads bytes)

-- bytes that are read as units are what is written for them
pub modified-units_of : (bytes us : List ℕ) → AreBytes bytes → units_of bytes ≡ Ok us → (modified us ≡ bytes) × IsTrue (list_all is_unit us)
modified-units_of bytes us are e = units_of_written bytes us e

-- the place of a fault is inside or at the end
pub units_of_place : (bytes : List ℕ) (p : ℕ) → units_of bytes ≡ Err p → p ≤ length bytes
units_of_place bytes p e = (subst (IsReadFrom bytes) e (units_of_reads bytes)).within
