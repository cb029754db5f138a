-- Reading the units one after another, as a loop does, and what its answer says of the bytes.
use Rattle.std.proofs.Common.{◌≡◌, ℕ, suc, ◌+◌, ◌-◌, ◌<◌, ◌≤◌, true, false, eqb, List, [], ◌∷◌, ◌++◌, length, take, min, Result, Ok, Err, sym, ap, ◌∙◌, append_assoc, subst, arith, IsTrue}
use Rattle.std.proofs.lemmas.Bool.{eqb-true}
use Rattle.std.proofs.lemmas.List.{append-nil}
use Rattle.std.specs.List.{list_all}
use Rattle.scw_text.specs.Modified.{unit_bytes, modified, is_unit, unit_at, with_unit, units_of}
use Rattle.scw_text.specs.ReadModified.{IsFault, last_place, reported}
use Rattle.scw_text.proofs.UnitLemmas.{Begins, unit_at_begins}
use Rattle.scw_text.proofs.ModifiedLemmas.{IsReadFrom, fewer, units_from-nil, units_from-stop, units_of-modified, units_of-unit, units_of_reads}

-- what was read before, and what is still read
abbrev pub with_front : List ℕ → ℕ → Result (List ℕ) ℕ → Result (List ℕ) ℕ
with_front front taken (Ok us) = Ok (front ++ us)
with_front front taken (Err p) = Err (taken + p)

unit_at-bytes : (bytes : List ℕ) (u : ℕ) (rest : List ℕ) → unit_at bytes ≡ Ok (u, rest) → bytes ≡ unit_bytes u ++ rest
unit_at-bytes bytes u rest e = (subst (Begins bytes) e (unit_at_begins bytes)).0

-- after a unit fewer bytes are left
pub unit_at-fewer : (bytes : List ℕ) (u : ℕ) (rest : List ℕ) → unit_at bytes ≡ Ok (u, rest) → length rest < length bytes
unit_at-fewer bytes u rest e = fewer u bytes rest (unit_at-bytes bytes u rest e)

-- where no unit begins, that is inside or at the end
pub unit_at-within : (bytes : List ℕ) (k : ℕ) → unit_at bytes ≡ Err k → k ≤ length bytes
unit_at-within bytes k e = (subst (Begins bytes) e (unit_at_begins bytes)).within

push_front : (front : List ℕ) (u size taken after : ℕ) (r : Result (List ℕ) ℕ) → taken + size ≡ after → with_front (front ++ u ∷ []) after r ≡ with_front front taken (with_unit u size r)
push_front front u size taken after (Ok us) e = ap (λ (l : List ℕ). Ok l) (append_assoc front (u ∷ []) us)
push_front front u size taken after (Err p) e = let sum : after + p ≡ taken + (size + p) = omega arith in ap (λ (n : ℕ). Err n) sum

-- one unit more is read
pub goes_on : (front : List ℕ) (total : ℕ) (bytes : List ℕ) (u : ℕ) (rest : List ℕ) → length bytes ≤ total → unit_at bytes ≡ Ok (u, rest)
    → with_front (front ++ u ∷ []) (total - length rest) (units_of rest) ≡ with_front front (total - length bytes) (units_of bytes)
goes_on front total bytes u rest le e =
    let less = unit_at-fewer bytes u rest e in
    push_front front u (length bytes - length rest) (total - length bytes) (total - length rest) (units_of rest) (omega arith)
    ∙ ap (with_front front (total - length bytes)) (sym (units_of-unit bytes u rest e (unit_at-bytes bytes u rest e)))

-- no unit is read
pub stops_at : (front : List ℕ) (taken : ℕ) (bytes : List ℕ) (k : ℕ) (all : List ℕ) → false ≡ eqb (length bytes) 0 → unit_at bytes ≡ Err k
    → with_front front taken (units_of bytes) ≡ units_of all → units_of all ≡ Err (taken + k)
stops_at front taken [] k all some e so_far = cc
stops_at front taken (b ∷ bs) k all some e so_far = sym so_far ∙ ap (with_front front taken) (units_from-stop (length bs) b bs k e)

-- all are read
pub is_done : (front : List ℕ) (taken : ℕ) (bytes all : List ℕ) → true ≡ eqb (length bytes) 0 → with_front front taken (units_of bytes) ≡ units_of all → units_of all ≡ Ok front
is_done front taken [] all none so_far = sym so_far ∙ ap (with_front front taken) (units_from-nil 0) ∙ ap (λ (l : List ℕ). Ok l) (append-nil front)
is_done front taken (b ∷ bs) all none so_far = absurd (let zero_long = eqb-true (length (b ∷ bs)) 0 (sym none) in omega arith)

-- no text is at fault
pub no_text : (bytes us : List ℕ) (p : ℕ) → units_of bytes ≡ Err p → IsTrue (list_all is_unit us) → bytes ≡ modified us → ⊥
no_text bytes us p e h is = let same = units_of-modified us h in cc

-- a text has one reading
pub same_text : (bytes read us : List ℕ) → units_of bytes ≡ Ok read → IsTrue (list_all is_unit us) → bytes ≡ modified us → read ≡ us
same_text bytes read us e h is = let same = units_of-modified us h in cc

fault_at : (bytes : List ℕ) (p : ℕ) → units_of bytes ≡ Err p → IsFault p bytes
fault_at bytes p e =
    let s = subst (IsReadFrom bytes) e (units_of_reads bytes) in
    record {
      within = s.within;
      begun = s.begun;
      broken = λ inside b.
          let count : p + 1 ≡ suc p = omega arith in
          let next : take (p + 1) bytes ++ b.1 ≡ take (suc p) bytes ++ b.1 = ap (λ (n : ℕ). take n bytes ++ b.1) count in
          no_text (take (suc p) bytes ++ b.1) b.0 p (s.decided inside b.1) b.2 (sym (b.3 ∙ next));
      cut = λ at_end m. no_text bytes m.0 p e m.1 (sym m.2);
    }

-- the place that is reported
pub reported_at : (bytes : List ℕ) (p q : ℕ) → units_of bytes ≡ Err p → q ≡ min p last_place → reported (units_of bytes) ≡ Err q
reported_at bytes p q e is = ap reported e ∙ ap (λ (n : ℕ). Err n) (sym is)

-- the place is at fault
pub is_fault_at : (bytes : List ℕ) (p q : ℕ) → units_of bytes ≡ Err p → q ≡ min p last_place → q < last_place → IsFault q bytes
is_fault_at bytes p q e is lt = let same : p ≡ q = omega arith in subst (λ (n : ℕ). IsFault n bytes) same (fault_at bytes p e)
