-- Reading values one after another, as a loop does.
use Rattle.std.proofs.Common.{◌≡◌, ℕ, suc, ◌-◌, ◌+◌, ◌≤◌, ◌<◌, Bool, List, [], ◌∷◌, ◌++◌, Some, None, Result, Ok, Err, refl, sym, ap, ◌∙◌, append_assoc, arith}
use Rattle.std.proofs.lemmas.List.{append-nil}
use Rattle.scw_classfile.specs.declared.fault.Fault.{Fault}
use Rattle.scw_classfile.specs.declared.fault.ReadFault.{ReadFault}
use Rattle.scw_classfile.specs.declared.fault.ReadFault.TheVariants.{Broken, NoMemory}
use Rattle.scw_classfile.specs.Codec.{Read, Codec, ◌>>=◌, read_all, with_front, read_flagged}
use Rattle.scw_classfile.specs.Code.{after_attribute, after_attributes}
use Rattle.scw_classfile.specs.Gives.{Fails}

-- a value that is read goes to the end of the front
regroup : {A : Type 0} (front : List A) (x : A) (read : Result (List A × List ℕ) Fault) → with_front front (read >>= λ y. Ok (x ∷ y.0, y.1)) ≡ with_front (front ++ x ∷ []) read
regroup {A} front x (Ok y) = ap (λ (xs : List A). Ok (xs, y.1)) (simp append_assoc)
regroup front x (Err f) = refl

-- a fault of one value is the fault of all
all_fails : {A : Type 0} (e : ReadFault) (front : List A) (rest : A × List ℕ → Result (List A × List ℕ) Fault) (one : Result (A × List ℕ) Fault) → Fails e one → Fails e (with_front front (one >>= rest))
all_fails (Broken f) front rest one h = rw h refl
all_fails NoMemory front rest one h = tt

module _ {A : Type 0} (r : Read A) (front : List A) (count i : ℕ) (bytes : List ℕ) (total : Result (List A × List ℕ) Fault) where
  -- one value more of so many
  pub goes_on : (x : A) (more : List ℕ) → i < count → r bytes ≡ Ok (x, more)
      → with_front front (read_all r (count - i) bytes) ≡ total → with_front (front ++ x ∷ []) (read_all r (count - (i + 1)) more) ≡ total
  unfolding read_all
  goes_on x more lt h so_far =
      let k : count - i ≡ suc (count - (i + 1)) = omega arith in
      let one : with_front front (read_all r (count - i) bytes) ≡ with_front (front ++ x ∷ []) (read_all r (count - (i + 1)) more) = rw (k, h) (regroup front x (read_all r (count - (i + 1)) more)) in
      sym one ∙ so_far

  -- a value of so many that isn't read
  pub ends : (e : ReadFault) → i < count → Fails e (r bytes) → with_front front (read_all r (count - i) bytes) ≡ total → Fails e total
  unfolding read_all
  ends e lt h so_far =
      let k : count - i ≡ suc (count - (i + 1)) = omega arith in
      rw (sym so_far, k) (all_fails e front (λ x. read_all r (count - (i + 1)) x.1 >>= λ xs. Ok (x.0 ∷ xs.0, xs.1)) (r bytes) h)

  -- so many values are read
  pub is_done : count ≤ i → with_front front (read_all r (count - i) bytes) ≡ total → total ≡ Ok (front, bytes)
  unfolding read_all
  is_done le so_far =
      let k : count - i ≡ 0 = omega arith in
      let one : with_front front (read_all r (count - i) bytes) ≡ Ok (front, bytes) = rw k (ap (λ (xs : List A). Ok (xs, bytes)) (append-nil front)) in
      sym so_far ∙ one

-- the same for a list whose items depend on those before
module _ {A : Type 0} (item : Bool → ℕ → Codec A) (next : Bool → A → Bool) (front : List A) (flag : Bool) (count i : ℕ) (bytes : List ℕ) (total : Result (List A × List ℕ) Fault) where
  pub flagged_goes_on : (x : A) (more : List ℕ) → i < count → (item flag (count - (i + 1))).read bytes ≡ Ok (x, more)
      → with_front front (read_flagged item next flag (count - i) bytes) ≡ total → with_front (front ++ x ∷ []) (read_flagged item next (next flag x) (count - (i + 1)) more) ≡ total
  unfolding read_flagged
  flagged_goes_on x more lt h so_far =
      let k : count - i ≡ suc (count - (i + 1)) = omega arith in
      let one : with_front front (read_flagged item next flag (count - i) bytes) ≡ with_front (front ++ x ∷ []) (read_flagged item next (next flag x) (count - (i + 1)) more) = rw (k, h) (regroup front x (read_flagged item next (next flag x) (count - (i + 1)) more)) in
      sym one ∙ so_far

  pub flagged_ends : (e : ReadFault) → i < count → Fails e ((item flag (count - (i + 1))).read bytes) → with_front front (read_flagged item next flag (count - i) bytes) ≡ total → Fails e total
  unfolding read_flagged
  flagged_ends e lt h so_far =
      let k : count - i ≡ suc (count - (i + 1)) = omega arith in
      rw (sym so_far, k) (all_fails e front (λ x. read_flagged item next (next flag x.0) (count - (i + 1)) x.1 >>= λ xs. Ok (x.0 ∷ xs.0, xs.1)) ((item flag (count - (i + 1))).read bytes) h)

  pub flagged_is_done : count ≤ i → with_front front (read_flagged item next flag (count - i) bytes) ≡ total → total ≡ Ok (front, bytes)
  unfolding read_flagged
  flagged_is_done le so_far =
      let k : count - i ≡ 0 = omega arith in
      let one : with_front front (read_flagged item next flag (count - i) bytes) ≡ Ok (front, bytes) = rw k (ap (λ (xs : List A). Ok (xs, bytes)) (append-nil front)) in
      sym so_far ∙ one

-- ---- attributes that are passed

pub passed_more : (count i : ℕ) (bytes rest : List ℕ) → i < count → after_attribute bytes ≡ Some rest → after_attributes (count - i) bytes ≡ after_attributes (count - (i + 1)) rest
unfolding after_attributes
passed_more count i bytes rest lt h =
    let k : count - i ≡ suc (count - (i + 1)) = omega arith in
    rw (k, h) refl

pub not_passed : (count i : ℕ) (bytes : List ℕ) → i < count → after_attribute bytes ≡ None → after_attributes (count - i) bytes ≡ None
unfolding after_attributes
not_passed count i bytes lt h =
    let k : count - i ≡ suc (count - (i + 1)) = omega arith in
    rw (k, h) refl

pub all_passed : (count i : ℕ) (bytes : List ℕ) → count ≤ i → after_attributes (count - i) bytes ≡ Some bytes
unfolding after_attributes
all_passed count i bytes le =
    let k : count - i ≡ 0 = omega arith in
    rw k refl
