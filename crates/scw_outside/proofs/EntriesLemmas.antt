-- Entries as a map.
use Rattle.std.proofs.Common.{◌≡◌, ℕ, suc, ◌+◌, ◌<◌, Bool, true, false, cond, List, [], ◌∷◌, ◌++◌, length, get_or, take, drop, set, Option, Some, refl, sym, ap, ◌∙◌, inl, inr, add-one, ◌⊎◌}
use Rattle.std.proofs.lemmas.Bool.{cases_Bool, cond-true, cond-false, false_from_ne_true, both_ways}
use Rattle.std.proofs.lemmas.List.{take-append-drop, take-set, drop-set}
use Rattle.std.proofs.Math.Seq.{drop-cons}
use Rattle.std.proofs.lemmas.Slice.Eq.{bytes_eq-Decides}
use Rattle.scw_outside.specs.Content.{same_name, with_file}
use Rattle.scw_outside.specs.Entries.{held, with_entry}

-- an entry put is a file replaced
pub held-with_entry : (name bytes : List ℕ) (es : List (List ℕ × List ℕ)) (m : List ℕ) → held (with_entry name bytes es) m ≡ with_file name bytes (held es) m
held-with_entry name bytes [] m = refl
held-with_entry name bytes (e ∷ es) m = by_head (cases_Bool (same_name e.0 name)) (held-with_entry name bytes es m)
  where
    by_head : (same_name e.0 name ≡ true) ⊎ (same_name e.0 name ≡ false) → held (with_entry name bytes es) m ≡ with_file name bytes (held es) m → held (with_entry name bytes (e ∷ es)) m ≡ with_file name bytes (held (e ∷ es)) m
    by_head (inl same) ih =
        let one : e.0 ≡ name = (bytes_eq-Decides e.0 name).0 same in
        ap (λ (l : List (List ℕ × List ℕ)). held l m) (cond-true (same_name e.0 name) ((name, bytes) ∷ es) (e ∷ with_entry name bytes es) same)
        ∙ same_key (same_name name m) (same_name e.0 m) (ap (λ (k : List ℕ). same_name k m) one)
      where
        same_key : (a b : Bool) → b ≡ a → cond a (Some bytes) (held es m) ≡ cond a (Some bytes) (cond b (Some e.1) (held es m))
        same_key true b h = refl
        same_key false b h = sym (cond-false b (Some e.1) (held es m) h)
    by_head (inr apart) ih =
        ap (λ (l : List (List ℕ × List ℕ)). held l m) (cond-false (same_name e.0 name) ((name, bytes) ∷ es) (e ∷ with_entry name bytes es) apart)
        ∙ other (cases_Bool (same_name e.0 m)) ih
      where
        other : (same_name e.0 m ≡ true) ⊎ (same_name e.0 m ≡ false) → held (with_entry name bytes es) m ≡ with_file name bytes (held es) m → cond (same_name e.0 m) (Some e.1) (held (with_entry name bytes es) m) ≡ with_file name bytes (held (e ∷ es)) m
        other (inl here) h =
            let one : e.0 ≡ m = (bytes_eq-Decides e.0 m).0 here in
            let not_it : same_name name m ≡ false = false_from_ne_true (same_name name m) (λ (t : same_name name m ≡ true). absurd (both_ways (same_name e.0 name) apart ((bytes_eq-Decides e.0 name).1 (one ∙ sym ((bytes_eq-Decides name m).0 t))))) in
            cond-true (same_name e.0 m) (Some e.1) (held (with_entry name bytes es) m) here
            ∙ sym (cond-false (same_name name m) (Some bytes) (held (e ∷ es) m) not_it ∙ cond-true (same_name e.0 m) (Some e.1) (held es m) here)
        other (inr not_here) h =
            cond-false (same_name e.0 m) (Some e.1) (held (with_entry name bytes es) m) not_here ∙ h
            ∙ ap (λ (o : Option (List ℕ)). cond (same_name name m) (Some bytes) o) (sym (cond-false (same_name e.0 m) (Some e.1) (held es m) not_here))

-- at the first entry of the name, an entry put is an entry set
pub found_here : (es : List (List ℕ × List ℕ)) (i : ℕ) (e : List ℕ × List ℕ) (name b : List ℕ) → i < length es → e ≡ get_or es i e → same_name e.0 name ≡ true → with_entry name b es ≡ take i es ++ with_entry name b (drop i es) → with_entry name b es ≡ set es i (name, b)
found_here es i e name b lt is same so_far =
    let rest : drop i es ≡ e ∷ drop (i + 1) es = rw add-one (drop-cons es i e lt ∙ ap (λ (x : List ℕ × List ℕ). x ∷ drop (suc i) es) (sym is)) in
    let here : with_entry name b (drop i es) ≡ (name, b) ∷ drop (i + 1) es = ap (with_entry name b) rest ∙ cond-true (same_name e.0 name) ((name, b) ∷ drop (i + 1) es) (e ∷ with_entry name b (drop (i + 1) es)) same in
    let cut : set es i (name, b) ≡ take i es ++ ((name, b) ∷ drop (i + 1) es) = sym (take-append-drop i (set es i (name, b))) ∙ rw (take-set, drop-set) refl in
    so_far ∙ ap (λ (l : List (List ℕ × List ℕ)). take i es ++ l) here ∙ sym cut
