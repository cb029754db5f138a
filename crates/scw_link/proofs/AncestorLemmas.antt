-- What is reached in a step more.
use Rattle.std.proofs.Common.{◌≡◌, ℕ, zero, suc, ◌+◌, ◌-◌, ◌<◌, ◌≤◌, Bool, false, ◌||◌, List, [], ◌∷◌, map, length, get_or, nat_eq, refl, ap, sym, ◌∙◌, arith, add-one, add-zero, ne_eqb, inl, inr}
use Rattle.std.proofs.lemmas.List.{get_or_past}
use Rattle.std.specs.List.{list_any, range_with_len}
use Rattle.std.proofs.lemmas.List.FromFn.{get_or-map-range_with_len, length-map-range_with_len}
use Rattle.std.proofs.lemmas.Bool.{cases_lt}
use Rattle.scw_link.specs.Ancestors.{reaches, reached, all_reached}
use Rattle.scw_link.specs.AncestorRows.{bit, next_bit, next_row, next_rows}

-- functions that agree below a bound have the same values there
map-range : {X : Type 0} (f g : ℕ → X) (a n : ℕ) → ((k : ℕ) → k < a + n → f k ≡ g k) → map f (range_with_len a n) ≡ map g (range_with_len a n)
map-range f g a zero h = refl
map-range f g a (suc n) h =
    let rest = map-range f g (a + 1) n (λ k l. h k (omega arith)) in
    ap (λ y. y ∷ map f (range_with_len (a + 1) n)) (h a (omega arith)) ∙ ap (λ ys. g a ∷ ys) rest

any-same : (f g : ℕ → Bool) (xs : List ℕ) → ((k : ℕ) → f k ≡ g k) → list_any f xs ≡ list_any g xs
any-same f g [] h = refl
any-same f g (x ∷ xs) h = ap (λ b. b || list_any f xs) (h x) ∙ ap (λ b. g x || b) (any-same f g xs h)

-- a number that is no class reaches no class
reaches-past : (supers : List (List ℕ)) (n s d : ℕ) → length supers ≤ s → d < length supers → reaches supers n s d ≡ false
reaches-past supers zero s d out h = ne_eqb s d (omega arith)
reaches-past supers (suc n) s d out h =
    let other : nat_eq s d ≡ false = ne_eqb s d (omega arith) in
    ap (λ b. b || list_any (λ k. reaches supers n k d) (get_or supers s [])) other
    ∙ ap (λ ks. list_any (λ k. reaches supers n k d) ks) (get_or_past supers s [] out)

-- the rows tell what is reached
bit-reached : (supers : List (List ℕ)) (n s d : ℕ) → d < length supers → bit (all_reached supers n) s d ≡ reaches supers n s d
bit-reached supers n s d h = elim (cases_lt s (length supers)) [
  | inl in_range ↦
      ap (λ row. get_or row d false) (get_or-map-range_with_len (reached supers n) 0 (length supers) s s [] in_range (omega arith))
      ∙ get_or-map-range_with_len (reaches supers n s) 0 (length supers) d d false h (omega arith)
  | inr out ↦
      let size = length-map-range_with_len (reached supers n) 0 (length supers) in
      ap (λ row. get_or row d false) (get_or_past (all_reached supers n) s [] (omega (arith, size)))
      ∙ sym (reaches-past supers n s d out h)
]

row-next : (supers : List (List ℕ)) (n c : ℕ) → next_row supers (all_reached supers n) c ≡ reached supers (suc n) c
row-next supers n c =
    map-range (next_bit (all_reached supers n) (get_or supers c []) c) (reaches supers (suc n) c) 0 (length supers)
    (λ k h. ap (λ b. nat_eq c k || b) (any-same (λ s. bit (all_reached supers n) s k) (λ s. reaches supers n s k) (get_or supers c []) (λ s. bit-reached supers n s k (omega arith))))

-- the next rows are those of a step more
pub rows-next : (supers : List (List ℕ)) (n : ℕ) → next_rows supers (all_reached supers n) ≡ all_reached supers (n + 1)
rows-next supers n = rw add-one (map-range (next_row supers (all_reached supers n)) (reached supers (suc n)) 0 (length supers) (λ c h. row-next supers n c))

-- where a step more reaches nothing more, no number of steps does
stays : (supers : List (List ℕ)) (n m : ℕ) → all_reached supers (n + 1) ≡ all_reached supers n → all_reached supers (n + m) ≡ all_reached supers n
stays supers n zero e = ap (λ k. all_reached supers k) (add-zero n)
stays supers n (suc m) e =
    let one_more : n + suc m ≡ (n + m) + 1 = omega arith in
    ap (λ k. all_reached supers k) one_more
    ∙ (sym (rows-next supers (n + m)) ∙ (ap (next_rows supers) (stays supers n m e) ∙ (rows-next supers n ∙ e)))

-- the rows of some steps, if the next rows are the same, are those of as many steps as there are classes
pub rows-settled : (supers : List (List ℕ)) (rows next : List (List Bool)) (n : ℕ) → n ≤ length supers → rows ≡ all_reached supers n → next ≡ next_rows supers rows → rows ≡ next → rows ≡ all_reached supers (length supers)
rows-settled supers rows next n h was made same =
    let settled : all_reached supers (n + 1) ≡ all_reached supers n = sym (rows-next supers n) ∙ (ap (next_rows supers) (sym was) ∙ (sym made ∙ (sym same ∙ was))) in
    let size : n + (length supers - n) ≡ length supers = omega arith in
    was ∙ (sym (stays supers n (length supers - n) settled) ∙ ap (λ k. all_reached supers k) size)
