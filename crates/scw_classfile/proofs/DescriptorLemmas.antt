-- What is left after a part of a descriptor, and the parameters of a method read one after another.
use Rattle.std.proofs.Common.{◌≡◌, ℕ, zero, suc, ◌-◌, ◌<◌, ◌≤◌, Bool, true, false, List, [], ◌∷◌, length, take, drop, get_or, Option, Some, None, cond, refl, sym, ap, ◌∙◌, arith, codes}
use Rattle.std.proofs.Math.Seq.{take-length}
use Rattle.std.specs.Option.{option_and_then}
use Rattle.scw_classfile.specs.Descriptor.{one_of, is_base, after_name, after_field, after_parameters}

-- ---- what is left is shorter

name_fewer : (ends some : Bool) (cs rest : List ℕ) → (after_name true cs ≡ Some rest → length rest < length cs)
    → cond ends (cond some (Some cs) None) (after_name true cs) ≡ Some rest → length rest < suc (length cs)
name_fewer true true cs rest ih e = let same : cs ≡ rest = cc in let h : length cs ≡ length rest = ap length same in omega arith
name_fewer true false cs rest ih e = absurd (cc)
name_fewer false some cs rest ih e = let less = ih e in omega arith

-- fewer characters are left after a name
pub after_name-fewer : (some : Bool) (us rest : List ℕ) → after_name some us ≡ Some rest → length rest < length us
after_name-fewer some [] rest e = absurd (cc)
after_name-fewer some (c ∷ cs) rest e = name_fewer (one_of (codes ";") c) some cs rest (after_name-fewer true cs rest) e

field_fewer : (base class array : Bool) (cs rest : List ℕ) → (after_field cs ≡ Some rest → length rest < length cs)
    → cond base (Some cs) (cond class (after_name false cs) (cond array (after_field cs) None)) ≡ Some rest → length rest < suc (length cs)
field_fewer true class array cs rest ih e = let same : cs ≡ rest = cc in let h : length cs ≡ length rest = ap length same in omega arith
field_fewer false true array cs rest ih e = let less = after_name-fewer false cs rest e in omega arith
field_fewer false false true cs rest ih e = let less = ih e in omega arith
field_fewer false false false cs rest ih e = absurd (cc)

-- fewer characters are left after a field type
pub after_field-fewer : (us rest : List ℕ) → after_field us ≡ Some rest → length rest < length us
after_field-fewer [] rest e = absurd (cc)
after_field-fewer (c ∷ cs) rest e = field_fewer (is_base c) (one_of (codes "L") c) (one_of (codes "[") c) cs rest (after_field-fewer cs rest) e

-- ---- the parameters of a method

then_same : (f g : List ℕ → Option (List ℕ)) (o : Option (List ℕ)) → ((rest : List ℕ) → o ≡ Some rest → f rest ≡ g rest) → option_and_then f o ≡ option_and_then g o
then_same f g None same = refl
then_same f g (Some rest) same = same rest refl

-- any bound on their number does that isn't below the length of the text
pub after_parameters-bound : (n m : ℕ) (us : List ℕ) → length us ≤ n → length us ≤ m → after_parameters n us ≡ after_parameters m us
unfolding after_parameters
after_parameters-bound zero zero us h h' = refl
after_parameters-bound zero (suc m) [] h h' = refl
after_parameters-bound zero (suc m) (c ∷ cs) h h' = absurd (omega arith)
after_parameters-bound (suc n) zero [] h h' = refl
after_parameters-bound (suc n) zero (c ∷ cs) h h' = absurd (omega arith)
after_parameters-bound (suc n) (suc m) [] h h' = refl
after_parameters-bound (suc n) (suc m) (c ∷ cs) h h' =
    ap (cond (one_of (codes ")") c) (Some cs))
    (then_same (after_parameters n) (after_parameters m) (after_field (c ∷ cs))
    (λ rest e. let less = after_field-fewer (c ∷ cs) rest e in after_parameters-bound n m rest (omega arith) (omega arith)))

-- no parameters are left
pub after_parameters-nil : (us : List ℕ) (all : Option (List ℕ)) → after_parameters (length us) us ≡ all → length us < 1 → None ≡ all
unfolding after_parameters
after_parameters-nil [] all e h = e
after_parameters-nil (c ∷ cs) all e h = absurd (omega arith)

-- the first character ends the parameters
pub after_parameters-end : (us : List ℕ) (all : Option (List ℕ)) → after_parameters (length us) us ≡ all → 1 ≤ length us → get_or us 0 0 ≡ 41 → Some (take (length us - 1) (drop 1 us)) ≡ all
unfolding after_parameters
after_parameters-end [] all e h is = absurd (omega arith)
after_parameters-end (c ∷ cs) all e h is =
    let rest : length (c ∷ cs) - 1 ≡ length cs = omega arith in
    ap (λ (n : ℕ). Some (take n cs)) rest ∙ (ap (λ (l : List ℕ). Some l) (take-length cs) ∙ (rw is at e))

other_than : (c : ℕ) → (c ≡ 41 → ⊥) → one_of (codes ")") c ≡ false
other_than c ne = grind arith

-- a parameter begins where they don't end
pub after_parameters-more : (us : List ℕ) → 1 ≤ length us → (get_or us 0 0 ≡ 41 → ⊥) → after_parameters (length us) us ≡ option_and_then (λ rest. after_parameters (length rest) rest) (after_field us)
unfolding after_parameters
after_parameters-more [] h ne = absurd (omega arith)
after_parameters-more (c ∷ cs) h ne =
    let first = other_than c ne in
    let same = then_same (after_parameters (length cs)) (λ (rest : List ℕ). after_parameters (length rest) rest) (after_field (c ∷ cs))
    (λ rest e. let less = after_field-fewer (c ∷ cs) rest e in after_parameters-bound (length cs) (length rest) rest (omega arith) (omega arith)) in
    rw first same

-- a parameter is read, and others follow
pub after_parameters-next : (us rest : List ℕ) (all : Option (List ℕ)) → after_parameters (length us) us ≡ all → 1 ≤ length us → (get_or us 0 0 ≡ 41 → ⊥) → Some rest ≡ after_field us → after_parameters (length rest) rest ≡ all
after_parameters-next us rest all e h ne is =
    let more = after_parameters-more us h ne in
    sym (rw (sym is) at more) ∙ e

-- no parameter begins
pub after_parameters-none : (us : List ℕ) (all : Option (List ℕ)) → after_parameters (length us) us ≡ all → 1 ≤ length us → (get_or us 0 0 ≡ 41 → ⊥) → None ≡ after_field us → None ≡ all
after_parameters-none us all e h ne is =
    let more = after_parameters-more us h ne in
    sym (rw (sym is) at more) ∙ e
