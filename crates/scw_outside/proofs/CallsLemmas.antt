-- Lists of numbers of calls.
use Rattle.std.proofs.Common.{◌≡◌, ℕ, ◌+◌, ◌≤◌, false, eqb, leb, List, [], ◌∷◌, refl, arith, IsTrue}
use Rattle.std.proofs.lemmas.Bool.{and_parts, and_from, or_from, leb-true, le-leb, ne_eqb}
use Rattle.scw_outside.specs.Calls.{none_after, is_listed}

-- where no number is past n, the next one isn't listed
pub is_listed-none_after : (n : ℕ) (ks : List ℕ) → IsTrue (none_after n ks) → is_listed (n + 1) ks ≡ false
is_listed-none_after n [] h = refl
is_listed-none_after n (k ∷ ks) h =
    let p = and_parts (leb k n) (none_after n ks) h in
    let le : k ≤ n = leb-true k n p.0 in
    or_from (eqb k (n + 1)) (is_listed (n + 1) ks) (ne_eqb k (n + 1) (λ e. omega arith)) (is_listed-none_after n ks p.1)

-- where no number is past n, none is past the next one
pub none_after-more : (n : ℕ) (ks : List ℕ) → IsTrue (none_after n ks) → IsTrue (none_after (n + 1) ks)
none_after-more n [] h = h
none_after-more n (k ∷ ks) h =
    let p = and_parts (leb k n) (none_after n ks) h in
    let le : k ≤ n = leb-true k n p.0 in
    and_from (leb k (n + 1)) (none_after (n + 1) ks) (le-leb k (n + 1) (omega arith)) (none_after-more n ks p.1)
