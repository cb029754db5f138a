-- A text put in pieces.
use Rattle.std.proofs.Common.{◌≡◌, ℕ, ◌+◌, ◌-◌, List, take, drop, ◌++◌, Option, Some, None, refl, sym, ap, ◌∙◌, arith, append_assoc, IfSome}
use Rattle.std.specs.Io.KnownBytes.{append_known}
use Rattle.std.proofs.Math.Seq.{take-add}

-- two texts taken in a row are one text
pub append_known-append : (known : Option (List ℕ)) (a b : List ℕ) → append_known (append_known known a) b ≡ append_known known (a ++ b)
append_known-append None a b = refl
append_known-append (Some xs) a b = ap (λ (l : List ℕ). Some l) (append_assoc xs a b)

-- two fronts taken in a row are one front
pub append_known-take : (old mid new : Option (List ℕ)) (bytes : List ℕ) (m n : ℕ) → mid ≡ append_known old (take m bytes) → new ≡ append_known mid (take n (drop m bytes)) → new ≡ append_known old (take (m + n) bytes)
append_known-take old mid new bytes m n before now =
    let both : new ≡ append_known (append_known old (take m bytes)) (take n (drop m bytes)) = rw before at now in
    both ∙ append_known-append old (take m bytes) (take n (drop m bytes))
    ∙ ap (λ (l : List ℕ). append_known old l) (sym (take-add m n bytes))

-- a room lowered twice is lowered by the sum
pub room-lowered : (old mid new : Option ℕ) (m n : ℕ) → IfSome old (λ r. mid ≡ Some (r - m)) → IfSome mid (λ r. new ≡ Some (r - n)) → IfSome old (λ r. new ≡ Some (r - (m + n)))
room-lowered None mid new m n before now = tt
room-lowered (Some r) mid new m n before now =
    let both : new ≡ Some (r - m - n) = rw before at now in
    let sum : r - m - n ≡ r - (m + n) = omega arith in
    both ∙ ap (λ (k : ℕ). Some k) sum
