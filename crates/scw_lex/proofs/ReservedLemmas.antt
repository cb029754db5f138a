-- Texts of different lengths are different.
use Rattle.std.proofs.Common.{◌≡◌, ◌≢◌, ℕ, Bool, true, false, List, length, refl, ap}
use Rattle.std.specs.Str.{bytes_eq}
use Rattle.std.proofs.lemmas.Slice.Eq.{bytes_eq-Decides}

pub other_length : (xs ys : List ℕ) → length xs ≢ length ys → bytes_eq xs ys ≡ false
other_length xs ys h = by (bytes_eq xs ys) refl
  where
    by : (b : Bool) → bytes_eq xs ys ≡ b → b ≡ false
    by true e = absurd (h (ap length ((bytes_eq-Decides xs ys).0 e)))
    by false e = refl
