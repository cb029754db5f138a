-- Steps that may give nothing, where the last one gives something.
use Rattle.std.proofs.Common.{◌≡◌, List, ◌++◌, Option, Some, None, refl}
use Rattle.scw_gen.specs.declared.instr.Instr.{Instr}
use Rattle.scw_gen.specs.Code.{joined}
use Rattle.scw_gen.specs.Outcome.{◌>>=◌}

pub bound : {A B : Type 0} (o : Option A) (f : A → Option B) (y : B) → (o >>= f) ≡ Some y → (x : A) × (o ≡ Some x) × (f x ≡ Some y)
bound None f y h = absurd (cc)
bound (Some x) f y h = (x, refl, h)

-- what two codes are, one behind the other
pub record Joined (a b : Option (List Instr)) (all : List Instr) : Type 0 where
  pub first : List Instr
  pub second : List Instr
  pub a-is : a ≡ Some first
  pub b-is : b ≡ Some second
  pub is : first ++ second ≡ all

pub joined-is : (a b : Option (List Instr)) (is : List Instr) → joined a b ≡ Some is → Joined a b is
joined-is None b is h = absurd (cc)
joined-is (Some x) None is h = absurd (cc)
joined-is (Some x) (Some y) is h = let e : x ++ y ≡ is = cc in record { first = x; second = y; a-is = refl; b-is = refl; is = e }
