-- What the machine's comparisons of numbers come to.
use Rattle.std.proofs.Common.{◌≡◌, refl, sym, ℕ, Bool, true, false, not, ℤ}
use Rattle.std.specs.Prelude.{int_lt}
use Rattle.std.specs.Int.{Width, w32, cast_signed}
use Rattle.std.specs.Ordering.{int_eq}
use Rattle.scw_value.specs.Number.{compared, holds}
use Rattle.scw_value.specs.declared.comparison.Comparison.{Comparison}
use Rattle.scw_value.specs.declared.comparison.Comparison.TheVariants.{Equal, NotEqual, Less, GreaterOrEqual, Greater, LessOrEqual}
use Rattle.scw_core.specs.State.{same_boolean}
use Rattle.scw_gen.specs.Mode.{bit, negated}

not-not : (b : Bool) → not (not b) ≡ b
not-not true = refl
not-not false = refl

-- the comparison that holds where the other one doesn't
pub holds-negated : (c : Comparison) (x y : ℤ) → holds (negated c) x y ≡ not (holds c x y)
holds-negated Equal x y = refl
holds-negated NotEqual x y = sym (not-not (int_eq x y))
holds-negated Less x y = refl
holds-negated GreaterOrEqual x y = sym (not-not (int_lt x y))
holds-negated Greater x y = refl
holds-negated LessOrEqual x y = sym (not-not (int_lt y x))

pub compared-negated : (w : Width) (c : Comparison) (a b : ℕ) → compared w (negated c) a b ≡ not (compared w c a b)
compared-negated w c a b = holds-negated c (cast_signed w a) (cast_signed w b)

-- a Boolean is true where its number isn't 0
pub bit-true : (b : Bool) → compared w32 NotEqual (bit b) 0 ≡ b
bit-true true = refl
bit-true false = refl

pub bits-equal : (a b : Bool) → compared w32 Equal (bit a) (bit b) ≡ same_boolean a b
bits-equal true true = refl
bits-equal true false = refl
bits-equal false true = refl
bits-equal false false = refl

pub bits-differ : (a b : Bool) → compared w32 NotEqual (bit a) (bit b) ≡ not (same_boolean a b)
bits-differ true true = refl
bits-differ true false = refl
bits-differ false true = refl
bits-differ false false = refl
