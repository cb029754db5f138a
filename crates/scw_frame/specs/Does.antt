-- What the answer of a function on the frames says of the frames after it.
use Rattle.std.specs.Prelude.{◌≡◌, Option, Some, None}
use Rattle.scw_frame.specs.declared.number.Divided.{Divided}
use Rattle.scw_frame.specs.declared.number.Divided.TheVariants.{Done, ByZero}
use Rattle.scw_frame.specs.Frame.{Calls}

-- the frames are these now, or nothing was defined
abbrev pub Does : {A : Type 0} → Option A → Calls → Option Calls → Type 0
Does None now wanted = wanted ≡ None
Does (Some x) now wanted = wanted ≡ Some now

-- the answer was taken, and the frames are what is left
abbrev pub Takes : {A : Type 0} → Option A → Calls → Option (A × Calls) → Type 0
Takes None now wanted = wanted ≡ None
Takes (Some x) now wanted = wanted ≡ Some (x, now)

-- the frames are these now, the divisor was 0, or nothing was defined
abbrev pub Divides : Option Divided → Calls → Option (Option Calls) → Type 0
Divides None now wanted = wanted ≡ None
Divides (Some Done) now wanted = wanted ≡ Some (Some now)
Divides (Some ByZero) now wanted = wanted ≡ Some None
