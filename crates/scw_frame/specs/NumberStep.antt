-- The instructions that compute with numbers: JVMS 2.11.3, 2.11.4 and 6.5.
use Rattle.std.specs.Prelude.{ℕ, Option, Some, None, ◌==◌, cond}
use Rattle.std.specs.Int.{w32, w64}
use Rattle.scw_value.specs.Number.{computed, negated, divided, shifted, order, converted, widened, narrowed}
use Rattle.scw_value.specs.declared.arithmetic.Arithmetic.{Arithmetic}
use Rattle.scw_value.specs.declared.division.Division.{Division}
use Rattle.scw_value.specs.declared.shift.Shift.{Shift}
use Rattle.scw_value.specs.declared.conversion.Conversion.{Conversion}
use Rattle.scw_frame.specs.declared.value.Value.TheVariants.{Int, Long}
use Rattle.scw_frame.specs.Frame.{Calls}
use Rattle.scw_frame.specs.FrameStep.{and_then, pushing, taken_int, taken_long}

-- iadd, isub, imul, iand, ior, ixor
abbrev pub computing_ints : Arithmetic → Calls → Option Calls
computing_ints op c = and_then (taken_int c) (λ b. and_then (taken_int b.1) (λ a. pushing (Int (computed w32 op a.0 b.0)) a.1))

-- ladd, lsub, lmul, land, lor, lxor
abbrev pub computing_longs : Arithmetic → Calls → Option Calls
computing_longs op c = and_then (taken_long c) (λ b. and_then (taken_long b.1) (λ a. pushing (Long (computed w64 op a.0 b.0)) a.1))

-- ineg, lneg
abbrev pub negating_int : Calls → Option Calls
negating_int c = and_then (taken_int c) (λ a. pushing (Int (negated w32 a.0)) a.1)

abbrev pub negating_long : Calls → Option Calls
negating_long c = and_then (taken_long c) (λ a. pushing (Long (negated w64 a.0)) a.1)

-- ishl, ishr, iushr
abbrev pub shifting_int : Shift → Calls → Option Calls
shifting_int op c = and_then (taken_int c) (λ by. and_then (taken_int by.1) (λ a. pushing (Int (shifted w32 op a.0 by.0)) a.1))

-- lshl, lshr, lushr: the count is an Int
abbrev pub shifting_long : Shift → Calls → Option Calls
shifting_long op c = and_then (taken_int c) (λ by. and_then (taken_long by.1) (λ a. pushing (Long (shifted w64 op a.0 by.0)) a.1))

-- i2b, i2c, i2s
abbrev pub converting : Conversion → Calls → Option Calls
converting op c = and_then (taken_int c) (λ a. pushing (Int (converted op a.0)) a.1)

-- i2l
abbrev pub widening : Calls → Option Calls
widening c = and_then (taken_int c) (λ a. pushing (Long (widened a.0)) a.1)

-- l2i
abbrev pub narrowing : Calls → Option Calls
narrowing c = and_then (taken_long c) (λ a. pushing (Int (narrowed a.0)) a.1)

-- lcmp
abbrev pub comparing : Calls → Option Calls
comparing c = and_then (taken_long c) (λ b. and_then (taken_long b.1) (λ a. pushing (Int (order w64 a.0 b.0)) a.1))

-- idiv, irem: None inside stands for a divisor of 0
abbrev pub int_quotient : Division → ℕ → ℕ → Calls → Option (Option Calls)
int_quotient op a b c = cond (b == 0) (Some None) (and_then (pushing (Int (divided w32 op a b)) c) (λ d. Some (Some d)))

abbrev pub dividing_ints : Division → Calls → Option (Option Calls)
dividing_ints op c = and_then (taken_int c) (λ b. and_then (taken_int b.1) (λ a. int_quotient op a.0 b.0 a.1))

-- ldiv, lrem
abbrev pub long_quotient : Division → ℕ → ℕ → Calls → Option (Option Calls)
long_quotient op a b c = cond (b == 0) (Some None) (and_then (pushing (Long (divided w64 op a b)) c) (λ d. Some (Some d)))

abbrev pub dividing_longs : Division → Calls → Option (Option Calls)
dividing_longs op c = and_then (taken_long c) (λ b. and_then (taken_long b.1) (λ a. long_quotient op a.0 b.0 a.1))
