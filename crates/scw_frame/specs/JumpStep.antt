-- The instructions that choose where the frame goes on: JVMS 2.11.7 and 6.5. Each is given the place behind it.
use Rattle.std.specs.Prelude.{ℕ, Bool, not, cond, Option, Some, None, List, [], ◌∷◌, ◌==◌, slice_get, int_lt}
use Rattle.std.specs.Int.{w32, cast_signed}
use Rattle.scw_value.specs.Number.{compared, computed}
use Rattle.scw_value.specs.declared.arithmetic.Arithmetic.TheVariants.{Subtract}
use Rattle.scw_value.specs.declared.comparison.Comparison.{Comparison}
use Rattle.scw_frame.specs.declared.program.Switch.{Switch}
use Rattle.scw_frame.specs.declared.program.Switch.TheVariants.{Table, Lookup}
use Rattle.scw_frame.specs.declared.program.Case.{Case}
use Rattle.scw_frame.specs.Frame.{Calls, placed}
use Rattle.scw_frame.specs.FrameStep.{and_then, taken_int, taken_reference}

abbrev pub going : Bool → ℕ → ℕ → Calls → Calls
going jumps target next c = placed (cond jumps target next) c

-- ifeq, ifne, iflt, ifge, ifgt, ifle
abbrev pub jumping_if_zero : Comparison → ℕ → ℕ → Calls → Option Calls
jumping_if_zero k target next c = and_then (taken_int c) (λ a. Some (going (compared w32 k a.0 0) target next a.1))

-- if_icmpeq and the others
abbrev pub jumping_if_ints : Comparison → ℕ → ℕ → Calls → Option Calls
jumping_if_ints k target next c =
    and_then (taken_int c) (λ b. and_then (taken_int b.1) (λ a. Some (going (compared w32 k a.0 b.0) target next a.1)))

-- if_acmpeq, and if_acmpne where `same` is false
abbrev pub jumping_if_same : Bool → ℕ → ℕ → Calls → Option Calls
jumping_if_same same target next c =
    and_then (taken_reference c) (λ b. and_then (taken_reference b.1) (λ a. Some (going (cond (a.0 == b.0) same (not same)) target next a.1)))

-- ifnull, and ifnonnull where `null` is false
abbrev pub jumping_if_null : Bool → ℕ → ℕ → Calls → Option Calls
jumping_if_null null target next c = and_then (taken_reference c) (λ a. Some (going (cond (a.0 == 0) null (not null)) target next a.1))

abbrev pub or_default : ℕ → Option ℕ → ℕ
or_default default None = default
or_default default (Some target) = target

-- the target of the first case with the key
abbrev pub case_of : ℕ → List Case → Option ℕ
case_of key [] = None
case_of key (x ∷ more) = cond (x.key == key) (Some x.target) (case_of key more)

-- where a switch goes on at a number, by its bits
abbrev pub target_of : Switch → ℕ → ℕ
target_of (Table default low targets) n =
    cond (int_lt (cast_signed w32 n) (cast_signed w32 low)) default (or_default default (slice_get targets (computed w32 Subtract n low)))
target_of (Lookup default cases) n = or_default default (case_of n cases)

-- tableswitch, lookupswitch
abbrev pub switching : Switch → Calls → Option Calls
switching s c = and_then (taken_int c) (λ a. Some (placed (target_of s a.0) a.1))
