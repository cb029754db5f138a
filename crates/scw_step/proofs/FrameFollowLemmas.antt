-- The instructions that change the frame that acts do the same without limits.
use Rattle.std.proofs.Common.{ℕ, Bool, true, false, cond, List, [], ◌∷◌, Option, Some, None, ◌==◌, slice_get}
use Rattle.scw_value.specs.declared.arithmetic.Arithmetic.{Arithmetic}
use Rattle.scw_value.specs.declared.division.Division.{Division}
use Rattle.scw_value.specs.declared.shift.Shift.{Shift}
use Rattle.scw_value.specs.declared.conversion.Conversion.{Conversion}
use Rattle.scw_frame.specs.declared.operation.Operation.{Operation}
use Rattle.scw_frame.specs.declared.operation.Operation.TheVariants as op
use Rattle.scw_frame.specs.declared.operation.StackOperation.{StackOperation}
use Rattle.scw_frame.specs.declared.operation.StackOperation.TheVariants as stack
use Rattle.scw_frame.specs.declared.program.Program.{Program}
use Rattle.scw_frame.specs.declared.value.Value.{Value}
use Rattle.scw_frame.specs.declared.value.ValueKind.{ValueKind}
use Rattle.scw_frame.specs.Frame.{Calls, has_room, is_of, placed, places_of, pushed, with_locals, with_stack}
use Rattle.scw_frame.specs.FrameStep.{and_then, if_so, first_of, taken, int_in, long_in, reference_in, taken_int, taken_long, taken_reference, taken_of, pushing, local_of, loading, put, unset_before, filling, storing, incrementing, one, two, pushing_all, doubled, rearranging}
use Rattle.scw_frame.specs.NumberStep.{computing_ints, computing_longs, negating_int, negating_long, shifting_int, shifting_long, converting, widening, narrowing, comparing, int_quotient, dividing_ints, long_quotient, dividing_longs}
use Rattle.scw_step.specs.Step.{computing, jumping}
use Rattle.scw_step.specs.Unlimited.{unlimited_frames}

-- two answers are the same, but for what the function changes
pub data Mirrors {A : Type 0} (g : A → A) : Option A → Option A → Type 0 where
  none : Mirrors g None None
  some : (x : A) → Mirrors g (Some x) (Some (g x))

pub mirrors-then : {A B : Type 0} {g : A → A} {h : B → B} (o o' : Option A) (k k' : A → Option B) → Mirrors g o o' → ((x : A) → Mirrors h (k x) (k' (g x))) → Mirrors h (and_then o k) (and_then o' k')
mirrors-then o o' k k' none f = none
mirrors-then o o' k k' (some x) f = f x

pub mirrors-same : {A : Type 0} (o : Option A) → Mirrors (λ x. x) o o
mirrors-same None = none
mirrors-same (Some x) = some x

mirrors-so : {A : Type 0} {g : A → A} (b : Bool) (o o' : Option A) → Mirrors g o o' → Mirrors g (if_so b o) (if_so b o')
mirrors-so true o o' m = m
mirrors-so false o o' m = none

mirrors-cond : {A : Type 0} {g : A → A} (b : Bool) (o o' q q' : Option A) → Mirrors g o o' → Mirrors g q q' → Mirrors g (cond b o q) (cond b o' q')
mirrors-cond true o o' q q' m n = m
mirrors-cond false o o' q q' m n = n

-- an answer, and the frames without limits
abbrev pub beside_frames : {A : Type 0} → A × Calls → A × Calls
beside_frames x = (x.0, unlimited_frames x.1)

-- ---- the stack

first_of-mirrors : (vs : List Value) (c : Calls) → Mirrors beside_frames (first_of vs c) (first_of vs (unlimited_frames c))
first_of-mirrors [] c = none
first_of-mirrors (v ∷ vs) c = some (v, with_stack vs c)

pub taken-mirrors : (c : Calls) → Mirrors beside_frames (taken c) (taken (unlimited_frames c))
unfolding taken
taken-mirrors c = first_of-mirrors c.current.stack c

pub taken_int-mirrors : (c : Calls) → Mirrors beside_frames (taken_int c) (taken_int (unlimited_frames c))
unfolding taken_int
taken_int-mirrors c = mirrors-then _ _ _ _ (taken-mirrors c) (λ x. mirrors-then _ _ _ _ (mirrors-same (int_in x.0)) (λ n. some (n, x.1)))

pub taken_long-mirrors : (c : Calls) → Mirrors beside_frames (taken_long c) (taken_long (unlimited_frames c))
unfolding taken_long
taken_long-mirrors c = mirrors-then _ _ _ _ (taken-mirrors c) (λ x. mirrors-then _ _ _ _ (mirrors-same (long_in x.0)) (λ n. some (n, x.1)))

pub taken_reference-mirrors : (c : Calls) → Mirrors beside_frames (taken_reference c) (taken_reference (unlimited_frames c))
unfolding taken_reference
taken_reference-mirrors c = mirrors-then _ _ _ _ (taken-mirrors c) (λ x. mirrors-then _ _ _ _ (mirrors-same (reference_in x.0)) (λ n. some (n, x.1)))

pub taken_of-mirrors : (k : ValueKind) (c : Calls) → Mirrors beside_frames (taken_of k c) (taken_of k (unlimited_frames c))
unfolding taken_of
taken_of-mirrors k c = mirrors-then _ _ _ _ (taken-mirrors c) (λ x. mirrors-so (is_of k x.0) _ _ (some x))

pub pushing-mirrors : (v : Value) (c : Calls) → Mirrors unlimited_frames (pushing v c) (pushing v (unlimited_frames c))
unfolding pushing
pushing-mirrors v c = mirrors-so (has_room v c) _ _ (some (pushed v c))

one-mirrors : (c : Calls) → Mirrors beside_frames (one c) (one (unlimited_frames c))
unfolding one
one-mirrors c = mirrors-then _ _ _ _ (taken-mirrors c) (λ x. mirrors-so (places_of x.0 == 1) _ _ (some (x.0 ∷ [], x.1)))

two-mirrors : (c : Calls) → Mirrors beside_frames (two c) (two (unlimited_frames c))
unfolding two
two-mirrors c =
    mirrors-then _ _ _ _ (taken-mirrors c) (λ x.
    mirrors-cond (places_of x.0 == 2) _ _ _ _ (some (x.0 ∷ [], x.1)) (mirrors-then _ _ _ _ (one-mirrors x.1) (λ y. some (x.0 ∷ y.0, y.1))))

pushing_all-mirrors : (vs : List Value) (c : Calls) → Mirrors unlimited_frames (pushing_all vs c) (pushing_all vs (unlimited_frames c))
unfolding pushing_all
pushing_all-mirrors [] c = some c
pushing_all-mirrors (v ∷ vs) c = mirrors-then _ _ _ _ (pushing_all-mirrors vs c) (pushing-mirrors v)

doubled-mirrors : (x y : List Value) (c : Calls) → Mirrors unlimited_frames (doubled x y c) (doubled x y (unlimited_frames c))
doubled-mirrors x y c =
    mirrors-then _ _ _ _ (pushing_all-mirrors x c) (λ d. mirrors-then _ _ _ _ (pushing_all-mirrors y d) (pushing_all-mirrors x))

rearranging-mirrors : (o : StackOperation) (c : Calls) → Mirrors unlimited_frames (rearranging o c) (rearranging o (unlimited_frames c))
rearranging-mirrors stack.Pop c = mirrors-then _ _ _ _ (one-mirrors c) (λ a. some a.1)
rearranging-mirrors stack.PopTwo c = mirrors-then _ _ _ _ (two-mirrors c) (λ a. some a.1)
rearranging-mirrors stack.Duplicate c = mirrors-then _ _ _ _ (one-mirrors c) (λ a. mirrors-then _ _ _ _ (pushing_all-mirrors a.0 a.1) (pushing_all-mirrors a.0))
rearranging-mirrors stack.DuplicateBelowOne c = mirrors-then _ _ _ _ (one-mirrors c) (λ a. mirrors-then _ _ _ _ (one-mirrors a.1) (λ b. doubled-mirrors a.0 b.0 b.1))
rearranging-mirrors stack.DuplicateBelowTwo c = mirrors-then _ _ _ _ (one-mirrors c) (λ a. mirrors-then _ _ _ _ (two-mirrors a.1) (λ b. doubled-mirrors a.0 b.0 b.1))
rearranging-mirrors stack.DuplicateTwo c = mirrors-then _ _ _ _ (two-mirrors c) (λ a. mirrors-then _ _ _ _ (pushing_all-mirrors a.0 a.1) (pushing_all-mirrors a.0))
rearranging-mirrors stack.DuplicateTwoBelowOne c = mirrors-then _ _ _ _ (two-mirrors c) (λ a. mirrors-then _ _ _ _ (one-mirrors a.1) (λ b. doubled-mirrors a.0 b.0 b.1))
rearranging-mirrors stack.DuplicateTwoBelowTwo c = mirrors-then _ _ _ _ (two-mirrors c) (λ a. mirrors-then _ _ _ _ (two-mirrors a.1) (λ b. doubled-mirrors a.0 b.0 b.1))
rearranging-mirrors stack.Swap c = mirrors-then _ _ _ _ (one-mirrors c) (λ a. mirrors-then _ _ _ _ (one-mirrors a.1) (λ b. mirrors-then _ _ _ _ (pushing_all-mirrors a.0 b.1) (pushing_all-mirrors b.0)))

-- ---- local variables

loading-mirrors : (k : ValueKind) (i : ℕ) (c : Calls) → Mirrors unlimited_frames (loading k i c) (loading k i (unlimited_frames c))
unfolding local_of
loading-mirrors k i c = mirrors-then _ _ _ _ (mirrors-same (local_of k i c)) (λ v. pushing-mirrors v c)

filling-mirrors : (v : Value) (i : ℕ) (c : Calls) → Mirrors unlimited_frames (filling v i c) (filling v i (unlimited_frames c))
unfolding filling
filling-mirrors v i c = mirrors-so _ _ _ (some (with_locals (put v (unset_before c.current.locals i) i) c))

storing-mirrors : (k : ValueKind) (i : ℕ) (c : Calls) → Mirrors unlimited_frames (storing k i c) (storing k i (unlimited_frames c))
storing-mirrors k i c = mirrors-then _ _ _ _ (taken_of-mirrors k c) (λ x. filling-mirrors x.0 i x.1)

incrementing-mirrors : (i by : ℕ) (c : Calls) → Mirrors unlimited_frames (incrementing i by c) (incrementing i by (unlimited_frames c))
incrementing-mirrors i by c =
    mirrors-then _ _ _ _ (mirrors-same (slice_get c.current.locals i)) (λ v.
    mirrors-then _ _ _ _ (mirrors-same (int_in v)) (λ n. some _))

-- ---- numbers

abbrev pub maybe_unlimited : Option Calls → Option Calls
maybe_unlimited None = None
maybe_unlimited (Some c) = Some (unlimited_frames c)

computing_ints-mirrors : (o : Arithmetic) (c : Calls) → Mirrors unlimited_frames (computing_ints o c) (computing_ints o (unlimited_frames c))
computing_ints-mirrors o c = mirrors-then _ _ _ _ (taken_int-mirrors c) (λ b. mirrors-then _ _ _ _ (taken_int-mirrors b.1) (λ a. pushing-mirrors _ a.1))

computing_longs-mirrors : (o : Arithmetic) (c : Calls) → Mirrors unlimited_frames (computing_longs o c) (computing_longs o (unlimited_frames c))
computing_longs-mirrors o c = mirrors-then _ _ _ _ (taken_long-mirrors c) (λ b. mirrors-then _ _ _ _ (taken_long-mirrors b.1) (λ a. pushing-mirrors _ a.1))

negating_int-mirrors : (c : Calls) → Mirrors unlimited_frames (negating_int c) (negating_int (unlimited_frames c))
negating_int-mirrors c = mirrors-then _ _ _ _ (taken_int-mirrors c) (λ a. pushing-mirrors _ a.1)

negating_long-mirrors : (c : Calls) → Mirrors unlimited_frames (negating_long c) (negating_long (unlimited_frames c))
negating_long-mirrors c = mirrors-then _ _ _ _ (taken_long-mirrors c) (λ a. pushing-mirrors _ a.1)

shifting_int-mirrors : (o : Shift) (c : Calls) → Mirrors unlimited_frames (shifting_int o c) (shifting_int o (unlimited_frames c))
shifting_int-mirrors o c = mirrors-then _ _ _ _ (taken_int-mirrors c) (λ b. mirrors-then _ _ _ _ (taken_int-mirrors b.1) (λ a. pushing-mirrors _ a.1))

shifting_long-mirrors : (o : Shift) (c : Calls) → Mirrors unlimited_frames (shifting_long o c) (shifting_long o (unlimited_frames c))
shifting_long-mirrors o c = mirrors-then _ _ _ _ (taken_int-mirrors c) (λ b. mirrors-then _ _ _ _ (taken_long-mirrors b.1) (λ a. pushing-mirrors _ a.1))

converting-mirrors : (o : Conversion) (c : Calls) → Mirrors unlimited_frames (converting o c) (converting o (unlimited_frames c))
converting-mirrors o c = mirrors-then _ _ _ _ (taken_int-mirrors c) (λ a. pushing-mirrors _ a.1)

widening-mirrors : (c : Calls) → Mirrors unlimited_frames (widening c) (widening (unlimited_frames c))
widening-mirrors c = mirrors-then _ _ _ _ (taken_int-mirrors c) (λ a. pushing-mirrors _ a.1)

narrowing-mirrors : (c : Calls) → Mirrors unlimited_frames (narrowing c) (narrowing (unlimited_frames c))
narrowing-mirrors c = mirrors-then _ _ _ _ (taken_long-mirrors c) (λ a. pushing-mirrors _ a.1)

comparing-mirrors : (c : Calls) → Mirrors unlimited_frames (comparing c) (comparing (unlimited_frames c))
comparing-mirrors c = mirrors-then _ _ _ _ (taken_long-mirrors c) (λ b. mirrors-then _ _ _ _ (taken_long-mirrors b.1) (λ a. pushing-mirrors _ a.1))

int_quotient-mirrors : (o : Division) (a b : ℕ) (c : Calls) → Mirrors maybe_unlimited (int_quotient o a b c) (int_quotient o a b (unlimited_frames c))
int_quotient-mirrors o a b c = mirrors-cond (b == 0) _ _ _ _ (some None) (mirrors-then _ _ _ _ (pushing-mirrors _ c) (λ d. some (Some d)))

pub dividing_ints-mirrors : (o : Division) (c : Calls) → Mirrors maybe_unlimited (dividing_ints o c) (dividing_ints o (unlimited_frames c))
dividing_ints-mirrors o c =
    mirrors-then _ _ _ _ (taken_int-mirrors c) (λ b. mirrors-then _ _ _ _ (taken_int-mirrors b.1) (λ a. int_quotient-mirrors o a.0 b.0 a.1))

long_quotient-mirrors : (o : Division) (a b : ℕ) (c : Calls) → Mirrors maybe_unlimited (long_quotient o a b c) (long_quotient o a b (unlimited_frames c))
long_quotient-mirrors o a b c = mirrors-cond (b == 0) _ _ _ _ (some None) (mirrors-then _ _ _ _ (pushing-mirrors _ c) (λ d. some (Some d)))

pub dividing_longs-mirrors : (o : Division) (c : Calls) → Mirrors maybe_unlimited (dividing_longs o c) (dividing_longs o (unlimited_frames c))
dividing_longs-mirrors o c =
    mirrors-then _ _ _ _ (taken_long-mirrors c) (λ b. mirrors-then _ _ _ _ (taken_long-mirrors b.1) (λ a. long_quotient-mirrors o a.0 b.0 a.1))

pub computing-mirrors : (o : Operation) (c : Calls) → Mirrors unlimited_frames (computing o c) (computing o (unlimited_frames c))
unfolding computing
computing-mirrors op.Nothing c = some c
computing-mirrors (op.Push v) c = pushing-mirrors v c
computing-mirrors (op.Load k i) c = loading-mirrors k i c
computing-mirrors (op.Store k i) c = storing-mirrors k i c
computing-mirrors (op.Increment i by) c = incrementing-mirrors i by c
computing-mirrors (op.Stack o) c = rearranging-mirrors o c
computing-mirrors (op.IntArithmetic o) c = computing_ints-mirrors o c
computing-mirrors (op.LongArithmetic o) c = computing_longs-mirrors o c
computing-mirrors (op.IntShift o) c = shifting_int-mirrors o c
computing-mirrors (op.LongShift o) c = shifting_long-mirrors o c
computing-mirrors op.IntNegate c = negating_int-mirrors c
computing-mirrors op.LongNegate c = negating_long-mirrors c
computing-mirrors (op.Convert o) c = converting-mirrors o c
computing-mirrors op.Widen c = widening-mirrors c
computing-mirrors op.Narrow c = narrowing-mirrors c
computing-mirrors op.CompareLongs c = comparing-mirrors c
computing-mirrors _ c = none

-- ---- jumps

pub jumping-mirrors : (p : Program) (o : Operation) (next : ℕ) (c : Calls) → Mirrors unlimited_frames (jumping p o next c) (jumping p o next (unlimited_frames c))
unfolding jumping
jumping-mirrors p (op.Jump target) next c = some (placed target c)
jumping-mirrors p (op.JumpIfZero k target) next c = mirrors-then _ _ _ _ (taken_int-mirrors c) (λ a. some _)
jumping-mirrors p (op.JumpIfInts k target) next c = mirrors-then _ _ _ _ (taken_int-mirrors c) (λ b. mirrors-then _ _ _ _ (taken_int-mirrors b.1) (λ a. some _))
jumping-mirrors p (op.JumpIfSame same target) next c = mirrors-then _ _ _ _ (taken_reference-mirrors c) (λ b. mirrors-then _ _ _ _ (taken_reference-mirrors b.1) (λ a. some _))
jumping-mirrors p (op.JumpIfNull null target) next c = mirrors-then _ _ _ _ (taken_reference-mirrors c) (λ a. some _)
jumping-mirrors p (op.Switch n) next c = mirrors-then _ _ _ _ (mirrors-same (slice_get p.switches n.0)) (λ x. mirrors-then _ _ _ _ (taken_int-mirrors c) (λ a. some _))
jumping-mirrors p _ next c = none
