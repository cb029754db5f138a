-- The instructions that change the frame that acts, and nothing else: JVMS 6.5. None stands where an instruction isn't
-- defined. The place of the next instruction is set by `Step`, but for jumps.
use Rattle.std.specs.Prelude.{ℕ, ◌+◌, ◌-◌, ◌%◌, ◌^◌, Bool, true, false, cond, List, [], ◌∷◌, length, Option, Some, None, slice_get, slice_set, nat_le, ◌==◌}
use Rattle.scw_frame.specs.declared.value.Value.{Value}
use Rattle.scw_frame.specs.declared.value.Value.TheVariants.{Unset, Int, Long, Reference}
use Rattle.scw_frame.specs.declared.value.ValueKind.{ValueKind}
use Rattle.scw_frame.specs.declared.value.ValueKind.TheVariants as kind
use Rattle.scw_frame.specs.declared.operation.StackOperation.{StackOperation}
use Rattle.scw_frame.specs.declared.operation.StackOperation.TheVariants as stack
use Rattle.scw_frame.specs.Frame.{Calls, is_of, places_of, pushed, has_room, with_stack, with_locals}

abbrev pub and_then : {A B : Type 0} → Option A → (A → Option B) → Option B
and_then None k = None
and_then (Some x) k = k x

-- where the answer is yes
abbrev pub if_so : {A : Type 0} → Bool → Option A → Option A
if_so true o = o
if_so false o = None

-- ---- what an instruction takes from the stack

abbrev pub first_of : List Value → Calls → Option (Value × Calls)
first_of [] c = None
first_of (v ∷ vs) c = Some (v, with_stack vs c)

-- the top, and what is left
unfoldable pub taken : Calls → Option (Value × Calls)
taken c = first_of c.current.stack c

abbrev pub int_in : Value → Option ℕ
int_in Unset = None
int_in (Int n) = Some n
int_in (Long n) = None
int_in (Reference r) = None

abbrev pub long_in : Value → Option ℕ
long_in Unset = None
long_in (Int n) = None
long_in (Long n) = Some n
long_in (Reference r) = None

abbrev pub reference_in : Value → Option ℕ
reference_in Unset = None
reference_in (Int n) = None
reference_in (Long n) = None
reference_in (Reference r) = Some r

unfoldable pub taken_int : Calls → Option (ℕ × Calls)
taken_int c = and_then (taken c) (λ x. and_then (int_in x.0) (λ n. Some (n, x.1)))

unfoldable pub taken_long : Calls → Option (ℕ × Calls)
taken_long c = and_then (taken c) (λ x. and_then (long_in x.0) (λ n. Some (n, x.1)))

unfoldable pub taken_reference : Calls → Option (ℕ × Calls)
taken_reference c = and_then (taken c) (λ x. and_then (reference_in x.0) (λ n. Some (n, x.1)))

unfoldable pub taken_of : ValueKind → Calls → Option (Value × Calls)
taken_of k c = and_then (taken c) (λ x. if_so (is_of k x.0) (Some x))

-- ---- what it leaves

unfoldable pub pushing : Value → Calls → Option Calls
pushing v c = if_so (has_room v c) (Some (pushed v c))

-- ---- local variables

-- the local variable, where it is of the kind
unfoldable pub local_of : ValueKind → ℕ → Calls → Option Value
local_of k i c = and_then (slice_get c.current.locals i) (λ v. if_so (is_of k v) (Some v))

-- iload, lload, aload
abbrev pub loading : ValueKind → ℕ → Calls → Option Calls
loading k i c = and_then (local_of k i c) (λ v. pushing v c)

-- a Long whose second half is overwritten is none any more
abbrev pub halved : Option Value → List Value → ℕ → List Value
halved None locals i = locals
halved (Some v) locals i = cond (is_of kind.Long v) (slice_set locals i Unset) locals

abbrev pub unset_before : List Value → ℕ → List Value
unset_before locals i = cond (i == 0) locals (halved (slice_get locals (i - 1)) locals (i - 1))

-- the value fills its local variables: a Long two, of which the second holds nothing
abbrev pub put : Value → List Value → ℕ → List Value
put Unset locals i = slice_set locals i Unset
put (Int n) locals i = slice_set locals i (Int n)
put (Long n) locals i = slice_set (slice_set locals i (Long n)) (i + 1) Unset
put (Reference r) locals i = slice_set locals i (Reference r)

unfoldable pub filling : Value → ℕ → Calls → Option Calls
filling v i c = if_so (nat_le (i + places_of v) (length c.current.locals)) (Some (with_locals (put v (unset_before c.current.locals i) i) c))

-- istore, lstore, astore
abbrev pub storing : ValueKind → ℕ → Calls → Option Calls
storing k i c = and_then (taken_of k c) (λ x. filling x.0 i x.1)

-- iinc
abbrev pub incrementing : ℕ → ℕ → Calls → Option Calls
incrementing i by c = and_then (slice_get c.current.locals i) (λ v. and_then (int_in v) (λ n. Some (with_locals (slice_set c.current.locals i (Int ((n + by) % 2 ^ 32))) c)))

-- ---- the stack

-- one value of one place
unfoldable pub one : Calls → Option (List Value × Calls)
one c = and_then (taken c) (λ x. if_so (places_of x.0 == 1) (Some (x.0 ∷ [], x.1)))

-- a Long, or two values of one place each, the top first
unfoldable pub two : Calls → Option (List Value × Calls)
two c = and_then (taken c) (λ x. cond (places_of x.0 == 2) (Some (x.0 ∷ [], x.1)) (and_then (one x.1) (λ y. Some (x.0 ∷ y.0, y.1))))

-- the values are pushed, the last of the list first
unfoldable pub pushing_all : List Value → Calls → Option Calls
pushing_all [] c = Some c
pushing_all (v ∷ vs) c = and_then (pushing_all vs c) (pushing v)

-- x stands on top again, and once more below y
abbrev pub doubled : List Value → List Value → Calls → Option Calls
doubled x y c = and_then (pushing_all x c) (λ d. and_then (pushing_all y d) (pushing_all x))

-- pop, pop2, dup and its five other forms, swap: each form of JVMS 6.5 takes groups of one or two places
abbrev pub rearranging : StackOperation → Calls → Option Calls
rearranging stack.Pop c = and_then (one c) (λ a. Some a.1)
rearranging stack.PopTwo c = and_then (two c) (λ a. Some a.1)
rearranging stack.Duplicate c = and_then (one c) (λ a. and_then (pushing_all a.0 a.1) (pushing_all a.0))
rearranging stack.DuplicateBelowOne c = and_then (one c) (λ a. and_then (one a.1) (λ b. doubled a.0 b.0 b.1))
rearranging stack.DuplicateBelowTwo c = and_then (one c) (λ a. and_then (two a.1) (λ b. doubled a.0 b.0 b.1))
rearranging stack.DuplicateTwo c = and_then (two c) (λ a. and_then (pushing_all a.0 a.1) (pushing_all a.0))
rearranging stack.DuplicateTwoBelowOne c = and_then (two c) (λ a. and_then (one a.1) (λ b. doubled a.0 b.0 b.1))
rearranging stack.DuplicateTwoBelowTwo c = and_then (two c) (λ a. and_then (two a.1) (λ b. doubled a.0 b.0 b.1))
rearranging stack.Swap c = and_then (one c) (λ a. and_then (one a.1) (λ b. and_then (pushing_all a.0 b.1) (pushing_all b.0)))
