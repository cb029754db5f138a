-- The methods of strings: `java/lang/String`, and `concat` of `scalaw/rt/Run`.
use Rattle.std.specs.Prelude.{ℕ, ◌^◌, Bool, cond, ◌&&◌, ◌||◌, not, List, [], ◌∷◌, length, Option, Some, None, Result, Ok, slice_index, nat_lt, nat_le, ◌==◌}
use Rattle.std.specs.Int.{w32}
use Rattle.scw_value.specs.Number.{computed}
use Rattle.scw_value.specs.declared.arithmetic.Arithmetic.TheVariants.{Subtract}
use Rattle.scw_heap.specs.Heap.{Content}
use Rattle.scw_step.specs.declared.state.State.{State}
use Rattle.scw_step.specs.declared.stop.Fault.TheVariants as fault
use Rattle.scw_step.specs.declared.stop.Stop.{Stop}
use Rattle.scw_step.specs.declared.stop.Stop.TheVariants.{Undefined, Throws}
use Rattle.scw_frame.specs.declared.value.Value.TheVariants.{Int, Reference}
use Rattle.scw_step.specs.HeapStep.{bit}
use Rattle.scw_step.specs.StateStep.{and_next, provided, int_taken, reference_taken, giving, roomy}
use Rattle.scw_step.specs.TextStep.{text_at, part, making_text, making_joined}

-- an object is made and given, if the stack has room for its reference
abbrev pub giving_made : (State → Result (ℕ × State) Stop) → State → Result State Stop
giving_made make s = provided (roomy s) Undefined (and_next (make s) (λ x. giving (Reference x.0) x.1))

-- length
abbrev pub giving_length : State → Result State Stop
giving_length s = and_next (reference_taken s) (λ r. and_next (text_at r.0 r.1.heap) (λ t. giving (Int (length t)) r.1))

-- isEmpty
abbrev pub testing_empty : State → Result State Stop
testing_empty s = and_next (reference_taken s) (λ r. and_next (text_at r.0 r.1.heap) (λ t. giving (Int (bit (length t == 0))) r.1))

-- the unit at the index, given by its bits
unfoldable pub unit_at : ℕ → ℕ → Content → Result ℕ Stop
unit_at i r h = and_next (text_at r h) (λ t. provided (nat_lt i (length t)) (Throws (fault.StringIndex i)) (Ok (slice_index t i)))

-- charAt
abbrev pub giving_unit : State → Result State Stop
giving_unit s = and_next (int_taken s) (λ i. and_next (reference_taken i.1) (λ r. and_next (unit_at i.0 r.0 r.1.heap) (λ u. giving (Int u) r.1)))

-- the index is the bits of a negative number
abbrev pub is_negative : ℕ → Bool
is_negative n = nat_le (2 ^ 31) n

-- The places from a to b are those of a text of so many units. Both are given by their bits, and the first that isn't
-- right is the one that is told.
abbrev pub in_bounds : {A : Type 0} → ℕ → ℕ → ℕ → Result A Stop → Result A Stop
in_bounds a b n next =
    provided (not (is_negative a)) (Throws (fault.StringIndex a))
    (provided (is_negative b || nat_le b n) (Throws (fault.StringIndex b))
    (provided (not (is_negative b) && nat_le a b) (Throws (fault.StringIndex a)) next))

unfoldable pub making_part : ℕ → ℕ → ℕ → State → Result (ℕ × State) Stop
making_part a b r s = and_next (text_at r s.heap) (λ t. in_bounds a b (length t) (making_text (part a b t) s))

-- substring
abbrev pub giving_part : State → Result State Stop
giving_part s =
    and_next (int_taken s) (λ b. and_next (int_taken b.1) (λ a. and_next (reference_taken a.1) (λ r.
    giving_made (making_part a.0 b.0 r.0) r.1)))

-- the first unit less the unit at its place in the other text, where they differ; None where one text begins the other
unfoldable pub difference : List ℕ → List ℕ → Option ℕ
difference [] ys = None
difference (x ∷ xs) [] = None
difference (x ∷ xs) (y ∷ ys) = cond (x == y) (difference xs ys) (Some (computed w32 Subtract x y))

abbrev pub or_lengths : Option ℕ → ℕ → ℕ → ℕ
or_lengths None m n = computed w32 Subtract m n
or_lengths (Some d) m n = d

unfoldable pub order_at : ℕ → ℕ → Content → Result ℕ Stop
order_at a b h = and_next (text_at a h) (λ x. and_next (text_at b h) (λ y. Ok (or_lengths (difference x y) (length x) (length y))))

-- compareTo
abbrev pub comparing_texts : State → Result State Stop
comparing_texts s =
    and_next (reference_taken s) (λ b. and_next (reference_taken b.1) (λ a. and_next (order_at a.0 b.0 a.1.heap) (λ d. giving (Int d) a.1)))

-- concat of Run
abbrev pub giving_joined : State → Result State Stop
giving_joined s =
    and_next (reference_taken s) (λ b. and_next (reference_taken b.1) (λ a. giving_made (making_joined a.0 b.0) a.1))
