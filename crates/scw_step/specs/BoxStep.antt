-- Boxes, the one value of Unit, and when objects are equal: methods of `scalaw/rt/Run`, and `equals` of `Object`.
use Rattle.std.specs.Prelude.{ℕ, ◌%◌, ◌^◌, Bool, true, false, cond, ◌&&◌, List, [], ◌∷◌, Option, Some, None, Result, Ok, nat_lt, ◌==◌}
use Rattle.scw_value.specs.Number.{widened}
use Rattle.scw_heap.specs.Heap.{Content, words_at}
use Rattle.scw_heap.specs.declared.kind.Kind.{Kind}
use Rattle.scw_heap.specs.declared.kind.Kind.TheVariants as made
use Rattle.scw_step.specs.declared.object.Shape.{Shape}
use Rattle.scw_frame.specs.declared.operation.Primitive.{Primitive}
use Rattle.scw_frame.specs.declared.operation.Primitive.TheVariants as primitive
use Rattle.scw_step.specs.declared.state.State.{State}
use Rattle.scw_step.specs.declared.stop.Fault.TheVariants as fault
use Rattle.scw_step.specs.declared.stop.Stop.{Stop}
use Rattle.scw_step.specs.declared.stop.Stop.TheVariants.{Undefined, Throws}
use Rattle.scw_frame.specs.declared.value.Value.TheVariants.{Int}
use Rattle.scw_step.specs.HeapStep.{bit, primitive_value, with_word_at, word_at}
use Rattle.scw_step.specs.StateStep.{and_next, provided, reference_taken, value_taken, value_of, word_of, giving, making, shape_at}
use Rattle.scw_step.specs.StringStep.{giving_made}
use Rattle.scw_step.specs.TextStep.{is_text}

-- the class of a primitive type's boxes: Boolean, Character, Integer, Long
abbrev pub box_class : Primitive → ℕ
box_class primitive.Boolean = 5
box_class primitive.Char = 4
box_class primitive.Int = 2
box_class primitive.Long = 3

abbrev pub is_of_class : ℕ → Kind → Bool
is_of_class class (made.Object c) = c == class
is_of_class class made.Text = false
is_of_class class made.Booleans = false
is_of_class class made.Chars = false
is_of_class class made.Ints = false
is_of_class class made.Longs = false
is_of_class class (made.Refs t) = false

-- ---- box and unbox

-- a new box of the word
unfoldable pub making_box : Primitive → ℕ → State → Result (ℕ × State) Stop
making_box p w s = and_next (making (made.Object (box_class p)) 1 s) (λ x. Ok (x.0, with_word_at x.0 0 w x.1))

abbrev pub boxing : Primitive → State → Result State Stop
boxing p s = and_next (value_taken (primitive_value p) s) (λ v. giving_made (making_box p (word_of v.0)) v.1)

-- the first word of an object that has one
unfoldable pub first_word : ℕ → Shape → Content → Result ℕ Stop
first_word r x h = provided (nat_lt 0 x.length) Undefined (Ok (word_at r 0 h))

-- the word of a box of the primitive type; null counts as a box of 0
unfoldable pub unboxed : Primitive → ℕ → Content → Result ℕ Stop
unboxed p r h =
    cond (r == 0) (Ok 0)
    (and_next (shape_at r h) (λ x. provided (is_of_class (box_class p) x.kind) (Throws fault.ClassCast) (first_word r x h)))

abbrev pub unboxing : Primitive → State → Result State Stop
unboxing p s =
    and_next (reference_taken s) (λ r. and_next (unboxed p r.0 r.1.heap) (λ w. giving (value_of (primitive_value p) w) r.1))

-- ---- the value of Unit, which is made once

unfoldable pub making_unit : State → Result (ℕ × State) Stop
making_unit s =
    cond (s.unit == 0) (and_next (making (made.Object 6) 0 s) (λ x. Ok (x.0, record x.1 { unit = x.0 }))) (Ok (s.unit, s))

-- ---- same

-- The number in a box, by its 64 bits: that of an Integer or a Long is signed, and that of a Character is not.
abbrev pub number_by : Kind → ℕ → Option ℕ
number_by (made.Object c) w = cond (c == 2) (Some (widened (w % 2 ^ 32))) (cond (c == 3) (Some w) (cond (c == 4) (Some (w % 2 ^ 16)) None))
number_by made.Text w = None
number_by made.Booleans w = None
number_by made.Chars w = None
number_by made.Ints w = None
number_by made.Longs w = None
number_by (made.Refs t) w = None

-- that of the object with the number; None where it is no box of a number
unfoldable pub number_at : ℕ → Content → Result (Option ℕ) Stop
number_at r h = and_next (shape_at r h) (λ x. cond (nat_lt 0 x.length) (Ok (number_by x.kind (word_at r 0 h))) (Ok None))

-- 2 says that `equals` decides
abbrev pub same_numbers : Option ℕ → Option ℕ → ℕ
same_numbers None y = 2
same_numbers (Some x) None = 2
same_numbers (Some x) (Some y) = bit (x == y)

unfoldable pub same_at : ℕ → ℕ → Content → Result ℕ Stop
same_at a b h =
    cond (a == 0) (Ok (bit (b == 0))) (cond (b == 0) (Ok 2)
    (and_next (number_at a h) (λ x. and_next (number_at b h) (λ y. Ok (same_numbers x y)))))

abbrev pub comparing_same : State → Result State Stop
comparing_same s =
    and_next (reference_taken s) (λ b. and_next (reference_taken b.1) (λ a. and_next (same_at a.0 b.0 a.1.heap) (λ n. giving (Int n) a.1)))

-- ---- equals

-- strings, boxes and Unit are equal where their words are
abbrev pub is_value : Kind → Bool
is_value (made.Object c) = nat_lt 1 c && nat_lt c 7
is_value made.Text = true
is_value made.Booleans = false
is_value made.Chars = false
is_value made.Ints = false
is_value made.Longs = false
is_value (made.Refs t) = false

-- the same, of two values
abbrev pub same_kind : Kind → Kind → Bool
same_kind (made.Object c) k = is_of_class c k
same_kind made.Text k = is_text k
same_kind made.Booleans k = false
same_kind made.Chars k = false
same_kind made.Ints k = false
same_kind made.Longs k = false
same_kind (made.Refs t) k = false

unfoldable pub same_words : List ℕ → List ℕ → Bool
same_words [] [] = true
same_words [] (y ∷ ys) = false
same_words (x ∷ xs) [] = false
same_words (x ∷ xs) (y ∷ ys) = (x == y) && same_words xs ys

unfoldable pub equal_as : Kind → Kind → ℕ → ℕ → Content → Bool
equal_as k l a b h =
    cond (is_value k) (same_kind k l && same_words (words_at h.objects a) (words_at h.objects b)) (a == b)

unfoldable pub equal_at : ℕ → ℕ → Content → Result Bool Stop
equal_at a b h =
    and_next (shape_at a h) (λ x. cond (b == 0) (Ok false) (and_next (shape_at b h) (λ y. Ok (equal_as x.kind y.kind a b h))))

abbrev pub testing_equal : State → Result State Stop
testing_equal s =
    and_next (reference_taken s) (λ b. and_next (reference_taken b.1) (λ a. and_next (equal_at a.0 b.0 a.1.heap) (λ e. giving (Int (bit e)) a.1)))
