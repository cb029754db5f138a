-- The methods of the machine's own do the same without limits.
use Rattle.std.proofs.Common.{ℕ, ◌+◌, List, Option, Some, None, Result, length, map, codes, nat_le, not, ◌&&◌, ◌||◌, ◌==◌, slice_get}
use Rattle.scw_heap.specs.declared.kind.Kind.{Kind}
use Rattle.scw_heap.specs.declared.kind.Kind.TheVariants as made
use Rattle.scw_frame.specs.declared.operation.BuiltIn.{BuiltIn}
use Rattle.scw_frame.specs.declared.operation.BuiltIn.TheVariants.{ObjectInit, Equals, ToString, StringLength, StringCharAt, Substring, StringIsEmpty, CompareTo, ThrowableInit, ThrowableInitMessage, GetMessage, ThrowableToString, Print, Concat, Unit, Box, Unbox, Same}
use Rattle.scw_frame.specs.declared.operation.Primitive.{Primitive}
use Rattle.scw_frame.specs.declared.operation.Primitive.TheVariants as primitive
use Rattle.scw_frame.specs.declared.program.Base.{Base}
use Rattle.scw_frame.specs.declared.program.Base.TheVariants as base
use Rattle.scw_frame.specs.declared.program.Program.{Program}
use Rattle.scw_frame.specs.declared.value.Value.TheVariants.{Int, Reference}
use Rattle.scw_step.specs.declared.event.Event.TheVariants.{On}
use Rattle.scw_step.specs.declared.object.Shape.{Shape}
use Rattle.scw_step.specs.declared.state.State.{State}
use Rattle.scw_step.specs.declared.stop.Stop.{Stop}
use Rattle.scw_step.specs.BoxStep.{box_class, boxing, comparing_same, equal_as, equal_at, first_word, making_box, making_unit, number_at, same_at, testing_equal, unboxed, unboxing}
use Rattle.scw_step.specs.BuiltInStep.{built_in, quiet, said_at, saying}
use Rattle.scw_step.specs.HeapStep.{primitive_value, with_word_at, word_at}
use Rattle.scw_step.specs.ObjectStep.{box_of, box_text, boxed_text, giving_text, letter_of, making_array_text, making_base_text, making_box_text, making_class_text, making_instance_text, making_text_by, making_text_of, starting_object}
use Rattle.scw_step.specs.StateStep.{roomy, shape_at, word_of}
use Rattle.scw_step.specs.StringStep.{comparing_texts, giving_joined, giving_length, giving_made, giving_part, giving_unit, is_negative, making_part, order_at, testing_empty, unit_at}
use Rattle.scw_step.specs.TextStep.{array_letter, array_name, dotted, making_described, making_joined, part, text_at, text_in, text_or_null}
use Rattle.scw_step.specs.ThrowableStep.{describing, giving_description, giving_message, making_description, message_at, message_set, starting_throwable, starting_with_message, throwable_at}
use Rattle.scw_step.specs.Unlimited.{unlimited}
use Rattle.scw_step.proofs.PlainLemmas.{equal_at-plain, first_word-plain, message_at-plain, order_at-plain, said_at-plain, same_at-plain, shape_at-plain, text_at-plain, text_or_null-plain, throwable_at-plain, unboxed-plain, unit_at-plain}
use Rattle.scw_step.proofs.FollowLemmas.{follows-option, Follows, beside, done, follows-next, follows-same, follows-provided, follows-cond, int_taken-follows, reference_taken-follows, value_taken-follows, giving-follows, making-follows, making_text-follows}

giving_made-follows : (make : State → Result (ℕ × State) Stop) → ((s : State) → Follows beside (make s) (make (unlimited s))) → (s : State) → Follows unlimited (giving_made make s) (giving_made make (unlimited s))
unfolding roomy
giving_made-follows make f s = follows-provided (roomy s) _ _ _ tt (follows-next _ _ _ _ (f s) (λ x. giving-follows (Reference x.0) x.1))

-- ---- boxes and equality

making_box-follows : (p : Primitive) (w : ℕ) (s : State) → Follows beside (making_box p w s) (making_box p w (unlimited s))
unfolding making_box
making_box-follows p w s = follows-next _ _ _ _ (making-follows (made.Object (box_class p)) 1 s) (λ x. done (x.0, with_word_at x.0 0 w x.1))

boxing-follows : (p : Primitive) (s : State) → Follows unlimited (boxing p s) (boxing p (unlimited s))
boxing-follows p s = follows-next _ _ _ _ (value_taken-follows (primitive_value p) s) (λ v. giving_made-follows _ (making_box-follows p (word_of v.0)) v.1)

unboxing-follows : (p : Primitive) (s : State) → Follows unlimited (unboxing p s) (unboxing p (unlimited s))
unfolding unboxed first_word shape_at
unboxing-follows p s = follows-next _ _ _ _ (reference_taken-follows s) (λ r. follows-next _ _ _ _ (follows-same (unboxed-plain p r.0 r.1.heap)) (λ w. giving-follows _ r.1))

making_unit-follows : (s : State) → Follows beside (making_unit s) (making_unit (unlimited s))
unfolding making_unit
making_unit-follows s =
    follows-cond (s.unit == 0) _ _ _ _ (follows-next _ _ _ _ (making-follows (made.Object 6) 0 s) (λ x. done (x.0, record x.1 { unit = x.0 }))) (done (s.unit, s))

comparing_same-follows : (s : State) → Follows unlimited (comparing_same s) (comparing_same (unlimited s))
unfolding same_at number_at shape_at
comparing_same-follows s =
    follows-next _ _ _ _ (reference_taken-follows s) (λ b. follows-next _ _ _ _ (reference_taken-follows b.1) (λ a.
    follows-next _ _ _ _ (follows-same (same_at-plain a.0 b.0 a.1.heap)) (λ n. giving-follows (Int n) a.1)))

testing_equal-follows : (s : State) → Follows unlimited (testing_equal s) (testing_equal (unlimited s))
unfolding equal_at equal_as shape_at
testing_equal-follows s =
    follows-next _ _ _ _ (reference_taken-follows s) (λ b. follows-next _ _ _ _ (reference_taken-follows b.1) (λ a.
    follows-next _ _ _ _ (follows-same (equal_at-plain a.0 b.0 a.1.heap)) (λ e. giving-follows _ a.1)))

-- ---- Object

starting_object-follows : (s : State) → Follows unlimited (starting_object s) (starting_object (unlimited s))
unfolding shape_at
starting_object-follows s = follows-next _ _ _ _ (reference_taken-follows s) (λ r. follows-next _ _ _ _ (follows-same (shape_at-plain r.0 r.1.heap)) (λ x. done r.1))

making_class_text-follows : (p : Program) (c : ℕ) (s : State) → Follows beside (making_class_text p c s) (making_class_text p c (unlimited s))
unfolding making_class_text
making_class_text-follows p c s =
    follows-cond (c == 6) _ _ _ _ (making_text-follows (codes "()") s)
    (follows-next _ _ _ _ (follows-option (slice_get p.classes c)) (λ class. making_text-follows (map dotted class.name) s))

boxed_text-follows : (q : Option Primitive) (p : Program) (c r : ℕ) (x : Shape) (s : State) → Follows beside (boxed_text q p c r x s) (boxed_text q p c r x (unlimited s))
unfolding first_word making_box_text
boxed_text-follows None p c r x s = making_class_text-follows p c s
boxed_text-follows (Some q) p c r x s = follows-next _ _ _ _ (follows-same (first_word-plain r x s.heap)) (λ w. making_text-follows (box_text q w) s)

making_base_text-follows : (p : Program) (d : ℕ) (b : Base) (s : State) → Follows beside (making_base_text p d b s) (making_base_text p d b (unlimited s))
unfolding making_base_text
making_base_text-follows p d (base.Class c) s =
    follows-next _ _ _ _ (follows-option (slice_get p.classes c.0)) (λ class. making_text-follows (array_name d class.name) s)
making_base_text-follows p d (base.Primitive q) s = making_text-follows (array_letter d (letter_of q)) s
making_base_text-follows p d (base.Other c) s = making_text-follows (array_letter d c) s

making_array_text-follows : (p : Program) (t : ℕ) (s : State) → Follows beside (making_array_text p t s) (making_array_text p t (unlimited s))
unfolding making_array_text
making_array_text-follows p t s =
    follows-next _ _ _ _ (follows-option (slice_get p.types t)) (λ t. making_base_text-follows p (t.dimensions + 1) t.base s)

making_text_by-follows : (p : Program) (k : Kind) (r : ℕ) (x : Shape) (s : State) → Follows beside (making_text_by p k r x s) (making_text_by p k r x (unlimited s))
unfolding making_text_by making_instance_text
making_text_by-follows p (made.Object c) r x s = boxed_text-follows (box_of c) p c r x s
making_text_by-follows p made.Text r x s = done (r, s)
making_text_by-follows p made.Booleans r x s = making_base_text-follows p 1 (base.Primitive primitive.Boolean) s
making_text_by-follows p made.Chars r x s = making_base_text-follows p 1 (base.Primitive primitive.Char) s
making_text_by-follows p made.Ints r x s = making_base_text-follows p 1 (base.Primitive primitive.Int) s
making_text_by-follows p made.Longs r x s = making_base_text-follows p 1 (base.Primitive primitive.Long) s
making_text_by-follows p (made.Refs t) r x s = making_array_text-follows p t s

making_text_of-follows : (p : Program) (r : ℕ) (s : State) → Follows beside (making_text_of p r s) (making_text_of p r (unlimited s))
unfolding making_text_of shape_at
making_text_of-follows p r s = follows-next _ _ _ _ (follows-same (shape_at-plain r s.heap)) (λ x. making_text_by-follows p x.kind r x s)

giving_text-follows : (p : Program) (s : State) → Follows unlimited (giving_text p s) (giving_text p (unlimited s))
giving_text-follows p s = follows-next _ _ _ _ (reference_taken-follows s) (λ r. giving_made-follows _ (making_text_of-follows p r.0) r.1)

-- ---- strings

giving_length-follows : (s : State) → Follows unlimited (giving_length s) (giving_length (unlimited s))
unfolding text_at text_in shape_at
giving_length-follows s = follows-next _ _ _ _ (reference_taken-follows s) (λ r. follows-next _ _ _ _ (follows-same (text_at-plain r.0 r.1.heap)) (λ t. giving-follows _ r.1))

testing_empty-follows : (s : State) → Follows unlimited (testing_empty s) (testing_empty (unlimited s))
unfolding text_at text_in shape_at
testing_empty-follows s = follows-next _ _ _ _ (reference_taken-follows s) (λ r. follows-next _ _ _ _ (follows-same (text_at-plain r.0 r.1.heap)) (λ t. giving-follows _ r.1))

giving_unit-follows : (s : State) → Follows unlimited (giving_unit s) (giving_unit (unlimited s))
unfolding unit_at text_at text_in shape_at
giving_unit-follows s =
    follows-next _ _ _ _ (int_taken-follows s) (λ i. follows-next _ _ _ _ (reference_taken-follows i.1) (λ r.
    follows-next _ _ _ _ (follows-same (unit_at-plain i.0 r.0 r.1.heap)) (λ u. giving-follows (Int u) r.1)))

making_part-follows : (a b r : ℕ) (s : State) → Follows beside (making_part a b r s) (making_part a b r (unlimited s))
unfolding making_part text_at text_in shape_at
making_part-follows a b r s =
    follows-next _ _ _ _ (follows-same (text_at-plain r s.heap)) (λ t.
    follows-provided (not (is_negative a)) _ _ _ tt (follows-provided (is_negative b || nat_le b (length t)) _ _ _ tt
    (follows-provided (not (is_negative b) && nat_le a b) _ _ _ tt (making_text-follows (part a b t) s))))

giving_part-follows : (s : State) → Follows unlimited (giving_part s) (giving_part (unlimited s))
giving_part-follows s =
    follows-next _ _ _ _ (int_taken-follows s) (λ b. follows-next _ _ _ _ (int_taken-follows b.1) (λ a. follows-next _ _ _ _ (reference_taken-follows a.1) (λ r.
    giving_made-follows _ (making_part-follows a.0 b.0 r.0) r.1)))

comparing_texts-follows : (s : State) → Follows unlimited (comparing_texts s) (comparing_texts (unlimited s))
unfolding order_at text_at text_in shape_at
comparing_texts-follows s =
    follows-next _ _ _ _ (reference_taken-follows s) (λ b. follows-next _ _ _ _ (reference_taken-follows b.1) (λ a.
    follows-next _ _ _ _ (follows-same (order_at-plain a.0 b.0 a.1.heap)) (λ d. giving-follows (Int d) a.1)))

making_joined-follows : (a b : ℕ) (s : State) → Follows beside (making_joined a b s) (making_joined a b (unlimited s))
unfolding making_joined text_or_null text_at text_in shape_at
making_joined-follows a b s =
    follows-next _ _ _ _ (follows-same (text_or_null-plain a s.heap)) (λ x. follows-next _ _ _ _ (follows-same (text_or_null-plain b s.heap)) (λ y. making_text-follows _ s))

giving_joined-follows : (s : State) → Follows unlimited (giving_joined s) (giving_joined (unlimited s))
giving_joined-follows s =
    follows-next _ _ _ _ (reference_taken-follows s) (λ b. follows-next _ _ _ _ (reference_taken-follows b.1) (λ a. giving_made-follows _ (making_joined-follows a.0 b.0) a.1))

-- ---- Throwable

starting_throwable-follows : (s : State) → Follows unlimited (starting_throwable s) (starting_throwable (unlimited s))
unfolding throwable_at shape_at
starting_throwable-follows s = follows-next _ _ _ _ (reference_taken-follows s) (λ r. follows-next _ _ _ _ (follows-same (throwable_at-plain r.0 r.1.heap)) (λ c. done r.1))

message_set-follows : (r m : ℕ) (s : State) → Follows unlimited (message_set r m s) (message_set r m (unlimited s))
unfolding message_set throwable_at shape_at
message_set-follows r m s = follows-next _ _ _ _ (follows-same (throwable_at-plain r s.heap)) (λ c. done (with_word_at r 0 m s))

starting_with_message-follows : (s : State) → Follows unlimited (starting_with_message s) (starting_with_message (unlimited s))
starting_with_message-follows s =
    follows-next _ _ _ _ (reference_taken-follows s) (λ m. follows-next _ _ _ _ (reference_taken-follows m.1) (λ r. message_set-follows r.0 m.0 r.1))

giving_message-follows : (s : State) → Follows unlimited (giving_message s) (giving_message (unlimited s))
unfolding message_at throwable_at shape_at
giving_message-follows s =
    follows-next _ _ _ _ (reference_taken-follows s) (λ r. follows-next _ _ _ _ (follows-same (message_at-plain r.0 r.1.heap)) (λ m. giving-follows (Reference m) r.1))

describing-follows : (name : List ℕ) (m : ℕ) (s : State) → Follows beside (describing name m s) (describing name m (unlimited s))
unfolding describing making_described text_at text_in shape_at
describing-follows name m s =
    follows-cond (m == 0) _ _ _ _ (making_text-follows (map dotted name) s)
    (follows-next _ _ _ _ (follows-same (text_at-plain m s.heap)) (λ x. making_text-follows _ s))

making_description-follows : (p : Program) (r : ℕ) (s : State) → Follows beside (making_description p r s) (making_description p r (unlimited s))
unfolding making_description throwable_at shape_at
making_description-follows p r s =
    follows-next _ _ _ _ (follows-same (throwable_at-plain r s.heap)) (λ c.
    follows-next _ _ _ _ (follows-option (slice_get p.classes c)) (λ class. describing-follows class.name (word_at r 0 s.heap) s))

giving_description-follows : (p : Program) (s : State) → Follows unlimited (giving_description p s) (giving_description p (unlimited s))
giving_description-follows p s = follows-next _ _ _ _ (reference_taken-follows s) (λ r. giving_made-follows _ (making_description-follows p r.0) r.1)

-- ---- all of them

saying-follows : (s : State) → Follows beside (saying s) (saying (unlimited s))
unfolding saying said_at text_at text_in shape_at
saying-follows s = follows-next _ _ _ _ (reference_taken-follows s) (λ r. follows-next _ _ _ _ (follows-same (said_at-plain r.0 r.1.heap)) (λ e. done (e, r.1)))

quiet-follows : (r r' : Result State Stop) → Follows unlimited r r' → Follows beside (quiet r) (quiet r')
quiet-follows r r' f = follows-next _ _ _ _ f (λ s. done (On, s))

pub built_in-follows : (p : Program) (b : BuiltIn) (s : State) → Follows beside (built_in p b s) (built_in p b (unlimited s))
unfolding built_in
built_in-follows p ObjectInit s = quiet-follows _ _ (starting_object-follows s)
built_in-follows p Equals s = quiet-follows _ _ (testing_equal-follows s)
built_in-follows p ToString s = quiet-follows _ _ (giving_text-follows p s)
built_in-follows p StringLength s = quiet-follows _ _ (giving_length-follows s)
built_in-follows p StringCharAt s = quiet-follows _ _ (giving_unit-follows s)
built_in-follows p Substring s = quiet-follows _ _ (giving_part-follows s)
built_in-follows p StringIsEmpty s = quiet-follows _ _ (testing_empty-follows s)
built_in-follows p CompareTo s = quiet-follows _ _ (comparing_texts-follows s)
built_in-follows p ThrowableInit s = quiet-follows _ _ (starting_throwable-follows s)
built_in-follows p ThrowableInitMessage s = quiet-follows _ _ (starting_with_message-follows s)
built_in-follows p GetMessage s = quiet-follows _ _ (giving_message-follows s)
built_in-follows p ThrowableToString s = quiet-follows _ _ (giving_description-follows p s)
built_in-follows p Print s = saying-follows s
built_in-follows p Concat s = quiet-follows _ _ (giving_joined-follows s)
built_in-follows p Unit s = quiet-follows _ _ (giving_made-follows _ making_unit-follows s)
built_in-follows p (Box q) s = quiet-follows _ _ (boxing-follows q s)
built_in-follows p (Unbox q) s = quiet-follows _ _ (unboxing-follows q s)
built_in-follows p Same s = quiet-follows _ _ (comparing_same-follows s)
