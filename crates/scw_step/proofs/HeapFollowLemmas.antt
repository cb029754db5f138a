-- The instructions on objects, arrays and static fields do the same without limits.
use Rattle.std.proofs.Common.{ℕ, ◌^◌, true, nat_lt, slice_get, ◌==◌}
use Rattle.scw_heap.specs.declared.kind.Kind.{Kind}
use Rattle.scw_heap.specs.declared.kind.Kind.TheVariants as made
use Rattle.scw_frame.specs.declared.operation.Elements.{Elements}
use Rattle.scw_frame.specs.declared.operation.Elements.TheVariants as elements
use Rattle.scw_frame.specs.declared.program.Program.{Program}
use Rattle.scw_frame.specs.declared.value.Value.TheVariants.{Int, Reference}
use Rattle.scw_frame.specs.declared.value.ValueKind.{ValueKind}
use Rattle.scw_step.specs.declared.state.State.{State}
use Rattle.scw_step.specs.StateStep.{roomy, shape_at, word_of}
use Rattle.scw_step.specs.HeapStep.{array_at, array_length, cast_at, casting, element_at, element_set, element_value, element_word, field_at, field_set, getting_field, getting_static, giving_new, instance_at, kind_of, loading_element, making_array, making_object, pushing_text, putting_field, putting_static, storable, storing_element, taking_length, tested_at, testing, throwing, thrown_at, with_word_at}
use Rattle.scw_step.specs.Unlimited.{unlimited}
use Rattle.scw_step.proofs.PlainLemmas.{array_at-plain, array_length-plain, element_at-plain, field_at-plain, instance_at-plain, may_hold-plain, thrown_at-plain, reads}
use Rattle.scw_step.proofs.FollowLemmas.{follows-option, Follows, done, follows-next, follows-same, follows-provided, follows-cond, int_taken-follows, reference_taken-follows, value_taken-follows, giving-follows, making-follows, making_text-follows}

-- ---- fields

pub getting_field-follows : (p : Program) (class field : ℕ) (k : ValueKind) (s : State) → Follows unlimited (getting_field p class field k s) (getting_field p class field k (unlimited s))
unfolding field_at shape_at
getting_field-follows p class field k s =
    follows-next _ _ _ _ (reference_taken-follows s) (λ r. follows-next _ _ _ _ (follows-same (field_at-plain p class field r.0 r.1.heap)) (λ w. giving-follows _ r.1))

field_set-follows : (p : Program) (class field r w : ℕ) (s : State) → Follows unlimited (field_set p class field r w s) (field_set p class field r w (unlimited s))
unfolding field_set field_at shape_at
field_set-follows p class field r w s = follows-next _ _ _ _ (follows-same (field_at-plain p class field r s.heap)) (λ old. done (with_word_at r field w s))

pub putting_field-follows : (p : Program) (class field : ℕ) (k : ValueKind) (s : State) → Follows unlimited (putting_field p class field k s) (putting_field p class field k (unlimited s))
putting_field-follows p class field k s =
    follows-next _ _ _ _ (value_taken-follows k s) (λ v. follows-next _ _ _ _ (reference_taken-follows v.1) (λ r. field_set-follows p class field r.0 (word_of v.0) r.1))

pub getting_static-follows : (i : ℕ) (s : State) → Follows unlimited (getting_static i s) (getting_static i (unlimited s))
getting_static-follows i s = follows-next _ _ _ _ (follows-option (slice_get s.statics i)) (λ v. giving-follows v s)

pub putting_static-follows : (i : ℕ) (s : State) → Follows unlimited (putting_static i s) (putting_static i (unlimited s))
putting_static-follows i s =
    follows-next _ _ _ _ (follows-option (slice_get s.statics i)) (λ old.
    follows-next _ _ _ _ (follows-option (kind_of old)) (λ k. follows-next _ _ _ _ (value_taken-follows k s) (λ v. done _)))

-- ---- arrays

pub loading_element-follows : (e : Elements) (s : State) → Follows unlimited (loading_element e s) (loading_element e (unlimited s))
unfolding element_at array_at shape_at
loading_element-follows e s =
    follows-next _ _ _ _ (int_taken-follows s) (λ i. follows-next _ _ _ _ (reference_taken-follows i.1) (λ r.
    follows-next _ _ _ _ (follows-same (element_at-plain e i.0 r.0 r.1.heap)) (λ w. giving-follows _ r.1)))

storable-follows : (p : Program) (e : Elements) (k : Kind) (w : ℕ) (s : State) → Follows (λ b. b) (storable p e k w s.heap) (storable p e k w (unlimited s).heap)
unfolding shape_at
storable-follows p (elements.Primitive e) k w s = follows-same (reads true)
storable-follows p elements.References k w s = follows-same (may_hold-plain p k w s.heap)

element_set-follows : (p : Program) (e : Elements) (i r w : ℕ) (s : State) → Follows unlimited (element_set p e i r w s) (element_set p e i r w (unlimited s))
unfolding element_set array_at shape_at
element_set-follows p e i r w s =
    follows-next _ _ _ _ (follows-same (array_at-plain e i r s.heap)) (λ k. follows-next _ _ _ _ (storable-follows p e k w s) (λ ok.
    follows-provided ok _ _ _ tt (done (with_word_at r i (element_word e w) s))))

pub storing_element-follows : (p : Program) (e : Elements) (s : State) → Follows unlimited (storing_element p e s) (storing_element p e (unlimited s))
storing_element-follows p e s =
    follows-next _ _ _ _ (value_taken-follows (element_value e) s) (λ v. follows-next _ _ _ _ (int_taken-follows v.1) (λ i.
    follows-next _ _ _ _ (reference_taken-follows i.1) (λ r. element_set-follows p e i.0 r.0 (word_of v.0) r.1)))

pub taking_length-follows : (s : State) → Follows unlimited (taking_length s) (taking_length (unlimited s))
unfolding array_length shape_at
taking_length-follows s =
    follows-next _ _ _ _ (reference_taken-follows s) (λ r. follows-next _ _ _ _ (follows-same (array_length-plain r.0 r.1.heap)) (λ n. giving-follows (Int n) r.1))

-- ---- new objects

giving_new-follows : (k : Kind) (n : ℕ) (s : State) → Follows unlimited (giving_new k n s) (giving_new k n (unlimited s))
unfolding giving_new roomy
giving_new-follows k n s = follows-provided (roomy s) _ _ _ tt (follows-next _ _ _ _ (making-follows k n s) (λ r. giving-follows (Reference r.0) r.1))

pub making_object-follows : (p : Program) (c : ℕ) (s : State) → Follows unlimited (making_object p c s) (making_object p c (unlimited s))
making_object-follows p c s = follows-next _ _ _ _ (follows-option (slice_get p.classes c)) (λ class. giving_new-follows (made.Object c) class.fields s)

pub pushing_text-follows : (p : Program) (i : ℕ) (s : State) → Follows unlimited (pushing_text p i s) (pushing_text p i (unlimited s))
unfolding roomy
pushing_text-follows p i s =
    follows-next _ _ _ _ (follows-option (slice_get p.texts i)) (λ text.
    follows-provided (roomy s) _ _ _ tt (follows-next _ _ _ _ (making_text-follows text s) (λ r. giving-follows (Reference r.0) r.1)))

pub making_array-follows : (k : Kind) (s : State) → Follows unlimited (making_array k s) (making_array k (unlimited s))
making_array-follows k s = follows-next _ _ _ _ (int_taken-follows s) (λ n. follows-provided (nat_lt n.0 (2 ^ 31)) _ _ _ tt (giving_new-follows k n.0 n.1))

-- ---- types

cast_at-follows : (p : Program) (t r : ℕ) (s : State) → Follows unlimited (cast_at p t r s) (cast_at p t r (unlimited s))
unfolding instance_at shape_at
cast_at-follows p t r s =
    follows-cond (r == 0) _ _ _ _ (giving-follows (Reference r) s)
    (follows-next _ _ _ _ (follows-same (instance_at-plain p t r s.heap)) (λ ok. follows-provided ok _ _ _ tt (giving-follows (Reference r) s)))

pub casting-follows : (p : Program) (t : ℕ) (s : State) → Follows unlimited (casting p t s) (casting p t (unlimited s))
casting-follows p t s = follows-next _ _ _ _ (reference_taken-follows s) (λ r. cast_at-follows p t r.0 r.1)

tested_at-follows : (p : Program) (t r : ℕ) (s : State) → Follows unlimited (tested_at p t r s) (tested_at p t r (unlimited s))
unfolding instance_at shape_at
tested_at-follows p t r s =
    follows-cond (r == 0) _ _ _ _ (giving-follows (Int 0) s) (follows-next _ _ _ _ (follows-same (instance_at-plain p t r s.heap)) (λ ok. giving-follows _ s))

pub testing-follows : (p : Program) (t : ℕ) (s : State) → Follows unlimited (testing p t s) (testing p t (unlimited s))
testing-follows p t s = follows-next _ _ _ _ (reference_taken-follows s) (λ r. tested_at-follows p t r.0 r.1)

-- ---- athrow

pub throwing-follows : (p : Program) (s : State) → Follows unlimited (throwing p s) (throwing p (unlimited s))
unfolding thrown_at shape_at
throwing-follows p s = follows-next _ _ _ _ (reference_taken-follows s) (λ r. follows-next _ _ _ _ (follows-same (thrown_at-plain p r.0 r.1.heap)) (λ n. done r.1))
