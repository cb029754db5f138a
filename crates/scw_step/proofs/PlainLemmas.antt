-- Readings of the heap, which no limit stops.
use Rattle.std.proofs.Common.{ℕ, Bool, true, false, cond, Option, Some, None, Result, Ok, Err, nat_lt, ◌==◌}
use Rattle.scw_heap.specs.Heap.{Content}
use Rattle.scw_heap.specs.declared.kind.Kind.{Kind}
use Rattle.scw_frame.specs.declared.operation.Elements.{Elements}
use Rattle.scw_frame.specs.declared.operation.Primitive.{Primitive}
use Rattle.scw_frame.specs.declared.program.Program.{Program}
use Rattle.scw_step.specs.declared.object.Shape.{Shape}
use Rattle.scw_step.specs.declared.stop.Fault.TheVariants as fault
use Rattle.scw_step.specs.declared.stop.Stop.{Stop}
use Rattle.scw_step.specs.declared.stop.Stop.TheVariants.{Undefined, Throws, ThrowsObject, HeapFull, TooManyFrames}
use Rattle.scw_step.specs.BoxStep.{equal_at, first_word, number_at, same_at, unboxed}
use Rattle.scw_step.specs.BuiltInStep.{said_at}
use Rattle.scw_step.specs.HeapStep.{allows, array_at, array_length, element_at, field_at, holds_elements, instance_at, may_hold, thrown_at}
use Rattle.scw_step.specs.StateStep.{and_next, or_undefined, provided, shape_at}
use Rattle.scw_step.specs.StringStep.{order_at, unit_at}
use Rattle.scw_step.specs.TextStep.{is_text, text_at, text_or_null}
use Rattle.scw_step.specs.ThrowableStep.{message_at, throwable_at}
use Rattle.scw_step.specs.TypeStep.{element_of}

-- no limit stops so
abbrev pub IsFree : Stop → Type 0
IsFree Undefined = Unit {0}
IsFree (Throws f) = Unit {0}
IsFree (ThrowsObject r) = Unit {0}
IsFree (HeapFull n) = ⊥
IsFree TooManyFrames = ⊥

-- the result is no limit's
pub data Plain {A : Type 0} : Result A Stop → Type 0 where
  reads : (x : A) → Plain (Ok x)
  fails : (e : Stop) → IsFree e → Plain (Err e)

plain-next : {A B : Type 0} (r : Result A Stop) (k : A → Result B Stop) → Plain r → ((x : A) → Plain (k x)) → Plain (and_next r k)
plain-next r k (reads x) f = f x
plain-next r k (fails e h) f = fails e h

pub plain-option : {A : Type 0} (o : Option A) → Plain (or_undefined o)
plain-option None = fails Undefined tt
plain-option (Some x) = reads x

plain-provided : {A : Type 0} (b : Bool) (e : Stop) (r : Result A Stop) → IsFree e → Plain r → Plain (provided b e r)
plain-provided true e r h f = f
plain-provided false e r h f = fails e h

plain-cond : {A : Type 0} (b : Bool) (r q : Result A Stop) → Plain r → Plain q → Plain (cond b r q)
plain-cond true r q f h = f
plain-cond false r q f h = h

pub shape_at-plain : (r : ℕ) (h : Content) → Plain (shape_at r h)
unfolding shape_at
shape_at-plain r h = plain-cond (r == 0) _ _ (fails (Throws fault.NullPointer) tt) (plain-option _)

-- ---- fields and arrays

pub field_at-plain : (p : Program) (class field r : ℕ) (h : Content) → Plain (field_at p class field r h)
unfolding field_at
field_at-plain p class field r h = plain-next _ _ (shape_at-plain r h) (λ x. plain-provided _ _ _ tt (reads _))

pub array_at-plain : (e : Elements) (i r : ℕ) (h : Content) → Plain (array_at e i r h)
unfolding array_at
array_at-plain e i r h =
    plain-next _ _ (shape_at-plain r h) (λ x. plain-provided (holds_elements e x.kind) Undefined _ tt
    (plain-provided (nat_lt i x.length) (Throws (fault.ArrayIndex i)) _ tt (reads x.kind)))

pub element_at-plain : (e : Elements) (i r : ℕ) (h : Content) → Plain (element_at e i r h)
unfolding element_at
element_at-plain e i r h = plain-next _ _ (array_at-plain e i r h) (λ k. reads _)

allows-plain : (o : Option Bool) → Plain (allows o)
allows-plain None = fails Undefined tt
allows-plain (Some b) = reads b

pub may_hold-plain : (p : Program) (k : Kind) (v : ℕ) (h : Content) → Plain (may_hold p k v h)
may_hold-plain p k v h = plain-cond (v == 0) _ _ (reads true) (plain-next _ _ (shape_at-plain v h) (λ x. allows-plain (element_of p x.kind k)))

pub array_length-plain : (r : ℕ) (h : Content) → Plain (array_length r h)
unfolding array_length
array_length-plain r h = plain-next _ _ (shape_at-plain r h) (λ x. plain-provided _ _ _ tt (reads _))

-- ---- types

pub instance_at-plain : (p : Program) (t r : ℕ) (h : Content) → Plain (instance_at p t r h)
unfolding instance_at
instance_at-plain p t r h = plain-next _ _ (shape_at-plain r h) (λ x. plain-option _)

pub thrown_at-plain : (p : Program) (r : ℕ) (h : Content) → Plain (thrown_at p r h)
unfolding thrown_at
thrown_at-plain p r h = plain-next _ _ (shape_at-plain r h) (λ x. plain-provided _ _ _ tt (fails (ThrowsObject r) tt))

pub throwable_at-plain : (r : ℕ) (h : Content) → Plain (throwable_at r h)
unfolding throwable_at
throwable_at-plain r h = plain-next _ _ (shape_at-plain r h) (λ x. plain-provided _ _ _ tt (plain-option _))

pub message_at-plain : (r : ℕ) (h : Content) → Plain (message_at r h)
unfolding message_at
message_at-plain r h = plain-next _ _ (throwable_at-plain r h) (λ c. reads _)

-- ---- boxes and equality

pub first_word-plain : (r : ℕ) (x : Shape) (h : Content) → Plain (first_word r x h)
unfolding first_word
first_word-plain r x h = plain-provided _ _ _ tt (reads _)

pub unboxed-plain : (q : Primitive) (r : ℕ) (h : Content) → Plain (unboxed q r h)
unfolding unboxed
unboxed-plain q r h =
    plain-cond (r == 0) _ _ (reads 0) (plain-next _ _ (shape_at-plain r h) (λ x. plain-provided _ _ _ tt (first_word-plain r x h)))

number_at-plain : (r : ℕ) (h : Content) → Plain (number_at r h)
unfolding number_at
number_at-plain r h = plain-next _ _ (shape_at-plain r h) (λ x. plain-cond (nat_lt 0 x.length) _ _ (reads _) (reads _))

pub same_at-plain : (a b : ℕ) (h : Content) → Plain (same_at a b h)
unfolding same_at
same_at-plain a b h =
    plain-cond (a == 0) _ _ (reads _) (plain-cond (b == 0) _ _ (reads 2)
    (plain-next _ _ (number_at-plain a h) (λ x. plain-next _ _ (number_at-plain b h) (λ y. reads _))))

pub equal_at-plain : (a b : ℕ) (h : Content) → Plain (equal_at a b h)
unfolding equal_at
equal_at-plain a b h =
    plain-next _ _ (shape_at-plain a h) (λ x. plain-cond (b == 0) _ _ (reads false) (plain-next _ _ (shape_at-plain b h) (λ y. reads _)))

-- ---- strings

pub text_at-plain : (r : ℕ) (h : Content) → Plain (text_at r h)
unfolding text_at
text_at-plain r h = plain-next _ _ (shape_at-plain r h) (λ x. plain-cond (is_text x.kind) _ _ (reads _) (fails Undefined tt))

pub text_or_null-plain : (r : ℕ) (h : Content) → Plain (text_or_null r h)
unfolding text_or_null
text_or_null-plain r h = plain-cond (r == 0) _ _ (reads _) (text_at-plain r h)

pub unit_at-plain : (i r : ℕ) (h : Content) → Plain (unit_at i r h)
unfolding unit_at
unit_at-plain i r h = plain-next _ _ (text_at-plain r h) (λ t. plain-provided _ _ _ tt (reads _))

pub order_at-plain : (a b : ℕ) (h : Content) → Plain (order_at a b h)
unfolding order_at
order_at-plain a b h = plain-next _ _ (text_at-plain a h) (λ x. plain-next _ _ (text_at-plain b h) (λ y. reads _))

pub said_at-plain : (r : ℕ) (h : Content) → Plain (said_at r h)
unfolding said_at
said_at-plain r h = plain-cond (r == 0) _ _ (reads _) (plain-next _ _ (text_at-plain r h) (λ t. reads _))
