-- The instructions on objects, arrays and static fields: JVMS 2.11.5 and 6.5. The place of the next instruction is set
-- by `Step`.
use Rattle.std.specs.Prelude.{ℕ, ◌%◌, ◌^◌, Bool, true, false, cond, ◌&&◌, Option, Some, None, Result, Ok, Err, slice_get, slice_set, slice_index, nat_lt, ◌==◌}
use Rattle.scw_heap.specs.Heap.{Content, with_word, words_at}
use Rattle.scw_heap.specs.declared.kind.Kind.{Kind}
use Rattle.scw_heap.specs.declared.kind.Kind.TheVariants as made
use Rattle.scw_step.specs.declared.object.Shape.{Shape}
use Rattle.scw_frame.specs.declared.operation.Elements.{Elements}
use Rattle.scw_frame.specs.declared.operation.Elements.TheVariants as elements
use Rattle.scw_frame.specs.declared.operation.Primitive.{Primitive}
use Rattle.scw_frame.specs.declared.operation.Primitive.TheVariants as primitive
use Rattle.scw_frame.specs.declared.program.Program.{Program}
use Rattle.scw_step.specs.declared.state.State.{State}
use Rattle.scw_step.specs.declared.stop.Fault.TheVariants as fault
use Rattle.scw_step.specs.declared.stop.Stop.{Stop}
use Rattle.scw_step.specs.declared.stop.Stop.TheVariants.{Undefined, Throws, ThrowsObject}
use Rattle.scw_frame.specs.declared.value.Value.{Value}
use Rattle.scw_frame.specs.declared.value.Value.TheVariants.{Unset, Int, Long, Reference}
use Rattle.scw_frame.specs.declared.value.ValueKind.{ValueKind}
use Rattle.scw_frame.specs.declared.value.ValueKind.TheVariants as kind
use Rattle.scw_step.specs.StateStep.{and_next, or_undefined, provided, int_taken, reference_taken, value_taken, giving, shape_at, value_of, word_of, making, roomy}
use Rattle.scw_step.specs.TextStep.{making_text}
use Rattle.scw_step.specs.TypeStep.{derives, element_of, is_instance}

-- the word, which is there
abbrev pub word_at : ℕ → ℕ → Content → ℕ
word_at r i h = slice_index (words_at h.objects r) i

abbrev pub with_word_at : ℕ → ℕ → ℕ → State → State
with_word_at r i w s = record s { heap = record s.heap { objects = with_word s.heap.objects r i w } }

-- ---- fields

abbrev pub has_class : Program → Kind → ℕ → Bool
has_class p (made.Object c) d = derives p c d
has_class p made.Text d = false
has_class p made.Booleans d = false
has_class p made.Chars d = false
has_class p made.Ints d = false
has_class p made.Longs d = false
has_class p (made.Refs t) d = false

-- the object is an instance of the class and has the field
abbrev pub has_field : Program → ℕ → ℕ → Shape → Bool
has_field p class field x = has_class p x.kind class && nat_lt field x.length

unfoldable pub field_at : Program → ℕ → ℕ → ℕ → Content → Result ℕ Stop
field_at p class field r h = and_next (shape_at r h) (λ x. provided (has_field p class field x) Undefined (Ok (word_at r field h)))

-- getfield
abbrev pub getting_field : Program → ℕ → ℕ → ValueKind → State → Result State Stop
getting_field p class field k s =
    and_next (reference_taken s) (λ r. and_next (field_at p class field r.0 r.1.heap) (λ w. giving (value_of k w) r.1))

unfoldable pub field_set : Program → ℕ → ℕ → ℕ → ℕ → State → Result State Stop
field_set p class field r w s = and_next (field_at p class field r s.heap) (λ old. Ok (with_word_at r field w s))

-- putfield
abbrev pub putting_field : Program → ℕ → ℕ → ValueKind → State → Result State Stop
putting_field p class field k s =
    and_next (value_taken k s) (λ v. and_next (reference_taken v.1) (λ r. field_set p class field r.0 (word_of v.0) r.1))

-- getstatic
abbrev pub getting_static : ℕ → State → Result State Stop
getting_static i s = and_next (or_undefined (slice_get s.statics i)) (λ v. giving v s)

abbrev pub kind_of : Value → Option ValueKind
kind_of Unset = None
kind_of (Int n) = Some kind.Int
kind_of (Long n) = Some kind.Long
kind_of (Reference r) = Some kind.Reference

-- putstatic: the field keeps its kind
abbrev pub putting_static : ℕ → State → Result State Stop
putting_static i s =
    and_next (or_undefined (slice_get s.statics i)) (λ old. and_next (or_undefined (kind_of old)) (λ k.
    and_next (value_taken k s) (λ v. Ok (record v.1 { statics = slice_set v.1.statics i v.0 }))))

-- ---- arrays

abbrev pub is_of_references : Kind → Bool
is_of_references (made.Object c) = false
is_of_references made.Text = false
is_of_references made.Booleans = false
is_of_references made.Chars = false
is_of_references made.Ints = false
is_of_references made.Longs = false
is_of_references (made.Refs t) = true

abbrev pub is_of_primitive : Primitive → Kind → Bool
is_of_primitive p (made.Object c) = false
is_of_primitive p made.Text = false
is_of_primitive primitive.Boolean made.Booleans = true
is_of_primitive primitive.Char made.Booleans = false
is_of_primitive primitive.Int made.Booleans = false
is_of_primitive primitive.Long made.Booleans = false
is_of_primitive primitive.Boolean made.Chars = false
is_of_primitive primitive.Char made.Chars = true
is_of_primitive primitive.Int made.Chars = false
is_of_primitive primitive.Long made.Chars = false
is_of_primitive primitive.Boolean made.Ints = false
is_of_primitive primitive.Char made.Ints = false
is_of_primitive primitive.Int made.Ints = true
is_of_primitive primitive.Long made.Ints = false
is_of_primitive primitive.Boolean made.Longs = false
is_of_primitive primitive.Char made.Longs = false
is_of_primitive primitive.Int made.Longs = false
is_of_primitive primitive.Long made.Longs = true
is_of_primitive p (made.Refs t) = false

-- arrays of the kind have these elements
abbrev pub holds_elements : Elements → Kind → Bool
holds_elements (elements.Primitive p) k = is_of_primitive p k
holds_elements elements.References k = is_of_references k

abbrev pub primitive_value : Primitive → ValueKind
primitive_value primitive.Boolean = kind.Int
primitive_value primitive.Char = kind.Int
primitive_value primitive.Int = kind.Int
primitive_value primitive.Long = kind.Long

-- the kind of the elements as values
abbrev pub element_value : Elements → ValueKind
element_value (elements.Primitive p) = primitive_value p
element_value elements.References = kind.Reference

-- the word of an element: of a boolean the last bit counts, of a char the last 16
abbrev pub primitive_word : Primitive → ℕ → ℕ
primitive_word primitive.Boolean w = w % 2
primitive_word primitive.Char w = w % 2 ^ 16
primitive_word primitive.Int w = w % 2 ^ 32
primitive_word primitive.Long w = w

abbrev pub element_word : Elements → ℕ → ℕ
element_word (elements.Primitive p) w = primitive_word p w
element_word elements.References w = w

-- the kind of an array of such elements that has an element at the index, given by its bits
unfoldable pub array_at : Elements → ℕ → ℕ → Content → Result Kind Stop
array_at e i r h = and_next (shape_at r h) (λ x. provided (holds_elements e x.kind) Undefined (provided (nat_lt i x.length) (Throws (fault.ArrayIndex i)) (Ok x.kind)))

unfoldable pub element_at : Elements → ℕ → ℕ → Content → Result ℕ Stop
element_at e i r h = and_next (array_at e i r h) (λ k. Ok (word_at r i h))

-- iaload, laload, aaload, baload, caload
abbrev pub loading_element : Elements → State → Result State Stop
loading_element e s =
    and_next (int_taken s) (λ i. and_next (reference_taken i.1) (λ r. and_next (element_at e i.0 r.0 r.1.heap) (λ w. giving (value_of (element_value e) w) r.1)))

abbrev pub allows : Option Bool → Result Bool Stop
allows None = Err Undefined
allows (Some b) = Ok b

-- whether the value may be an element of an array of the kind: null may, and an instance of the element type
abbrev pub may_hold : Program → Kind → ℕ → Content → Result Bool Stop
may_hold p k v h = cond (v == 0) (Ok true) (and_next (shape_at v h) (λ x. allows (element_of p x.kind k)))

abbrev pub storable : Program → Elements → Kind → ℕ → Content → Result Bool Stop
storable p (elements.Primitive e) k v h = Ok true
storable p elements.References k v h = may_hold p k v h

unfoldable pub element_set : Program → Elements → ℕ → ℕ → ℕ → State → Result State Stop
element_set p e i r w s =
    and_next (array_at e i r s.heap) (λ k. and_next (storable p e k w s.heap) (λ ok. provided ok (Throws fault.ArrayStore) (Ok (with_word_at r i (element_word e w) s))))

-- iastore, lastore, aastore, bastore, castore
abbrev pub storing_element : Program → Elements → State → Result State Stop
storing_element p e s =
    and_next (value_taken (element_value e) s) (λ v. and_next (int_taken v.1) (λ i. and_next (reference_taken i.1) (λ r. element_set p e i.0 r.0 (word_of v.0) r.1)))

abbrev pub is_array : Kind → Bool
is_array (made.Object c) = false
is_array made.Text = false
is_array made.Booleans = true
is_array made.Chars = true
is_array made.Ints = true
is_array made.Longs = true
is_array (made.Refs t) = true

unfoldable pub array_length : ℕ → Content → Result ℕ Stop
array_length r h = and_next (shape_at r h) (λ x. provided (is_array x.kind) Undefined (Ok x.length))

-- arraylength
abbrev pub taking_length : State → Result State Stop
taking_length s = and_next (reference_taken s) (λ r. and_next (array_length r.0 r.1.heap) (λ n. giving (Int n) r.1))

-- ---- new objects

-- a new object is made and pushed, if the stack has room
unfoldable pub giving_new : Kind → ℕ → State → Result State Stop
giving_new k n s = provided (roomy s) Undefined (and_next (making k n s) (λ r. giving (Reference r.0) r.1))

-- new
abbrev pub making_object : Program → ℕ → State → Result State Stop
making_object p c s = and_next (or_undefined (slice_get p.classes c)) (λ class. giving_new (made.Object c) class.fields s)

-- ldc of a string: the text with the number is made anew
abbrev pub pushing_text : Program → ℕ → State → Result State Stop
pushing_text p i s =
    and_next (or_undefined (slice_get p.texts i)) (λ text. provided (roomy s) Undefined (and_next (making_text text s) (λ r. giving (Reference r.0) r.1)))

abbrev pub array_kind : Primitive → Kind
array_kind primitive.Boolean = made.Booleans
array_kind primitive.Char = made.Chars
array_kind primitive.Int = made.Ints
array_kind primitive.Long = made.Longs

-- newarray, anewarray: the length, by its bits, is a signed number
abbrev pub making_array : Kind → State → Result State Stop
making_array k s =
    and_next (int_taken s) (λ n. provided (nat_lt n.0 (2 ^ 31)) (Throws fault.NegativeSize) (giving_new k n.0 n.1))

-- ---- types

unfoldable pub instance_at : Program → ℕ → ℕ → Content → Result Bool Stop
instance_at p t r h = and_next (shape_at r h) (λ x. or_undefined (is_instance p x.kind t))

abbrev pub cast_at : Program → ℕ → ℕ → State → Result State Stop
cast_at p t r s = cond (r == 0) (giving (Reference r) s) (and_next (instance_at p t r s.heap) (λ ok. provided ok (Throws fault.ClassCast) (giving (Reference r) s)))

-- checkcast
abbrev pub casting : Program → ℕ → State → Result State Stop
casting p t s = and_next (reference_taken s) (λ r. cast_at p t r.0 r.1)

abbrev pub bit : Bool → ℕ
bit true = 1
bit false = 0

abbrev pub tested_at : Program → ℕ → ℕ → State → Result State Stop
tested_at p t r s = cond (r == 0) (giving (Int 0) s) (and_next (instance_at p t r s.heap) (λ ok. giving (Int (bit ok)) s))

-- instanceof
abbrev pub testing : Program → ℕ → State → Result State Stop
testing p t s = and_next (reference_taken s) (λ r. tested_at p t r.0 r.1)

-- ---- athrow

-- the class of exceptions has the number 8
unfoldable pub thrown_at : Program → ℕ → Content → Result ℕ Stop
thrown_at p r h = and_next (shape_at r h) (λ x. provided (has_class p x.kind 8) Undefined (Err (ThrowsObject r)))

abbrev pub throwing : Program → State → Result State Stop
throwing p s = and_next (reference_taken s) (λ r. and_next (thrown_at p r.0 r.1.heap) (λ n. Ok r.1))
