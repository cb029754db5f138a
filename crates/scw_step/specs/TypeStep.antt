-- Which types are subtypes: JVMS 6.5, `checkcast`, and 4.10.1.2.
use Rattle.std.specs.Prelude.{ℕ, ◌+◌, Bool, true, false, ◌&&◌, ◌||◌, Option, Some, None, slice_get, nat_lt, ◌==◌}
use Rattle.scw_heap.specs.declared.kind.Kind.{Kind}
use Rattle.scw_heap.specs.declared.kind.Kind.TheVariants as made
use Rattle.scw_frame.specs.declared.operation.Primitive.{Primitive}
use Rattle.scw_frame.specs.declared.operation.Primitive.TheVariants as primitive
use Rattle.scw_frame.specs.declared.program.Base.{Base}
use Rattle.scw_frame.specs.declared.program.Base.TheVariants as base
use Rattle.scw_frame.specs.declared.program.Class.{Class}
use Rattle.scw_frame.specs.declared.program.Program.{Program}
use Rattle.scw_frame.specs.declared.program.ReferenceType.{ReferenceType}

abbrev pub or_no : Option Bool → Bool
or_no None = false
or_no (Some b) = b

abbrev pub ancestor_of : Option Class → ℕ → Bool
ancestor_of None d = false
ancestor_of (Some class) d = or_no (slice_get class.ancestors d)

-- the class is the other, extends it or implements it
unfoldable pub derives : Program → ℕ → ℕ → Bool
derives p c d = ancestor_of (slice_get p.classes c) d

abbrev pub same_primitive : Primitive → Primitive → Bool
same_primitive primitive.Boolean primitive.Boolean = true
same_primitive primitive.Boolean primitive.Char = false
same_primitive primitive.Boolean primitive.Int = false
same_primitive primitive.Boolean primitive.Long = false
same_primitive primitive.Char primitive.Boolean = false
same_primitive primitive.Char primitive.Char = true
same_primitive primitive.Char primitive.Int = false
same_primitive primitive.Char primitive.Long = false
same_primitive primitive.Int primitive.Boolean = false
same_primitive primitive.Int primitive.Char = false
same_primitive primitive.Int primitive.Int = true
same_primitive primitive.Int primitive.Long = false
same_primitive primitive.Long primitive.Boolean = false
same_primitive primitive.Long primitive.Char = false
same_primitive primitive.Long primitive.Int = false
same_primitive primitive.Long primitive.Long = true

abbrev pub class_under : Program → Base → ℕ → Bool
class_under p (base.Class c) d = derives p c.0 d
class_under p (base.Primitive x) d = false
class_under p (base.Other c) d = false

abbrev pub primitive_is : Base → Primitive → Bool
primitive_is (base.Class c) y = false
primitive_is (base.Primitive x) y = same_primitive x y
primitive_is (base.Other c) y = false

-- elements of one base are elements of the other
abbrev pub base_under : Program → Base → Base → Bool
base_under p a (base.Class d) = class_under p a d.0
base_under p a (base.Primitive y) = primitive_is a y
base_under p a (base.Other c) = false

abbrev pub is_object : Base → Bool
is_object (base.Class c) = c.0 == 0
is_object (base.Primitive x) = false
is_object (base.Other c) = false

-- A type by its dimensions and what is below them is a subtype of the other: arrays are Objects, and covariant.
unfoldable pub subtype : Program → ℕ → Base → ℕ → Base → Bool
subtype p m a n b = (m == n && base_under p a b) || (nat_lt n m && is_object b)

abbrev pub array_of : Option ReferenceType → Option (ℕ × Base)
array_of None = None
array_of (Some t) = Some (t.dimensions + 1, t.base)

-- the type of an object; the class of strings has the number 1
unfoldable pub type_of : Program → Kind → Option (ℕ × Base)
type_of p (made.Object c) = Some (0, base.Class (record { 0 = c }))
type_of p made.Text = Some (0, base.Class (record { 0 = 1 }))
type_of p made.Booleans = Some (1, base.Primitive primitive.Boolean)
type_of p made.Chars = Some (1, base.Primitive primitive.Char)
type_of p made.Ints = Some (1, base.Primitive primitive.Int)
type_of p made.Longs = Some (1, base.Primitive primitive.Long)
type_of p (made.Refs t) = array_of (slice_get p.types t)

abbrev pub under : Program → Option (ℕ × Base) → Option ReferenceType → Option Bool
under p None b = None
under p (Some a) None = None
under p (Some a) (Some b) = Some (subtype p a.0 a.1 b.dimensions b.base)

-- an object of the kind is an instance of the type with the number; None where the program has no such type
unfoldable pub is_instance : Program → Kind → ℕ → Option Bool
is_instance p k t = under p (type_of p k) (slice_get p.types t)

-- an object of the kind may be an element of an array of the other kind
abbrev pub element_of : Program → Kind → Kind → Option Bool
element_of p k (made.Object c) = None
element_of p k made.Text = None
element_of p k made.Booleans = None
element_of p k made.Chars = None
element_of p k made.Ints = None
element_of p k made.Longs = None
element_of p k (made.Refs t) = is_instance p k t
