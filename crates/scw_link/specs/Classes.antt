-- Classes by number, their superclasses and their fields: JVMS 5.3, 5.4.3.2 and 5.4.3.3.
use Rattle.std.specs.Prelude.{ℕ, zero, suc, ◌+◌, ◌-◌, Bool, not, List, [], ◌∷◌, ◌++◌, map, length, Option, Some, None, slice_get, position, nat_lt, ◌==◌, if◌then◌else◌, count_by, sum_by}
use Rattle.std.specs.Option.{option_map}
use Rattle.std.specs.Int.RustNames.{bit_and}
use Rattle.scw_classfile.specs.declared.class_file.ClassFile.{ClassFile}
use Rattle.scw_classfile.specs.declared.class_file.MemberInfo.{MemberInfo}
use Rattle.scw_link.specs.declared.built_in_class.TheConstants.{CLASSES}
use Rattle.scw_link.specs.Names.{at, class_name, and_then, or_else, is_text}
use Rattle.scw_link.specs.BuiltIns.{built_in_number, built_in_fields}

-- how many classes are the machine's own; file k has the number 24 + k
abbrev pub first_file : ℕ
first_file = 24

abbrev pub is_class : List ℕ → ClassFile → Bool
is_class name c = is_text (class_name c.pool (at c.pool c.this)) name

-- the number of the first class of a name
abbrev pub class_number : List ClassFile → List ℕ → Option ℕ
class_number files name = or_else (built_in_number name) (option_map (λ k. first_file + k) (position (is_class name) files))

-- the number of the class that an index of a file names
abbrev pub named_class : List ClassFile → ClassFile → ℕ → Option ℕ
named_class files c n = and_then (class_name c.pool (at c.pool n)) (class_number files)

-- the direct superclass of each class, if it has one and it is found
unfoldable pub parents : List ClassFile → List (Option ℕ)
parents files = map (λ c. c.parent) CLASSES ++ map (λ c. named_class files c c.parent) files

-- the file of a class that isn't the machine's own
abbrev pub file_of : List ClassFile → ℕ → Option ClassFile
file_of files c = if nat_lt c first_file then None else slice_get files (c - first_file)

-- ACC_STATIC: JVMS 4.5 and 4.6
unfoldable pub is_static : MemberInfo → Bool
is_static m = bit_and m.flags.0 8 == 8

abbrev pub is_instance : MemberInfo → Bool
is_instance m = not (is_static m)

-- ---- superclasses

abbrev pub parent_of : List (Option ℕ) → ℕ → Option ℕ
parent_of parents c = and_then (slice_get parents c) (λ p. p)

abbrev pub above : (ℕ → List ℕ) → Option ℕ → List ℕ
above go None = []
above go (Some p) = go p

-- the class, its superclass, the superclass of that, and so on, at most so many
abbrev pub line : List (Option ℕ) → ℕ → ℕ → List ℕ
line parents zero c = []
line parents (suc n) c = c ∷ above (line parents n) (parent_of parents c)

-- the class and its superclasses, from the lowest to the highest; no more than there are classes
abbrev pub superclasses : List (Option ℕ) → ℕ → List ℕ
superclasses parents c = line parents (length parents) c

-- ---- fields

abbrev pub fields_in : Option ClassFile → ℕ → ℕ
fields_in None c = built_in_fields c
fields_in (Some k) c = count_by is_instance k.fields

-- how many fields the class adds to those of its parent
abbrev pub own_fields : List ClassFile → ℕ → ℕ
own_fields files c = fields_in (file_of files c) c

-- how many fields an instance of the classes of a line has
abbrev pub fields_of : List ClassFile → List ℕ → ℕ
fields_of files line = sum_by (own_fields files) line
