-- The texts that an index of the constant pool leads to: JVMS 4.4. An index that leads to no entry of the kind that
-- is needed has no text.
use Rattle.std.specs.Prelude.{ℕ, ◌-◌, ◌==◌, Option, Some, None, List, [], ◌++◌, slice_get, if◌then◌else◌, codes}
use Rattle.std.specs.Fmt.{decimal, signed_decimal}
use Rattle.std.specs.Int.{w32, w64, cast_signed}
use Rattle.scw_classfile.specs.declared.pool_entry.PoolEntry.{PoolEntry}
use Rattle.scw_classfile.specs.declared.pool_entry.PoolEntry.TheVariants as entry
use Rattle.scw_dis.specs.Character.{characters}

-- the entry with the index, which counts from 1
abbrev pub entry_at : List PoolEntry → ℕ → Option PoolEntry
entry_at pool n = if n == 0 then None else slice_get pool (n - 1)

-- ---- what an entry holds, where it is of the kind that is needed; 0 is the index of no entry

-- the units of a text
abbrev pub units_of : Option PoolEntry → List ℕ
units_of None = []
units_of (Some (entry.Utf8 units)) = units
units_of (Some _) = []

-- the index of a class's name
abbrev pub name_of : Option PoolEntry → ℕ
name_of None = 0
name_of (Some (entry.Class name)) = name
name_of (Some _) = 0

-- the indices of a name and of a descriptor
abbrev pub name_and_type_of : Option PoolEntry → ℕ × ℕ
name_and_type_of None = (0, 0)
name_and_type_of (Some (entry.NameAndType name descriptor)) = (name, descriptor)
name_and_type_of (Some _) = (0, 0)

-- the indices of a class, and of the name and type of its field or method
abbrev pub member_of : Option PoolEntry → ℕ × ℕ
member_of None = (0, 0)
member_of (Some (entry.Fieldref class member)) = (class, member)
member_of (Some (entry.Methodref class member)) = (class, member)
member_of (Some (entry.InterfaceMethodref class member)) = (class, member)
member_of (Some _) = (0, 0)

-- ---- texts

-- the text at an index of a text
abbrev pub text_at : List PoolEntry → ℕ → List ℕ
text_at pool n = characters (units_of (entry_at pool n))

-- the name at an index of a class
abbrev pub class_at : List PoolEntry → ℕ → List ℕ
class_at pool n = text_at pool (name_of (entry_at pool n))

-- two texts, as a name and a descriptor
abbrev pub pair_text : List PoolEntry → ℕ × ℕ → List ℕ
pair_text pool p = text_at pool p.0 ++ codes " " ++ text_at pool p.1

-- the name and the descriptor at an index of both
abbrev pub name_and_type_at : List PoolEntry → ℕ → List ℕ
name_and_type_at pool n = pair_text pool (name_and_type_of (entry_at pool n))

-- class, name and descriptor
abbrev pub member_text : List PoolEntry → ℕ × ℕ → List ℕ
member_text pool m = class_at pool m.0 ++ codes " " ++ name_and_type_at pool m.1

-- class, name and descriptor at an index of a field or a method
abbrev pub member_at : List PoolEntry → ℕ → List ℕ
member_at pool n = member_text pool (member_of (entry_at pool n))

-- the number of a bootstrap method or of a kind of handle, before the text behind it
abbrev pub front : ℕ → List ℕ
front n = decimal n ++ codes " "

abbrev pub entry_text : List PoolEntry → PoolEntry → List ℕ
entry_text pool (entry.Utf8 units) = characters units
entry_text pool (entry.Integer bits) = signed_decimal (cast_signed w32 bits)
entry_text pool (entry.Float bits) = decimal bits
entry_text pool (entry.Long bits) = signed_decimal (cast_signed w64 bits)
entry_text pool (entry.Double bits) = decimal bits
entry_text pool (entry.Class name) = text_at pool name
entry_text pool (entry.Str text) = text_at pool text
entry_text pool (entry.MethodType descriptor) = text_at pool descriptor
entry_text pool (entry.Fieldref class member) = member_text pool (class, member)
entry_text pool (entry.Methodref class member) = member_text pool (class, member)
entry_text pool (entry.InterfaceMethodref class member) = member_text pool (class, member)
entry_text pool (entry.NameAndType name descriptor) = pair_text pool (name, descriptor)
entry_text pool (entry.InvokeDynamic bootstrap member) = front bootstrap ++ name_and_type_at pool member
entry_text pool (entry.MethodHandle kind member) = front kind ++ member_at pool member
entry_text pool entry.Second = []

-- the text of an entry, if there is one
abbrev pub constant_text : List PoolEntry → Option PoolEntry → List ℕ
constant_text pool None = []
constant_text pool (Some e) = entry_text pool e

-- the text of the entry at the index
abbrev pub constant_at : List PoolEntry → ℕ → List ℕ
constant_at pool n = constant_text pool (entry_at pool n)
