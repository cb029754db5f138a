-- The text of a class file: JVMS 4.1, 4.5 and 4.6.
use Rattle.std.specs.Prelude.{ℕ, ◌==◌, List, [], ◌++◌, if◌then◌else◌, codes}
use Rattle.std.specs.Fmt.{decimal}
use Rattle.std.specs.List.{flat_map}
use Rattle.scw_classfile.specs.declared.class_file.Attribute.{Attribute}
use Rattle.scw_classfile.specs.declared.class_file.ClassFile.{ClassFile}
use Rattle.scw_classfile.specs.declared.class_file.MemberInfo.{MemberInfo}
use Rattle.scw_classfile.specs.declared.pool_entry.PoolEntry.{PoolEntry}
use Rattle.scw_dis.specs.Character.{flags_text}
use Rattle.scw_dis.specs.Entry.{class_at, pair_text}
use Rattle.scw_dis.specs.Code.{attribute_code, attribute_lines}

-- ---- fields and methods

-- a word, flags, name and descriptor
unfoldable pub member_line : List PoolEntry → List ℕ → MemberInfo → List ℕ
member_line pool kind m = kind ++ flags_text m.flags.0 ++ codes " " ++ pair_text pool (m.name, m.descriptor) ++ codes "\n"

-- the attributes of a class, a field or a method, but for its code
abbrev pub own_attributes : List PoolEntry → List Attribute → List ℕ
own_attributes pool attributes = attribute_lines pool (codes "  ") attributes

unfoldable pub field_text : List PoolEntry → MemberInfo → List ℕ
field_text pool m = member_line pool (codes "field ") m ++ own_attributes pool m.attributes

-- its code stands before its other attributes
unfoldable pub method_text : List PoolEntry → MemberInfo → List ℕ
method_text pool m = member_line pool (codes "method ") m ++ flat_map (attribute_code pool) m.attributes ++ own_attributes pool m.attributes

-- ---- the class

-- a word, and the name of a class
abbrev pub class_line : List PoolEntry → List ℕ → ℕ → List ℕ
class_line pool word n = word ++ class_at pool n ++ codes "\n"

abbrev pub version_line : ℕ → ℕ → List ℕ
version_line major minor = codes "version " ++ decimal major ++ codes "." ++ decimal minor ++ codes "\n"

abbrev pub flags_line : ℕ → List ℕ
flags_line n = codes "flags " ++ flags_text n ++ codes "\n"

-- java/lang/Object alone is without a superclass
abbrev pub super_line : List PoolEntry → ℕ → List ℕ
super_line pool n = if n == 0 then [] else class_line pool (codes "super ") n

abbrev pub head_text : ClassFile → List ℕ
head_text c = class_line c.pool (codes "class ") c.this ++ version_line c.major c.minor ++ flags_line c.flags.0 ++ super_line c.pool c.parent

unfoldable pub interface_line : List PoolEntry → ℕ → List ℕ
interface_line pool n = class_line pool (codes "implements ") n

abbrev pub members_text : ClassFile → List ℕ
members_text c = flat_map (field_text c.pool) c.fields ++ flat_map (method_text c.pool) c.methods

-- the text of a class
unfoldable pub text_of : ClassFile → List ℕ
text_of c = head_text c ++ flat_map (interface_line c.pool) c.interfaces ++ own_attributes c.pool c.attributes ++ members_text c
