-- The format of class files: JVMS 4.1, 4.5 to 4.7, one codec a structure, under its name.
use Rattle.std.specs.Prelude.{ℕ, Bool, true, false, ◌&&◌, ◌||◌, not, List, [], ◌++◌, Ok, nat_le, ◌==◌, if◌then◌else◌}
use Rattle.scw_code.specs.declared.instr.Instr.{Instr}
use Rattle.scw_code.specs.Jump.{starts}
use Rattle.scw_classfile.specs.declared.access_flags.AccessFlags.{AccessFlags}
use Rattle.scw_classfile.specs.declared.class_file.Handler.{Handler}
use Rattle.scw_classfile.specs.declared.class_file.Attribute.{Attribute}
use Rattle.scw_classfile.specs.declared.class_file.AttrBody.{AttrBody}
use Rattle.scw_classfile.specs.declared.class_file.AttrBody.TheVariants as attr_body
use Rattle.scw_classfile.specs.declared.class_file.Code.{Code, out-Code, roll-Code}
use Rattle.scw_classfile.specs.declared.class_file.MemberInfo.{MemberInfo}
use Rattle.scw_classfile.specs.declared.class_file.ClassFile.{ClassFile}
use Rattle.scw_classfile.specs.declared.class_rule.ClassRule.TheVariants as class_rule
use Rattle.scw_classfile.specs.declared.index.Expected.{Expected}
use Rattle.scw_classfile.specs.declared.index.Expected.TheVariants as expected
use Rattle.scw_classfile.specs.declared.pool_entry.EntryKind.{EntryKind}
use Rattle.scw_classfile.specs.declared.pool_entry.PoolEntry.{PoolEntry}
use Rattle.scw_classfile.specs.declared.pool_entry.TextKind.{TextKind}
use Rattle.scw_classfile.specs.Codec.{Read, Codec, ◌>>=◌, u2, u4, followed, seen_as, seen_if, judged, counted, flagged, measured, sized, first_of_two, unless}
use Rattle.scw_classfile.specs.Kinds.{is_index, index_flaw, text_flaw, is_text_that, is_class_that, is_code_text, is_object_text, is_field_text, is_method_text, kinds_of}
use Rattle.scw_classfile.specs.Pool.{pool}
use Rattle.scw_classfile.specs.Code.{code_array, code_end, handler}

-- an index that names what is expected
abbrev pub index : ℕ → List EntryKind → Expected → Codec ℕ
index major kinds e = judged (λ n. index_flaw major kinds e n 0) u2

-- ---- attributes: JVMS 4.7

-- attribute_length u4, info
abbrev pub raw : Codec (List ℕ)
raw = measured u4

abbrev pub info_of : AttrBody → List ℕ
info_of (attr_body.Code c) = []
info_of (attr_body.Other bs) = bs

abbrev pub is_other : AttrBody → Bool
is_other (attr_body.Code c) = false
is_other (attr_body.Other bs) = true

-- an attribute outside a method's own list
abbrev pub other : ℕ → List EntryKind → Codec Attribute
other major kinds = seen_if (λ a. is_other a.body) (λ x. record { name = x.0; body = attr_body.Other x.1 }) (λ a. (a.name, info_of a.body))
    (followed (index major kinds expected.Text) (λ _. raw))

abbrev pub parts_of : Code → ℕ × (ℕ × (List Instr × (List Handler × List Attribute)))
parts_of c = ((out-Code c).stack, ((out-Code c).locals, ((out-Code c).code, ((out-Code c).handlers, (out-Code c).attributes))))

-- the exception table and the attributes of code whose instructions begin at these places
abbrev pub code_tail : ℕ → List EntryKind → List Bool → Codec (List Handler × List Attribute)
code_tail major kinds starts = followed (counted (handler major kinds starts)) (λ _. counted (other major kinds))

-- what stands behind the length of the attribute Code: JVMS 4.7.3
unfoldable pub code : ℕ → List EntryKind → Codec Code
code major kinds = seen_as (λ x. roll-Code (record { stack = x.0; locals = x.1.0; code = x.1.1.0; handlers = x.1.1.1.0; attributes = x.1.1.1.1 }))
    parts_of
    (followed u2 (λ _. followed u2 (λ _. followed (code_array major kinds) (λ is. code_tail major kinds (starts is)))))

abbrev pub sized_code : ℕ → List EntryKind → Codec Code
sized_code major kinds = sized code_end (code major kinds)

-- the body of an attribute in a method's own list, which is code where its name says so
abbrev pub body_bytes : AttrBody → List ℕ
body_bytes (attr_body.Code c) = (sized_code 0 []).spell c
body_bytes (attr_body.Other bs) = raw.spell bs

abbrev pub body_counts : AttrBody → Bool
body_counts (attr_body.Code c) = (sized_code 0 []).counts c
body_counts (attr_body.Other bs) = raw.counts bs

abbrev pub body_sound : ℕ → List EntryKind → Bool → AttrBody → Bool
body_sound major kinds named (attr_body.Code c) = named && (sized_code major kinds).sound c
body_sound major kinds named (attr_body.Other bs) = not named

abbrev pub read_body : ℕ → List EntryKind → Bool → Read AttrBody
read_body major kinds true bytes = (sized_code major kinds).read bytes >>= λ x. Ok (attr_body.Code x.0, x.1)
read_body major kinds false bytes = raw.read bytes >>= λ x. Ok (attr_body.Other x.0, x.1)

abbrev pub own_body : ℕ → List EntryKind → Bool → Codec AttrBody
own_body major kinds named = record { spell = body_bytes; counts = body_counts; sound = body_sound major kinds named; read = read_body major kinds named }

-- the index is of the name of the attribute Code
abbrev pub names_code : List EntryKind → ℕ → Bool
names_code kinds n = is_text_that kinds is_code_text n

-- the name of an attribute in a method's own list, which has one Code at most
abbrev pub own_name : ℕ → List EntryKind → Bool → Codec ℕ
own_name major kinds seen = judged (λ n. first_of_two (index_flaw major kinds expected.Text n 0) (unless (not (seen && names_code kinds n)) class_rule.Code 0)) u2

-- an attribute in a method's own list, after a Code or before one
abbrev pub own : ℕ → List EntryKind → Bool → Codec Attribute
own major kinds seen = seen_as (λ x. record { name = x.0; body = x.1 }) (λ a. (a.name, a.body))
    (followed (own_name major kinds seen) (λ n. own_body major kinds (names_code kinds n)))

abbrev pub own_item : ℕ → List EntryKind → Bool → ℕ → Codec Attribute
own_item major kinds seen follow = own major kinds seen

abbrev pub own_seen : List EntryKind → Bool → Attribute → Bool
own_seen kinds seen a = seen || names_code kinds a.name

-- the bytes of an attribute in a method's own list, and whether its numbers fit their fields
abbrev pub own_bytes : Attribute → List ℕ
own_bytes a = u2.spell a.name ++ body_bytes a.body

abbrev pub own_counts : Attribute → Bool
own_counts a = u2.counts a.name && body_counts a.body

abbrev pub own_list : ℕ → List EntryKind → Codec (List Attribute)
own_list major kinds = flagged (own_item major kinds) (own_seen kinds) own_bytes own_counts u2

-- ---- members and classes

abbrev pub flags : Codec AccessFlags
flags = seen_as (λ n. record { 0 = n }) (λ f. f.0) u2

-- the index of a descriptor that passes the test
abbrev pub descriptor : ℕ → List EntryKind → (TextKind → Bool) → Codec ℕ
descriptor major kinds test = judged (λ n. text_flaw major kinds test n 0) u2

-- field_info and method_info: JVMS 4.5, 4.6
abbrev pub member : ℕ → List EntryKind → (TextKind → Bool) → Codec (List Attribute) → Codec MemberInfo
member major kinds test attributes = seen_as (λ x. record { flags = x.0; name = x.1.0; descriptor = x.1.1.0; attributes = x.1.1.1 }) (λ m. (m.flags, (m.name, (m.descriptor, m.attributes))))
    (followed flags (λ _. followed (index major kinds expected.Text) (λ _. followed (descriptor major kinds test) (λ _. attributes))))

abbrev pub field : ℕ → List EntryKind → Codec MemberInfo
field major kinds = member major kinds is_field_text (counted (other major kinds))

abbrev pub method : ℕ → List EntryKind → Codec MemberInfo
method major kinds = member major kinds is_method_text (own_list major kinds)

-- magic, which is cafebabe: JVMS 4.1
abbrev pub magic : Codec ℕ
magic = judged (λ n. unless (n == 0xcafebabe) class_rule.Magic 0) u4

-- the major versions from JDK 1.0.2 to SE 8: JVMS 4.1
abbrev pub major_version : Codec ℕ
major_version = judged (λ n. unless (nat_le 45 n && nat_le n 52) class_rule.Version 0) u2

-- magic, minor_version, major_version: JVMS 4.1
abbrev pub start : Codec (ℕ × ℕ)
start = seen_as (λ x. x.1) (λ v. (0xcafebabe, v)) (followed magic (λ _. followed u2 (λ _. major_version)))

-- a superclass, which java/lang/Object alone is without: JVMS 4.1
abbrev pub parent_is : ℕ → List EntryKind → ℕ → ℕ → Bool
parent_is major kinds this n = if n == 0 then is_class_that kinds is_object_text this else is_index major kinds expected.Class n

abbrev pub parent : ℕ → List EntryKind → ℕ → Codec ℕ
parent major kinds this = judged (λ n. unless (parent_is major kinds this n) class_rule.Index 0) u2

abbrev pub interface : ℕ → List EntryKind → Codec ℕ
interface major kinds = index major kinds expected.Class

abbrev pub Tail : Type 0
Tail = List ℕ × (List MemberInfo × (List MemberInfo × List Attribute))

-- what stands behind super_class, in a class with a pool of these kinds: JVMS 4.1
unfoldable pub tail : ℕ → List EntryKind → Codec Tail
tail major kinds = followed (counted (interface major kinds)) (λ _. followed (counted (field major kinds)) (λ _. followed (counted (method major kinds)) (λ _. counted (other major kinds))))

-- what stands behind the pool
abbrev pub body : ℕ → List EntryKind → Codec (AccessFlags × (ℕ × (ℕ × Tail)))
body major kinds = followed flags (λ _. followed (index major kinds expected.Class) (λ this. followed (parent major kinds this) (λ _. tail major kinds)))

abbrev pub tail_of : ClassFile → Tail
tail_of c = (c.interfaces, (c.fields, (c.methods, c.attributes)))

abbrev pub body_of : ClassFile → AccessFlags × (ℕ × (ℕ × Tail))
body_of c = (c.flags, (c.this, (c.parent, tail_of c)))

-- ClassFile: JVMS 4.1
abbrev pub Parts : Type 0
Parts = (ℕ × ℕ) × (List PoolEntry × (AccessFlags × (ℕ × (ℕ × Tail))))

abbrev pub from_parts : Parts → ClassFile
from_parts x = with_tail x.0 x.1.0 x.1.1 x.1.1.1.1.1
  where
    with_tail : ℕ × ℕ → List PoolEntry → AccessFlags × (ℕ × (ℕ × Tail)) → Tail → ClassFile
    with_tail version p b t = record { minor = version.0; major = version.1; pool = p; flags = b.0; this = b.1.0; parent = b.1.1.0; interfaces = t.0; fields = t.1.0; methods = t.1.1.0; attributes = t.1.1.1 }

abbrev pub to_parts : ClassFile → Parts
to_parts c = ((c.minor, c.major), (c.pool, body_of c))

unfoldable pub class : Codec ClassFile
class = seen_as from_parts to_parts (followed start (λ v. followed (pool v.1) (λ p. body v.1 (kinds_of p))))
