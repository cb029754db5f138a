-- How many bytes the parts of a class file take, and where code begins: JVMS 4.1, 4.4 to 4.7.
use Rattle.std.specs.Prelude.{ℕ, ◌+◌, ◌*◌, List, [], ◌∷◌, length, sum_by, Option, Some, None}
use Rattle.scw_text.specs.Modified.{modified}
use Rattle.scw_classfile.specs.declared.class_file.Attribute.{Attribute, out-Attribute}
use Rattle.scw_classfile.specs.declared.class_file.AttrBody.{AttrBody}
use Rattle.scw_classfile.specs.declared.class_file.AttrBody.TheVariants as body
use Rattle.scw_classfile.specs.declared.class_file.ClassFile.{ClassFile}
use Rattle.scw_classfile.specs.declared.class_file.Code.{Code, out-Code}
use Rattle.scw_classfile.specs.declared.class_file.MemberInfo.{MemberInfo}
use Rattle.scw_classfile.specs.declared.pool_entry.PoolEntry.{PoolEntry}
use Rattle.scw_classfile.specs.declared.pool_entry.PoolEntry.TheVariants as entry
use Rattle.scw_code.specs.declared.instr.Instr.{Instr}
use Rattle.scw_code.specs.Code.{size_at}

-- the tag, and what stands behind it: JVMS 4.4.1 to 4.4.10
abbrev pub entry_size : PoolEntry → ℕ
entry_size (entry.Utf8 us) = 3 + length (modified us)
entry_size (entry.Integer n) = 5
entry_size (entry.Float n) = 5
entry_size (entry.Long n) = 9
entry_size (entry.Double n) = 9
entry_size (entry.Class n) = 3
entry_size (entry.Str n) = 3
entry_size (entry.MethodType n) = 3
entry_size (entry.Fieldref c n) = 5
entry_size (entry.Methodref c n) = 5
entry_size (entry.InterfaceMethodref c n) = 5
entry_size (entry.NameAndType n d) = 5
entry_size (entry.InvokeDynamic b n) = 5
entry_size (entry.MethodHandle k n) = 4
entry_size entry.Second = 0

-- ---- attributes: JVMS 4.7 and 4.7.3

-- attribute_name_index, attribute_length and info of an attribute that isn't the Code of a method
abbrev pub info_size : AttrBody → ℕ
info_size (body.Code c) = 6
info_size (body.Other bs) = 6 + length bs

abbrev pub other_size : Attribute → ℕ
other_size a = info_size (out-Attribute a).body

-- the place behind instructions, the first of which is at the place
abbrev pub end_of : ℕ → List Instr → ℕ
end_of place [] = place
end_of place (i ∷ is) = end_of (place + size_at place i) is

-- what stands in a Code attribute before its code: attribute_name_index, attribute_length, max_stack, max_locals, code_length
abbrev pub before_code : ℕ
before_code = 14

-- code, exception_table_length, exception_table, attributes_count and attributes
abbrev pub behind_code : Code → ℕ
behind_code c = end_of 0 (out-Code c).code + (2 + (8 * length (out-Code c).handlers + (2 + sum_by other_size (out-Code c).attributes)))

-- an attribute in a method's own list
abbrev pub body_size : AttrBody → ℕ
body_size (body.Code c) = before_code + behind_code c
body_size (body.Other bs) = 6 + length bs

abbrev pub own_size : Attribute → ℕ
own_size a = body_size (out-Attribute a).body

-- ---- members: JVMS 4.5 and 4.6

-- access_flags, name_index, descriptor_index and attributes_count
abbrev pub member_head : ℕ
member_head = 8

abbrev pub field_size : MemberInfo → ℕ
field_size m = member_head + sum_by other_size m.attributes

abbrev pub method_size : MemberInfo → ℕ
method_size m = member_head + sum_by own_size m.attributes

-- how many bytes of a method's attributes stand before the code of the first Code, if there is one
abbrev pub or_before : ℕ → AttrBody → Option ℕ → Option ℕ
or_before size (body.Code c) later = Some before_code
or_before size (body.Other bs) None = None
or_before size (body.Other bs) (Some n) = Some (size + n)

abbrev pub code_place : List Attribute → Option ℕ
code_place [] = None
code_place (a ∷ more) = or_before (own_size a) (out-Attribute a).body (code_place more)

-- ---- the file: JVMS 4.1

-- magic, minor_version, major_version and constant_pool_count; access_flags, this_class, super_class and
-- interfaces_count; fields_count; methods_count
abbrev pub before_methods : ClassFile → ℕ
before_methods c = 10 + (sum_by entry_size c.pool + (8 + (2 * length c.interfaces + (2 + (sum_by field_size c.fields + 2)))))

abbrev pub start_after : ℕ → Option ℕ → ℕ
start_after place None = 0
start_after place (Some n) = place + (member_head + n)

-- the byte of the file at which the code of a method begins that stands at the place, or 0 if it has none
abbrev pub start_of : ℕ → MemberInfo → ℕ
start_of place m = start_after place (code_place m.attributes)
