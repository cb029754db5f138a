-- What an index of the pool may stand for: JVMS 4.4 and 6.5.
use Rattle.std.specs.Prelude.{ℕ, ◌-◌, Bool, true, false, ◌&&◌, ◌||◌, List, map, Option, Some, None, slice_get, nat_le, ◌==◌, if◌then◌else◌}
use Rattle.scw_classfile.specs.declared.class_rule.ClassRule.TheVariants as class_rule
use Rattle.scw_classfile.specs.declared.fault.Flaw.{Flaw}
use Rattle.scw_classfile.specs.declared.pool_entry.PoolEntry.{PoolEntry}
use Rattle.scw_classfile.specs.declared.pool_entry.PoolEntry.TheVariants as entry
use Rattle.scw_classfile.specs.declared.pool_entry.EntryKind.{EntryKind}
use Rattle.scw_classfile.specs.declared.pool_entry.EntryKind.TheVariants as kind
use Rattle.scw_classfile.specs.declared.pool_entry.TextKind.{TextKind}
use Rattle.scw_classfile.specs.declared.pool_entry.TextKind.TheVariants as text
use Rattle.scw_classfile.specs.declared.index.Expected.{Expected}
use Rattle.scw_classfile.specs.declared.index.Expected.TheVariants as expected
use Rattle.scw_classfile.specs.declared.index.TextTest.{TextTest}
use Rattle.scw_classfile.specs.declared.index.TextTest.TheVariants as text_test
use Rattle.scw_classfile.specs.Codec.{first_of_two, unless}
use Rattle.scw_classfile.specs.Descriptor.{text_kind}

abbrev pub kind_of : PoolEntry → EntryKind
kind_of (entry.Utf8 us) = kind.Utf8 (text_kind us)
kind_of (entry.Integer n) = kind.Integer
kind_of (entry.Float n) = kind.Float
kind_of (entry.Long n) = kind.Long
kind_of (entry.Double n) = kind.Double
kind_of (entry.Class n) = kind.Class n
kind_of (entry.Str n) = kind.Str
kind_of (entry.MethodType n) = kind.MethodType
kind_of (entry.Fieldref c n) = kind.Fieldref
kind_of (entry.Methodref c n) = kind.Methodref
kind_of (entry.InterfaceMethodref c n) = kind.InterfaceMethodref
kind_of (entry.NameAndType n d) = kind.NameAndType d
kind_of (entry.InvokeDynamic b n) = kind.InvokeDynamic
kind_of (entry.MethodHandle k n) = kind.MethodHandle
kind_of entry.Second = kind.Second

abbrev pub kinds_of : List PoolEntry → List EntryKind
kinds_of = map kind_of

-- the entry at an index, which counts from 1: JVMS 4.1
abbrev pub kind_at : List EntryKind → ℕ → Option EntryKind
kind_at kinds n = if n == 0 then None else slice_get kinds (n - 1)

-- ---- the kinds of entries that may stand at a place, in a file of this major version

abbrev pub is_text : EntryKind → Bool
is_text (kind.Utf8 t) = true
is_text _ = false

abbrev pub is_class : EntryKind → Bool
is_class (kind.Class n) = true
is_class _ = false

abbrev pub is_name_and_type : EntryKind → Bool
is_name_and_type (kind.NameAndType d) = true
is_name_and_type _ = false

abbrev pub is_fieldref : EntryKind → Bool
is_fieldref kind.Fieldref = true
is_fieldref _ = false

abbrev pub is_methodref : EntryKind → Bool
is_methodref kind.Methodref = true
is_methodref _ = false

abbrev pub is_interface_methodref : EntryKind → Bool
is_interface_methodref kind.InterfaceMethodref = true
is_interface_methodref _ = false

abbrev pub is_invoke_dynamic : EntryKind → Bool
is_invoke_dynamic kind.InvokeDynamic = true
is_invoke_dynamic _ = false

-- what `ldc` may load in every version
abbrev pub is_old_constant : EntryKind → Bool
is_old_constant kind.Integer = true
is_old_constant kind.Float = true
is_old_constant kind.Str = true
is_old_constant _ = false

-- what `ldc` may load since version 51
abbrev pub is_new_constant : EntryKind → Bool
is_new_constant kind.MethodType = true
is_new_constant kind.MethodHandle = true
is_new_constant _ = false

abbrev pub is_wide : EntryKind → Bool
is_wide kind.Long = true
is_wide kind.Double = true
is_wide _ = false

abbrev pub lets : ℕ → Expected → EntryKind → Bool
lets major expected.Text k = is_text k
lets major expected.Class k = is_class k
lets major expected.NameAndType k = is_name_and_type k
lets major expected.Fieldref k = is_fieldref k
lets major expected.Methodref k = is_methodref k
lets major expected.InterfaceMethodref k = is_interface_methodref k
lets major expected.DirectMethodref k = is_methodref k || (nat_le 52 major && is_interface_methodref k)
lets major expected.InvokeDynamic k = is_invoke_dynamic k
lets major expected.Constant k = is_old_constant k || ((nat_le 49 major && is_class k) || (nat_le 51 major && is_new_constant k))
lets major expected.LongConstant k = is_wide k

abbrev pub lets_some : ℕ → Expected → Option EntryKind → Bool
lets_some major e None = false
lets_some major e (Some k) = lets major e k

-- an entry that may stand there has this index
abbrev pub is_index : ℕ → List EntryKind → Expected → ℕ → Bool
is_index major kinds e n = lets_some major e (kind_at kinds n)

-- the flaw of an index that stands so many bytes after the beginning of a part
abbrev pub index_flaw : ℕ → List EntryKind → Expected → ℕ → ℕ → Option Flaw
index_flaw major kinds e n after = unless (is_index major kinds e n) class_rule.Index after

-- ---- texts where a descriptor is asked for: JVMS 4.3

abbrev pub is_field_text : TextKind → Bool
is_field_text text.Field = true
is_field_text text.Array = true
is_field_text _ = false

abbrev pub is_method_text : TextKind → Bool
is_method_text text.Method = true
is_method_text _ = false

abbrev pub is_type_text : TextKind → Bool
is_type_text t = is_field_text t || is_method_text t

-- the name of a class, or the descriptor of an array type: JVMS 4.4.1
abbrev pub is_class_text : TextKind → Bool
is_class_text text.NoArray = false
is_class_text _ = true

abbrev pub is_code_text : TextKind → Bool
is_code_text text.Code = true
is_code_text _ = false

abbrev pub is_object_text : TextKind → Bool
is_object_text text.Object = true
is_object_text _ = false

-- what a text is asked to be
abbrev pub test_of : TextTest → TextKind → Bool
test_of text_test.Field = is_field_text
test_of text_test.Method = is_method_text
test_of text_test.Type = is_type_text
test_of text_test.Class = is_class_text
test_of text_test.Code = is_code_text
test_of text_test.Object = is_object_text

abbrev pub text_passes : (TextKind → Bool) → Option EntryKind → Bool
text_passes test (Some (kind.Utf8 t)) = test t
text_passes test _ = false

-- the index is of a text that passes the test
abbrev pub is_text_that : List EntryKind → (TextKind → Bool) → ℕ → Bool
is_text_that kinds test n = text_passes test (kind_at kinds n)

abbrev pub type_passes : List EntryKind → (TextKind → Bool) → Option EntryKind → Bool
type_passes kinds test (Some (kind.NameAndType d)) = is_text_that kinds test d
type_passes kinds test _ = false

-- the index is of a name and type whose descriptor passes the test
abbrev pub is_type_that : List EntryKind → (TextKind → Bool) → ℕ → Bool
is_type_that kinds test n = type_passes kinds test (kind_at kinds n)

abbrev pub class_passes : List EntryKind → (TextKind → Bool) → Option EntryKind → Bool
class_passes kinds test (Some (kind.Class n)) = is_text_that kinds test n
class_passes kinds test _ = false

-- the index is of a class whose name passes the test
abbrev pub is_class_that : List EntryKind → (TextKind → Bool) → ℕ → Bool
is_class_that kinds test n = class_passes kinds test (kind_at kinds n)

-- the flaw of an index at which a text of some form is asked for
abbrev pub text_flaw : ℕ → List EntryKind → (TextKind → Bool) → ℕ → ℕ → Option Flaw
text_flaw major kinds test n after = first_of_two (index_flaw major kinds expected.Text n after) (unless (is_text_that kinds test n) class_rule.Descriptor after)

-- the flaw of an index at which a name with a type of some form is asked for
abbrev pub type_flaw : ℕ → List EntryKind → (TextKind → Bool) → ℕ → ℕ → Option Flaw
type_flaw major kinds test n after = first_of_two (index_flaw major kinds expected.NameAndType n after) (unless (is_type_that kinds test n) class_rule.Descriptor after)
