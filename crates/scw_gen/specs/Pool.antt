-- The constant pool: JVMS 4.4. An entry stands in it once, behind those that it names.
use Rattle.std.specs.Prelude.{ℕ, ◌^◌, List, [], ◌∷◌, ◌++◌, Bool, true, false, cond, ◌&&◌, nat_eq, nat_lt, Option, Some, None}
use Rattle.std.specs.List.{list_all}
use Rattle.std.specs.Cmp.Lexicographic.{pointwise}
use Rattle.scw_text.specs.Modified.{is_unit}
use Rattle.scw_classfile.specs.declared.pool_entry.PoolEntry.{PoolEntry}
use Rattle.scw_classfile.specs.declared.pool_entry.PoolEntry.TheVariants as pool
use Rattle.scw_gen.specs.declared.pool.Entry.{Entry}
use Rattle.scw_gen.specs.declared.pool.Entry.TheVariants as entry
use Rattle.scw_gen.specs.declared.pool.MethodName.{MethodName}
use Rattle.scw_gen.specs.Instr.{plus}

-- ---- which entry is which

abbrev pub is_utf8 : List ℕ → PoolEntry → Bool
is_utf8 text (pool.Utf8 us) = pointwise nat_eq us text
is_utf8 text _ = false

abbrev pub is_integer : ℕ → PoolEntry → Bool
is_integer n (pool.Integer k) = nat_eq k n
is_integer n _ = false

abbrev pub is_long : ℕ → PoolEntry → Bool
is_long n (pool.Long k) = nat_eq k n
is_long n _ = false

abbrev pub is_class : ℕ → PoolEntry → Bool
is_class name (pool.Class k) = nat_eq k name
is_class name _ = false

abbrev pub is_str : ℕ → PoolEntry → Bool
is_str text (pool.Str k) = nat_eq k text
is_str text _ = false

abbrev pub is_name_and_type : ℕ → ℕ → PoolEntry → Bool
is_name_and_type name descriptor (pool.NameAndType n d) = nat_eq n name && nat_eq d descriptor
is_name_and_type name descriptor _ = false

abbrev pub is_methodref : ℕ → ℕ → PoolEntry → Bool
is_methodref class name (pool.Methodref c n) = nat_eq c class && nat_eq n name
is_methodref class name _ = false

abbrev pub is_entry : Entry → PoolEntry → Bool
is_entry (entry.Integer n) found = is_integer n found
is_entry (entry.Long n) found = is_long n found
is_entry (entry.Class name) found = is_class name found
is_entry (entry.Str text) found = is_str text found
is_entry (entry.NameAndType name descriptor) found = is_name_and_type name descriptor found
is_entry (entry.Methodref class name) found = is_methodref class name found

abbrev pub entry_of : Entry → PoolEntry
entry_of (entry.Integer n) = pool.Integer n
entry_of (entry.Long n) = pool.Long n
entry_of (entry.Class name) = pool.Class name
entry_of (entry.Str text) = pool.Str text
entry_of (entry.NameAndType name descriptor) = pool.NameAndType name descriptor
entry_of (entry.Methodref class name) = pool.Methodref class name

-- The numbers of the entry fit their fields: units have 16 bits, an Int 32 and a Long 64. No entry of another kind that is
-- made has numbers but indices, which other definitions bound.
abbrev pub fits : PoolEntry → Bool
fits (pool.Utf8 us) = list_all is_unit us
fits (pool.Integer n) = nat_lt n (2 ^ 32)
fits (pool.Long n) = nat_lt n (2 ^ 64)
fits _ = true

-- ---- indices, which count from 1, and are 0 where nothing is found

-- that of the first entry that passes, counted from k
abbrev pub index_from : (PoolEntry → Bool) → ℕ → List PoolEntry → ℕ
index_from test k [] = 0
index_from test k (e ∷ es) = cond (test e) k (index_from test (plus k 1) es)

unfoldable pub utf8_index : List PoolEntry → List ℕ → ℕ
utf8_index p text = index_from (is_utf8 text) 1 p

unfoldable pub index_of : List PoolEntry → Entry → ℕ
index_of p e = index_from (is_entry e) 1 p

abbrev pub integer_index : List PoolEntry → ℕ → ℕ
integer_index p n = index_of p (entry.Integer n)

abbrev pub long_index : List PoolEntry → ℕ → ℕ
long_index p n = index_of p (entry.Long n)

abbrev pub class_index : List PoolEntry → List ℕ → ℕ
class_index p name = index_of p (entry.Class (utf8_index p name))

abbrev pub string_index : List PoolEntry → List ℕ → ℕ
string_index p text = index_of p (entry.Str (utf8_index p text))

abbrev pub name_and_type_index : List PoolEntry → List ℕ → List ℕ → ℕ
name_and_type_index p name descriptor = index_of p (entry.NameAndType (utf8_index p name) (utf8_index p descriptor))

abbrev pub method_index : List PoolEntry → MethodName → ℕ
method_index p m = index_of p (entry.Methodref (class_index p m.class) (name_and_type_index p m.name m.descriptor))

-- an index at which something was found
abbrev pub found : ℕ → Option ℕ
found n = cond (nat_eq n 0) None (Some n)

-- ---- the pool with an entry, and with those that it names

abbrev pub unless_there : ℕ → List PoolEntry → List PoolEntry → List PoolEntry
unless_there index p more = cond (nat_eq index 0) (p ++ more) p

abbrev pub with_utf8 : List PoolEntry → List ℕ → List PoolEntry
with_utf8 p text = unless_there (utf8_index p text) p (pool.Utf8 text ∷ [])

abbrev pub with_entry : List PoolEntry → Entry → List PoolEntry
with_entry p e = unless_there (index_of p e) p (entry_of e ∷ [])

abbrev pub with_integer : List PoolEntry → ℕ → List PoolEntry
with_integer p n = with_entry p (entry.Integer n)

-- a number of 64 bits has a second place (JVMS 4.4.5)
abbrev pub with_long : List PoolEntry → ℕ → List PoolEntry
with_long p n = unless_there (long_index p n) p (pool.Long n ∷ pool.Second ∷ [])

-- a class, behind its name
abbrev pub class_behind : List PoolEntry → List ℕ → List PoolEntry
class_behind p name = with_entry p (entry.Class (utf8_index p name))

abbrev pub with_class : List PoolEntry → List ℕ → List PoolEntry
with_class p name = class_behind (with_utf8 p name) name

abbrev pub string_behind : List PoolEntry → List ℕ → List PoolEntry
string_behind p text = with_entry p (entry.Str (utf8_index p text))

abbrev pub with_string : List PoolEntry → List ℕ → List PoolEntry
with_string p text = string_behind (with_utf8 p text) text

abbrev pub name_and_type_behind : List PoolEntry → List ℕ → List ℕ → List PoolEntry
name_and_type_behind p name descriptor = with_entry p (entry.NameAndType (utf8_index p name) (utf8_index p descriptor))

abbrev pub with_name_and_type : List PoolEntry → List ℕ → List ℕ → List PoolEntry
with_name_and_type p name descriptor = name_and_type_behind (with_utf8 (with_utf8 p name) descriptor) name descriptor

abbrev pub method_behind : List PoolEntry → MethodName → List PoolEntry
method_behind p m = with_entry p (entry.Methodref (class_index p m.class) (name_and_type_index p m.name m.descriptor))

-- a method, behind its class and its name and type
abbrev pub with_method : List PoolEntry → MethodName → List PoolEntry
with_method p m = method_behind (with_name_and_type (with_class p m.class) m.name m.descriptor) m
