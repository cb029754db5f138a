-- The constant pool: JVMS 4.4.
use Rattle.std.specs.Prelude.{ℕ, ◌+◌, ◌-◌, Bool, true, false, ◌&&◌, ◌||◌, not, List, [], ◌∷◌, ◌++◌, length, Option, Some, None, Result, Ok, Err, nat_lt, nat_le, ◌==◌, if◌then◌else◌}
use Rattle.std.specs.List.{list_all}
use Rattle.scw_text.specs.Modified.{modified, units_of, is_unit}
use Rattle.scw_classfile.specs.declared.class_rule.ClassRule.TheVariants as class_rule
use Rattle.scw_classfile.specs.declared.fault.Flaw.{Flaw}
use Rattle.scw_classfile.specs.declared.index.Expected.TheVariants as expected
use Rattle.scw_classfile.specs.declared.pool_entry.PoolEntry.{PoolEntry}
use Rattle.scw_classfile.specs.declared.pool_entry.PoolEntry.TheVariants.{Utf8, Integer, Float, Long, Double, Class, Str, MethodType, Fieldref, Methodref, InterfaceMethodref, NameAndType, InvokeDynamic, MethodHandle, Second}
use Rattle.scw_classfile.specs.declared.pool_entry.EntryKind.{EntryKind}
use Rattle.scw_classfile.specs.declared.pool_entry.TextKind.{TextKind}
use Rattle.scw_classfile.specs.declared.tag.Tag.{Tag}
use Rattle.scw_classfile.specs.declared.tag.Tag.TheVariants as tag
use Rattle.scw_classfile.specs.Codec.{Read, Codec, ◌>>=◌, here, u1, u2, u4, u8, read_byte, followed, seen_as, judged, flagged, read_bytes, parsed, Filling, filled, first_of_two, unless, moved}
use Rattle.scw_classfile.specs.Kinds.{kinds_of, kind_at, is_methodref, is_fieldref, is_interface_methodref, index_flaw, text_flaw, type_flaw, is_field_text, is_method_text, is_type_text, is_class_text}

abbrev pub two : Codec (ℕ × ℕ)
two = followed u2 (λ _. u2)

-- ---- tags: JVMS table 4.4-A

abbrev pub tag_number : Tag → ℕ
tag_number tag.Utf8 = 1
tag_number tag.Integer = 3
tag_number tag.Float = 4
tag_number tag.Long = 5
tag_number tag.Double = 6
tag_number tag.Class = 7
tag_number tag.Str = 8
tag_number tag.Fieldref = 9
tag_number tag.Methodref = 10
tag_number tag.InterfaceMethodref = 11
tag_number tag.NameAndType = 12
tag_number tag.MethodHandle = 15
tag_number tag.MethodType = 16
tag_number tag.InvokeDynamic = 18

-- the tag with the number, if it is one of these
abbrev pub tag_among : List Tag → ℕ → Option Tag
tag_among [] n = None
tag_among (t ∷ ts) n = if n == tag_number t then Some t else tag_among ts n

abbrev pub tags : List Tag
tags = tag.Utf8 ∷ tag.Integer ∷ tag.Float ∷ tag.Long ∷ tag.Double ∷ tag.Class ∷ tag.Str ∷ tag.Fieldref ∷ tag.Methodref ∷ tag.InterfaceMethodref ∷ tag.NameAndType ∷ tag.MethodHandle ∷ tag.MethodType ∷ tag.InvokeDynamic ∷ []

abbrev pub tag_named : ℕ → Option Tag
tag_named = tag_among tags

-- an entry with the tag takes two places: JVMS 4.4.5
abbrev pub is_wide_tag : Tag → Bool
is_wide_tag tag.Long = true
is_wide_tag tag.Double = true
is_wide_tag _ = false

-- the tag of an entry; `Second` has none, and stands for no bytes
abbrev pub tag_of : PoolEntry → Option Tag
tag_of (Utf8 us) = Some tag.Utf8
tag_of (Integer n) = Some tag.Integer
tag_of (Float n) = Some tag.Float
tag_of (Long n) = Some tag.Long
tag_of (Double n) = Some tag.Double
tag_of (Class n) = Some tag.Class
tag_of (Str n) = Some tag.Str
tag_of (MethodType n) = Some tag.MethodType
tag_of (Fieldref c n) = Some tag.Fieldref
tag_of (Methodref c n) = Some tag.Methodref
tag_of (InterfaceMethodref c n) = Some tag.InterfaceMethodref
tag_of (NameAndType n d) = Some tag.NameAndType
tag_of (InvokeDynamic b n) = Some tag.InvokeDynamic
tag_of (MethodHandle k n) = Some tag.MethodHandle
tag_of Second = None

-- ---- what stands behind the tag: JVMS 4.4.1 to 4.4.10

abbrev pub text_or_flaw : Result (List ℕ) ℕ → Result (List ℕ) Flaw
text_or_flaw (Ok us) = Ok us
text_or_flaw (Err place) = Err (record { rule = class_rule.Utf8; after = place })

-- the units of a text
abbrev pub units : Filling (List ℕ)
units = record { bytes_of = modified; filling_counts = list_all is_unit; filling_sound = λ _. true; parse = λ bs. text_or_flaw (units_of bs) }

-- length u2, bytes: JVMS 4.4.7
abbrev pub text : Codec (List ℕ)
text = filled u2 units

-- the text in the first n bytes
abbrev pub read_text : ℕ → Read (List ℕ)
read_text n bytes = read_bytes n bytes >>= λ x. parsed (length bytes) x.1 (units.parse x.0)

-- reference_kind u1, reference_index u2: JVMS 4.4.8
abbrev pub handle : Codec (ℕ × ℕ)
handle = followed u1 (λ _. u2)

abbrev pub info_of : PoolEntry → List ℕ
info_of (Utf8 us) = text.spell us
info_of (Integer n) = u4.spell n
info_of (Float n) = u4.spell n
info_of (Long n) = u8.spell n
info_of (Double n) = u8.spell n
info_of (Class n) = u2.spell n
info_of (Str n) = u2.spell n
info_of (MethodType n) = u2.spell n
info_of (Fieldref c n) = two.spell (c, n)
info_of (Methodref c n) = two.spell (c, n)
info_of (InterfaceMethodref c n) = two.spell (c, n)
info_of (NameAndType n d) = two.spell (n, d)
info_of (InvokeDynamic b n) = two.spell (b, n)
info_of (MethodHandle k n) = handle.spell (k, n)
info_of Second = []

abbrev pub tag_bytes : Option Tag → List ℕ
tag_bytes None = []
tag_bytes (Some t) = tag_number t ∷ []

unfoldable pub entry_bytes : PoolEntry → List ℕ
entry_bytes e = tag_bytes (tag_of e) ++ info_of e

abbrev pub entry_counts : PoolEntry → Bool
entry_counts (Utf8 us) = text.counts us
entry_counts (Integer n) = u4.counts n
entry_counts (Float n) = u4.counts n
entry_counts (Long n) = u8.counts n
entry_counts (Double n) = u8.counts n
entry_counts (Class n) = u2.counts n
entry_counts (Str n) = u2.counts n
entry_counts (MethodType n) = u2.counts n
entry_counts (Fieldref c n) = two.counts (c, n)
entry_counts (Methodref c n) = two.counts (c, n)
entry_counts (InterfaceMethodref c n) = two.counts (c, n)
entry_counts (NameAndType n d) = two.counts (n, d)
entry_counts (InvokeDynamic b n) = two.counts (b, n)
entry_counts (MethodHandle k n) = handle.counts (k, n)
entry_counts Second = false

-- an entry of one number, of two, of a text
abbrev pub made : {A : Type 0} → (A → PoolEntry) → Codec A → Read PoolEntry
made make c bytes = c.read bytes >>= λ x. Ok (make x.0, x.1)

abbrev pub of_pair : (ℕ → ℕ → PoolEntry) → ℕ × ℕ → PoolEntry
of_pair make x = make x.0 x.1

-- the entry whose tag was read
abbrev pub read_info : Tag → Read PoolEntry
read_info tag.Utf8 = made Utf8 text
read_info tag.Integer = made Integer u4
read_info tag.Float = made Float u4
read_info tag.Long = made Long u8
read_info tag.Double = made Double u8
read_info tag.Class = made Class u2
read_info tag.Str = made Str u2
read_info tag.Fieldref = made (of_pair Fieldref) two
read_info tag.Methodref = made (of_pair Methodref) two
read_info tag.InterfaceMethodref = made (of_pair InterfaceMethodref) two
read_info tag.NameAndType = made (of_pair NameAndType) two
read_info tag.MethodHandle = made (of_pair MethodHandle) handle
read_info tag.MethodType = made MethodType u2
read_info tag.InvokeDynamic = made (of_pair InvokeDynamic) two

-- ---- the list of entries

abbrev pub is_wide_entry : PoolEntry → Bool
is_wide_entry (Long n) = true
is_wide_entry (Double n) = true
is_wide_entry _ = false

abbrev pub is_second : PoolEntry → Bool
is_second Second = true
is_second _ = false

-- the entry's numbers fit their fields, as far as it has any
abbrev pub place_counts : PoolEntry → Bool
place_counts e = is_second e || entry_counts e

-- the entry whose tag's number was read, where so many places follow
abbrev pub read_tagged : ℕ → List ℕ → Option Tag → Read PoolEntry
read_tagged follow from None bytes = Err (here class_rule.Tag from)
read_tagged follow from (Some t) bytes = if is_wide_tag t && follow == 0 then Err (here class_rule.Tag from) else read_info t bytes

abbrev pub read_entry : ℕ → Read PoolEntry
read_entry follow bytes = read_byte bytes >>= λ t. read_tagged follow bytes (tag_named t.0) t.1

-- an entry where so many places follow, or the second place of the entry before
abbrev pub place : Bool → ℕ → Codec PoolEntry
place true follow = record { spell = entry_bytes; counts = place_counts; sound = is_second; read = λ bytes. Ok (Second, bytes) }
place false follow = record { spell = entry_bytes; counts = place_counts; sound = λ e. not (is_second e) && not (is_wide_entry e && follow == 0); read = read_entry follow }

abbrev pub takes_two : Bool → PoolEntry → Bool
takes_two second e = is_wide_entry e

-- constant_pool_count, which is one more than the number of places: JVMS 4.1
abbrev pub pool_count : Codec ℕ
pool_count = seen_as (λ n. n - 1) (λ n. n + 1) (judged (λ n. unless (not (n == 0)) class_rule.Tag 0) u2)

abbrev pub entries : Codec (List PoolEntry)
entries = flagged place takes_two entry_bytes place_counts pool_count

-- ---- indices in entries

-- what a method handle of the kind may name: JVMS 4.4.8
abbrev pub handle_lets : ℕ → ℕ → EntryKind → Bool
handle_lets major k e =
    if nat_le k 4 then is_fieldref e
    else if k == 9 then is_interface_methodref e
    else if k == 6 then is_methodref e || (nat_le 52 major && is_interface_methodref e)
    else if k == 7 then is_methodref e || (nat_le 52 major && is_interface_methodref e)
    else is_methodref e

abbrev pub handle_lets_some : ℕ → ℕ → Option EntryKind → Bool
handle_lets_some major k None = false
handle_lets_some major k (Some e) = handle_lets major k e

abbrev pub handle_flaw : ℕ → List EntryKind → ℕ → ℕ → Option Flaw
handle_flaw major kinds k n = first_of_two (unless (nat_lt 0 k && nat_lt k 10) class_rule.Index 1) (unless (handle_lets_some major k (kind_at kinds n)) class_rule.Index 2)

-- a field or a method of a class, whose name and type has a descriptor of some form: JVMS 4.4.2
abbrev pub member_flaw : ℕ → List EntryKind → (TextKind → Bool) → ℕ → ℕ → Option Flaw
member_flaw major kinds test c n = first_of_two (index_flaw major kinds expected.Class c 1) (type_flaw major kinds test n 3)

-- the first index in the entry that names nothing of the kind that may stand there
abbrev pub entry_flaw : ℕ → List EntryKind → PoolEntry → Option Flaw
entry_flaw major kinds (Utf8 us) = None
entry_flaw major kinds (Integer n) = None
entry_flaw major kinds (Float n) = None
entry_flaw major kinds (Long n) = None
entry_flaw major kinds (Double n) = None
entry_flaw major kinds (Class n) = text_flaw major kinds is_class_text n 1
entry_flaw major kinds (Str n) = index_flaw major kinds expected.Text n 1
entry_flaw major kinds (MethodType n) = text_flaw major kinds is_method_text n 1
entry_flaw major kinds (Fieldref c n) = member_flaw major kinds is_field_text c n
entry_flaw major kinds (Methodref c n) = member_flaw major kinds is_method_text c n
entry_flaw major kinds (InterfaceMethodref c n) = member_flaw major kinds is_method_text c n
entry_flaw major kinds (NameAndType n d) = first_of_two (index_flaw major kinds expected.Text n 1) (text_flaw major kinds is_type_text d 3)
entry_flaw major kinds (InvokeDynamic b n) = type_flaw major kinds is_method_text n 3
entry_flaw major kinds (MethodHandle k n) = handle_flaw major kinds k n
entry_flaw major kinds Second = None

-- the first flaw of entries, the first of which stands so many bytes after the beginning of the pool
unfoldable pub entries_flaw : ℕ → List EntryKind → ℕ → List PoolEntry → Option Flaw
entries_flaw major kinds after [] = None
entries_flaw major kinds after (e ∷ es) = first_of_two (moved after (entry_flaw major kinds e)) (entries_flaw major kinds (after + length (entry_bytes e)) es)

-- the pool of a file of this major version; its entries are delimited first, and then its indices are judged
abbrev pub pool : ℕ → Codec (List PoolEntry)
pool major = judged (λ p. entries_flaw major (kinds_of p) 2 p) entries
