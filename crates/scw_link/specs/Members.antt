-- Methods and fields by class, name and descriptor: JVMS 5.4.3.2, 5.4.3.3 and 6.5.
use Rattle.std.specs.Prelude.{ℕ, suc, ◌+◌, ◌-◌, Bool, true, false, ◌&&◌, List, [], ◌∷◌, length, take, Option, Some, None, slice_get, position, sum_by, count_by}
use Rattle.std.specs.Option.{option_map}
use Rattle.scw_classfile.specs.declared.pool_entry.PoolEntry.{PoolEntry}
use Rattle.scw_classfile.specs.declared.class_file.Attribute.{Attribute, out-Attribute}
use Rattle.scw_classfile.specs.declared.class_file.AttrBody.{AttrBody}
use Rattle.scw_classfile.specs.declared.class_file.AttrBody.TheVariants as body
use Rattle.scw_classfile.specs.declared.class_file.Code.{Code}
use Rattle.scw_classfile.specs.declared.class_file.ClassFile.{ClassFile}
use Rattle.scw_classfile.specs.declared.class_file.MemberInfo.{MemberInfo}
use Rattle.scw_frame.specs.declared.program.Target.{Target}
use Rattle.scw_frame.specs.declared.program.Target.TheVariants as target
use Rattle.scw_link.specs.declared.members.Place.{Place}
use Rattle.scw_link.specs.Names.{at, utf8, and_then, or_else, is_text}
use Rattle.scw_link.specs.Classes.{first_file, file_of, fields_of, is_static, is_instance}
use Rattle.scw_link.specs.BuiltInMethods.{agree, built_in_method}

abbrev pub is_member : List PoolEntry → List ℕ → List ℕ → MemberInfo → Bool
is_member p name descriptor m = is_text (utf8 (at p m.name)) name && is_text (utf8 (at p m.descriptor)) descriptor

-- the place of the first field or method of a name and a descriptor, static or not as wanted
abbrev pub member_place : Bool → List PoolEntry → List ℕ → List ℕ → List MemberInfo → Option ℕ
member_place wants_static p name descriptor ms = position (λ m. agree wants_static (is_static m) && is_member p name descriptor m) ms

-- the first answer that a class of a line gives
abbrev pub first_in : {A : Type 0} → (ℕ → Option A) → List ℕ → Option A
first_in f [] = None
first_in f (c ∷ cs) = or_else (f c) (first_in f cs)

-- ---- methods

abbrev pub body_code : AttrBody → Option Code
body_code (body.Code c) = Some c
body_code (body.Other bs) = None

-- the first Code attribute: JVMS 4.7.3
abbrev pub first_code : List Attribute → Option Code
first_code [] = None
first_code (a ∷ more) = or_else (body_code (out-Attribute a).body) (first_code more)

abbrev pub code_of : MemberInfo → Option Code
code_of m = first_code m.attributes

-- the number of the first method of a file; the launcher has number 0
abbrev pub first_number : List ClassFile → ℕ → ℕ
first_number files k = suc (sum_by (λ c. length c.methods) (take k files))

-- what a call of a method of a file runs, if the method has code
abbrev pub code_target : ℕ → Option Code → Option Target
code_target n None = None
code_target n (Some c) = Some (target.Code (record { 0 = n }))

abbrev pub method_target : List ClassFile → ℕ → ClassFile → ℕ → Option Target
method_target files k c m = code_target (first_number files k + m) (and_then (slice_get c.methods m) code_of)

-- what a call runs by a class alone, if it declares such a method; a method without code ends the search
abbrev pub declared_in : List ClassFile → Bool → List ℕ → List ℕ → ℕ → Option ClassFile → Option (Option Target)
declared_in files wants_static name descriptor c None = option_map (λ b. Some (target.BuiltIn b)) (built_in_method wants_static name descriptor c)
declared_in files wants_static name descriptor c (Some k) = option_map (method_target files (c - first_file) k) (member_place wants_static k.pool name descriptor k.methods)

abbrev pub declared : List ClassFile → Bool → List ℕ → List ℕ → ℕ → Option (Option Target)
declared files wants_static name descriptor c = declared_in files wants_static name descriptor c (file_of files c)

-- what a call runs on the first class of a line that declares the method
abbrev pub target_in : List ClassFile → Bool → List ℕ → List ℕ → List ℕ → Option Target
target_in files wants_static name descriptor line = and_then (first_in (declared files wants_static name descriptor) line) (λ t. t)

-- ---- fields

-- the number of the first static field of a file
abbrev pub first_static : List ClassFile → ℕ → ℕ
first_static files k = sum_by (λ c. count_by is_static c.fields) (take k files)

abbrev pub static_at : List ClassFile → ℕ → ClassFile → ℕ → ℕ
static_at files k c m = first_static files k + count_by is_static (take m c.fields)

-- the static field that a class alone declares
abbrev pub static_of : List ClassFile → List ℕ → List ℕ → ℕ → Option ℕ
static_of files name descriptor c = and_then (file_of files c) (λ k. option_map (static_at files (c - first_file) k) (member_place true k.pool name descriptor k.fields))

-- the static field that the first class of a line declares
abbrev pub static_in : List ClassFile → List ℕ → List ℕ → List ℕ → Option ℕ
static_in files name descriptor line = first_in (static_of files name descriptor) line

abbrev pub place_at : List ClassFile → List ℕ → ℕ → ClassFile → ℕ → Place
place_at files above c k m = record { class = c; field = fields_of files above + count_by is_instance (take m k.fields) }

-- the field of instances that a class below others declares
abbrev pub place_of : List ClassFile → List ℕ → List ℕ → ℕ → List ℕ → Option Place
place_of files name descriptor c above = and_then (file_of files c) (λ k. option_map (place_at files above c k) (member_place false k.pool name descriptor k.fields))

-- the field of instances that the first class of a line declares
abbrev pub place_in : List ClassFile → List ℕ → List ℕ → List ℕ → Option Place
place_in files name descriptor [] = None
place_in files name descriptor (c ∷ above) = or_else (place_of files name descriptor c above) (place_in files name descriptor above)
