-- The reference types that pools name: JVMS 4.4.1 and 4.3.2.
use Rattle.std.specs.Prelude.{ℕ, ◌+◌, ◌-◌, List, [], ◌∷◌, map, length, take, Option, Some, None, unwrap_or, ◌==◌, ◌||◌, if◌then◌else◌}
use Rattle.std.specs.List.{flat_map}
use Rattle.std.specs.Option.{option_map}
use Rattle.scw_classfile.specs.declared.class_file.ClassFile.{ClassFile}
use Rattle.scw_classfile.specs.declared.pool_entry.PoolEntry.{PoolEntry}
use Rattle.scw_classfile.specs.declared.pool_entry.PoolEntry.TheVariants as entry
use Rattle.scw_frame.specs.declared.program.Base.{Base}
use Rattle.scw_frame.specs.declared.program.Base.TheVariants as base
use Rattle.scw_frame.specs.declared.program.ReferenceType.{ReferenceType}
use Rattle.scw_frame.specs.declared.operation.Primitive.TheVariants as primitive
use Rattle.scw_link.specs.declared.descriptor.TheConstants.{ARRAY, BOOLEAN, BYTE, CHAR, CLASS, DOUBLE, FLOAT, INT, LONG, SHORT}
use Rattle.scw_link.specs.Names.{at, utf8, class_name, and_then}
use Rattle.scw_link.specs.Classes.{class_number}

abbrev pub type_with : ℕ → Base → ReferenceType
type_with n b = record { dimensions = n; base = b }

-- the type of objects of a class, or of arrays of such
abbrev pub class_type : ℕ → ℕ → ReferenceType
class_type n c = type_with n (base.Class (record { 0 = c }))

-- a primitive type by its character in descriptors: JVMS table 4.3-A
abbrev pub primitive_base : ℕ → Option Base
primitive_base c =
    if c == BOOLEAN then Some (base.Primitive primitive.Boolean)
    else if c == CHAR then Some (base.Primitive primitive.Char)
    else if c == INT then Some (base.Primitive primitive.Int)
    else if c == LONG then Some (base.Primitive primitive.Long)
    else if c == BYTE || c == SHORT || c == FLOAT || c == DOUBLE then Some (base.Other c)
    else None

-- the class name in a descriptor, of which the part behind the `L` is given
abbrev pub name_before_end : List ℕ → List ℕ
name_before_end us = take (length us - 1) us

-- the type of arrays of so many dimensions, of which the last are still to be read
abbrev pub array_type : List ClassFile → ℕ → List ℕ → Option ReferenceType
array_type files n [] = None
array_type files n (c ∷ cs) =
    if c == ARRAY then array_type files (n + 1) cs
    else if c == CLASS then option_map (class_type n) (class_number files (name_before_end cs))
    else option_map (type_with n) (primitive_base c)

-- the type of a class name or of the descriptor of an array type
abbrev pub type_named : List ClassFile → List ℕ → Option ReferenceType
type_named files [] = None
type_named files (c ∷ cs) = if c == ARRAY then array_type files 1 cs else option_map (class_type 0) (class_number files (c ∷ cs))

-- the type that an entry of a pool names, if its class is known
abbrev pub type_of : List ClassFile → List PoolEntry → Option PoolEntry → Option ReferenceType
type_of files p e = and_then (class_name p e) (type_named files)

-- what stands for an entry that names no type
abbrev pub no_type : ReferenceType
no_type = type_with 0 (base.Other 0)

abbrev pub type_or_none : List ClassFile → List PoolEntry → PoolEntry → ReferenceType
type_or_none files p e = unwrap_or (type_of files p (Some e)) no_type

abbrev pub pool_types : List ClassFile → ClassFile → List ReferenceType
pool_types files c = map (type_or_none files c.pool) c.pool

-- the type of strings, and then one for each entry of each pool
abbrev pub types_of : List ClassFile → List ReferenceType
types_of files = class_type 0 1 ∷ flat_map (pool_types files) files

-- ---- texts

-- the text of a string constant, and an empty one for another entry
abbrev pub text_of : List PoolEntry → PoolEntry → List ℕ
text_of p (entry.Str n) = unwrap_or (utf8 (at p n)) []
text_of p _ = []

abbrev pub pool_texts : ClassFile → List (List ℕ)
pool_texts c = map (text_of c.pool) c.pool

-- an empty text, and then one for each entry of each pool
abbrev pub texts_of : List ClassFile → List (List ℕ)
texts_of files = [] ∷ flat_map pool_texts files
