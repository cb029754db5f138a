-- The bytes by which sizes are counted, as the format writes them: JVMS 4.1 and 4.7.3.
use Rattle.std.specs.Prelude.{ℕ, List, [], ◌++◌, length}
use Rattle.scw_classfile.specs.declared.class_file.ClassFile.{ClassFile}
use Rattle.scw_classfile.specs.Codec.{counted, u2}
use Rattle.scw_classfile.specs.Format.{field, flags, interface, start}
use Rattle.scw_classfile.specs.Pool.{pool}

-- interfaces_count, interfaces, fields_count, fields and methods_count
abbrev pub up_to_methods : ClassFile → List ℕ
up_to_methods c = (counted (interface 0 [])).spell c.interfaces ++ ((counted (field 0 [])).spell c.fields ++ u2.spell (length c.methods))

-- access_flags, this_class, super_class, and what follows up to the methods
abbrev pub behind_pool : ClassFile → List ℕ
behind_pool c = flags.spell c.flags ++ (u2.spell c.this ++ (u2.spell c.parent ++ up_to_methods c))

-- the bytes of a class file up to its methods, their count with them
abbrev pub bytes_before_methods : ClassFile → List ℕ
bytes_before_methods c = start.spell (c.minor, c.major) ++ ((pool c.major).spell c.pool ++ behind_pool c)
