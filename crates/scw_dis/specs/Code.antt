-- The lines of a method's code and of other attributes: JVMS 4.7.
use Rattle.std.specs.Prelude.{ℕ, ◌==◌, List, [], ◌++◌, length, if◌then◌else◌, codes}
use Rattle.std.specs.List.{flat_map}
use Rattle.scw_classfile.specs.declared.class_file.Attribute.{Attribute}
use Rattle.scw_classfile.specs.declared.class_file.AttrBody.{AttrBody}
use Rattle.scw_classfile.specs.declared.class_file.AttrBody.TheVariants as attr_body
use Rattle.scw_classfile.specs.declared.class_file.Code.{Code, out-Code}
use Rattle.scw_classfile.specs.declared.class_file.Handler.{Handler}
use Rattle.scw_classfile.specs.declared.pool_entry.PoolEntry.{PoolEntry}
use Rattle.scw_dis.specs.Character.{spaced}
use Rattle.scw_dis.specs.Entry.{class_at, text_at}
use Rattle.scw_dis.specs.Instruction.{instr_lines}

-- ---- attributes other than Code: JVMS 4.7

-- The name and the length of an attribute, behind a margin. A Code has lines of its own, where it is that of a method,
-- and none elsewhere.
abbrev pub body_line : List PoolEntry → List ℕ → ℕ → AttrBody → List ℕ
body_line pool margin name (attr_body.Code c) = []
body_line pool margin name (attr_body.Other bytes) = margin ++ codes "attribute " ++ text_at pool name ++ spaced (length bytes) ++ codes "\n"

abbrev pub attribute_line : List PoolEntry → List ℕ → Attribute → List ℕ
attribute_line pool margin a = body_line pool margin a.name a.body

abbrev pub attribute_lines : List PoolEntry → List ℕ → List Attribute → List ℕ
attribute_lines pool margin attributes = flat_map (attribute_line pool margin) attributes

-- ---- code: JVMS 4.7.3

abbrev pub sizes_line : ℕ → ℕ → List ℕ
sizes_line stack locals = codes "  stack" ++ spaced stack ++ codes " locals" ++ spaced locals ++ codes "\n"

-- from where to where a handler guards, and where its own code begins
abbrev pub places_text : Handler → List ℕ
places_text h = spaced h.from ++ spaced h.to ++ spaced h.at

-- the class of the exceptions that are caught, or all
abbrev pub caught : List PoolEntry → ℕ → List ℕ
caught pool n = if n == 0 then codes "any" else class_at pool n

abbrev pub handler_line : List PoolEntry → Handler → List ℕ
handler_line pool h = codes "  catch" ++ places_text h ++ codes " " ++ caught pool h.class ++ codes "\n"

abbrev pub code_text : List PoolEntry → Code → List ℕ
code_text pool c =
    sizes_line (out-Code c).stack (out-Code c).locals
    ++ instr_lines pool 0 (out-Code c).code
    ++ flat_map (handler_line pool) (out-Code c).handlers
    ++ attribute_lines pool (codes "    ") (out-Code c).attributes

-- the code in an attribute of a method, if it is that
abbrev pub body_code : List PoolEntry → AttrBody → List ℕ
body_code pool (attr_body.Code c) = code_text pool c
body_code pool (attr_body.Other bytes) = []

abbrev pub attribute_code : List PoolEntry → Attribute → List ℕ
attribute_code pool a = body_code pool a.body
