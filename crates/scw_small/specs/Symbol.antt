-- Symbols and types that every program of the small language has.
use Rattle.std.specs.Prelude.{ℕ, false, List, [], ◌∷◌, ◌++◌, codes, map}
use Rattle.std.proofs.Common.{lit≤}
use Rattle.scw_text.specs.declared.number.SymId.{SymId}
use Rattle.scw_text.specs.declared.number.TypeId.{TypeId}
use Rattle.scw_text.specs.declared.span.Span.{Span}
use Rattle.scw_core.specs.declared.symbol.TheConstants.{ANY_REF, UNIT, BOOLEAN, INT, LONG, STRING, ARRAY}
use Rattle.scw_core.specs.Types.{Plain, cls, sing, fun, no_prefix, object_path, no_plains, more_plains, CoreType, source_type}
use Rattle.scw_core.specs.TypesOf.{SeenParameter, parameters_of}
use Rattle.scw_reader.specs.declared.tree.TypeName.{TypeName}
use Rattle.scw_reader.specs.declared.tree.TypeName.TheVariants as type
use Rattle.scw_reader.specs.declared.tree.Parameter.{Parameter}
use Rattle.scw_small.specs.declared.symbol.TheConstants.{MAIN_OBJECT}

-- The parts of a syntax tree have no places in the source, so the nodes of its program have none.
abbrev pub nowhere : Span
nowhere = record { file = 0; start = 0; end = 0; ordered = lit≤ tt }

-- ---- types (SLS 3.2, 3.3.1)

abbrev pub class_type : SymId → Plain
class_type c = cls no_prefix c no_plains

abbrev pub kind_class : TypeName → SymId
kind_class type.Unit = UNIT
kind_class type.Boolean = BOOLEAN
kind_class type.Int = INT
kind_class type.Long = LONG
kind_class type.String = STRING

abbrev pub kind_type : TypeName → Plain
kind_type t = class_type (kind_class t)

-- `Array[String]`
abbrev pub strings_type : Plain
strings_type = cls no_prefix ARRAY (more_plains (class_type STRING) no_plains)

-- The types with which the list of a program begins: those that are written, then `Array[String]`, `AnyRef` and
-- `Main.type`.
abbrev pub kind_types : List CoreType
kind_types =
    source_type (kind_type type.Unit) ∷ source_type (kind_type type.Boolean) ∷ source_type (kind_type type.Int) ∷
    source_type (kind_type type.Long) ∷ source_type (kind_type type.String) ∷ []

abbrev pub first_types : List CoreType
first_types =
    kind_types ++ (source_type strings_type ∷ source_type (class_type ANY_REF) ∷ source_type (sing (object_path MAIN_OBJECT)) ∷ [])

-- where a type that is written stands in that list
abbrev pub kind_id : TypeName → TypeId
kind_id type.Unit = record { 0 = 0 }
kind_id type.Boolean = record { 0 = 1 }
kind_id type.Int = record { 0 = 2 }
kind_id type.Long = record { 0 = 3 }
kind_id type.String = record { 0 = 4 }

-- the type of a method
abbrev pub clause_parameter : List ℕ → Plain → SeenParameter
clause_parameter x t = record { name = x; is_by_name = false; is_implicit = false; of = t }

abbrev pub parameter_type : Parameter → SeenParameter
parameter_type x = clause_parameter x.name (kind_type x.kind)

abbrev pub method_type : List Parameter → TypeName → CoreType
method_type xs t = source_type (fun (parameters_of (map parameter_type xs)) (kind_type t))

-- `(args: Array[String])Unit`
abbrev pub main_type : CoreType
main_type = source_type (fun (parameters_of (clause_parameter (codes "args") strings_type ∷ [])) (kind_type type.Unit))
