-- Which programs have a class file that does what they do, and which file: JVMS 4.1.
use Rattle.std.specs.Prelude.{Bool, true, false, not, cond, ◌&&◌, is_some, List, [], ◌∷◌, Option, Some, None, Result}
use Rattle.scw_text.specs.declared.number.SymId.{SymId}
use Rattle.scw_classfile.specs.declared.class_file.ClassFile.{ClassFile}
use Rattle.scw_core.specs.Program.{Program, look}
use Rattle.scw_core.specs.Tree.{Tree, Trees, strict, none, more}
use Rattle.scw_core.specs.Types.{same_symbol}
use Rattle.scw_core.specs.declared.class.CoreClass.{CoreClass}
use Rattle.scw_core.specs.declared.operator.Literal.TheVariants as literal
use Rattle.scw_core.specs.declared.operator.Op.{Op}
use Rattle.scw_core.specs.declared.operator.Op.TheVariants as op
use Rattle.scw_core.specs.declared.symbol.TheConstants.{ANY_REF, ARITHMETIC_EXCEPTION}
use Rattle.scw_gen.specs.Generate.{file_of}
use Rattle.scw_gen.specs.declared.fault.Large.{Large}

-- ---- how a run begins

-- `()`
abbrev pub is_unit_op : Op → Bool
is_unit_op (op.Literal literal.Unit) = true
is_unit_op _ = false

abbrev pub has_none : Trees → Bool
has_none none = true
has_none (more t ts) = false

abbrev pub is_unit_tree : Tree → Bool
is_unit_tree (strict i o ts) = is_unit_op o && has_none ts
is_unit_tree _ = false

-- the operator that gives an object
abbrev pub is_module_of : SymId → Op → Bool
is_module_of s (op.Module o) = same_symbol o s
is_module_of s _ = false

abbrev pub is_one_unit : Trees → Bool
is_one_unit none = false
is_one_unit (more t ts) = is_unit_tree t && has_none ts

-- the tree gives the object at the top
abbrev pub gives_object : SymId → Tree → Bool
gives_object s (strict i o ts) = is_module_of s o && is_one_unit ts
gives_object s _ = false

abbrev pub gives_object_if_some : SymId → Option Tree → Bool
gives_object_if_some s None = false
gives_object_if_some s (Some t) = gives_object s t

-- The object is reached by its own tree, its class has a template, and its symbol is neither of two built-in classes that are
-- named in every run.
abbrev pub can_begin : Program → CoreClass → Bool
can_begin p k =
    gives_object_if_some k.symbol (look p.entries k.symbol) && is_some (look p.templates k.symbol) && not (same_symbol k.symbol ANY_REF) && not (same_symbol k.symbol ARITHMETIC_EXCEPTION)

-- ---- the file

abbrev pub file_of_classes : Program → List CoreClass → Option (Result ClassFile Large)
file_of_classes p [] = None
file_of_classes p (k ∷ []) = cond (can_begin p k) (file_of p k) None
file_of_classes p (k ∷ l ∷ ks) = None

-- the class file of a program of one class, or what of it doesn't fit one; none for a program of a form that has no code yet
unfoldable pub file_of_program : Program → Option (Result ClassFile Large)
file_of_program p = file_of_classes p p.table.classes
