-- A program of class files with its names resolved: JVMS 5.3 and 5.4.
use Rattle.std.specs.Prelude.{ℕ, ◌-◌, Bool, true, false, ◌&&◌, List, [], ◌∷◌, ◌++◌, map, length, Option, Some, None, unwrap_or, slice_get, slice_index_or, codes}
use Rattle.std.specs.List.{range_with_len}
use Rattle.std.specs.Option.{option_map, option_map_or}
use Rattle.scw_classfile.specs.declared.class_file.ClassFile.{ClassFile}
use Rattle.scw_frame.specs.declared.operation.Instruction.{Instruction}
use Rattle.scw_frame.specs.declared.operation.Operation.{Operation}
use Rattle.scw_frame.specs.declared.operation.Operation.TheVariants as op
use Rattle.scw_frame.specs.declared.program.Class.{Class}
use Rattle.scw_frame.specs.declared.program.Method.{Method}
use Rattle.scw_frame.specs.declared.program.Origin.{Origin}
use Rattle.scw_frame.specs.declared.program.Program.{Program}
use Rattle.scw_frame.specs.declared.program.Target.{Target}
use Rattle.scw_frame.specs.declared.program.Target.TheVariants as target
use Rattle.scw_frame.specs.declared.value.Value.TheVariants.{Int}
use Rattle.scw_link.specs.Ancestors.{ancestors_of, supers_of}
use Rattle.scw_link.specs.BuiltIns.{built_in_name}
use Rattle.scw_link.specs.Classes.{fields_of, file_of, parents, superclasses}
use Rattle.scw_link.specs.Members.{target_in}
use Rattle.scw_link.specs.Methods.{file_methods, origin, statics_of, switches_of}
use Rattle.scw_link.specs.Names.{Named, at, class_name}
use Rattle.scw_link.specs.Numbers.{or_undefined}
use Rattle.scw_link.specs.Resolve as r
use Rattle.scw_link.specs.Selectors.{main_selector, selector_kinds, selectors_of}
use Rattle.scw_link.specs.Site.{Selector, Site}
use Rattle.scw_link.specs.Types.{texts_of, types_of}

-- ---- classes

abbrev pub name_in : ℕ → Option ClassFile → List ℕ
name_in c None = built_in_name c
name_in c (Some k) = unwrap_or (class_name k.pool (at k.pool k.this)) []

-- the name of the class with this number
abbrev pub name_of : List ClassFile → ℕ → List ℕ
name_of files c = name_in c (file_of files c)

-- what a virtual call by a selector runs on an instance of the first class of a line: JVMS 6.5, `invokevirtual`
abbrev pub selected : List ClassFile → List ℕ → Selector → Option Target
selected files line s = target_in files false s.name s.descriptor line

-- a class with its line of superclasses and the row of its ancestors
abbrev pub class_with : List ClassFile → List Selector → ℕ → List Bool → List ℕ → Class
class_with files selectors c row line = record { name = name_of files c; fields = fields_of files line; ancestors = row; targets = map (selected files line) selectors }

abbrev pub class_at : List ClassFile → List (Option ℕ) → List Selector → List (List Bool) → ℕ → Class
class_at files parents selectors rows c = class_with files selectors c (slice_index_or rows c []) (superclasses parents c)

abbrev pub classes_of : List ClassFile → List (Option ℕ) → List Selector → List (List Bool) → List Class
classes_of files parents selectors rows = map (class_at files parents selectors rows) (range_with_len 0 (length parents))

-- ---- the launcher

-- the class of an object: JVMS 4.2.1, with the `$` of Scala's objects
abbrev pub object_class : List ℕ → List ℕ
object_class main = main ++ codes "$"

-- the accessor of an object
abbrev pub getter : List ℕ → Named
getter main = record { class = object_class main; name = codes "$get"; descriptor = codes "()L" ++ object_class main ++ codes ";" }

-- where the launcher is resolved
abbrev pub outside : List ClassFile → List (Option ℕ) → List Selector → Site
outside files parents selectors = record { files = files; parents = parents; selectors = selectors; pool = []; before = 0 }

abbrev pub getter_target : List ClassFile → List (Option ℕ) → List Selector → List ℕ → Option Target
getter_target files parents selectors main = r.target (outside files parents selectors) true (getter main)

abbrev pub then_at : ℕ → Operation → Instruction
then_at next o = record { operation = o; next = next }

-- it gets the object, makes an empty array of strings, calls `main` and returns
abbrev pub launch_code : Option Target → List Instruction
launch_code t =
    then_at 1 (or_undefined (option_map (λ x. op.CallStatic x) t))
    ∷ then_at 2 (op.Push (Int 0))
    ∷ then_at 3 (op.NewReferences (record { 0 = 0 }))
    ∷ then_at 4 (op.CallVirtual (record { 0 = 0 }))
    ∷ then_at 5 op.Return
    ∷ []

-- where the method that a call runs stands, if it is a file's; the methods of files have numbers from 1
abbrev pub origin_of : List Method → Option Target → Origin
origin_of ms None = origin 0 0 0
origin_of ms (Some (target.Code n)) = option_map_or (λ m. m.origin) (slice_get ms (n.0 - 1)) (origin 0 0 0)
origin_of ms (Some (target.BuiltIn b)) = origin 0 0 0

abbrev pub launcher : List Method → Option Target → Method
launcher ms t = record { origin = origin_of ms t; arguments = []; stack = 2; locals = 1; code = launch_code t; guards = [] }

abbrev pub methods_of : List ClassFile → List (Option ℕ) → List Selector → List ℕ → List Method
methods_of files parents selectors main =
    launcher (file_methods files parents selectors 0 0 0 files) (getter_target files parents selectors main) ∷ file_methods files parents selectors 0 0 0 files

-- ---- the program

abbrev pub program_with : List ClassFile → List (Option ℕ) → List Selector → List ℕ → Program
program_with files parents selectors main = record {
  classes = classes_of files parents selectors (ancestors_of (supers_of files));
  methods = methods_of files parents selectors main;
  selectors = selector_kinds selectors;
  types = types_of files;
  texts = texts_of files;
  switches = switches_of files;
  statics = statics_of files;
}

-- the program of the files, which runs the object of this name
abbrev pub linked : List ClassFile → List ℕ → Program
linked files main = program_with files (parents files) (selectors_of files) main

-- ---- whether there is a main object

abbrev pub is_code : Option Target → Bool
is_code None = false
is_code (Some (target.Code n)) = true
is_code (Some (target.BuiltIn b)) = false

-- the `main` of the object of this name
abbrev pub main_method : List ℕ → Named
main_method main = record { class = object_class main; name = main_selector.name; descriptor = main_selector.descriptor }

-- the object has its accessor, and it or a superclass has the instance method `main`
abbrev pub has_main : List ClassFile → List ℕ → Bool
has_main files main =
    is_code (getter_target files (parents files) [] main) && is_code (r.target (outside files (parents files) []) false (main_method main))
