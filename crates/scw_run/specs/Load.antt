-- The class file and the machine of a core program: JVMS 4.1, 5.2.
use Rattle.std.specs.Prelude.{◌≡◌, ℕ, List, [], ◌∷◌, Some, None, Ok, Err}
use Rattle.scw_text.specs.declared.number.SymId.{SymId}
use Rattle.scw_classfile.specs.declared.class_file.ClassFile.{ClassFile}
use Rattle.scw_classfile.specs.declared.class_file.FileOut.{FileOut}
use Rattle.scw_classfile.specs.Format.{class}
use Rattle.scw_classfile.specs.ReadClass.{read_class}
use Rattle.scw_core.specs.declared.class.CoreClass.{CoreClass}
use Rattle.scw_core.specs.Entry.{IsEntry, main_of}
use Rattle.scw_core.specs.Program as core
use Rattle.scw_link.specs.Linked.{linked}
use Rattle.scw_machine.specs.Load.{first, units_of}
use Rattle.scw_back.specs.Back.{file_of_program}
use Rattle.scw_back.specs.Same.{DoesTheSame, object_name}
use Rattle.scw_run.specs.declared.loading.Loaded.{Loaded}
use Rattle.scw_run.specs.declared.loading.RunFault.{RunFault}
use Rattle.scw_run.specs.declared.loading.RunFault.TheVariants as fault

-- the binary name of the first class
abbrev pub first_name : List CoreClass → List ℕ
first_name [] = []
first_name (k ∷ ks) = k.binary_name

-- the one file of a program's class, under the class's binary name
abbrev pub files_of : core.Program → ClassFile → List FileOut
files_of p c = record { name = first_name p.table.classes; bytes = class.spell c } ∷ []

-- The files are that of the program's class, which was made from it, is read back from its bytes, and does what the program
-- does.
pub record IsCompiled (p : core.Program) (files : List FileOut) (c : ClassFile) : Type 0 where
  pub made : file_of_program p ≡ Some (Ok c)
  pub spelled : files ≡ files_of p c
  pub back : read_class (class.spell c) ≡ Ok c
  pub same : DoesTheSame p c

-- the machine has loaded the program's class file, and begins with the object of the name
pub record IsMachineOf (p : core.Program) (main : List ℕ) (heap frames words : ℕ) (l : Loaded) : Type 0 where
  pub file : ClassFile
  pub compiled : IsCompiled p l.files file
  pub machine : l.machine ≡ first (linked (file ∷ []) (units_of main)) heap frames words

-- no object with a `main` has the name
abbrev pub HasNoMain : core.Program → List ℕ → Type 0
HasNoMain p main = (o : SymId) → IsEntry p.table (main_of o) → object_name p o ≡ units_of main → ⊥

-- what a refusal says of the program
abbrev pub Refuses : RunFault → core.Program → List ℕ → Type 0
Refuses (fault.TooLarge large) p main = file_of_program p ≡ Some (Err large)
Refuses fault.NotBuilt p main = file_of_program p ≡ None
Refuses fault.NoMain p main = HasNoMain p main
Refuses fault.NoMemory p main = Unit {0}
