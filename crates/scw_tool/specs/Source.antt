-- The source that a call with `run FILE` reads, and its program.
use Rattle.std.specs.Prelude.{◌≡◌, ◌↔◌, ℕ, List, Option, Some, Result, Err, encode_utf8_all}
use Rattle.std.specs.String.{string_bytes}
use Rattle.scw_text.specs.declared.number.SymId.{SymId}
use Rattle.scw_outside.specs.Content.{Files}
use Rattle.scw_classfile.specs.declared.class_file.ClassFile.{ClassFile}
use Rattle.scw_core.specs.Entry.{IsEntry, main_of}
use Rattle.scw_core.specs.Program.{Program}
use Rattle.scw_gen.specs.declared.fault.Large.{Large}
use Rattle.scw_small.specs.Says.{SaysProgram}
use Rattle.scw_back.specs.Back.{file_of_program}
use Rattle.scw_back.specs.Same.{object_name}
use Rattle.scw_tool.specs.declared.answer.Excess.{Excess}
use Rattle.scw_tool.specs.declared.words.Mode.TheVariants.{Run}
use Rattle.scw_tool.specs.Machine.{main_name}
use Rattle.scw_tool.specs.Read.{HasRead}

-- the file that the words name is a source of this program, and of no other
pub record IsSource (words : List (List ℕ)) (told : Option Files) (p : Program) : Type 0 where
  pub source : List ℕ
  pub read : HasRead Run words told source
  pub says : SaysProgram source p
  pub only : (q : Program) → SaysProgram source q → q ≡ p

-- the object `Main` of a program, which has a `main`
pub record IsMain (p : Program) (o : SymId) : Type 0 where
  pub entry : IsEntry p.table (main_of o)
  pub named : object_name p o ≡ main_name

abbrev pub HasMain : Program → Type 0
HasMain p = (o : SymId) × IsMain p o

-- the program has a class file, or is too large for one
abbrev pub IsBuilt : Program → Type 0
IsBuilt p = (r : Result ClassFile Large) × (file_of_program p ≡ Some r)

-- what of the program's class doesn't fit a class file
pub record IsExcess (p : Program) (x : Excess) : Type 0 where
  pub large : Large
  pub made : file_of_program p ≡ Some (Err large)
  pub class : string_bytes x.class ≡ encode_utf8_all large.class
  pub kind : x.kind ≡ large.kind
  pub number : x.number ≡ large.number

-- the file is a source whose class doesn't fit a class file, for this reason
pub record IsTooLarge (words : List (List ℕ)) (told : Option Files) (x : Excess) : Type 0 where
  pub program : Program
  pub is : IsSource words told program
  pub excess : IsExcess program x

-- the bytes are the source of no program
abbrev pub SaysNothing : List ℕ → Type 0
SaysNothing source = (p : Program) → SaysProgram source p → ⊥

-- the bytes read are no source
pub record IsNoSource (words : List (List ℕ)) (told : Option Files) : Type 0 where
  pub source : List ℕ
  pub read : HasRead Run words told source
  pub none : SaysNothing source

-- whether the bytes read were a source was judged, and the status says it
pub record Judged (words : List (List ℕ)) (told : Option Files) (s : ℕ) : Type 0 where
  pub source : List ℕ
  pub read : HasRead Run words told source
  pub exact : (s ≡ 14) ↔ SaysNothing source
