-- From what came of a program, or of a class, to the answer.
use Rattle.std.proofs.Common.{◌≡◌, ℕ, ◌≤◌, false, nat_lt, length, List, Option, Some, Result, Ok, Err, refl, sym, ap}
use Rattle.std.specs.Option.{option_map}
use Rattle.std.specs.Prelude.{IfOk}
use Rattle.std.specs.Str.{chars}
use Rattle.std.proofs.lemmas.Bool.{le-ltb}
use Rattle.scw_outside.specs.Content.{Files}
use Rattle.scw_text.specs.declared.memory.NoMemory as memory
use Rattle.scw_classfile.specs.declared.class_file.ClassFile.{ClassFile}
use Rattle.scw_classfile.specs.ReadClass.{ClassBytes, read_class}
use Rattle.scw_core.specs.Program.{Program}
use Rattle.scw_small.specs.Says.{SaysProgram}
use Rattle.scw_tool.specs.declared.answer.Answer.{Answer}
use Rattle.scw_tool.specs.declared.answer.Answer.TheVariants as answer
use Rattle.scw_tool.specs.declared.words.Mode.TheVariants.{Run, Dis}
use Rattle.scw_tool.specs.Edge.{Edge}
use Rattle.scw_tool.specs.Job.{Comes, Went, WentShown}
use Rattle.scw_tool.specs.Read.{HasRead}
use Rattle.scw_tool.specs.Show.{IsClass, most_class}
use Rattle.scw_tool.specs.Source.{IsSource}
use Rattle.scw_tool.specs.Words.{job_file, job_name}

-- ---- the program of a source

module _ (e : Edge) (source : List ℕ) (p : Program) (read : HasRead Run e.words e.told source) (says : SaysProgram source p) (only : (q : Program) → SaysProgram source q → q ≡ p) where
  is_source : IsSource e.words e.told p
  is_source = record { source = source; read = read; says = says; only = only }

  program_comes : (a : Answer) → Went p e.room e.out_before e.out_after e.taken_before e.taken_after a → Comes e a
  program_comes (answer.Ran r) w = record { program = p; is = is_source; so = w.0; cause = w.1 }
  program_comes answer.Shown w = absurd w
  program_comes answer.Words w = absurd w
  program_comes answer.ReadFault w = absurd w
  program_comes answer.ShowFault w = absurd w
  program_comes (answer.BadClass r) w = absurd w
  program_comes (answer.TooLarge x) w = (record { program = p; is = is_source; excess = w.0 }, w.1)
  program_comes answer.NoMemory w = absurd w
  program_comes answer.NotBuilt w = absurd w

  pub all_come : (r : Result Answer memory.NoMemory) → IfOk r (λ a. Went p e.room e.out_before e.out_after e.taken_before e.taken_after a) → IfOk r (λ a. Comes e a)
  all_come (Ok a) w = program_comes a w
  all_come (Err f) w = tt

-- ---- the text of a class

abbrev class_is : (words : List (List ℕ)) (told : Option Files) (source : List ℕ) (c : ClassFile) → HasRead Dis words told source → length source ≤ most_class → read_class source ≡ Ok c → ClassBytes c source
    → ((d : ClassFile) → ClassBytes d source → c ≡ d) → IsClass words told c
class_is words told source c read short reads bytes again =
    let long : nat_lt most_class (length source) ≡ false = le-ltb most_class (length source) short in
    record { source = source; read = read; bytes = bytes; only = λ d is. sym (again d is); taken = rw (long, reads) refl }

pub class_comes : (e : Edge) (source : List ℕ) (c : ClassFile) (a : Answer) → IsClass e.words e.told c
    → WentShown c e.room e.out_before e.out_after e.taken_before e.taken_after a → Comes e a
class_comes e source c (answer.Ran r) is w = absurd w
class_comes e source c answer.Shown is w = record { made = c; is = is; put = w }
class_comes e source c answer.Words is w = absurd w
class_comes e source c answer.ReadFault is w = absurd w
class_comes e source c answer.ShowFault is w = record { cut = record { made = c; is = is; part = w.0 }; rose = w.1; no_room = w.2 }
class_comes e source c (answer.BadClass r) is w = absurd w
class_comes e source c (answer.TooLarge x) is w = absurd w
class_comes e source c answer.NoMemory is w = absurd w
class_comes e source c answer.NotBuilt is w = absurd w

pub all_shown : (r : Result Answer memory.NoMemory) (e : Edge) (source : List ℕ) (c : ClassFile) → HasRead Dis e.words e.told source → length source ≤ most_class → read_class source ≡ Ok c → ClassBytes c source
    → ((d : ClassFile) → ClassBytes d source → c ≡ d) → IfOk r (λ a. WentShown c e.room e.out_before e.out_after e.taken_before e.taken_after a) → IfOk r (λ a. Comes e a)
all_shown (Ok a) e source c read short reads bytes again w = class_comes e source c a (class_is e.words e.told source c read short reads bytes again) w
all_shown (Err f) e source c read short reads bytes again w = tt

-- the name of the file, where it was told
pub name_is : (words : List (List ℕ)) (file : List ℕ) → job_file words ≡ Some file → job_name words ≡ Some (chars file)
name_is words file h = ap (option_map chars) h
