-- What a call with `run FILE` came to where a class file was run.
use Rattle.std.specs.Prelude.{◌≡◌, ℕ, ◌≤◌, List, length, Option, Some, Ok}
use Rattle.scw_text.specs.declared.number.SymId.{SymId}
use Rattle.scw_outside.specs.Content.{Files, HasName}
use Rattle.scw_classfile.specs.declared.class_file.ClassFile.{ClassFile}
use Rattle.scw_classfile.specs.declared.class_file.FileOut.{FileOut}
use Rattle.scw_core.specs.Program.{Program}
use Rattle.scw_core.specs.Seen as seen
use Rattle.scw_machine.specs.Course.{Halt, halted, returned, uncaught, stuck, full, crowded}
use Rattle.scw_machine.specs.Run.{Ran, Running}
use Rattle.scw_machine.specs.Unlimited.{RanUnlimited}
use Rattle.scw_machine.specs.declared.end.End.{End}
use Rattle.scw_step.specs.declared.state.State.{State}
use Rattle.scw_small.specs.Says.{SaysProgram}
use Rattle.scw_back.specs.Back.{file_of_program}
use Rattle.scw_run.specs.Load.{IsCompiled}
use Rattle.scw_run.specs.Shows.{Breaks, Ends, GoesOn, Shows}
use Rattle.scw_tool.specs.declared.words.Mode.TheVariants.{Run}
use Rattle.scw_tool.specs.Edge.{Edge, HasRoom, IsServed}
use Rattle.scw_tool.specs.Machine.{limited_course, loaded, main_program, most_rows, status_of_end}
use Rattle.scw_tool.specs.Read.{HasRead}
use Rattle.scw_tool.specs.Source.{IsMain, IsSource}

-- The files are the program's one class file, made from it and read back, which does what the program does; the machine that
-- has loaded it was run within the limits and answers so; and this is what its answer says of the program's run.
pub record RanSo (p : Program) (end : End) (machine : Running) (files : List FileOut) (before now : Option (List ℕ)) (room : Option ℕ) : Type 0 where
  pub class : ClassFile
  pub compiled : IsCompiled p files class
  pub main : SymId
  pub is_main : IsMain p main
  pub ran : Ran end most_rows (loaded class) machine before now room
  pub unlimited : RanUnlimited end most_rows (loaded class) machine before now room
  pub shows : Shows p main (main_program class) most_rows end machine before now

-- the same of the source that the words name, with the status and the number of rows done
pub record Executed (words : List (List ℕ)) (told : Option Files) (status : ℕ) (files : List FileOut) (steps : ℕ) (before now : Option (List ℕ)) (room : Option ℕ) : Type 0 where
  pub program : Program
  pub is : IsSource words told program
  pub end : End
  pub machine : Running
  pub so : RanSo program end machine files before now room
  pub status_is : status ≡ status_of_end end
  pub rows : steps ≡ machine.done

-- ---- in the words of the source alone

-- the source's `main` ends so, and all that it puts was taken
pub record Finished (words : List (List ℕ)) (told : Option Files) (end : seen.End) (before now : Option (List ℕ)) : Type 0 where
  pub program : Program
  pub is : IsSource words told program
  pub main : SymId
  pub is_main : IsMain program main
  pub ends : Ends program main end before now

-- a limit ended its run: what was taken is a front of what it puts
pub record Stopped (words : List (List ℕ)) (told : Option Files) (rows : ℕ) (before now : Option (List ℕ)) : Type 0 where
  pub program : Program
  pub is : IsSource words told program
  pub main : SymId
  pub is_main : IsMain program main
  pub goes : GoesOn program main rows before now

-- `out` failed: it took a part of what `main` puts
pub record CutOff (words : List (List ℕ)) (told : Option Files) (before now : Option (List ℕ)) : Type 0 where
  pub program : Program
  pub is : IsSource words told program
  pub main : SymId
  pub is_main : IsMain program main
  pub breaks : Breaks program main before now

-- ---- completeness

-- the program ended, or threw an exception that nothing caught
abbrev pub IsOver : Halt → Type 0
IsOver returned = Unit {0}
IsOver (uncaught r) = Unit {0}
IsOver stuck = ⊥
IsOver (full need) = ⊥
IsOver crowded = ⊥

-- The words name a file that the store tells and that is a source with a class file, whose run ends within the limits; the
-- store serves, and there is room for all that the run puts.
pub record IsReady (e : Edge) : Type 0 where
  pub source : List ℕ
  pub read : HasRead Run e.words e.told source
  pub has : HasName e.told read.name
  pub served : IsServed e
  pub program : Program
  pub says : SaysProgram source program
  pub class : ClassFile
  pub made : file_of_program program ≡ Some (Ok class)
  pub rows : ℕ
  pub within : rows ≤ most_rows
  pub halt : Halt
  pub state : State
  pub out : List ℕ
  pub ends : limited_course class rows ≡ halted halt state out
  pub over : IsOver halt
  pub room : HasRoom e (length out)
