-- The machine that `run` uses: JVMS 5.2, with this program's own limits on what a run may take.
use Rattle.std.specs.Prelude.{ℕ, List, [], ◌∷◌, codes}
use Rattle.scw_classfile.specs.declared.class_file.ClassFile.{ClassFile}
use Rattle.scw_frame.specs.declared.program.Program.{Program}
use Rattle.scw_link.specs.Linked.{linked}
use Rattle.scw_machine.specs.Course.{Course, course}
use Rattle.scw_machine.specs.Load.{first}
use Rattle.scw_machine.specs.Run.{Running}
use Rattle.scw_tool.specs.declared.limit.TheConstants.{FRAMES, FRAME_WORDS, HEAP_UNITS, MOST_ROWS}
use Rattle.scw_machine.specs.declared.end.End.{End}
use Rattle.scw_machine.specs.declared.end.End.TheVariants as why

-- the object whose `main` is run
abbrev pub main_name : List ℕ
main_name = codes "Main"

-- the units of 16 bytes of the heap: 128 MiB
abbrev pub most_units : ℕ
most_units = HEAP_UNITS

-- the frames that may be open at once
abbrev pub most_frames : ℕ
most_frames = FRAMES

-- the words of at most 16 bytes of all frames together: 256 MiB
abbrev pub most_words : ℕ
most_words = FRAME_WORDS

-- the rows that a run may take
abbrev pub most_rows : ℕ
most_rows = MOST_ROWS

-- the program of the class file, which runs that object
abbrev pub main_program : ClassFile → Program
main_program c = linked (c ∷ []) main_name

-- the machine that has loaded the class file, before its first row
abbrev pub loaded : ClassFile → Running
loaded c = first (main_program c) most_units most_frames most_words

-- its run within these limits, after so many rows
abbrev pub limited_course : ClassFile → ℕ → Course
limited_course c n = course (main_program c) (loaded c).state n

-- The status of each answer of the machine. None is stuck, by what is proved of `run`; that row is the table's alone.
abbrev pub status_of_end : End → ℕ
status_of_end why.Ended = 0
status_of_end (why.Thrown r) = 7
status_of_end why.Steps = 8
status_of_end (why.HeapFull need) = 9
status_of_end why.Frames = 10
status_of_end why.SinkFault = 4
status_of_end (why.Stuck place) = 11
