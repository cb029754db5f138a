-- The numbers with which the program ends, and what it says on its line for errors.
use Rattle.std.specs.Prelude.{◌≡◌, ℕ, List, [], ◌++◌, Option, Some, None, codes, decimal}
use Rattle.std.specs.Io.KnownBytes.{append_known}
use Rattle.std.specs.String.{string_bytes}
use Rattle.scw_classfile.specs.declared.class_file.FileOut.{FileOut}
use Rattle.scw_classfile.specs.declared.fault.ClassRefusal.{ClassRefusal}
use Rattle.scw_gen.specs.declared.fault.LargeKind.{LargeKind}
use Rattle.scw_gen.specs.declared.fault.LargeKind.TheVariants as kind
use Rattle.scw_machine.specs.Run.{Running}
use Rattle.scw_machine.specs.Tell.{told}
use Rattle.scw_machine.specs.declared.end.End.{End}
use Rattle.scw_machine.specs.declared.end.End.TheVariants as why
use Rattle.scw_tool.specs.declared.answer.Answer.{Answer}
use Rattle.scw_tool.specs.declared.answer.Answer.TheVariants.{Ran, Shown, Words, ReadFault, ShowFault, BadClass, TooLarge, NoMemory, NotBuilt}
use Rattle.scw_tool.specs.declared.answer.Excess.{Excess}
use Rattle.scw_tool.specs.Edge.{Edge}
use Rattle.scw_tool.specs.Job.{Comes}
use Rattle.scw_tool.specs.Machine.{status_of_end}
use Rattle.scw_tool.specs.Rules.{rule_name}
use Rattle.scw_tool.specs.Words.{job_file}

abbrev pub number_of : Answer → ℕ
number_of (Ran r) = status_of_end r.end
number_of Shown = 0
number_of Words = 2
number_of ReadFault = 3
number_of ShowFault = 4
number_of (BadClass r) = 11
number_of (TooLarge x) = 6
number_of NoMemory = 12
number_of NotBuilt = 14

-- a number with which the program ends
pub record IsStatus (n : ℕ) : Type 0 where
  pub answer : Answer
  pub is : n ≡ number_of answer

-- ---- the parts of an answer

abbrev pub files_of : Answer → List FileOut
files_of (Ran r) = r.files
files_of Shown = []
files_of Words = []
files_of ReadFault = []
files_of ShowFault = []
files_of (BadClass r) = []
files_of (TooLarge x) = []
files_of NoMemory = []
files_of NotBuilt = []

abbrev pub steps_of : Answer → ℕ
steps_of (Ran r) = r.machine.done
steps_of Shown = 0
steps_of Words = 0
steps_of ReadFault = 0
steps_of ShowFault = 0
steps_of (BadClass r) = 0
steps_of (TooLarge x) = 0
steps_of NoMemory = 0
steps_of NotBuilt = 0

-- ---- the line for errors

abbrev pub shown_name : Option (List ℕ) → List ℕ
shown_name (Some name) = name
shown_name None = []

abbrev pub read_fault_line : List ℕ → List ℕ
read_fault_line name = codes "cannot read " ++ (name ++ codes "\n")

abbrev pub write_fault_line : List ℕ
write_fault_line = codes "cannot write output\n"

-- the rule, and how many bytes stand before the fault
abbrev pub refusal_text : ClassRefusal → List ℕ
refusal_text r = rule_name r.rule ++ (codes " at " ++ (decimal r.place ++ codes "\n"))

abbrev pub bad_class_line : List ℕ → ClassRefusal → List ℕ
bad_class_line name r = (codes "bad class " ++ (name ++ codes ": ")) ++ refusal_text r

abbrev pub kind_name : LargeKind → List ℕ
kind_name kind.Code = codes "Code"
kind_name kind.Pool = codes "Pool"
kind_name kind.Fields = codes "Fields"
kind_name kind.Methods = codes "Methods"
kind_name kind.Slots = codes "Slots"
kind_name kind.Interfaces = codes "Interfaces"
kind_name kind.Handlers = codes "Handlers"
kind_name kind.Frames = codes "Frames"
kind_name kind.Descriptor = codes "Descriptor"

-- the class, and which of its numbers doesn't fit
abbrev pub too_large_line : Excess → List ℕ
too_large_line x = (string_bytes x.class ++ (codes ": too large: " ++ kind_name x.kind)) ++ (codes " " ++ (decimal x.number ++ codes "\n"))

-- what is said of the machine when it ended so
abbrev pub line_of_end : Running → End → List ℕ
line_of_end m why.Ended = []
line_of_end m (why.Thrown r) = told m.program m.state.heap.objects r.0
line_of_end m why.Steps = codes "steps spent\n"
line_of_end m (why.HeapFull need) = codes "heap full\n"
line_of_end m why.Frames = codes "too many frames\n"
line_of_end m why.SinkFault = write_fault_line
line_of_end m (why.Stuck place) = []

-- what a call with these words says when it comes to the answer
abbrev pub line_of : List (List ℕ) → Answer → List ℕ
line_of words (Ran r) = line_of_end r.machine r.end
line_of words Shown = []
line_of words Words = codes "usage: scw MODE [--main NAME] [--steps N] [--dir DIR] FILES\n"
line_of words ReadFault = read_fault_line (shown_name (job_file words))
line_of words ShowFault = write_fault_line
line_of words (BadClass r) = bad_class_line (shown_name (job_file words)) r
line_of words (TooLarge x) = too_large_line x
line_of words NoMemory = codes "no memory\n"
line_of words NotBuilt = codes "not built: source at 1:1\n"

-- The call came to an answer that has this number, these files and steps, and its line was taken, whole.
pub record SaysLine (e : Edge) (n : ℕ) (files : List FileOut) (steps : ℕ) (before now : Option (List ℕ)) : Type 0 where
  pub answer : Answer
  pub comes : Comes e answer
  pub number : n ≡ number_of answer
  pub files_are : files ≡ files_of answer
  pub steps_are : steps ≡ steps_of answer
  pub put : now ≡ append_known before (line_of e.words answer)
