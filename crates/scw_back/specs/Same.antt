-- When the class file of a program does what the program does (JVMS 2, SLS 6).
use Rattle.std.specs.Prelude.{◌≡◌, ℕ, ◌+◌, ◌-◌, ◌*◌, Bool, true, false, length, take, List, [], ◌∷◌, None}
use Rattle.scw_text.specs.declared.number.SymId.{SymId}
use Rattle.scw_classfile.specs.declared.class_file.ClassFile.{ClassFile}
use Rattle.scw_core.specs.Entry.{IsEntry, main_of, source_run}
use Rattle.scw_core.specs.Program as core
use Rattle.scw_core.specs.Seen.{AlikeBy, Corresponds, Seen}
use Rattle.scw_core.specs.Text.{binary_name, units_of_name}
use Rattle.scw_frame.specs.declared.program.Program.{Program}
use Rattle.scw_link.specs.Linked.{has_main, linked}
use Rattle.scw_machine.specs.Course.{Course, Halt, course, crowded, full, going, halted, returned, stuck, uncaught}
use Rattle.scw_machine.specs.Load.{first_state}
use Rattle.scw_back.specs.MachineSeen.{machine_seen}

-- a class name without the `$` that ends that of an object
abbrev pub without_last : List ℕ → List ℕ
without_last us = take (length us - 1) us

-- the name of the object by which the machine is told what to run
abbrev pub object_name : core.Program → SymId → List ℕ
object_name p o = without_last (units_of_name (binary_name p.table o))

-- the program to which the file alone is linked, which runs the object
abbrev pub machine_of : core.Program → ClassFile → SymId → Program
machine_of p c o = linked (c ∷ []) (object_name p o)

-- its run without limits on heap and frames, after so many rows
abbrev pub machine_course : core.Program → ClassFile → SymId → ℕ → Course
machine_course p c o n = course (machine_of p c o) (first_state (machine_of p c o) None None None) n

abbrev pub machine_run : core.Program → ClassFile → SymId → ℕ → Seen
machine_run p c o n = machine_seen (machine_of p c o) (machine_course p c o n)

abbrev pub is_stuck_halt : Halt → Bool
is_stuck_halt returned = false
is_stuck_halt (uncaught r) = false
is_stuck_halt stuck = true
is_stuck_halt (full n) = false
is_stuck_halt crowded = false

-- the next row isn't defined
abbrev pub is_stuck : Course → Bool
is_stuck (going s out) = false
is_stuck (halted halt s out) = is_stuck_halt halt

-- The machine runs `main` of each object that has one as the program does: each comes as far as the other, in output and in
-- end, and the machine is never stuck. For n nodes of the program it takes at most 64 n + 31 rows.
pub record DoesTheSame (p : core.Program) (c : ClassFile) : Type 0 where
  pub starts : (o : SymId) → IsEntry p.table (main_of o) → has_main (c ∷ []) (object_name p o) ≡ true
  pub runs : (o : SymId) → IsEntry p.table (main_of o) → Corresponds (source_run p (main_of o)) (machine_run p c o) (λ n. is_stuck (machine_course p c o n))
  pub counted : (o : SymId) → IsEntry p.table (main_of o) → AlikeBy (source_run p (main_of o)) (machine_run p c o) (λ n. 64 * n + 31)
