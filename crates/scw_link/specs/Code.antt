-- The code of methods, byte by byte, with its switches and its handlers: JVMS 4.7.3 and 6.5.
use Rattle.std.specs.Prelude.{ℕ, ◌+◌, ◌-◌, ℤ, List, [], ◌∷◌, ◌++◌, map, length, replicate, sum_by, Option, Some, None, unwrap_or, nat_lt, ◌==◌, if◌then◌else◌}
use Rattle.scw_classfile.specs.declared.class_file.Handler.{Handler}
use Rattle.scw_code.specs.declared.instr.Instr.{Instr}
use Rattle.scw_code.specs.declared.instr.InstrArgs.{InstrArgs}
use Rattle.scw_code.specs.declared.instr.InstrArgs.TheVariants as args
use Rattle.scw_code.specs.Code.{size_at}
use Rattle.scw_frame.specs.declared.operation.Instruction.{Instruction}
use Rattle.scw_frame.specs.declared.operation.Operation.TheVariants as op
use Rattle.scw_frame.specs.declared.program.Case.{Case}
use Rattle.scw_frame.specs.declared.program.Catch.{Catch}
use Rattle.scw_frame.specs.declared.program.Catch.TheVariants as catch
use Rattle.scw_frame.specs.declared.program.Guard.{Guard}
use Rattle.scw_frame.specs.declared.program.Switch.{Switch}
use Rattle.scw_frame.specs.declared.program.Switch.TheVariants as switch
use Rattle.scw_link.specs.Names.{and_then, at, class_name}
use Rattle.scw_link.specs.Classes.{class_number}
use Rattle.scw_link.specs.Numbers.{bits, place_at}
use Rattle.scw_link.specs.Resolve.{operation}
use Rattle.scw_link.specs.Site.{Site}

-- ---- bytes of code

-- a byte at which no instruction begins
abbrev pub no_instruction : Instruction
no_instruction = record { operation = op.Undefined; next = 0 }

-- the largest place, at which no instruction begins: JVMS 4.7.3, code_length
abbrev pub last_place : ℕ
last_place = 65535

abbrev pub place_or_last : ℕ → ℕ
place_or_last n = if nat_lt n last_place then n else last_place

-- the instruction at a place; a switch has this number
abbrev pub instruction : Site → ℕ → ℕ → Instr → Instruction
instruction s place number i = record { operation = operation s place number i; next = place_or_last (place + size_at place i) }

-- what begins at each byte of an instruction
abbrev pub bytes_of : Site → ℕ → ℕ → Instr → List Instruction
bytes_of s place number i = instruction s place number i ∷ replicate (size_at place i - 1) no_instruction

abbrev pub switches_of : InstrArgs → ℕ
switches_of (args.Plain ns) = 0
switches_of (args.Table t) = 1
switches_of (args.Lookup t) = 1
switches_of (args.Wide o ns) = 0

-- how many switches there are
abbrev pub switch_count : List Instr → ℕ
switch_count is = sum_by (λ i. switches_of i.args) is

-- what begins at each byte of the code, the first instruction of which is at the place and has so many switches before it
abbrev pub code_from : Site → ℕ → ℕ → List Instr → List Instruction
code_from s place number [] = []
code_from s place number (i ∷ is) =
    bytes_of s place number i ++ code_from s (place + length (bytes_of s place number i)) (number + switches_of i.args) is

-- ---- switches

-- the place at a distance; what isn't a place of two bytes is the last one
abbrev pub switch_target : ℕ → ℤ → ℕ
switch_target place distance = unwrap_or (place_at place distance) last_place

abbrev pub case_of : ℕ → ℤ × ℤ → Case
case_of place p = record { key = bits p.0; target = switch_target place p.1 }

-- the switch that an instruction is
abbrev pub switch_at : ℕ → InstrArgs → List Switch
switch_at place (args.Plain ns) = []
switch_at place (args.Table t) = switch.Table (switch_target place t.default) (bits t.low) (map (switch_target place) t.jumps) ∷ []
switch_at place (args.Lookup t) = switch.Lookup (switch_target place t.default) (map (case_of place) t.pairs) ∷ []
switch_at place (args.Wide o ns) = []

-- the switches of instructions, the first of which is at the place
abbrev pub switches_from : ℕ → List Instr → List Switch
switches_from place [] = []
switches_from place (i ∷ is) = switch_at place i.args ++ switches_from (place + size_at place i) is

-- ---- handlers

abbrev pub catch_of : ℕ → Option ℕ → Catch
catch_of n None = if n == 0 then catch.All else catch.Nothing
catch_of n (Some c) = if n == 0 then catch.All else catch.Class (record { 0 = c })

abbrev pub guard_of : Site → Handler → Guard
guard_of s h = record { from = h.from; to = h.to; at = h.at; catch = catch_of h.class (and_then (class_name s.pool (at s.pool h.class)) (class_number s.files)) }
