-- The attribute Code: JVMS 4.7.3 and 4.9.1.
use Rattle.std.specs.Prelude.{replicate, true, ◌++◌, ◌-◌, ℕ, zero, suc, ◌+◌, ◌*◌, Bool, false, ◌&&◌, ◌||◌, List, [], ◌∷◌, length, drop, Option, Some, None, option_and_then, Result, Ok, Err, slice_index_or, nat_lt, ◌==◌, if◌then◌else◌, unsigned_abs}
use Rattle.std.specs.List.{list_all}
use Rattle.std.specs.Result.{result_ok}
use Rattle.scw_code.specs.declared.decoding.Decoded.{Decoded}
use Rattle.scw_code.specs.declared.fault.CodeFault.{CodeFault}
use Rattle.scw_code.specs.declared.fault.CodeFault.TheVariants as code_fault
use Rattle.scw_code.specs.declared.form.Form.{Form}
use Rattle.scw_code.specs.declared.form.Form.TheVariants as form
use Rattle.scw_code.specs.declared.instr.Instr.{Instr}
use Rattle.scw_code.specs.declared.instr.InstrArgs.{InstrArgs}
use Rattle.scw_code.specs.declared.instr.InstrArgs.TheVariants as args
use Rattle.scw_code.specs.Opcode.{form_of}
use Rattle.scw_code.specs.Layout.{first}
use Rattle.scw_code.specs.Code.{size_at, code_bytes, code_fits, decoded}
use Rattle.scw_code.specs.Jump.{starts, jumps_of, target_is}
use Rattle.scw_classfile.specs.declared.class_rule.ClassRule.TheVariants as class_rule
use Rattle.scw_classfile.specs.declared.fault.Flaw.{Flaw}
use Rattle.scw_classfile.specs.declared.class_file.Handler.{Handler}
use Rattle.scw_classfile.specs.declared.index.Expected.{Expected}
use Rattle.scw_classfile.specs.declared.index.Expected.TheVariants as expected
use Rattle.scw_classfile.specs.declared.pool_entry.EntryKind.{EntryKind}
use Rattle.scw_classfile.specs.Codec.{Read, Codec, ◌>>=◌, u2, u4, followed, seen_as, judged, read_bytes, parsed, Filling, filled, is_none, first_of_two, unless, moved}
use Rattle.scw_classfile.specs.Kinds.{is_index, index_flaw}

-- ---- instructions: JVMS 4.9.1 and 6.5

-- what the index is asked to name that is the first operand of an opcode of this form
abbrev pub index_in : Form → Option Expected
index_in form.Bare = None
index_in form.Byte = None
index_in form.Short = None
index_in form.Slot = None
index_in form.Increment = None
index_in form.Jump = None
index_in form.FarJump = None
index_in form.ElementType = None
index_in form.Constant = Some expected.Constant
index_in form.WideConstant = Some expected.Constant
index_in form.LongConstant = Some expected.LongConstant
index_in form.Field = Some expected.Fieldref
index_in form.VirtualCall = Some expected.Methodref
index_in form.DirectCall = Some expected.DirectMethodref
index_in form.InterfaceCall = Some expected.InterfaceMethodref
index_in form.DynamicCall = Some expected.InvokeDynamic
index_in form.Class = Some expected.Class
index_in form.Dimensions = Some expected.Class
index_in form.TableSwitch = None
index_in form.LookupSwitch = None
index_in form.Wide = None

-- the pool index among the operands
abbrev pub operand : InstrArgs → ℕ
operand (args.Plain ns) = unsigned_abs (first ns)
operand (args.Table t) = 0
operand (args.Lookup t) = 0
operand (args.Wide op ns) = 0

abbrev pub operand_flaw : ℕ → List EntryKind → InstrArgs → Option Expected → Option Flaw
operand_flaw major kinds a None = None
operand_flaw major kinds a (Some e) = index_flaw major kinds e (operand a) 1

abbrev pub index_by : Option Form → Option Expected
index_by None = None
index_by (Some f) = index_in f

-- an instruction jumps to opcodes alone, and its index names what it needs
unfoldable pub instr_flaw : ℕ → List EntryKind → List Bool → ℕ → Instr → Option Flaw
instr_flaw major kinds starts at i =
    first_of_two (unless (list_all (target_is starts at) (jumps_of i)) class_rule.Code 0) (operand_flaw major kinds i.args (index_by (form_of i.op)))

-- the first flaw of instructions, the first of which is at the place
unfoldable pub instrs_flaw : ℕ → List EntryKind → List Bool → ℕ → List Instr → Option Flaw
instrs_flaw major kinds starts at [] = None
instrs_flaw major kinds starts at (i ∷ is) = first_of_two (moved at (instr_flaw major kinds starts at i)) (instrs_flaw major kinds starts (at + size_at at i) is)

-- the first flaw of all instructions of a method
unfoldable pub code_flaw : ℕ → List EntryKind → List Bool → List Instr → Option Flaw
code_flaw major kinds starts is = instrs_flaw major kinds starts 0 is

-- behind a fault no opcode is known, and a jump to there isn't judged: the fault is told
abbrev pub unread : ℕ → Option CodeFault → List Bool
unread n None = []
unread n (Some fault) = replicate n true

-- for each byte of the code whether an opcode may be there
abbrev pub starts_in : ℕ → Decoded → List Bool
starts_in size d = starts d.instrs ++ unread (size - length (starts d.instrs)) d.fault

-- ---- code_length and code

abbrev pub fault_place : CodeFault → ℕ
fault_place (code_fault.BadOpcode at byte) = at
fault_place (code_fault.BadSwitch at) = at
fault_place (code_fault.Cut at) = at
fault_place code_fault.NoMemory = 0

abbrev pub code_or_fault : List Instr → Option CodeFault → Result (List Instr) Flaw
code_or_fault is None = Ok is
code_or_fault is (Some fault) = Err (record { rule = class_rule.Code; after = fault_place fault })

-- a flaw of an instruction that was read stands before the fault at which the reading stopped
abbrev pub code_or_flaw : Decoded → Option Flaw → Result (List Instr) Flaw
code_or_flaw d None = code_or_fault d.instrs d.fault
code_or_flaw d (Some flaw) = Err flaw

unfoldable pub parse_code : ℕ → List EntryKind → List ℕ → Result (List Instr) Flaw
parse_code major kinds bytes = code_or_flaw (decoded bytes) (code_flaw major kinds (starts_in (length bytes) (decoded bytes)) (decoded bytes).instrs)

abbrev pub instrs : ℕ → List EntryKind → Filling (List Instr)
instrs major kinds = record {
  bytes_of = code_bytes;
  filling_counts = code_fits;
  filling_sound = λ is. is_none (code_flaw major kinds (starts is) is);
  parse = parse_code major kinds;
}

-- code_length, above 0 and below 65536
abbrev pub code_length : Codec ℕ
code_length = judged (λ n. unless (nat_lt 0 n && nat_lt n 65536) class_rule.Code 0) u4

abbrev pub code_array : ℕ → List EntryKind → Codec (List Instr)
code_array major kinds = filled code_length (instrs major kinds)

-- the instructions in the first n bytes
abbrev pub read_code : ℕ → List EntryKind → ℕ → Read (List Instr)
read_code major kinds n bytes = read_bytes n bytes >>= λ x. parsed (length bytes) x.1 (parse_code major kinds x.0)

-- ---- exception_table

-- an opcode is at the place
abbrev pub is_start : List Bool → ℕ → Bool
is_start starts n = slice_index_or starts n false

-- a handler guards instructions from one to before another or the end, and begins at one
abbrev pub guards : List Bool → Handler → Bool
guards starts h = (is_start starts h.from && is_start starts h.at) && ((is_start starts h.to || h.to == length starts) && nat_lt h.from h.to)

abbrev pub handler_flaw : ℕ → List EntryKind → List Bool → Handler → Option Flaw
handler_flaw major kinds starts h =
    first_of_two (unless (guards starts h) class_rule.Code 0) (unless (h.class == 0 || is_index major kinds expected.Class h.class) class_rule.Index 6)

abbrev pub handler : ℕ → List EntryKind → List Bool → Codec Handler
handler major kinds starts = judged (handler_flaw major kinds starts)
    (seen_as (λ x. record { from = x.0; to = x.1.0; at = x.1.1.0; class = x.1.1.1 }) (λ h. (h.from, (h.to, (h.at, h.class))))
    (followed u2 (λ _. followed u2 (λ _. followed u2 (λ _. u2)))))

-- ---- where the form ends: its counts and lengths tell, whatever its content is

-- what follows so many bytes
abbrev pub passed : ℕ → List ℕ → Option (List ℕ)
passed n bytes = if nat_lt (length bytes) n then None else Some (drop n bytes)

-- what follows a length of four bytes and that many bytes
abbrev pub after_measured : List ℕ → Option (List ℕ)
after_measured bytes = option_and_then (λ n. passed n.0 n.1) (result_ok (u4.read bytes))

abbrev pub after_attribute : List ℕ → Option (List ℕ)
after_attribute bytes = option_and_then after_measured (passed 2 bytes)

unfoldable pub after_attributes : ℕ → List ℕ → Option (List ℕ)
after_attributes zero bytes = Some bytes
after_attributes (suc n) bytes = option_and_then (after_attributes n) (after_attribute bytes)

abbrev pub after_attribute_list : List ℕ → Option (List ℕ)
after_attribute_list bytes = option_and_then (λ n. after_attributes n.0 n.1) (result_ok (u2.read bytes))

abbrev pub after_handlers : List ℕ → Option (List ℕ)
after_handlers bytes = option_and_then (λ n. passed (8 * n.0) n.1) (result_ok (u2.read bytes))

-- what follows max_stack, max_locals, the code, the exception table and the attributes
unfoldable pub code_end : List ℕ → Option (List ℕ)
code_end bytes = option_and_then after_attribute_list (option_and_then after_handlers (option_and_then after_measured (passed 4 bytes)))
