-- An instruction on a line: its place, its mnemonic, and its operands in the order of JVMS 6.5. An index of the pool is
-- shown as the text of its entry, and a distance as the place that it leads to.
use Rattle.std.specs.Prelude.{ℕ, ◌+◌, ℤ, pos, ◌+ℤ◌, Option, Some, None, List, [], ◌∷◌, ◌++◌, unsigned_abs, codes}
use Rattle.std.specs.Fmt.{decimal, signed_decimal}
use Rattle.std.specs.List.{flat_map}
use Rattle.scw_code.specs.declared.form.Form.{Form}
use Rattle.scw_code.specs.declared.form.Form.TheVariants as form
use Rattle.scw_code.specs.declared.instr.Instr.{Instr}
use Rattle.scw_code.specs.declared.instr.InstrArgs.{InstrArgs}
use Rattle.scw_code.specs.declared.instr.InstrArgs.TheVariants as args
use Rattle.scw_code.specs.declared.instr.LookupSwitch.{LookupSwitch}
use Rattle.scw_code.specs.declared.instr.Numbers.{Numbers}
use Rattle.scw_code.specs.declared.instr.Numbers.TheVariants.{Zero, One, Two, Three}
use Rattle.scw_code.specs.declared.instr.TableSwitch.{TableSwitch}
use Rattle.scw_code.specs.Code.{size_at}
use Rattle.scw_code.specs.Opcode.{form_of}
use Rattle.scw_classfile.specs.declared.pool_entry.PoolEntry.{PoolEntry}
use Rattle.scw_dis.specs.declared.operand.Operand.{Operand}
use Rattle.scw_dis.specs.declared.operand.Operand.TheVariants.{Constant, Number, Target}
use Rattle.scw_dis.specs.Entry.{constant_at}
use Rattle.scw_dis.specs.Mnemonic.{mnemonic}

-- ---- the first operand of an opcode

-- what it is for an opcode of this form
abbrev pub operand_of : Form → Operand
operand_of form.Bare = Number
operand_of form.Byte = Number
operand_of form.Short = Number
operand_of form.Slot = Number
operand_of form.Increment = Number
operand_of form.Jump = Target
operand_of form.FarJump = Target
operand_of form.ElementType = Number
operand_of form.Constant = Constant
operand_of form.WideConstant = Constant
operand_of form.LongConstant = Constant
operand_of form.Field = Constant
operand_of form.VirtualCall = Constant
operand_of form.DirectCall = Constant
operand_of form.InterfaceCall = Constant
operand_of form.DynamicCall = Constant
operand_of form.Class = Constant
operand_of form.Dimensions = Constant
operand_of form.TableSwitch = Number
operand_of form.LookupSwitch = Number
operand_of form.Wide = Number

abbrev pub operand_by : Option Form → Operand
operand_by None = Number
operand_by (Some f) = operand_of f

-- ---- operands, each behind a space

unfoldable pub number_text : ℤ → List ℕ
number_text n = codes " " ++ signed_decimal n

-- the place at this distance from the place of the opcode
unfoldable pub target_text : ℕ → ℤ → List ℕ
target_text at distance = number_text (pos at +ℤ distance)

unfoldable pub index_text : List PoolEntry → ℤ → List ℕ
index_text pool n = codes " " ++ constant_at pool (unsigned_abs n)

abbrev pub operand_text : List PoolEntry → ℕ → Operand → ℤ → List ℕ
operand_text pool at Number n = number_text n
operand_text pool at Constant n = index_text pool n
operand_text pool at Target n = target_text at n

-- up to three numbers, of which the first is shown in its own way
abbrev pub numbers_text : (ℤ → List ℕ) → Numbers → List ℕ
numbers_text first Zero = []
numbers_text first (One a) = first a
numbers_text first (Two a b) = first a ++ number_text b
numbers_text first (Three a b c) = first a ++ number_text b ++ number_text c

unfoldable pub bounds_text : ℤ → ℤ → List ℕ
bounds_text low high = number_text low ++ number_text high

-- default, low, high, and a target for each number between them
abbrev pub table_text : ℕ → TableSwitch → List ℕ
table_text at t = target_text at t.default ++ bounds_text t.low t.high ++ flat_map (target_text at) t.jumps

-- a key and its target
abbrev pub case_text : ℕ → ℤ × ℤ → List ℕ
case_text at p = number_text p.0 ++ target_text at p.1

-- default, and each key with its target
abbrev pub lookup_text : ℕ → LookupSwitch → List ℕ
lookup_text at t = target_text at t.default ++ flat_map (case_text at) t.pairs

-- the further opcode and its operands
abbrev pub wide_text : ℕ → Numbers → List ℕ
wide_text opcode ns = codes " " ++ mnemonic opcode ++ numbers_text number_text ns

-- the operands of an opcode at the place, the first of which is of this kind
abbrev pub args_text : List PoolEntry → ℕ → Operand → InstrArgs → List ℕ
args_text pool at first (args.Plain ns) = numbers_text (operand_text pool at first) ns
args_text pool at first (args.Table t) = table_text at t
args_text pool at first (args.Lookup t) = lookup_text at t
args_text pool at first (args.Wide opcode ns) = wide_text opcode ns

-- ---- instructions

abbrev pub instr_text : List PoolEntry → ℕ → Instr → List ℕ
instr_text pool at i = mnemonic i.op ++ args_text pool at (operand_by (form_of i.op)) i.args

-- the line of the instruction at the place
unfoldable pub instr_line : List PoolEntry → ℕ → Instr → List ℕ
instr_line pool at i = codes "  " ++ decimal at ++ codes ": " ++ instr_text pool at i ++ codes "\n"

-- the lines of the instructions, the first of which is at the place
abbrev pub instr_lines : List PoolEntry → ℕ → List Instr → List ℕ
instr_lines pool at [] = []
instr_lines pool at (i ∷ is) = instr_line pool at i ++ instr_lines pool (at + size_at at i) is
