-- How long instructions are, where they begin, and where they jump: JVMS 6.5, "the target address must be
-- that of an opcode of an instruction within the method", and 4.9.1.
use Rattle.std.specs.Prelude.{ℕ, ◌+◌, ◌-◌, Bool, true, false, ℤ, pos, negsuc, ◌+ℤ◌, Option, Some, None, List, [], ◌∷◌, ◌++◌, map, replicate, slice_index_or, if◌then◌else◌}
use Rattle.scw_code.specs.declared.form.Form.{Form}
use Rattle.scw_code.specs.declared.form.Form.TheVariants as form
use Rattle.scw_code.specs.declared.instr.Instr.{Instr}
use Rattle.scw_code.specs.declared.instr.InstrArgs.{InstrArgs}
use Rattle.scw_code.specs.declared.instr.InstrArgs.TheVariants as args
use Rattle.scw_code.specs.declared.layout.Layout.{Layout}
use Rattle.scw_code.specs.declared.layout.Layout.TheVariants.{Nothing, U1, S1, U2, S2, S4, U1S1, U2S2, U2U1, U2U1U1}
use Rattle.scw_code.specs.Code.{size_at}
use Rattle.scw_code.specs.Layout.{first}
use Rattle.scw_code.specs.Opcode.{form_of}

-- ---- sizes

-- how many bytes the numbers take
abbrev pub layout_size : Layout → ℕ
layout_size Nothing = 0
layout_size U1 = 1
layout_size S1 = 1
layout_size U2 = 2
layout_size S2 = 2
layout_size S4 = 4
layout_size U1S1 = 2
layout_size U2S2 = 4
layout_size U2U1 = 3
layout_size U2U1U1 = 4

-- how many bytes stand behind `wide` and the further opcode
abbrev pub further_size : Option Layout → ℕ
further_size None = 0
further_size (Some l) = layout_size l

-- ---- where instructions begin

-- one mark for each of so many bytes of an instruction, set at its opcode
abbrev pub marks : ℕ → List Bool
marks size = true ∷ replicate (size - 1) false

-- for each byte of the code whether an opcode is there; the first instruction is at the place
abbrev pub starts_from : ℕ → List Instr → List Bool
starts_from at [] = []
starts_from at (i ∷ is) = marks (size_at at i) ++ starts_from (at + size_at at i) is

unfoldable pub starts : List Instr → List Bool
starts is = starts_from 0 is

-- ---- jumps

-- an opcode of this form has one operand, which is a distance
abbrev pub is_jump : Form → Bool
is_jump form.Bare = false
is_jump form.Byte = false
is_jump form.Short = false
is_jump form.Slot = false
is_jump form.Increment = false
is_jump form.Jump = true
is_jump form.FarJump = true
is_jump form.ElementType = false
is_jump form.Constant = false
is_jump form.WideConstant = false
is_jump form.LongConstant = false
is_jump form.Field = false
is_jump form.VirtualCall = false
is_jump form.DirectCall = false
is_jump form.InterfaceCall = false
is_jump form.DynamicCall = false
is_jump form.Class = false
is_jump form.Dimensions = false
is_jump form.TableSwitch = false
is_jump form.LookupSwitch = false
is_jump form.Wide = false

abbrev pub jumps_by : Option Form → Bool
jumps_by None = false
jumps_by (Some form) = is_jump form

abbrev pub distances : Bool → InstrArgs → List ℤ
distances jumps (args.Plain ns) = if jumps then first ns ∷ [] else []
distances jumps (args.Table t) = t.default ∷ t.jumps
distances jumps (args.Lookup t) = t.default ∷ map (λ p. p.1) t.pairs
distances jumps (args.Wide op ns) = []

-- the distances from the opcode to the instructions that may follow by a jump
abbrev pub jumps_of : Instr → List ℤ
jumps_of i = distances (jumps_by (form_of i.op)) i.args

-- an opcode is at the place, which isn't negative
abbrev pub starts_at : List Bool → ℤ → Bool
starts_at starts (pos n) = slice_index_or starts n false
starts_at starts (negsuc n) = false

-- an opcode is at this distance from the place
abbrev pub target_is : List Bool → ℕ → ℤ → Bool
target_is starts at distance = starts_at starts (pos at +ℤ distance)
