-- The operands behind each opcode: JVMS 6.5, the part "Format" of each instruction.
use Rattle.std.specs.Prelude.{ℕ, ℤ, pos, Option, Some, None, ◌==◌}
use Rattle.std.specs.Option.{option_and_then, option_map}
use Rattle.scw_code.specs.declared.form.Form.{Form}
use Rattle.scw_code.specs.declared.form.Form.TheVariants as form
use Rattle.scw_code.specs.declared.instr.Numbers.{Numbers}
use Rattle.scw_code.specs.declared.instr.Numbers.TheVariants.{Zero, One, Two, Three}
use Rattle.scw_code.specs.declared.layout.Layout.{Layout}
use Rattle.scw_code.specs.declared.layout.Layout.TheVariants.{Nothing, U1, S1, U2, S2, S4, U1S1, U2S2, U2U1, U2U1U1}
use Rattle.scw_code.specs.declared.layout.Shape.{Shape}
use Rattle.scw_code.specs.declared.layout.Shape.TheVariants as shape
use Rattle.scw_code.specs.Codec.{Codec, nothing, followed, seen_as, u1, s1, u2, s2, s4}
use Rattle.scw_code.specs.Opcode.{form_of}

-- what stands behind an opcode of this form
abbrev pub shape_of : Form → Shape
shape_of form.Bare = shape.Plain Nothing
shape_of form.Byte = shape.Plain S1
shape_of form.Short = shape.Plain S2
shape_of form.Slot = shape.Plain U1
shape_of form.Increment = shape.Plain U1S1
shape_of form.Jump = shape.Plain S2
shape_of form.FarJump = shape.Plain S4
shape_of form.ElementType = shape.Plain U1
shape_of form.Constant = shape.Plain U1
shape_of form.WideConstant = shape.Plain U2
shape_of form.LongConstant = shape.Plain U2
shape_of form.Field = shape.Plain U2
shape_of form.VirtualCall = shape.Plain U2
shape_of form.DirectCall = shape.Plain U2
shape_of form.InterfaceCall = shape.Plain U2U1U1
shape_of form.DynamicCall = shape.Plain U2U1U1
shape_of form.Class = shape.Plain U2
shape_of form.Dimensions = shape.Plain U2U1
shape_of form.TableSwitch = shape.Table
shape_of form.LookupSwitch = shape.Lookup
shape_of form.Wide = shape.Wide

-- the operands behind `wide` and an opcode of this form
abbrev pub wide_layout_of : Form → Option Layout
wide_layout_of form.Bare = None
wide_layout_of form.Byte = None
wide_layout_of form.Short = None
wide_layout_of form.Slot = Some U2
wide_layout_of form.Increment = Some U2S2
wide_layout_of form.Jump = None
wide_layout_of form.FarJump = None
wide_layout_of form.ElementType = None
wide_layout_of form.Constant = None
wide_layout_of form.WideConstant = None
wide_layout_of form.LongConstant = None
wide_layout_of form.Field = None
wide_layout_of form.VirtualCall = None
wide_layout_of form.DirectCall = None
wide_layout_of form.InterfaceCall = None
wide_layout_of form.DynamicCall = None
wide_layout_of form.Class = None
wide_layout_of form.Dimensions = None
wide_layout_of form.TableSwitch = None
wide_layout_of form.LookupSwitch = None
wide_layout_of form.Wide = None

-- what stands behind the opcode, or none where there is no such opcode
abbrev pub shape_at : ℕ → Option Shape
shape_at opcode = option_map shape_of (form_of opcode)

-- the operands behind `wide` and the opcode, or none where `wide` doesn't go on with it
abbrev pub wide_layout_at : ℕ → Option Layout
wide_layout_at opcode = option_and_then wide_layout_of (form_of opcode)

-- ---- the numbers of a list of operands, and 0 where there are fewer

abbrev pub count : Numbers → ℕ
count Zero = 0
count (One a) = 1
count (Two a b) = 2
count (Three a b c) = 3

abbrev pub first : Numbers → ℤ
first Zero = pos 0
first (One a) = a
first (Two a b) = a
first (Three a b c) = a

abbrev pub second : Numbers → ℤ
second Zero = pos 0
second (One a) = pos 0
second (Two a b) = b
second (Three a b c) = b

abbrev pub third : Numbers → ℤ
third Zero = pos 0
third (One a) = pos 0
third (Two a b) = pos 0
third (Three a b c) = c

-- ---- the format of each layout

abbrev pub one : Codec ℤ → Codec Numbers
one a = seen_as One first (λ ns. count ns == 1) a

abbrev pub two : Codec ℤ → Codec ℤ → Codec Numbers
two a b = seen_as (λ x. Two x.0 x.1) (λ ns. (first ns, second ns)) (λ ns. count ns == 2) (followed a (λ _. b))

abbrev pub three : Codec ℤ → Codec ℤ → Codec ℤ → Codec Numbers
three a b c = seen_as (λ x. Three x.0 x.1.0 x.1.1) (λ ns. (first ns, (second ns, third ns))) (λ ns. count ns == 3) (followed a (λ _. followed b (λ _. c)))

abbrev pub numbers : Layout → Codec Numbers
numbers Nothing = nothing Zero (λ ns. count ns == 0)
numbers U1 = one u1
numbers S1 = one s1
numbers U2 = one u2
numbers S2 = one s2
numbers S4 = one s4
numbers U1S1 = two u1 s1
numbers U2S2 = two u2 s2
numbers U2U1 = two u2 u1
numbers U2U1U1 = three u2 u1 u1
