-- The code of operators, behind that of their operands: SLS 6.12 and 12.2, by the instructions of JVMS 6.5.
use Rattle.std.specs.Prelude.{ℕ, ℤ, pos, negsuc, List, [], ◌∷◌, ◌++◌, cond, nat_eq, nat_le, Option, Some, None}
use Rattle.std.specs.Int.{w32, cast_signed}
use Rattle.scw_text.specs.declared.number.SymId.{SymId}
use Rattle.scw_value.specs.declared.comparison.Comparison.TheVariants as comparison
use Rattle.scw_core.specs.Program.{in_members, text_at}
use Rattle.scw_core.specs.declared.class.Member.{Member}
use Rattle.scw_core.specs.declared.operator.Literal.{Literal}
use Rattle.scw_core.specs.declared.operator.Literal.TheVariants as literals
use Rattle.scw_core.specs.declared.operator.Logic.{Logic}
use Rattle.scw_core.specs.declared.operator.Logic.TheVariants as logics
use Rattle.scw_core.specs.declared.operator.Op.{Op}
use Rattle.scw_core.specs.declared.operator.Op.TheVariants as op
use Rattle.scw_core.specs.declared.operator.Primitive.{Primitive}
use Rattle.scw_core.specs.declared.operator.Primitive.TheVariants as primitives
use Rattle.scw_core.specs.declared.operator.TextId.{TextId}
use Rattle.scw_core.specs.declared.operator.Width.{Width}
use Rattle.scw_core.specs.declared.operator.Width.TheVariants as width
use Rattle.scw_gen.specs.Outcome.{◌>>=◌}
use Rattle.scw_gen.specs.Around.{Around, kind_in}
use Rattle.scw_gen.specs.Instr.{is_between}
use Rattle.scw_gen.specs.Kind.{word_of}
use Rattle.scw_gen.specs.Mode as mode
use Rattle.scw_gen.specs.Mode.{ended, given, truth, unit}
use Rattle.scw_gen.specs.Pool.{integer_index, string_index}
use Rattle.scw_gen.specs.Scope.{Scope, slot_of}
use Rattle.scw_gen.specs.declared.instr.BuiltIn.{BuiltIn}
use Rattle.scw_gen.specs.declared.instr.BuiltIn.TheVariants as built
use Rattle.scw_gen.specs.declared.instr.Constant.{Constant}
use Rattle.scw_gen.specs.declared.instr.Constant.TheVariants as constant
use Rattle.scw_gen.specs.declared.instr.Instr.{Instr}
use Rattle.scw_gen.specs.declared.instr.Instr.TheVariants as instr
use Rattle.scw_gen.specs.declared.kind.Kind.{Kind}
use Rattle.scw_gen.specs.declared.kind.Kind.TheVariants as kind
use Rattle.scw_gen.specs.declared.mode.Mode.{Mode}
use Rattle.scw_gen.specs.declared.mode.Mode.TheVariants.{Value, Effect, Test, Return}
use Rattle.scw_gen.specs.declared.operator.Form.{Form}
use Rattle.scw_gen.specs.declared.operator.Form.TheVariants.{Values, Effects, Texts}
use Rattle.scw_gen.specs.declared.scope.Slot.{Slot}

-- ---- how operands are evaluated

-- those of an operator that does nothing but give a value
abbrev pub form_of_value : Mode → Form
form_of_value Value = Values
form_of_value Effect = Effects
form_of_value (Test sense way) = Values
form_of_value (Return w) = Values

abbrev pub form_of_primitive : Mode → Primitive → Form
form_of_primitive m (primitives.Arithmetic w o) = form_of_value m
form_of_primitive m (primitives.Comparison w c) = form_of_value m
form_of_primitive m (primitives.Logic l) = form_of_value m
form_of_primitive m primitives.Concatenate = Texts
form_of_primitive m _ = Values

abbrev pub form_of : Mode → Op → Form
form_of m (op.Primitive p) = form_of_primitive m p
form_of m _ = Values

-- ---- instructions and what stands behind them

-- a value that one instruction puts on the stack, and that is never made where it would be dropped
abbrev pub given_by : Around → Mode → Kind → Instr → List Instr
given_by g m k i = given g.is_far m k (i ∷ [])

-- the instruction, and then `()`
abbrev pub done : Around → Mode → Instr → List Instr
done g m i = (i ∷ []) ++ unit g.is_far m

-- the instruction, which gives a value
abbrev pub made : Around → Mode → Kind → Instr → List Instr
made g m k i = (i ∷ []) ++ ended g.is_far m k

-- ---- literals, by their shortest instructions

abbrev pub loaded : ℕ → Constant → Instr
loaded index c = cond (nat_le index 255) (instr.Constant c) (instr.WideConstant c)

abbrev pub int_instr_by : ℤ → Instr → Instr
int_instr_by n i = cond (is_between (negsuc 32767) (pos 32767) n) (instr.Number n) i

abbrev pub int_instr : Around → ℕ → Instr
int_instr g n = int_instr_by (cast_signed w32 n) (loaded (integer_index g.pool n) (constant.Int n))

abbrev pub long_instr : ℕ → Instr
long_instr n = cond (nat_le n 1) (instr.LongBit (nat_eq n 1)) (instr.LongConstant n)

abbrev pub string_instr : Around → TextId → List ℕ → Instr
string_instr g t text = loaded (string_index g.pool text) (constant.Text t)

abbrev pub string : Around → Mode → TextId → Option (List Instr)
string g m t = text_at g.table t >>= λ text. Some (given_by g m kind.String (string_instr g t text))

abbrev pub literal : Around → Mode → Literal → Option (List Instr)
literal g m literals.Unit = Some (unit g.is_far m)
literal g m (literals.Boolean b) = Some (truth g.is_far m b)
literal g m (literals.Char c) = None
literal g m (literals.Int n) = Some (given_by g m kind.Int (int_instr g n))
literal g m (literals.Long n) = Some (given_by g m kind.Long (long_instr n))
literal g m literals.Null = None
literal g m (literals.String t) = string g m t

-- ---- locals and calls

abbrev pub local : Around → Mode → Option Slot → Option (List Instr)
local g m None = None
local g m (Some s) = Some (given_by g m s.kind (instr.Load (word_of s.kind) s.place))

abbrev pub set_local : Around → Mode → Option Slot → Option (List Instr)
set_local g m None = None
set_local g m (Some s) = Some (done g m (instr.Store (word_of s.kind) s.place))

-- a method whose result is `Unit` puts nothing on the stack
abbrev pub called : Around → Mode → SymId → Kind → List Instr
called g m x kind.Unit = done g m (instr.Call x)
called g m x kind.Boolean = made g m kind.Boolean (instr.Call x)
called g m x kind.Int = made g m kind.Int (instr.Call x)
called g m x kind.Long = made g m kind.Long (instr.Call x)
called g m x kind.String = made g m kind.String (instr.Call x)
called g m x kind.Strings = made g m kind.Strings (instr.Call x)
called g m x kind.This = made g m kind.This (instr.Call x)

abbrev pub called_in : Around → Mode → SymId → Option Kind → Option (List Instr)
called_in g m x None = None
called_in g m x (Some k) = Some (called g m x k)

abbrev pub call_of : Around → Mode → SymId → Option Member → Option (List Instr)
call_of g m x None = None
call_of g m x (Some member) = called_in g m x (kind_in g member.result)

-- of a member of the class itself
abbrev pub call : Around → Mode → SymId → Option (List Instr)
call g m x = call_of g m x (in_members g.class.members x)

-- ---- operators of the built-in types

abbrev pub kind_of_width : Width → Kind
kind_of_width width.Int = kind.Int
kind_of_width width.Long = kind.Long

-- a Boolean is compared as a number
abbrev pub logic : Around → Mode → Logic → Option (List Instr)
logic g m logics.And = None
logic g m logics.Or = None
logic g m logics.Xor = None
logic g m logics.Equal = Some (mode.comparison g.is_far m width.Int comparison.Equal)
logic g m logics.NotEqual = Some (mode.comparison g.is_far m width.Int comparison.NotEqual)

abbrev pub primitive : Around → Mode → Primitive → Option (List Instr)
primitive g m (primitives.Arithmetic w o) = Some (given_by g m (kind_of_width w) (instr.Arithmetic w o))
primitive g m (primitives.Division w o) = Some (made g m (kind_of_width w) (instr.Division w o))
primitive g m (primitives.Comparison w c) = Some (mode.comparison g.is_far m w c)
primitive g m (primitives.Logic l) = logic g m l
primitive g m primitives.Concatenate = Some (made g m kind.String (instr.CallBuiltIn built.Concat))
primitive g m _ = None

-- the code of an operator behind that of its operands
abbrev pub op_code : Around → Scope → Mode → Op → Option (List Instr)
op_code g s m (op.Literal l) = literal g m l
op_code g s m (op.Local x) = local g m (slot_of s x)
op_code g s m (op.SetLocal x) = set_local g m (slot_of s x)
op_code g s m (op.Call x) = call g m x
op_code g s m (op.Primitive p) = primitive g m p
op_code g s m (op.Run r) = Some (done g m (instr.CallBuiltIn built.Print))
op_code g s m _ = None

-- ---- texts of values

abbrev pub text_by : BuiltIn → List Instr
text_by by = (instr.CallBuiltIn by ∷ []) ++ instr.CallBuiltIn built.ToString ∷ []

-- makes of the value on the stack its text
abbrev pub text_of : Option Kind → Option (List Instr)
text_of None = None
text_of (Some kind.Unit) = Some (instr.CallBuiltIn built.ToString ∷ [])
text_of (Some kind.Boolean) = Some (text_by built.BoxBoolean)
text_of (Some kind.Int) = Some (text_by built.BoxInt)
text_of (Some kind.Long) = Some (text_by built.BoxLong)
text_of (Some kind.String) = Some []
text_of (Some kind.Strings) = None
text_of (Some kind.This) = None
