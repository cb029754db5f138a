-- Instructions with their opcodes and operands: JVMS 6.5, the parts "Format" and "Forms" of each.
use Rattle.std.specs.Prelude.{ℕ, ◌+◌, ◌-◌, ℤ, pos, negsuc, neg_ℤ, unsigned_abs, nat_le, cond}
use Rattle.scw_code.specs.declared.instr.Instr as any
use Rattle.scw_code.specs.declared.instr.InstrArgs.TheVariants as args
use Rattle.scw_code.specs.declared.instr.Numbers.{Numbers}
use Rattle.scw_code.specs.declared.instr.Numbers.TheVariants.{Zero, One}
use Rattle.scw_core.specs.declared.operator.Width.{Width}
use Rattle.scw_core.specs.declared.operator.Width.TheVariants as width
use Rattle.scw_value.specs.declared.arithmetic.Arithmetic.{Arithmetic}
use Rattle.scw_value.specs.declared.arithmetic.Arithmetic.TheVariants.{Add, Subtract, Multiply, And, Or, Xor}
use Rattle.scw_value.specs.declared.comparison.Comparison.{Comparison}
use Rattle.scw_value.specs.declared.comparison.Comparison.TheVariants.{Equal, NotEqual, Less, GreaterOrEqual, Greater, LessOrEqual}
use Rattle.scw_value.specs.declared.division.Division.{Division}
use Rattle.scw_value.specs.declared.division.Division.TheVariants.{Divide, Remainder}
use Rattle.scw_gen.specs.Instr.{is_between}
use Rattle.scw_gen.specs.declared.instr.BuiltIn.{BuiltIn}
use Rattle.scw_gen.specs.declared.instr.BuiltIn.TheVariants as built
use Rattle.scw_gen.specs.declared.instr.Compared.{Compared}
use Rattle.scw_gen.specs.declared.instr.Compared.TheVariants as compared
use Rattle.scw_gen.specs.declared.instr.Instr.{Instr}
use Rattle.scw_gen.specs.declared.instr.Instr.TheVariants as instr
use Rattle.scw_gen.specs.declared.kind.Word.{Word}
use Rattle.scw_gen.specs.declared.kind.Word.TheVariants as word
use Rattle.scw_gen.specs.declared.opcode.TheConstants.{ALOAD, ALOAD_0, ARETURN, ASTORE, ASTORE_0, BIPUSH, DUP, GOTO, GOTO_W, IADD, IAND, ICONST_0, IDIV, IF_ICMPEQ, IFEQ, ILOAD, ILOAD_0, IMUL, INVOKESPECIAL, INVOKESTATIC, INVOKEVIRTUAL, IOR, IREM, IRETURN, ISTORE, ISTORE_0, ISUB, IXOR, LCMP, LCONST_0, LDC, LDC2_W, LDC_W, LLOAD, LLOAD_0, LRETURN, LSTORE, LSTORE_0, NEW, POP, POP2, RETURN, SIPUSH, WIDE}

abbrev pub plain : ℕ → Numbers → any.Instr
plain op numbers = record { op = op; args = args.Plain numbers }

abbrev pub bare : ℕ → any.Instr
bare op = plain op Zero

abbrev pub with_index : ℕ → ℕ → any.Instr
with_index op index = plain op (One (pos index))

-- ---- numbers

abbrev pub pushed : ℤ → any.Instr
pushed n = plain (cond (is_between (negsuc 127) (pos 127) n) BIPUSH SIPUSH) (One n)

-- `iconst_<i>`, `bipush` or `sipush`
abbrev pub number : ℤ → any.Instr
number n =
    cond (is_between (negsuc 0) (negsuc 0) n) (bare (ICONST_0 - 1))
    (cond (is_between (pos 0) (pos 5) n) (bare (ICONST_0 + unsigned_abs n)) (pushed n))

-- ---- local variables

-- a load or a store, by its opcode and that of local variable 0
abbrev pub slot : ℕ → ℕ → ℕ → any.Instr
slot op first n = cond (nat_le n 3) (bare (first + n)) (cond (nat_le n 255) (with_index op n) (record { op = WIDE; args = args.Wide op (One (pos n)) }))

abbrev pub load : Word → ℕ → any.Instr
load word.Int n = slot ILOAD ILOAD_0 n
load word.Long n = slot LLOAD LLOAD_0 n
load word.Reference n = slot ALOAD ALOAD_0 n

abbrev pub store : Word → ℕ → any.Instr
store word.Int n = slot ISTORE ISTORE_0 n
store word.Long n = slot LSTORE LSTORE_0 n
store word.Reference n = slot ASTORE ASTORE_0 n

-- ---- operators

-- the opcode for numbers of the width, by that for `Int`s
abbrev pub of_width : Width → ℕ → ℕ
of_width width.Int op = op
of_width width.Long op = op + 1

abbrev pub arithmetic : Width → Arithmetic → ℕ
arithmetic w Add = of_width w IADD
arithmetic w Subtract = of_width w ISUB
arithmetic w Multiply = of_width w IMUL
arithmetic w And = of_width w IAND
arithmetic w Or = of_width w IOR
arithmetic w Xor = of_width w IXOR

abbrev pub division : Width → Division → ℕ
division w Divide = of_width w IDIV
division w Remainder = of_width w IREM

-- a branch where the comparison holds, by that where two numbers are equal
abbrev pub comparing : ℕ → Comparison → ℕ
comparing equal Equal = equal
comparing equal NotEqual = equal + 1
comparing equal Less = equal + 2
comparing equal GreaterOrEqual = equal + 3
comparing equal Greater = equal + 4
comparing equal LessOrEqual = equal + 5

abbrev pub branching : Compared → Comparison → ℕ
branching compared.Zero c = comparing IFEQ c
branching compared.Two c = comparing IF_ICMPEQ c

abbrev pub returning : Word → ℕ
returning word.Int = IRETURN
returning word.Long = LRETURN
returning word.Reference = ARETURN

abbrev pub calling : BuiltIn → ℕ
calling built.Print = INVOKESTATIC
calling built.Concat = INVOKESTATIC
calling built.Unit = INVOKESTATIC
calling built.BoxBoolean = INVOKESTATIC
calling built.BoxInt = INVOKESTATIC
calling built.BoxLong = INVOKESTATIC
calling built.ToString = INVOKEVIRTUAL

abbrev pub jump : ℕ → ℤ → any.Instr
jump op way = plain op (One way)

-- ---- all of them, by the index of what they name in the pool

abbrev pub encoded : Instr → ℕ → any.Instr
encoded (instr.Number n) index = number n
encoded (instr.Constant c) index = with_index LDC index
encoded (instr.WideConstant c) index = with_index LDC_W index
encoded (instr.LongBit b) index = bare (cond b (LCONST_0 + 1) LCONST_0)
encoded (instr.LongConstant n) index = with_index LDC2_W index
encoded (instr.Load w n) index = load w n
encoded (instr.Store w n) index = store w n
encoded (instr.Arithmetic w o) index = bare (arithmetic w o)
encoded (instr.Division w o) index = bare (division w o)
encoded instr.CompareLongs index = bare LCMP
encoded instr.Pop index = bare POP
encoded instr.PopTwo index = bare POP2
encoded instr.Dup index = bare DUP
encoded (instr.Branch k c way) index = jump (branching k c) (pos way)
encoded (instr.Goto way) index = jump GOTO (pos way)
encoded (instr.FarGoto way) index = jump GOTO_W (pos way)
encoded (instr.Back way) index = jump GOTO (neg_ℤ (pos way))
encoded (instr.FarBack way) index = jump GOTO_W (neg_ℤ (pos way))
encoded (instr.Return w) index = bare (returning w)
encoded instr.ReturnNothing index = bare RETURN
encoded (instr.Call m) index = with_index INVOKEVIRTUAL index
encoded (instr.CallBuiltIn m) index = with_index (calling m) index
encoded instr.InitObject index = with_index INVOKESPECIAL index
encoded instr.InitThis index = with_index INVOKESPECIAL index
encoded instr.New index = with_index NEW index
