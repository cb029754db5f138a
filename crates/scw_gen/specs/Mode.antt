-- What becomes of the value of a tree, and the instructions for it: JVMS 3, "Compiling for the Java Virtual Machine".
use Rattle.std.specs.Prelude.{ℕ, pos, List, [], ◌∷◌, ◌++◌, Bool, true, false, cond, not, nat_eq, Option, Some, None}
use Rattle.scw_core.specs.declared.operator.Width.{Width}
use Rattle.scw_core.specs.declared.operator.Width.TheVariants.{Int, Long}
use Rattle.scw_value.specs.declared.comparison.Comparison.{Comparison}
use Rattle.scw_value.specs.declared.comparison.Comparison.TheVariants.{Equal, NotEqual, Less, GreaterOrEqual, Greater, LessOrEqual}
use Rattle.scw_gen.specs.Instr.{plus, room_of}
use Rattle.scw_gen.specs.declared.instr.BuiltIn.TheVariants as built
use Rattle.scw_gen.specs.declared.instr.Compared.{Compared}
use Rattle.scw_gen.specs.declared.instr.Compared.TheVariants.{Zero, Two}
use Rattle.scw_gen.specs.declared.instr.Instr.{Instr}
use Rattle.scw_gen.specs.declared.instr.Instr.TheVariants as instr
use Rattle.scw_gen.specs.declared.kind.Kind.{Kind}
use Rattle.scw_gen.specs.declared.kind.Kind.TheVariants as kind
use Rattle.scw_gen.specs.declared.mode.Mode.{Mode}
use Rattle.scw_gen.specs.declared.mode.Mode.TheVariants.{Value, Effect, Test, Return}
use Rattle.scw_gen.specs.declared.mode.Tail as rust

-- ---- single instructions

abbrev pub one : Option Instr → List Instr
one None = []
one (Some i) = i ∷ []

abbrev pub negated : Comparison → Comparison
negated Equal = NotEqual
negated NotEqual = Equal
negated Less = GreaterOrEqual
negated GreaterOrEqual = Less
negated Greater = LessOrEqual
negated LessOrEqual = Greater

-- the comparison, or the one that holds where it doesn't
abbrev pub sensed : Bool → Comparison → Comparison
sensed sense c = cond sense c (negated c)

-- how many bytes a jump takes
abbrev pub jump_size : Bool → ℕ
jump_size far = cond far 5 3

-- a jump over so many bytes
abbrev pub jump : Bool → ℕ → Instr
jump far over = cond far (instr.FarGoto (plus 5 over)) (instr.Goto (plus 3 over))

-- a jump back to so many bytes before it
abbrev pub jump_back : Bool → ℕ → Instr
jump_back far way = cond far (instr.FarBack way) (instr.Back way)

-- a jump over so many bytes where the comparison holds; a far one jumps over a jump where it doesn't
abbrev pub branch : Bool → Compared → Comparison → ℕ → List Instr
branch far compared c over =
    cond far (instr.Branch compared (negated c) 8 ∷ jump true over ∷ []) (instr.Branch compared c (plus 3 over) ∷ [])

-- ---- behind a value

abbrev pub drop_instr : Kind → Instr
drop_instr kind.Unit = instr.Pop
drop_instr kind.Boolean = instr.Pop
drop_instr kind.Int = instr.Pop
drop_instr kind.Long = instr.PopTwo
drop_instr kind.String = instr.Pop
drop_instr kind.Strings = instr.Pop
drop_instr kind.This = instr.Pop

-- behind code that has put a value on the stack
abbrev pub ended : Bool → Mode → Kind → List Instr
ended far Value k = []
ended far Effect k = drop_instr k ∷ []
ended far (Test sense way) k = branch far Zero (sensed sense NotEqual) way
ended far (Return w) k = instr.Return w ∷ []

-- a value that these instructions put on the stack, where nothing else of them counts
abbrev pub given : Bool → Mode → Kind → List Instr → List Instr
given far Value k is = is ++ ended far Value k
given far Effect k is = []
given far (Test sense way) k is = is ++ ended far (Test sense way) k
given far (Return w) k is = is ++ ended far (Return w) k

-- behind code whose value is `()`, which it has not put on the stack
abbrev pub unit : Bool → Mode → List Instr
unit far mode = given far mode kind.Unit (instr.CallBuiltIn built.Unit ∷ [])

abbrev pub bit : Bool → ℕ
bit b = cond b 1 0

abbrev pub agree : Bool → Bool → Bool
agree a b = cond a b (not b)

-- a Boolean constant
abbrev pub truth : Bool → Mode → Bool → List Instr
truth far Value b = given far Value kind.Boolean (instr.Number (pos (bit b)) ∷ [])
truth far Effect b = given far Effect kind.Boolean (instr.Number (pos (bit b)) ∷ [])
truth far (Test sense way) b = one (cond (agree b sense) (Some (jump far way)) None)
truth far (Return w) b = given far (Return w) kind.Boolean (instr.Number (pos (bit b)) ∷ [])

-- ---- comparisons, behind their operands

-- what a branch compares behind the operands
abbrev pub compared_by : Width → Compared
compared_by Int = Two
compared_by Long = Zero

-- what makes a number of two that a branch compares with 0
abbrev pub difference : Width → Option Instr
difference Int = None
difference Long = Some instr.CompareLongs

-- a jump over so many bytes where the comparison holds
abbrev pub test : Bool → Width → Comparison → ℕ → List Instr
test far w c over = one (difference w) ++ branch far (compared_by w) c over

abbrev pub compared_value : Bool → Width → Comparison → List Instr
compared_value far w c =
    test far w (negated c) (plus 1 (jump_size far)) ++ instr.Number (pos 1) ∷ jump far 1 ∷ instr.Number (pos 0) ∷ []

abbrev pub comparison : Bool → Mode → Width → Comparison → List Instr
comparison far Value w c = given far Value kind.Boolean (compared_value far w c)
comparison far Effect w c = given far Effect kind.Boolean (compared_value far w c)
comparison far (Test sense way) w c = test far w (sensed sense c) way
comparison far (Return r) w c = given far (Return r) kind.Boolean (compared_value far w c)

-- ---- choices, behind their tests

-- the value of the test that jumps, how far it jumps from the end of its code, and what stands there
pub record Tail : Type 0 where
  pub sense : Bool
  pub way : ℕ
  pub instrs : List Instr

abbrev pub tail_of : rust.Tail → Tail
tail_of t = record { sense = t.sense; way = t.way; instrs = t.instrs.items }

-- the mode of the test; where it would jump to what follows, it has no value
abbrev pub mode_of_test : Bool → ℕ → Mode
mode_of_test sense way = cond (nat_eq way 0) Effect (Test sense way)

-- the second is jumped to where the test is false, and the first goes on behind it
abbrev pub both : Bool → List Instr → List Instr → Tail
both far first second = record {
  sense = false;
  way = plus (room_of first) (jump_size far);
  instrs = (first ++ jump far (room_of second) ∷ []) ++ second;
}

-- the first doesn't go on
abbrev pub apart : List Instr → List Instr → Tail
apart first second = record { sense = false; way = room_of first; instrs = first ++ second }

-- one branch, which is jumped over where the test has the value
abbrev pub alone : Bool → List Instr → Tail
alone sense is = record { sense = sense; way = room_of is; instrs = is }

-- one may be empty
abbrev pub either : Bool → List Instr → List Instr → Tail
either far first [] = alone false first
either far [] (i ∷ is) = alone true (i ∷ is)
either far (j ∷ js) (i ∷ is) = both far (j ∷ js) (i ∷ is)

abbrev pub branches : Bool → Mode → List Instr → List Instr → Tail
branches far Value first second = both far first second
branches far Effect first second = either far first second
branches far (Test sense way) first second = both far first second
branches far (Return w) first second = apart first second

-- with a way more where the test jumps
abbrev pub farther : ℕ → Tail → Tail
farther more t = record t { way = plus t.way more }

-- of a choice in a test, of which one branch is a constant: where it is the value that jumps, the choice jumps as far
abbrev pub decided : Bool → ℕ → Bool → Tail → Tail
decided sense way constant t = cond (agree constant sense) (farther way t) t
