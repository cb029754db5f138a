-- The code of trees: JVMS 3 and 6.5. It is the same wherever it stands, since a jump is its way from its own opcode. `None`
-- is a tree of a form that has no code yet.
use Rattle.std.specs.Prelude.{ℕ, List, [], ◌∷◌, ◌++◌, Bool, true, false, Option, Some, None}
use Rattle.scw_text.specs.declared.number.TypeId.{TypeId}
use Rattle.scw_core.specs.Tree.{Tree, Trees, info_of, strict, block, and_also, or_else, if_else, while_do, function, thunk, match_on, try_in, label, switch, none, more}
use Rattle.scw_core.specs.declared.operator.Literal.TheVariants as literal
use Rattle.scw_core.specs.declared.operator.Op.{Op}
use Rattle.scw_core.specs.declared.operator.Op.TheVariants as op
use Rattle.scw_core.specs.declared.tree.Local.{Local}
use Rattle.scw_gen.specs.Outcome.{◌>>=◌}
use Rattle.scw_gen.specs.Around.{Around, kind_in}
use Rattle.scw_gen.specs.Instr.{plus, room_of}
use Rattle.scw_gen.specs.Mode.{Tail, alone, both, branches, decided, jump_back, jump_size, mode_of_test, unit}
use Rattle.scw_gen.specs.Operator.{form_of, op_code, text_of}
use Rattle.scw_gen.specs.Scope.{Scope, from, inside, placed}
use Rattle.scw_gen.specs.declared.instr.Instr.{Instr}
use Rattle.scw_gen.specs.declared.mode.Mode.{Mode}
use Rattle.scw_gen.specs.declared.mode.Mode.TheVariants.{Value, Effect, Test, Return}
use Rattle.scw_gen.specs.declared.operator.Form.{Form}
use Rattle.scw_gen.specs.declared.operator.Form.TheVariants.{Values, Effects, Texts}

-- ---- two codes, one behind the other

abbrev pub joined_to : List Instr → Option (List Instr) → Option (List Instr)
joined_to a None = None
joined_to a (Some b) = Some (a ++ b)

abbrev pub joined : Option (List Instr) → Option (List Instr) → Option (List Instr)
joined None b = None
joined (Some a) b = joined_to a b

-- ---- nodes, by the code of their parts in each mode

-- an operand of a type
abbrev pub operand : Around → Form → TypeId → (Mode → Option (List Instr)) → Option (List Instr)
operand g Values t made = made Value
operand g Effects t made = made Effect
operand g Texts t made = joined (made Value) (text_of (kind_in g t))

abbrev pub truth_of_op : Op → Option Bool
truth_of_op (op.Literal (literal.Boolean b)) = Some b
truth_of_op _ = None

-- the value of a Boolean constant
abbrev pub truth_of : Tree → Option Bool
truth_of (strict i o ts) = truth_of_op o
truth_of _ = None

-- A choice in a test. `a && b` is `if (a) b else false`, and `a || b` is `if (a) true else b`: where a branch is a constant,
-- the test jumps over the other one, or as far as it.
abbrev pub test_choice : Bool → Bool → ℕ → Option Bool → Option Bool → (Mode → Option (List Instr)) → (Mode → Option (List Instr)) → Option Tail
test_choice far sense way first (Some b) one two = one (Test sense way) >>= λ is. Some (decided sense way b (alone false is))
test_choice far sense way (Some b) None one two = two (Test sense way) >>= λ is. Some (decided sense way b (alone true is))
test_choice far sense way None None one two = two (Test sense way) >>= λ second. one (Test sense (plus (plus (room_of second) (jump_size far)) way)) >>= λ first. Some (both far first second)

abbrev pub value_choice : Bool → Mode → (Mode → Option (List Instr)) → (Mode → Option (List Instr)) → Option Tail
value_choice far m one two = one m >>= λ first. two m >>= λ second. Some (branches far m first second)

-- what stands behind the test of a choice, by the constants that its branches are
abbrev pub choice : Bool → Mode → Option Bool → Option Bool → (Mode → Option (List Instr)) → (Mode → Option (List Instr)) → Option Tail
choice far Value first second one two = value_choice far Value one two
choice far Effect first second one two = value_choice far Effect one two
choice far (Test sense way) first second one two = test_choice far sense way first second one two
choice far (Return w) first second one two = value_choice far (Return w) one two

-- the test of a choice, and what stands behind it
abbrev pub choice_code : (Mode → Option (List Instr)) → Option Tail → Option (List Instr)
choice_code test tail = tail >>= λ t. joined (test (mode_of_test t.sense t.way)) (Some t.instrs)

abbrev pub loop : Bool → List Instr → List Instr → List Instr
loop far test body = (test ++ body) ++ jump_back far (plus (room_of test) (room_of body)) ∷ []

-- a loop: where the test is false it is left
abbrev pub repeated : Bool → (Mode → Option (List Instr)) → (Mode → Option (List Instr)) → Option (List Instr)
repeated far test body = body Effect >>= λ is. test (Test false (plus (room_of is) (jump_size far))) >>= λ ts. Some (loop far ts is)

-- the mode of a statement before these
abbrev pub mode_before : Mode → Trees → Mode
mode_before m none = m
mode_before m (more t ts) = Effect

-- behind the statements of a block
abbrev pub block_end : Bool → Mode → Trees → List Instr
block_end far m none = unit far m
block_end far m (more t ts) = []

-- A block, by the code of its statements in its scope and what stands behind them. Its locals have no value until they are
-- set: none is read before that, by its kind (`Typed`).
abbrev pub block_code : Around → Scope → Mode → List Local → (Scope → Option (List Instr)) → List Instr → Option (List Instr)
block_code g s m xs made end = placed g.table g.class.symbol (from s.next) xs >>= λ inner. joined (made (inside inner s)) (Some end)

-- ---- trees

unfoldable mutual
  pub code : Around → Scope → Mode → Tree → Option (List Instr)
  code g s m (strict i o ts) = joined (operands g s (form_of m o) ts) (op_code g s m o)
  code g s m (block i xs ts) = block_code g s m xs (λ inner. statements g inner m ts) (block_end g.is_far m ts)
  code g s m (and_also i a b) = None
  code g s m (or_else i a b) = None
  code g s m (if_else i a b c) = choice_code (λ n. code g s n a) (choice g.is_far m (truth_of b) (truth_of c) (λ n. code g s n b) (λ n. code g s n c))
  code g s m (while_do i a b) = joined (repeated g.is_far (λ n. code g s n a) (λ n. code g s n b)) (Some (unit g.is_far m))
  code g s m (function i name xs a) = None
  code g s m (thunk i a) = None
  code g s m (match_on i a cs) = None
  code g s m (try_in i a cs fin) = None
  code g s m (label i k a) = None
  code g s m (switch i a ks ts d) = None

  -- the operands of a node
  pub operands : Around → Scope → Form → Trees → Option (List Instr)
  operands g s form none = Some []
  operands g s form (more t ts) = joined (operand g form (info_of t).type_id (λ n. code g s n t)) (operands g s form ts)

  -- the statements of a block: the last one's value is the block's
  pub statements : Around → Scope → Mode → Trees → Option (List Instr)
  statements g s m none = Some []
  statements g s m (more t ts) = joined (code g s (mode_before m ts) t) (statements g s m ts)
