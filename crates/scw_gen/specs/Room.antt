-- How deep the operand stack gets, and how many local variables there are: JVMS 2.6 and 4.7.3, `max_stack` and `max_locals`.
use Rattle.std.specs.Prelude.{ℕ, ◌+◌, ◌-◌, ◌^◌, max, min, List, [], ◌∷◌, true, Option, Some, None}
use Rattle.scw_text.specs.declared.number.SymId.{SymId}
use Rattle.scw_text.specs.declared.number.TypeId.{TypeId}
use Rattle.scw_core.specs.Program.{in_members}
use Rattle.scw_core.specs.Tree.{Tree, Trees, info_of, strict, block, and_also, or_else, if_else, while_do, function, thunk, match_on, try_in, label, switch, none, more}
use Rattle.scw_core.specs.declared.class.Member.{Member}
use Rattle.scw_core.specs.declared.operator.Literal.{Literal}
use Rattle.scw_core.specs.declared.operator.Literal.TheVariants as literal
use Rattle.scw_core.specs.declared.operator.Op.{Op}
use Rattle.scw_core.specs.declared.operator.Op.TheVariants as op
use Rattle.scw_core.specs.declared.tree.Local.{Local}
use Rattle.scw_gen.specs.Around.{Around, kind_in}
use Rattle.scw_gen.specs.Code.{mode_before}
use Rattle.scw_gen.specs.Kind.{width_of}
use Rattle.scw_gen.specs.Operator.{form_of}
use Rattle.scw_gen.specs.declared.kind.Kind.{Kind}
use Rattle.scw_gen.specs.declared.kind.Kind.TheVariants as kind
use Rattle.scw_gen.specs.declared.mode.Mode.{Mode}
use Rattle.scw_gen.specs.declared.mode.Mode.TheVariants.{Value, Effect, Test, Return}
use Rattle.scw_gen.specs.declared.operator.Form.{Form}
use Rattle.scw_gen.specs.declared.operator.Form.TheVariants.{Values, Effects, Texts}

-- the sum, or the largest number of 64 bits
abbrev pub sum : ℕ → ℕ → ℕ
sum a b = min (a + b) (2 ^ 64 - 1)

abbrev pub width : Option Kind → ℕ
width None = 1
width (Some k) = width_of k

-- how many words a value of the type takes
abbrev pub width_at : Around → TypeId → ℕ
width_at g t = width (kind_in g t)

-- ---- operators

-- a value that is never made where it would be dropped
abbrev pub of_given : Mode → ℕ → ℕ
of_given Value words = words
of_given Effect words = 0
of_given (Test sense way) words = words
of_given (Return w) words = words

-- a Boolean constant; in a test it is a jump, or nothing
abbrev pub of_truth : Mode → ℕ
of_truth Value = 1
of_truth Effect = 0
of_truth (Test sense way) = 0
of_truth (Return w) = 1

abbrev pub of_literal : Mode → Literal → ℕ
of_literal m literal.Unit = of_given m 1
of_literal m (literal.Boolean b) = of_truth m
of_literal m (literal.Char c) = of_given m 1
of_literal m (literal.Int n) = of_given m 1
of_literal m (literal.Long n) = of_given m 2
of_literal m literal.Null = of_given m 1
of_literal m (literal.String t) = of_given m 1

-- what a method gives; `()` is put there by an instruction of its own
abbrev pub of_result : Mode → Option Kind → ℕ
of_result m None = of_given m 1
of_result m (Some kind.Unit) = of_given m 1
of_result m (Some kind.Boolean) = 1
of_result m (Some kind.Int) = 1
of_result m (Some kind.Long) = 2
of_result m (Some kind.String) = 1
of_result m (Some kind.Strings) = 1
of_result m (Some kind.This) = 1

abbrev pub of_call_of : Around → Mode → Option Member → ℕ
of_call_of g m None = 0
of_call_of g m (Some member) = of_result m (kind_in g member.result)

abbrev pub of_call : Around → Mode → SymId → ℕ
of_call g m x = of_call_of g m (in_members g.class.members x)

-- how deep the stack gets by an operator that has taken its operands; by those of numbers it gets no deeper than by these
abbrev pub of_op : Around → Mode → Op → TypeId → ℕ
of_op g m (op.Literal l) t = of_literal m l
of_op g m (op.Local x) t = of_given m (width_at g t)
of_op g m (op.SetLocal x) t = of_given m 1
of_op g m (op.Run r) t = of_given m 1
of_op g m (op.Call x) t = of_call g m x
of_op g m _ t = 0

-- ---- nodes

abbrev pub mode_of_operand : Form → Mode
mode_of_operand Values = Value
mode_of_operand Effects = Effect
mode_of_operand Texts = Value

-- what an operand leaves on the stack
abbrev pub left_by : Around → Form → TypeId → ℕ
left_by g Values t = width_at g t
left_by g Effects t = 0
left_by g Texts t = 1

abbrev pub of_end : Mode → Trees → ℕ
of_end m none = of_given m 1
of_end m (more t ts) = 0

-- ---- trees

unfoldable mutual
  -- how deep the stack gets by the code of a tree; where a test jumps, and how far, doesn't matter
  pub stack_of : Around → Mode → Tree → ℕ
  stack_of g m (strict i o ts) = max (stack_of_operands g (form_of m o) 0 ts) (of_op g m o i.type_id)
  stack_of g m (block i xs ts) = max (stack_of_statements g m ts) (of_end m ts)
  stack_of g m (and_also i a b) = 0
  stack_of g m (or_else i a b) = 0
  stack_of g m (if_else i a b c) = max (stack_of g (Test true 0) a) (max (stack_of g m b) (stack_of g m c))
  stack_of g m (while_do i a b) = max (stack_of g (Test true 0) a) (max (stack_of g Effect b) (of_given m 1))
  stack_of g m (function i name xs a) = 0
  stack_of g m (thunk i a) = 0
  stack_of g m (match_on i a cs) = 0
  stack_of g m (try_in i a cs fin) = 0
  stack_of g m (label i k a) = 0
  stack_of g m (switch i a ks ts d) = 0

  -- by that of operands, where so many words are there already
  pub stack_of_operands : Around → Form → ℕ → Trees → ℕ
  stack_of_operands g form depth none = depth
  stack_of_operands g form depth (more t ts) = max (sum depth (stack_of g (mode_of_operand form) t)) (stack_of_operands g form (sum depth (left_by g form (info_of t).type_id)) ts)

  pub stack_of_statements : Around → Mode → Trees → ℕ
  stack_of_statements g m none = 0
  stack_of_statements g m (more t ts) = max (stack_of g (mode_before m ts) t) (stack_of_statements g m ts)

-- by that of statements whose values are dropped
unfoldable pub stack_of_effects : Around → Trees → ℕ
stack_of_effects g none = 0
stack_of_effects g (more t ts) = max (stack_of g Effect t) (stack_of_effects g ts)

-- the first slot that is free behind these locals
unfoldable pub slot_behind : Around → ℕ → List Local → ℕ
slot_behind g next [] = next
slot_behind g next (x ∷ xs) = slot_behind g (sum next (width_at g x.type_id)) xs

unfoldable mutual
  -- how many local variables the code of a tree needs, where so many are taken before it
  pub locals_of : Around → ℕ → Tree → ℕ
  locals_of g next (strict i o ts) = max (locals_of_all g next ts) next
  locals_of g next (block i xs ts) = max (locals_of_all g (slot_behind g next xs) ts) (slot_behind g next xs)
  locals_of g next (and_also i a b) = next
  locals_of g next (or_else i a b) = next
  locals_of g next (if_else i a b c) = max (locals_of g next a) (max (locals_of g next b) (locals_of g next c))
  locals_of g next (while_do i a b) = max (locals_of g next a) (locals_of g next b)
  locals_of g next (function i name xs a) = next
  locals_of g next (thunk i a) = next
  locals_of g next (match_on i a cs) = next
  locals_of g next (try_in i a cs fin) = next
  locals_of g next (label i k a) = next
  locals_of g next (switch i a ks ts d) = next

  pub locals_of_all : Around → ℕ → Trees → ℕ
  locals_of_all g next none = 0
  locals_of_all g next (more t ts) = max (locals_of g next t) (locals_of_all g next ts)
