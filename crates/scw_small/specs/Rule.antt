-- Which operands an operator takes, and the type of its value (SLS 6.12.3, 12.2, 12.3.1).
use Rattle.std.specs.Prelude.{Bool, true, false, cond, Option, Some, None}
use Rattle.scw_value.specs.declared.arithmetic.Arithmetic.{Arithmetic}
use Rattle.scw_value.specs.declared.arithmetic.Arithmetic.TheVariants.{Add, Multiply, Subtract}
use Rattle.scw_value.specs.declared.comparison.Comparison.{Comparison}
use Rattle.scw_value.specs.declared.comparison.Comparison.TheVariants as question
use Rattle.scw_value.specs.declared.division.Division.{Division}
use Rattle.scw_value.specs.declared.division.Division.TheVariants.{Divide, Remainder}
use Rattle.scw_core.specs.declared.operator.Logic.{Logic}
use Rattle.scw_core.specs.declared.operator.Logic.TheVariants as logic
use Rattle.scw_core.specs.declared.operator.Op.TheVariants as op
use Rattle.scw_core.specs.declared.operator.Primitive.TheVariants as primitive
use Rattle.scw_core.specs.declared.operator.Width.TheVariants as width
use Rattle.scw_reader.specs.declared.tree.Operator.{Operator}
use Rattle.scw_reader.specs.declared.tree.Operator.TheVariants as operator
use Rattle.scw_reader.specs.declared.tree.TypeName.{TypeName}
use Rattle.scw_reader.specs.declared.tree.TypeName.TheVariants as type
use Rattle.scw_small.specs.declared.rule.Rule.{Rule}
use Rattle.scw_small.specs.Typed.{Typed, same_kind, binary, conditional, loop, truth}

-- ---- on two operands of one type

abbrev pub arithmetic : Arithmetic → TypeName → Option Rule
arithmetic o type.Int = Some (record { primitive = primitive.Arithmetic width.Int o; kind = type.Int })
arithmetic o type.Long = Some (record { primitive = primitive.Arithmetic width.Long o; kind = type.Long })
arithmetic o type.Unit = None
arithmetic o type.Boolean = None
arithmetic o type.String = None

abbrev pub division : Division → TypeName → Option Rule
division o type.Int = Some (record { primitive = primitive.Division width.Int o; kind = type.Int })
division o type.Long = Some (record { primitive = primitive.Division width.Long o; kind = type.Long })
division o type.Unit = None
division o type.Boolean = None
division o type.String = None

abbrev pub comparison : Comparison → TypeName → Option Rule
comparison o type.Int = Some (record { primitive = primitive.Comparison width.Int o; kind = type.Boolean })
comparison o type.Long = Some (record { primitive = primitive.Comparison width.Long o; kind = type.Boolean })
comparison o type.Unit = None
comparison o type.Boolean = None
comparison o type.String = None

-- `==` and `!=`
abbrev pub equality : Comparison → Logic → TypeName → Option Rule
equality o l type.Boolean = Some (record { primitive = primitive.Logic l; kind = type.Boolean })
equality o l type.Int = comparison o type.Int
equality o l type.Long = comparison o type.Long
equality o l type.Unit = None
equality o l type.String = None

abbrev pub operator_rule : Operator → TypeName → Option Rule
operator_rule operator.Subtract t = arithmetic Subtract t
operator_rule operator.Divide t = division Divide t
operator_rule operator.Remainder t = division Remainder t
operator_rule operator.Less t = comparison question.Less t
operator_rule operator.LessOrEqual t = comparison question.LessOrEqual t
operator_rule operator.Greater t = comparison question.Greater t
operator_rule operator.GreaterOrEqual t = comparison question.GreaterOrEqual t
operator_rule operator.Equal t = equality question.Equal logic.Equal t
operator_rule operator.Unequal t = equality question.NotEqual logic.NotEqual t
operator_rule operator.And t = None
operator_rule operator.Or t = None

-- ---- `*` and `+`

abbrev pub times_rule : TypeName → TypeName → Option Rule
times_rule t u = cond (same_kind t u) (arithmetic Multiply t) None

-- a text and a value of any type that has one, or two numbers of one type
abbrev pub plus_rule : TypeName → TypeName → Option Rule
plus_rule type.String u = cond (same_kind u type.Unit) None (Some (record { primitive = primitive.Concatenate; kind = type.String }))
plus_rule type.Int u = cond (same_kind type.Int u) (arithmetic Add type.Int) None
plus_rule type.Long u = cond (same_kind type.Long u) (arithmetic Add type.Long) None
plus_rule type.Unit u = None
plus_rule type.Boolean u = None

-- ---- trees

-- the node of the rule, if there is one
abbrev pub combined : Option Rule → Typed → Typed → Option Typed
combined None t u = None
combined (Some r) t u = Some (binary r.kind (op.Primitive r.primitive) t.tree u.tree)

unfoldable pub times : Typed → Typed → Option Typed
times t u = combined (times_rule t.kind u.kind) t u

unfoldable pub plus : Typed → Typed → Option Typed
plus t u = combined (plus_rule t.kind u.kind) t u

abbrev pub is_boolean : Typed → Bool
is_boolean t = same_kind t.kind type.Boolean

-- `a && b`, where both are of type Boolean
unfoldable pub and_also : Typed → Typed → Option Typed
and_also t u = cond (is_boolean t) (Some (conditional type.Boolean t.tree u.tree (truth false).tree)) None

-- `a || b`
unfoldable pub or_else : Typed → Typed → Option Typed
or_else t u = cond (is_boolean t) (Some (conditional type.Boolean t.tree (truth true).tree u.tree)) None

abbrev pub operated_by : Operator → Typed → Typed → Option Typed
operated_by operator.And t u = and_also t u
operated_by operator.Or t u = or_else t u
operated_by operator.Subtract t u = combined (operator_rule operator.Subtract t.kind) t u
operated_by operator.Divide t u = combined (operator_rule operator.Divide t.kind) t u
operated_by operator.Remainder t u = combined (operator_rule operator.Remainder t.kind) t u
operated_by operator.Less t u = combined (operator_rule operator.Less t.kind) t u
operated_by operator.LessOrEqual t u = combined (operator_rule operator.LessOrEqual t.kind) t u
operated_by operator.Greater t u = combined (operator_rule operator.Greater t.kind) t u
operated_by operator.GreaterOrEqual t u = combined (operator_rule operator.GreaterOrEqual t.kind) t u
operated_by operator.Equal t u = combined (operator_rule operator.Equal t.kind) t u
operated_by operator.Unequal t u = combined (operator_rule operator.Unequal t.kind) t u

-- `a op b`: both operands have one type
unfoldable pub operated : Operator → Typed → Typed → Option Typed
operated o t u = cond (same_kind t.kind u.kind) (operated_by o t u) None

-- `if (a) b else c`: both branches have one type
unfoldable pub chosen : Typed → Typed → Typed → Option Typed
chosen t u v = cond (is_boolean t) (cond (same_kind u.kind v.kind) (Some (conditional u.kind t.tree u.tree v.tree)) None) None

-- `while (a) b`
unfoldable pub repeated : Typed → Typed → Option Typed
repeated t u = cond (is_boolean t) (Some (loop t.tree u.tree)) None
