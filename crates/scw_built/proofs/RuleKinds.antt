-- Operators take operands of the kinds that their instructions take.
use Rattle.std.proofs.Common.{◌≡◌, refl, subst, Bool, true, false, cond, [], ◌∷◌, Option, Some, None}
use denote.Enum.Bare.{same_true}
use Rattle.scw_value.specs.declared.arithmetic.Arithmetic.{Arithmetic}
use Rattle.scw_value.specs.declared.arithmetic.Arithmetic.TheVariants.{Add, Multiply, Subtract}
use Rattle.scw_value.specs.declared.comparison.Comparison.{Comparison}
use Rattle.scw_value.specs.declared.comparison.Comparison.TheVariants as question
use Rattle.scw_value.specs.declared.division.Division.{Division}
use Rattle.scw_value.specs.declared.division.Division.TheVariants.{Divide, Remainder}
use Rattle.scw_reader.specs.contracts.tree.TypeName as type_name
use Rattle.scw_reader.specs.declared.tree.Operator.{Operator}
use Rattle.scw_reader.specs.declared.tree.Operator.TheVariants as operator
use Rattle.scw_reader.specs.declared.tree.TypeName.{TypeName}
use Rattle.scw_reader.specs.declared.tree.TypeName.TheVariants as type
use Rattle.scw_small.specs.Rule.{arithmetic, division, comparison, operator_rule, times_rule, plus_rule}
use Rattle.scw_small.specs.Typed.{same_kind}
use Rattle.scw_gen.specs.Typed.{kind_of_primitive}
use Rattle.scw_built.proofs.Setting.{kind_for}
use Rattle.scw_built.proofs.SmallNames.{Rule}

-- the rule, if there is one, takes operands of these types
abbrev pub Right : TypeName → TypeName → Option Rule → Type 0
Right a b None = Unit {0}
Right a b (Some r) = kind_of_primitive r.primitive (kind_for a ∷ kind_for b ∷ []) ≡ Some (kind_for r.kind)

pub same-kind-is : (a b : TypeName) → same_kind a b ≡ true → a ≡ b
same-kind-is a b h = same_true type_name.the_type tt a b h

arithmetic-right : (o : Arithmetic) (t : TypeName) → Right t t (arithmetic o t)
arithmetic-right o type.Int = refl
arithmetic-right o type.Long = refl
arithmetic-right o type.Unit = tt
arithmetic-right o type.Boolean = tt
arithmetic-right o type.String = tt

division-right : (o : Division) (t : TypeName) → Right t t (division o t)
division-right o type.Int = refl
division-right o type.Long = refl
division-right o type.Unit = tt
division-right o type.Boolean = tt
division-right o type.String = tt

comparison-right : (o : Comparison) (t : TypeName) → Right t t (comparison o t)
comparison-right o type.Int = refl
comparison-right o type.Long = refl
comparison-right o type.Unit = tt
comparison-right o type.Boolean = tt
comparison-right o type.String = tt

equal-right : (t : TypeName) → Right t t (operator_rule operator.Equal t)
equal-right type.Int = refl
equal-right type.Long = refl
equal-right type.Unit = tt
equal-right type.Boolean = refl
equal-right type.String = tt

unequal-right : (t : TypeName) → Right t t (operator_rule operator.Unequal t)
unequal-right type.Int = refl
unequal-right type.Long = refl
unequal-right type.Unit = tt
unequal-right type.Boolean = refl
unequal-right type.String = tt

pub operator-right : (o : Operator) (t : TypeName) → Right t t (operator_rule o t)
operator-right operator.Subtract t = arithmetic-right Subtract t
operator-right operator.Divide t = division-right Divide t
operator-right operator.Remainder t = division-right Remainder t
operator-right operator.Less t = comparison-right question.Less t
operator-right operator.LessOrEqual t = comparison-right question.LessOrEqual t
operator-right operator.Greater t = comparison-right question.Greater t
operator-right operator.GreaterOrEqual t = comparison-right question.GreaterOrEqual t
operator-right operator.Equal t = equal-right t
operator-right operator.Unequal t = unequal-right t
operator-right operator.And t = tt
operator-right operator.Or t = tt

-- a rule for two operands of one type
same-right : (t u : TypeName) (o : Option Rule) → Right t t o → Right t u (cond (same_kind t u) o None)
same-right t u o h = by (same_kind t u) (same-kind-is t u)
  where
    by : (b : Bool) → (b ≡ true → t ≡ u) → Right t u (cond b o None)
    by true e = subst (λ (x : TypeName). Right t x o) (e refl) h
    by false e = tt

pub times-right : (t u : TypeName) → Right t u (times_rule t u)
times-right t u = same-right t u (arithmetic Multiply t) (arithmetic-right Multiply t)

joined-right : (u : TypeName) → Right type.String u (plus_rule type.String u)
joined-right type.Unit = tt
joined-right type.Boolean = refl
joined-right type.Int = refl
joined-right type.Long = refl
joined-right type.String = refl

pub plus-right : (t u : TypeName) → Right t u (plus_rule t u)
plus-right type.String u = joined-right u
plus-right type.Int u = same-right type.Int u (arithmetic Add type.Int) refl
plus-right type.Long u = same-right type.Long u (arithmetic Add type.Long) refl
plus-right type.Unit u = tt
plus-right type.Boolean u = tt
