-- How the operands of an operator are evaluated is the same in modes that differ in ways alone, and operands whose texts are
-- joined have texts.
use Rattle.std.proofs.Common.{◌≡◌, true, ◌&&◌, List, [], ◌∷◌, Some, refl}
use Rattle.std.proofs.lemmas.Bool.{and_parts}
use Rattle.std.proofs.lemmas.Option.{cond_some, none-some}
use Rattle.scw_core.specs.declared.operator.Op.{Op}
use Rattle.scw_core.specs.declared.operator.Op.TheVariants as op
use Rattle.scw_core.specs.declared.operator.Primitive.{Primitive}
use Rattle.scw_core.specs.declared.operator.Primitive.TheVariants as primitives
use Rattle.scw_gen.specs.Around.{Around}
use Rattle.scw_gen.specs.Operator.{form_of, form_of_primitive, form_of_value}
use Rattle.scw_gen.specs.Typed.{Known, has_text, kind_of_joined, kind_of_op, kind_of_primitive}
use Rattle.scw_gen.specs.declared.kind.Kind.{Kind}
use Rattle.scw_gen.specs.declared.kind.Kind.TheVariants as kind
use Rattle.scw_gen.specs.declared.mode.Mode.{Mode}
use Rattle.scw_gen.specs.declared.mode.Mode.TheVariants.{Value, Effect, Test, Return}
use Rattle.scw_gen.specs.declared.operator.Form.{Form}
use Rattle.scw_gen.specs.declared.operator.Form.TheVariants.{Values, Effects, Texts}
use Rattle.scw_built.proofs.Modes.{Modes, m_effect, m_return, m_test, m_value}

value-form : (m n : Mode) → Modes m n → form_of_value m ≡ form_of_value n
value-form m n m_value = refl
value-form m n m_effect = refl
value-form m n (m_test sense v w a b) = refl
value-form m n (m_return w) = refl

primitive-form : (m n : Mode) (o : Primitive) → Modes m n → form_of_primitive m o ≡ form_of_primitive n o
primitive-form m n (primitives.Arithmetic w o) h = value-form m n h
primitive-form m n (primitives.Comparison w c) h = value-form m n h
primitive-form m n (primitives.Logic l) h = value-form m n h
primitive-form m n _ h = refl

pub same-form : (m n : Mode) (o : Op) → Modes m n → form_of m o ≡ form_of n o
same-form m n (op.Primitive o) h = primitive-form m n o h
same-form m n _ h = refl

-- operands whose texts are joined have texts
abbrev pub TextIn : Form → Kind → Type 0
TextIn Values k = Unit {0}
TextIn Effects k = Unit {0}
TextIn Texts k = has_text k ≡ true

abbrev pub TextsIn : Form → List Kind → Type 0
TextsIn form [] = Unit {0}
TextsIn form (k ∷ ks) = TextIn form k × TextsIn form ks

values-in : (ks : List Kind) → TextsIn Values ks
values-in [] = tt
values-in (k ∷ ks) = (tt, values-in ks)

effects-in : (ks : List Kind) → TextsIn Effects ks
effects-in [] = tt
effects-in (k ∷ ks) = (tt, effects-in ks)

value_form-in : (m : Mode) (ks : List Kind) → TextsIn (form_of_value m) ks
value_form-in Value ks = values-in ks
value_form-in Effect ks = effects-in ks
value_form-in (Test sense way) ks = values-in ks
value_form-in (Return w) ks = values-in ks

joined-in : (ks : List Kind) (k : Kind) → kind_of_joined ks ≡ Some k → TextsIn Texts ks
joined-in [] k h = absurd (none-some k h)
joined-in (a ∷ []) k h = absurd (none-some k h)
joined-in (a ∷ b ∷ []) k h = let p = and_parts (has_text a) (has_text b) (cond_some (has_text a && has_text b) kind.String k h).0 in (p.0, (p.1, tt))
joined-in (a ∷ b ∷ c ∷ ks) k h = absurd (none-some k h)

primitive-in : (m : Mode) (o : Primitive) (ks : List Kind) (k : Kind) → kind_of_primitive o ks ≡ Some k → TextsIn (form_of_primitive m o) ks
primitive-in m (primitives.Arithmetic w o) ks k h = value_form-in m ks
primitive-in m (primitives.Comparison w c) ks k h = value_form-in m ks
primitive-in m (primitives.Logic l) ks k h = value_form-in m ks
primitive-in m primitives.Concatenate ks k h = joined-in ks k h
primitive-in m _ ks k h = values-in ks

-- what an operator takes has a text where it asks for one
pub texts-in : (g : Around) (ys : List Known) (m : Mode) (o : Op) (ks : List Kind) (k : Kind) → kind_of_op g ys o ks ≡ Some k → TextsIn (form_of m o) ks
texts-in g ys m (op.Primitive o) ks k h = primitive-in m o ks k h
texts-in g ys m _ ks k h = values-in ks
