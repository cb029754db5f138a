-- An operator whose value is dropped does nothing else: its value is there in the program, and the machine makes none.
use Rattle.std.proofs.Common.{◌≡◌, refl, sym, subst, not, List, [], ◌∷◌, Some}
use Rattle.std.specs.Int.{w32, w64}
use Rattle.scw_text.specs.declared.number.SymId.{SymId}
use Rattle.scw_value.specs.Number as number
use Rattle.scw_value.specs.declared.arithmetic.Arithmetic.{Arithmetic}
use Rattle.scw_value.specs.declared.comparison.Comparison.{Comparison}
use Rattle.scw_core.specs.Act.{primitive_act}
use Rattle.scw_core.specs.Frame.{give}
use Rattle.scw_core.specs.Program as core
use Rattle.scw_core.specs.State.{State, Thing, Value, boolean_v, int_v, long_v, same_boolean}
use Rattle.scw_core.specs.declared.operator.Logic.TheVariants as logic
use Rattle.scw_core.specs.declared.operator.Op.TheVariants as op
use Rattle.scw_core.specs.declared.operator.Primitive.{Primitive}
use Rattle.scw_core.specs.declared.operator.Primitive.TheVariants as primitive
use Rattle.scw_core.specs.declared.operator.Width.{Width}
use Rattle.scw_core.specs.declared.operator.Width.TheVariants as width
use Rattle.scw_gen.specs.declared.kind.Kind.{Kind}
use Rattle.scw_gen.specs.declared.kind.Kind.TheVariants as kind
use Rattle.scw_gen.specs.declared.mode.Mode.TheVariants.{Effect}
use Rattle.scw_gen.specs.declared.operator.Form.TheVariants.{Effects}
use Rattle.scw_gen.specs.Operator.{form_of, kind_of_width}
use Rattle.scw_gen.specs.Typed.{kind_of_primitive, taking}
use Rattle.scw_heap.specs.Heap.{Entity}
use Rattle.scw_back.proofs.NumberBounds.{computed-int, computed-long}
use Rattle.scw_back.proofs.Stands.{IsOf, Kept, Word, e_effect, e_none, i_boolean, i_int, i_long}
use Rattle.scw_back.proofs.TypedKinds.{taking-is}

module _ (p : core.Program) (h : List Entity) (store : List Thing) (own : SymId) (S : State) where
  -- the value of an operator
  pub record Idles (o : Primitive) (vs : List Value) (k : Kind) : Type 0 where
    pub value : Value
    pub acts : primitive_act p o vs S ≡ give value S
    pub is : IsOf store own k value

  -- operands of these kinds, which have no words
  abbrev pub Dropped : List Kind → List Value → List Word → Type 0
  Dropped ks vs ws = Kept h store own Effects ks vs ws

  arithmetic-idles : (w : Width) (o : Arithmetic) (vs : List Value) (ws : List Word) → Dropped (kind_of_width w ∷ kind_of_width w ∷ []) vs ws → Idles (primitive.Arithmetic w o) vs (kind_of_width w)
  unfolding primitive_act
  arithmetic-idles width.Int o vs ws (e_effect (i_int a la) (e_effect (i_int b lb) e_none)) = record { value = int_v (number.computed w32 o a b); acts = refl; is = i_int _ (computed-int o a b la lb) }
  arithmetic-idles width.Long o vs ws (e_effect (i_long a la) (e_effect (i_long b lb) e_none)) = record { value = long_v (number.computed w64 o a b); acts = refl; is = i_long _ (computed-long o a b la lb) }

  comparison-idles : (w : Width) (c : Comparison) (vs : List Value) (ws : List Word) → Dropped (kind_of_width w ∷ kind_of_width w ∷ []) vs ws → Idles (primitive.Comparison w c) vs kind.Boolean
  unfolding primitive_act
  comparison-idles width.Int c vs ws (e_effect (i_int a la) (e_effect (i_int b lb) e_none)) = record { value = boolean_v (number.compared w32 c a b); acts = refl; is = i_boolean _ }
  comparison-idles width.Long c vs ws (e_effect (i_long a la) (e_effect (i_long b lb) e_none)) = record { value = boolean_v (number.compared w64 c a b); acts = refl; is = i_boolean _ }

  equal-idles : (vs : List Value) (ws : List Word) → Dropped (kind.Boolean ∷ kind.Boolean ∷ []) vs ws → Idles (primitive.Logic logic.Equal) vs kind.Boolean
  unfolding primitive_act
  equal-idles vs ws (e_effect (i_boolean a) (e_effect (i_boolean b) e_none)) = record { value = boolean_v (same_boolean a b); acts = refl; is = i_boolean _ }

  differ-idles : (vs : List Value) (ws : List Word) → Dropped (kind.Boolean ∷ kind.Boolean ∷ []) vs ws → Idles (primitive.Logic logic.NotEqual) vs kind.Boolean
  unfolding primitive_act
  differ-idles vs ws (e_effect (i_boolean a) (e_effect (i_boolean b) e_none)) = record { value = boolean_v (not (same_boolean a b)); acts = refl; is = i_boolean _ }

  -- operands of the kinds that are wanted
  by-kinds : (o : Primitive) (wanted ks : List Kind) (l k : Kind) (vs : List Value) (ws : List Word) → taking wanted ks l ≡ Some k → Dropped ks vs ws → ((vs' : List Value) (ws' : List Word) → Dropped wanted vs' ws' → Idles o vs' l) → Idles o vs k
  by-kinds o wanted ks l k vs ws e kept make = let t = taking-is wanted ks l k e in subst (λ x. Idles o vs x) t.1 (make vs ws (subst (λ x. Dropped x vs ws) (sym t.0) kept))

  pub idles : (o : Primitive) (ks : List Kind) (k : Kind) (vs : List Value) (ws : List Word) → form_of Effect (op.Primitive o) ≡ Effects → kind_of_primitive o ks ≡ Some k → Dropped ks vs ws → Idles o vs k
  idles (primitive.Arithmetic w o) ks k vs ws f e kept = by-kinds _ (kind_of_width w ∷ kind_of_width w ∷ []) ks (kind_of_width w) k vs ws e kept (arithmetic-idles w o)
  idles (primitive.Comparison w c) ks k vs ws f e kept = by-kinds _ (kind_of_width w ∷ kind_of_width w ∷ []) ks kind.Boolean k vs ws e kept (comparison-idles w c)
  idles (primitive.Logic logic.Equal) ks k vs ws f e kept = by-kinds _ (kind.Boolean ∷ kind.Boolean ∷ []) ks kind.Boolean k vs ws e kept equal-idles
  idles (primitive.Logic logic.NotEqual) ks k vs ws f e kept = by-kinds _ (kind.Boolean ∷ kind.Boolean ∷ []) ks kind.Boolean k vs ws e kept differ-idles
  idles (primitive.Logic logic.And) ks k vs ws f e kept = absurd (cc)
  idles (primitive.Logic logic.Or) ks k vs ws f e kept = absurd (cc)
  idles (primitive.Logic logic.Xor) ks k vs ws f e kept = absurd (cc)
  idles _ ks k vs ws f e kept = absurd (cc)
