-- The code of operators lands.
use Rattle.std.proofs.Common.{◌≡◌, ℕ, ◌≤◌, pos, negsuc, Bool, List, [], ◌∷◌, Option, Some, None, refl, subst}
use Rattle.std.specs.Prelude.{nat_eq, nat_le}
use Rattle.std.specs.Int.{w32, cast_signed}
use Rattle.std.proofs.lemmas.Bool.{cond_both, leb-true}
use Rattle.scw_text.specs.declared.number.SymId.{SymId}
use Rattle.scw_value.specs.declared.comparison.Comparison.{Comparison}
use Rattle.scw_value.specs.declared.comparison.Comparison.TheVariants as comparison
use Rattle.scw_core.specs.Program.{in_members, text_at}
use Rattle.scw_core.specs.declared.class.Member.{Member}
use Rattle.scw_core.specs.declared.operator.Literal.{Literal}
use Rattle.scw_core.specs.declared.operator.Literal.TheVariants as literals
use Rattle.scw_core.specs.declared.operator.Logic.{Logic}
use Rattle.scw_core.specs.declared.operator.Logic.TheVariants as logics
use Rattle.scw_core.specs.declared.operator.Op.{Op}
use Rattle.scw_core.specs.declared.operator.Op.TheVariants as op
use Rattle.scw_core.specs.declared.operator.Primitive.{Primitive}
use Rattle.scw_core.specs.declared.operator.Primitive.TheVariants as primitives
use Rattle.scw_core.specs.declared.operator.TextId.{TextId}
use Rattle.scw_core.specs.declared.operator.Width.{Width}
use Rattle.scw_core.specs.declared.operator.Width.TheVariants as width
use Rattle.scw_gen.specs.declared.instr.BuiltIn.{BuiltIn}
use Rattle.scw_gen.specs.declared.instr.BuiltIn.TheVariants as built
use Rattle.scw_gen.specs.declared.instr.Constant.{Constant}
use Rattle.scw_gen.specs.declared.instr.Constant.TheVariants as constant
use Rattle.scw_gen.specs.declared.instr.Instr.{Instr}
use Rattle.scw_gen.specs.declared.instr.Instr.TheVariants as instr
use Rattle.scw_gen.specs.declared.kind.Kind.{Kind}
use Rattle.scw_gen.specs.declared.kind.Kind.TheVariants as kind
use Rattle.scw_gen.specs.declared.mode.Mode.{Mode}
use Rattle.scw_gen.specs.declared.scope.Slot.{Slot}
use Rattle.scw_gen.specs.Around.{Around, kind_in}
use Rattle.scw_gen.specs.Instr.{is_between}
use Rattle.scw_gen.specs.Kind.{word_of}
use Rattle.scw_gen.specs.Mode.{ended, unit}
use Rattle.scw_gen.specs.Mode as mode
use Rattle.scw_gen.specs.Operator.{call_of, called, called_in, done, given_by, int_instr, kind_of_width, literal, loaded, local, logic, long_instr, made, op_code, primitive, set_local, string, string_instr, text_by, text_of}
use Rattle.scw_gen.specs.Pool.{integer_index, string_index}
use Rattle.scw_gen.specs.Scope.{Scope, slot_of}
use Rattle.scw_gen.proofs.Steps.{bound}
use Rattle.scw_gen.proofs.ScopeFits.{ScopeFits, slot-fits}
use Rattle.scw_gen.proofs.Landing.{Low, Right, Lands, lands-nil, lands-one, lands-both}
use Rattle.scw_gen.proofs.ModeLands.{comparison-lands, given-lands, truth-lands, unit-lands, with_end}
use Rattle.scw_gen.specs.declared.mode.Mode.TheVariants.{Value}

module _ (g : Around) where
  -- code for the object that is generated
  abbrev pub Lands_in : Mode → List Instr → Type 0
  Lands_in m is = Lands g.table g.pool g.is_far m is

  -- the instruction fits, and doesn't jump
  abbrev Calm : Instr → Type 0
  Calm i = (ok : ℕ → Bool) (o : ℕ) → Right g.table g.pool ok o i

  one_lands : (i : Instr) → Calm i → Lands_in Value (i ∷ [])
  one_lands i calm = lands-one g.table g.pool g.is_far i calm

  given_by-lands : (m : Mode) (k : Kind) (i : Instr) → Calm i → Lands_in m (given_by g m k i)
  given_by-lands m k i calm = given-lands g.table g.pool g.is_far m k (i ∷ []) (one_lands i calm)

  done-lands : (m : Mode) (i : Instr) → Calm i → Lands_in m (done g m i)
  done-lands m i calm = lands-both g.table g.pool g.is_far m (i ∷ []) (unit g.is_far m) (one_lands i calm) (unit-lands g.table g.pool g.is_far m)

  made-lands : (m : Mode) (k : Kind) (i : Instr) → Calm i → Lands_in m (made g m k i)
  made-lands m k i calm = with_end g.table g.pool g.is_far m k (i ∷ []) (one_lands i calm)

  -- what was given lands
  same-lands : (m : Mode) (a b : List Instr) → Some a ≡ Some b → Lands_in m a → Lands_in m b
  same-lands m a b h l = let e : a ≡ b = cc in subst (Lands_in m) e l

  -- ---- literals

  loaded-calm : (index : ℕ) (c : Constant) → (index ≤ 255 → Low g.table g.pool c) → Calm (loaded index c)
  loaded-calm index c low = cond_both (nat_le index 255) (instr.Constant c) (instr.WideConstant c) Calm (λ h ok o. low (leb-true index 255 h)) (λ h ok o. tt)

  int-calm : (n : ℕ) → Calm (int_instr g n)
  int-calm n =
      let z = cast_signed w32 n in
      let i = loaded (integer_index g.pool n) (constant.Int n) in
      cond_both (is_between (negsuc 32767) (pos 32767) z) (instr.Number z) i Calm (λ h ok o. h) (λ h. loaded-calm (integer_index g.pool n) (constant.Int n) (λ le. le))

  long-calm : (n : ℕ) → Calm (long_instr n)
  long-calm n = cond_both (nat_le n 1) (instr.LongBit (nat_eq n 1)) (instr.LongConstant n) Calm (λ h ok o. tt) (λ h ok o. tt)

  string-lands : (m : Mode) (t : TextId) (is : List Instr) → string g m t ≡ Some is → Lands_in m is
  string-lands m t is h =
      let b = bound (text_at g.table t) (λ text. Some (given_by g m kind.String (string_instr g t text))) is h in
      let at = b.1 in
      let same = λ (us : List ℕ) (le : string_index g.pool b.0 ≤ 255) (k : text_at g.table t ≡ Some us). (let e : b.0 ≡ us = cc in subst (λ (l : List ℕ). string_index g.pool l ≤ 255) e le) in
      same-lands m _ is b.2 (given_by-lands m kind.String (string_instr g t b.0) (loaded-calm (string_index g.pool b.0) (constant.Text t) (λ le us k. same us le k)))

  literal-lands : (m : Mode) (l : Literal) (is : List Instr) → literal g m l ≡ Some is → Lands_in m is
  literal-lands m literals.Unit is h = same-lands m _ is h (unit-lands g.table g.pool g.is_far m)
  literal-lands m (literals.Boolean b) is h = same-lands m _ is h (truth-lands g.table g.pool g.is_far m b)
  literal-lands m (literals.Char c) is h = absurd (cc)
  literal-lands m (literals.Int n) is h = same-lands m _ is h (given_by-lands m kind.Int (int_instr g n) (int-calm n))
  literal-lands m (literals.Long n) is h = same-lands m _ is h (given_by-lands m kind.Long (long_instr n) (long-calm n))
  literal-lands m literals.Null is h = absurd (cc)
  literal-lands m (literals.String t) is h = string-lands m t is h

  -- ---- locals and calls

  local-lands : (m : Mode) (s : Option Slot) (is : List Instr) → ((slot : Slot) → s ≡ Some slot → slot.place ≤ 65535) → local g m s ≡ Some is → Lands_in m is
  local-lands m None is fits h = absurd (cc)
  local-lands m (Some s) is fits h = same-lands m _ is h (given_by-lands m s.kind (instr.Load (word_of s.kind) s.place) (λ ok o. fits s refl))

  set_local-lands : (m : Mode) (s : Option Slot) (is : List Instr) → ((slot : Slot) → s ≡ Some slot → slot.place ≤ 65535) → set_local g m s ≡ Some is → Lands_in m is
  set_local-lands m None is fits h = absurd (cc)
  set_local-lands m (Some s) is fits h = same-lands m _ is h (done-lands m (instr.Store (word_of s.kind) s.place) (λ ok o. fits s refl))

  called-lands : (m : Mode) (x : SymId) (k : Kind) → Lands_in m (called g m x k)
  called-lands m x kind.Unit = done-lands m (instr.Call x) (λ ok o. tt)
  called-lands m x kind.Boolean = made-lands m kind.Boolean (instr.Call x) (λ ok o. tt)
  called-lands m x kind.Int = made-lands m kind.Int (instr.Call x) (λ ok o. tt)
  called-lands m x kind.Long = made-lands m kind.Long (instr.Call x) (λ ok o. tt)
  called-lands m x kind.String = made-lands m kind.String (instr.Call x) (λ ok o. tt)
  called-lands m x kind.Strings = made-lands m kind.Strings (instr.Call x) (λ ok o. tt)
  called-lands m x kind.This = made-lands m kind.This (instr.Call x) (λ ok o. tt)

  called_in-lands : (m : Mode) (x : SymId) (k : Option Kind) (is : List Instr) → called_in g m x k ≡ Some is → Lands_in m is
  called_in-lands m x None is h = absurd (cc)
  called_in-lands m x (Some k) is h = same-lands m _ is h (called-lands m x k)

  call-lands : (m : Mode) (x : SymId) (member : Option Member) (is : List Instr) → call_of g m x member ≡ Some is → Lands_in m is
  call-lands m x None is h = absurd (cc)
  call-lands m x (Some member) is h = called_in-lands m x (kind_in g member.result) is h

  -- ---- operators

  compared-lands : (m : Mode) (c : Comparison) (w : Width) (is : List Instr) → Some (mode.comparison g.is_far m w c) ≡ Some is → Lands_in m is
  compared-lands m c w is h = same-lands m _ is h (comparison-lands g.table g.pool g.is_far m w c)

  logic-lands : (m : Mode) (l : Logic) (is : List Instr) → logic g m l ≡ Some is → Lands_in m is
  logic-lands m logics.And is h = absurd (cc)
  logic-lands m logics.Or is h = absurd (cc)
  logic-lands m logics.Xor is h = absurd (cc)
  logic-lands m logics.Equal is h = compared-lands m comparison.Equal width.Int is h
  logic-lands m logics.NotEqual is h = compared-lands m comparison.NotEqual width.Int is h

  primitive-lands : (m : Mode) (p : Primitive) (is : List Instr) → primitive g m p ≡ Some is → Lands_in m is
  primitive-lands m (primitives.Arithmetic w o) is h = same-lands m _ is h (given_by-lands m (kind_of_width w) (instr.Arithmetic w o) (λ ok p. tt))
  primitive-lands m (primitives.Division w o) is h = same-lands m _ is h (made-lands m (kind_of_width w) (instr.Division w o) (λ ok p. tt))
  primitive-lands m (primitives.Comparison w c) is h = compared-lands m c w is h
  primitive-lands m (primitives.Logic l) is h = logic-lands m l is h
  primitive-lands m primitives.Concatenate is h = same-lands m _ is h (made-lands m kind.String (instr.CallBuiltIn built.Concat) (λ ok o. tt))
  primitive-lands m _ is h = absurd (cc)

  pub op-lands : (s : Scope) (m : Mode) (o : Op) (is : List Instr) → ScopeFits s → op_code g s m o ≡ Some is → Lands_in m is
  op-lands s m (op.Literal l) is fits h = literal-lands m l is h
  op-lands s m (op.Local x) is fits h = local-lands m (slot_of s x) is (λ slot at. slot-fits s x slot fits at) h
  op-lands s m (op.SetLocal x) is fits h = set_local-lands m (slot_of s x) is (λ slot at. slot-fits s x slot fits at) h
  op-lands s m (op.Call x) is fits h = call-lands m x (in_members g.class.members x) is h
  op-lands s m (op.Primitive p) is fits h = primitive-lands m p is h
  op-lands s m (op.Run r) is fits h = same-lands m _ is h (done-lands m (instr.CallBuiltIn built.Print) (λ ok o. tt))
  op-lands s m _ is fits h = absurd (cc)

  -- ---- texts of values

  built-lands : (b : BuiltIn) → Lands_in Value (instr.CallBuiltIn b ∷ [])
  built-lands b = one_lands (instr.CallBuiltIn b) (λ ok o. tt)

  text_by-lands : (b : BuiltIn) → Lands_in Value (text_by b)
  text_by-lands b = lands-both g.table g.pool g.is_far Value (instr.CallBuiltIn b ∷ []) (instr.CallBuiltIn built.ToString ∷ []) (built-lands b) (built-lands built.ToString)

  pub text-lands : (k : Option Kind) (is : List Instr) → text_of k ≡ Some is → Lands_in Value is
  text-lands None is h = absurd (cc)
  text-lands (Some kind.Unit) is h = same-lands Value _ is h (built-lands built.ToString)
  text-lands (Some kind.Boolean) is h = same-lands Value _ is h (text_by-lands built.BoxBoolean)
  text-lands (Some kind.Int) is h = same-lands Value _ is h (text_by-lands built.BoxInt)
  text-lands (Some kind.Long) is h = same-lands Value _ is h (text_by-lands built.BoxLong)
  text-lands (Some kind.String) is h = same-lands Value _ is h (lands-nil g.table g.pool g.is_far)
  text-lands (Some kind.Strings) is h = absurd (cc)
  text-lands (Some kind.This) is h = absurd (cc)
