-- The code of operators, under two pools and with jumps near or far: where an operator has a kind, it has both codes, and they
-- name the same.
use Rattle.std.proofs.Common.{◌≡◌, ℕ, ◌^◌, Bool, true, false, cond, List, [], ◌∷◌, Option, Some, None, refl, ap, ◌∙◌, nat_le}
use Rattle.std.specs.Prelude.{nat_lt, nat_eq}
use Rattle.std.proofs.lemmas.Option.{cond_some, none-some}
use Rattle.scw_text.specs.declared.number.SymId.{SymId}
use Rattle.scw_classfile.specs.declared.pool_entry.PoolEntry.{PoolEntry}
use Rattle.scw_core.specs.Program.{Table, in_members, text_at}
use Rattle.scw_core.specs.Text.{units_of_name}
use Rattle.scw_core.specs.declared.class.CoreClass.{CoreClass}
use Rattle.scw_core.specs.declared.class.Member.{Member}
use Rattle.scw_core.specs.declared.operator.Literal.{Literal}
use Rattle.scw_core.specs.declared.operator.Literal.TheVariants as literals
use Rattle.scw_core.specs.declared.operator.Logic.{Logic}
use Rattle.scw_core.specs.declared.operator.Logic.TheVariants as logics
use Rattle.scw_core.specs.declared.operator.Op.{Op}
use Rattle.scw_core.specs.declared.operator.Op.TheVariants as op
use Rattle.scw_core.specs.declared.operator.Primitive.{Primitive}
use Rattle.scw_core.specs.declared.operator.Primitive.TheVariants as primitives
use Rattle.scw_core.specs.declared.operator.TextId.{TextId}
use Rattle.scw_core.specs.declared.operator.Width.TheVariants as width
use Rattle.scw_value.specs.declared.comparison.Comparison.TheVariants as comparisons
use Rattle.scw_gen.specs.Around.{Around, kind_in}
use Rattle.scw_gen.specs.Kind.{word_of}
use Rattle.scw_gen.specs.Method.{is_method}
use Rattle.scw_gen.specs.Mode.{ended, unit}
use Rattle.scw_gen.specs.Name.{built_in_name, method_name}
use Rattle.scw_gen.specs.Named.{named_by, named_constant, named_member, named_text}
use Rattle.scw_gen.specs.Operator.{call_of, called, called_in, done, given_by, int_instr, kind_of_width, literal, loaded, local, logic, long_instr, made, op_code, primitive, set_local, string_instr, text_by, text_of}
use Rattle.scw_gen.specs.Outcome.{◌>>=◌}
use Rattle.scw_gen.specs.Pool.{integer_index, string_index}
use Rattle.scw_gen.specs.Scope.{Scope, slot_of}
use Rattle.scw_gen.specs.Typed.{Known, has_text, kind_of_call, kind_of_call_by, kind_of_leaf, kind_of_literal, kind_of_logic, kind_of_op, kind_of_primitive, kind_of_read, kind_of_set, kind_of_text, kinds_of_parameters, known, taking}
use Rattle.scw_gen.specs.declared.instr.BuiltIn.{BuiltIn}
use Rattle.scw_gen.specs.declared.instr.BuiltIn.TheVariants as built
use Rattle.scw_gen.specs.declared.instr.Constant.{Constant}
use Rattle.scw_gen.specs.declared.instr.Constant.TheVariants as constant
use Rattle.scw_gen.specs.declared.instr.Instr.{Instr}
use Rattle.scw_gen.specs.declared.instr.Instr.TheVariants as instr
use Rattle.scw_gen.specs.declared.kind.Kind.{Kind}
use Rattle.scw_gen.specs.declared.kind.Kind.TheVariants as kind
use Rattle.scw_gen.specs.declared.mode.Mode.{Mode}
use Rattle.scw_gen.specs.declared.named.Named as gen
use Rattle.scw_gen.specs.declared.named.Named.TheVariants.{Nothing, Integer, Long, Text, Method}
use Rattle.scw_gen.specs.declared.pool.MethodName.{MethodName}
use Rattle.scw_gen.specs.declared.scope.Slot.{Slot}
use Rattle.scw_gen.proofs.Steps.{bound}
use Rattle.scw_built.proofs.Sound.{are_units}
use Rattle.scw_built.proofs.Alike.{Alike, Both, Fits, MethodFits, alike-append, alike-none, alike-one, alike-quiet, both}
use Rattle.scw_built.proofs.Covered.{Covers, slot-there}
use Rattle.scw_built.proofs.Modes.{Modes, comparison-alike, ended-alike, given-alike, truth-alike, unit-alike}

-- under a pool, with jumps near or far
abbrev pub under : Table → CoreClass → List PoolEntry → Bool → Around
under table class pool far = record { table = table; class = class; pool = pool; is_far = far }

abbrev pub plain : Table → CoreClass → Around
plain table class = under table class [] false

-- a member has a name and a descriptor, which fit their entries
pub record NameOf (g : Around) (m : Member) : Type 0 where
  pub name : MethodName
  pub is : method_name g m ≡ Some name
  pub same : name.name ≡ units_of_name m.name
  pub fits : MethodFits name

-- texts and members of a class fit their entries
pub record Ready (table : Table) (class : CoreClass) : Type 0 where
  pub texts : (t : TextId) (us : List ℕ) → text_at table t ≡ Some us → are_units us ≡ true
  pub members : (x : SymId) (m : Member) → in_members class.members x ≡ Some m → NameOf (plain table class) m

module _ (table : Table) (class : CoreClass) (ready : Ready table class) (p q : List PoolEntry) (d e : Bool) where
  abbrev N : Around
  N = plain table class

  abbrev G : Around
  G = under table class p d

  abbrev H : Around
  H = under table class q e

  -- ---- single instructions

  loaded-names : (index : ℕ) (c : Constant) → named_by N (loaded index c) ≡ named_constant N c
  loaded-names index c = by (nat_le index 255)
    where
      by : (b : Bool) → named_by N (cond b (instr.Constant c) (instr.WideConstant c)) ≡ named_constant N c
      by true = refl
      by false = refl

  -- a number in the instruction, or in the pool
  one_of_two : (b : Bool) (i j k l : Instr) (n : gen.Named) → named_by N i ≡ Some Nothing → named_by N j ≡ Some Nothing → named_by N k ≡ Some n → named_by N l ≡ Some n → Fits n → Alike N (cond b i k ∷ []) (cond b j l ∷ [])
  one_of_two true i j k l n a c f h t = alike-quiet N i j a c
  one_of_two false i j k l n a c f h t = alike-one N k l n f h t

  int-alike : (n : ℕ) → nat_lt n (2 ^ 32) ≡ true → Alike N (int_instr G n ∷ []) (int_instr H n ∷ [])
  int-alike n t =
      one_of_two _ (instr.Number _) (instr.Number _) (loaded (integer_index p n) (constant.Int n)) (loaded (integer_index q n) (constant.Int n)) (Integer n) refl refl
      (loaded-names (integer_index p n) (constant.Int n)) (loaded-names (integer_index q n) (constant.Int n)) t

  long-alike : (n : ℕ) → nat_lt n (2 ^ 64) ≡ true → Alike N (long_instr n ∷ []) (long_instr n ∷ [])
  long-alike n t = one_of_two (nat_le n 1) (instr.LongBit (nat_eq n 1)) (instr.LongBit (nat_eq n 1)) (instr.LongConstant n) (instr.LongConstant n) (Long n) refl refl refl refl t

  string-alike : (t : TextId) (us : List ℕ) → text_at table t ≡ Some us → Alike N (string_instr G t us ∷ []) (string_instr H t us ∷ [])
  string-alike t us h =
      let is : named_text N t ≡ Some (Text us) = ap (λ (o : Option (List ℕ)). o >>= λ text. Some (Text text)) h in
      alike-one N (string_instr G t us) (string_instr H t us) (Text us) (loaded-names (string_index p us) (constant.Text t) ∙ is) (loaded-names (string_index q us) (constant.Text t) ∙ is) (ready.texts t us h)

  built_in-alike : (b : BuiltIn) → Alike N (instr.CallBuiltIn b ∷ []) (instr.CallBuiltIn b ∷ [])
  built_in-alike b = alike-one N (instr.CallBuiltIn b) (instr.CallBuiltIn b) (Method (built_in_name b)) refl refl (fits b)
    where
      fits : (b : BuiltIn) → MethodFits (built_in_name b)
      fits built.Print = (refl, refl, refl)
      fits built.Concat = (refl, refl, refl)
      fits built.Unit = (refl, refl, refl)
      fits built.BoxBoolean = (refl, refl, refl)
      fits built.BoxInt = (refl, refl, refl)
      fits built.BoxLong = (refl, refl, refl)
      fits built.ToString = (refl, refl, refl)

  -- ---- texts of values

  text-alike : (b : BuiltIn) → Alike N (text_by b) (text_by b)
  text-alike b = alike-append N (instr.CallBuiltIn b ∷ []) (instr.CallBuiltIn b ∷ []) (instr.CallBuiltIn built.ToString ∷ []) (instr.CallBuiltIn built.ToString ∷ []) (built_in-alike b) (built_in-alike built.ToString)

  pub text-both : (k : Kind) → has_text k ≡ true → Both N (text_of (Some k)) (text_of (Some k))
  text-both kind.Unit h = both _ _ (built_in-alike built.ToString)
  text-both kind.Boolean h = both _ _ (text-alike built.BoxBoolean)
  text-both kind.Int h = both _ _ (text-alike built.BoxInt)
  text-both kind.Long h = both _ _ (text-alike built.BoxLong)
  text-both kind.String h = both _ _ (alike-none N)
  text-both kind.Strings h = absurd (cc)
  text-both kind.This h = absurd (cc)

  module _ (m n : Mode) (same : Modes m n) where
    -- a value that one instruction gives
    given_by-both : (k : Kind) (i j : Instr) → Alike N (i ∷ []) (j ∷ []) → Both N (Some (given_by G m k i)) (Some (given_by H n k j))
    given_by-both k i j h = both _ _ (given-alike N d e m n k (i ∷ []) (j ∷ []) same h)

    done-alike : (i : Instr) → Alike N (i ∷ []) (i ∷ []) → Alike N (done G m i) (done H n i)
    done-alike i h = alike-append N (i ∷ []) (i ∷ []) (unit d m) (unit e n) h (unit-alike N d e m n same)

    made-alike : (k : Kind) (i : Instr) → Alike N (i ∷ []) (i ∷ []) → Alike N (made G m k i) (made H n k i)
    made-alike k i h = alike-append N (i ∷ []) (i ∷ []) (ended d m k) (ended e n k) h (ended-alike N d e m n k same)

    -- ---- literals

    string-both : (t : TextId) (o : Option (List ℕ)) (k : Kind) → text_at table t ≡ o → kind_of_text o ≡ Some k
        → Both N (o >>= λ us. Some (given_by G m kind.String (string_instr G t us))) (o >>= λ us. Some (given_by H n kind.String (string_instr H t us)))
    string-both t None k f h = absurd (none-some k h)
    string-both t (Some us) k f h = given_by-both kind.String (string_instr G t us) (string_instr H t us) (string-alike t us f)

    literal-both : (l : Literal) (k : Kind) → kind_of_literal N l ≡ Some k → Both N (literal G m l) (literal H n l)
    literal-both literals.Unit k h = both _ _ (unit-alike N d e m n same)
    literal-both (literals.Boolean b) k h = both _ _ (truth-alike N d e m n b same)
    literal-both (literals.Char c) k h = absurd (none-some k h)
    literal-both (literals.Int c) k h = given_by-both kind.Int (int_instr G c) (int_instr H c) (int-alike c (cond_some (nat_lt c (2 ^ 32)) kind.Int k h).0)
    literal-both (literals.Long c) k h = given_by-both kind.Long (long_instr c) (long_instr c) (long-alike c (cond_some (nat_lt c (2 ^ 64)) kind.Long k h).0)
    literal-both literals.Null k h = absurd (none-some k h)
    literal-both (literals.String t) k h = string-both t (text_at table t) k refl h

    -- ---- locals

    local-both : (o : Option Slot) (s : Slot) → o ≡ Some s → Both N (local G m o) (local H n o)
    local-both None s h = absurd (none-some s h)
    local-both (Some t) s h = let i = instr.Load (word_of t.kind) t.place in given_by-both t.kind i i (alike-quiet N i i refl refl)

    set-both : (o : Option Slot) (s : Slot) → o ≡ Some s → Both N (set_local G m o) (set_local H n o)
    set-both None s h = absurd (none-some s h)
    set-both (Some t) s h = let i = instr.Store (word_of t.kind) t.place in both _ _ (done-alike i (alike-quiet N i i refl refl))

    module _ (s : Scope) (ys : List Known) (covers : Covers s.slots ys) where
      read-both : (x : SymId) (o : Option Known) (k : Kind) → known ys x ≡ o → kind_of_read o ≡ Some k → Both N (local G m (slot_of s x)) (local H n (slot_of s x))
      read-both x None k f h = absurd (none-some k h)
      read-both x (Some y) k f h = let t = slot-there s ys x y covers f in local-both (slot_of s x) t.0 t.1

      written-both : (x : SymId) (o : Option Known) (ks : List Kind) (k : Kind) → known ys x ≡ o → kind_of_set o ks ≡ Some k → Both N (set_local G m (slot_of s x)) (set_local H n (slot_of s x))
      written-both x None ks k f h = absurd (none-some k h)
      written-both x (Some y) ks k f h = let t = slot-there s ys x y covers f in set-both (slot_of s x) t.0 t.1

    -- ---- calls

    call-alike : (x : SymId) (r : Kind) → Alike N (instr.Call x ∷ []) (instr.Call x ∷ []) → Alike N (called G m x r) (called H n x r)
    call-alike x kind.Unit h = done-alike (instr.Call x) h
    call-alike x kind.Boolean h = made-alike kind.Boolean (instr.Call x) h
    call-alike x kind.Int h = made-alike kind.Int (instr.Call x) h
    call-alike x kind.Long h = made-alike kind.Long (instr.Call x) h
    call-alike x kind.String h = made-alike kind.String (instr.Call x) h
    call-alike x kind.Strings h = made-alike kind.Strings (instr.Call x) h
    call-alike x kind.This h = made-alike kind.This (instr.Call x) h

    called-both : (x : SymId) (o : Option Kind) (r : Kind) → o ≡ Some r → Alike N (instr.Call x ∷ []) (instr.Call x ∷ []) → Both N (called_in G m x o) (called_in H n x o)
    called-both x None r h a = absurd (none-some r h)
    called-both x (Some k) r h a = both _ _ (call-alike x k a)

    call-both : (x : SymId) (ks : List Kind) (o : Option Member) (k : Kind) → in_members class.members x ≡ o → kind_of_call N ks o ≡ Some k → Both N (call_of G m x o) (call_of H n x o)
    call-both x ks None k f h = absurd (none-some k h)
    call-both x ks (Some y) k f h = by (is_method y) h
      where
        by : (b : Bool) → cond b (kind_of_call_by N y ks) None ≡ Some k → Both N (call_of G m x (Some y)) (call_of H n x (Some y))
        by true h =
            let a = bound (kinds_of_parameters N y.parameters) (λ ps. kind_in N y.result >>= taking (kind.This ∷ ps) ks) k h in
            let b = bound (kind_in N y.result) (taking (kind.This ∷ a.0) ks) k a.2 in
            let name = ready.members x y f in
            let is : named_member N (in_members class.members x) ≡ Some (Method name.name) = ap (named_member N) f ∙ ap (λ (o : Option MethodName). o >>= λ z. Some (Method z)) name.is in
            called-both x (kind_in N y.result) b.0 b.1 (alike-one N (instr.Call x) (instr.Call x) (Method name.name) is is name.fits)
        by false h = absurd (none-some k h)

    -- ---- operators of the built-in types

    logic-both : (l : Logic) (ks : List Kind) (k : Kind) → kind_of_logic l ks ≡ Some k → Both N (logic G m l) (logic H n l)
    logic-both logics.And ks k h = absurd (none-some k h)
    logic-both logics.Or ks k h = absurd (none-some k h)
    logic-both logics.Xor ks k h = absurd (none-some k h)
    logic-both logics.Equal ks k h = both _ _ (comparison-alike N d e m n width.Int comparisons.Equal same)
    logic-both logics.NotEqual ks k h = both _ _ (comparison-alike N d e m n width.Int comparisons.NotEqual same)

    primitive-both : (o : Primitive) (ks : List Kind) (k : Kind) → kind_of_primitive o ks ≡ Some k → Both N (primitive G m o) (primitive H n o)
    primitive-both (primitives.Arithmetic w o) ks k h = let i = instr.Arithmetic w o in given_by-both (kind_of_width w) i i (alike-quiet N i i refl refl)
    primitive-both (primitives.Division w o) ks k h = let i = instr.Division w o in both _ _ (made-alike (kind_of_width w) i (alike-quiet N i i refl refl))
    primitive-both (primitives.Comparison w c) ks k h = both _ _ (comparison-alike N d e m n w c same)
    primitive-both (primitives.Logic l) ks k h = logic-both l ks k h
    primitive-both primitives.Concatenate ks k h = both _ _ (made-alike kind.String (instr.CallBuiltIn built.Concat) (built_in-alike built.Concat))
    primitive-both _ ks k h = absurd (none-some k h)

    leaf : (ks : List Kind) (o : Option Kind) (k : Kind) → kind_of_leaf ks o ≡ Some k → o ≡ Some k
    leaf [] o k h = h
    leaf (l ∷ ls) o k h = absurd (none-some k h)

    pub op-both : (s : Scope) (ys : List Known) (o : Op) (ks : List Kind) (k : Kind) → Covers s.slots ys → kind_of_op N ys o ks ≡ Some k → Both N (op_code G s m o) (op_code H s n o)
    op-both s ys (op.Literal l) ks k c h = literal-both l k (leaf ks (kind_of_literal N l) k h)
    op-both s ys (op.Local x) ks k c h = read-both s ys c x (known ys x) k refl (leaf ks (kind_of_read (known ys x)) k h)
    op-both s ys (op.SetLocal x) ks k c h = written-both s ys c x (known ys x) ks k refl h
    op-both s ys (op.Call x) ks k c h = call-both x ks (in_members class.members x) k refl h
    op-both s ys (op.Primitive o) ks k c h = primitive-both o ks k h
    op-both s ys (op.Run r) ks k c h = both _ _ (done-alike (instr.CallBuiltIn built.Print) (built_in-alike built.Print))
    op-both s ys _ ks k c h = absurd (none-some k h)
