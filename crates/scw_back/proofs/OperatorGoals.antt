-- The code of an operator stands where it should.
use Rattle.std.proofs.Common.{◌≡◌, ℕ, zero, suc, ◌+◌, ◌≤◌, ◌<◌, ◌^◌, Bool, true, false, cond, ◌&&◌, List, [], ◌∷◌, Option, Some, None, refl, sym, ap, ◌∙◌, subst, inl, arith, nat_eq, nat_le, nat_lt, ltb-true, pos, negsuc}
use Rattle.std.specs.Int.{w32, cast_signed}
use Rattle.std.proofs.lemmas.Bool.{cond_both, leb-true}
use Rattle.std.proofs.lemmas.Int.{of_z-to_z}
use Rattle.scw_text.specs.declared.number.SymId.{SymId}
use Rattle.scw_text.specs.declared.number.TypeId.{TypeId}
use Rattle.scw_value.specs.declared.arithmetic.Arithmetic.{Arithmetic}
use Rattle.scw_value.specs.declared.comparison.Comparison.{Comparison}
use Rattle.scw_value.specs.declared.comparison.Comparison.TheVariants as comparison
use Rattle.scw_value.specs.declared.division.Division.{Division}
use Rattle.scw_classfile.specs.declared.pool_entry.PoolEntry.{PoolEntry}
use Rattle.scw_core.specs.Program as core
use Rattle.scw_core.specs.Program.{in_members, text_at}
use Rattle.scw_core.specs.declared.class.CoreClass.{CoreClass}
use Rattle.scw_core.specs.declared.class.Member.{Member}
use Rattle.scw_core.specs.declared.operator.Literal.{Literal}
use Rattle.scw_core.specs.declared.operator.Literal.TheVariants as literals
use Rattle.scw_core.specs.declared.operator.Logic.{Logic}
use Rattle.scw_core.specs.declared.operator.Logic.TheVariants as logics
use Rattle.scw_core.specs.declared.operator.Op.{Op}
use Rattle.scw_core.specs.declared.operator.Op.TheVariants as op
use Rattle.scw_core.specs.declared.operator.Primitive.{Primitive}
use Rattle.scw_core.specs.declared.operator.Primitive.TheVariants as primitives
use Rattle.scw_core.specs.declared.operator.RunMethod.{RunMethod}
use Rattle.scw_core.specs.declared.operator.TextId.{TextId}
use Rattle.scw_core.specs.declared.operator.Width.{Width}
use Rattle.scw_core.specs.declared.operator.Width.TheVariants as width
use Rattle.scw_gen.specs.declared.instr.BuiltIn.TheVariants as built
use Rattle.scw_gen.specs.declared.instr.Constant.TheVariants as constant
use Rattle.scw_gen.specs.declared.instr.Instr.{Instr}
use Rattle.scw_gen.specs.declared.instr.Instr.TheVariants as instr
use Rattle.scw_gen.specs.declared.kind.Kind.{Kind}
use Rattle.scw_gen.specs.declared.kind.Kind.TheVariants as kind
use Rattle.scw_gen.specs.declared.kind.Word.{Word}
use Rattle.scw_gen.specs.declared.mode.Mode.{Mode}
use Rattle.scw_gen.specs.declared.mode.Mode.TheVariants.{Value, Effect, Test, Return}
use Rattle.scw_gen.specs.declared.operator.Form.{Form}
use Rattle.scw_gen.specs.declared.operator.Form.TheVariants.{Values, Effects, Texts}
use Rattle.scw_gen.specs.declared.scope.Slot.{Slot}
use Rattle.scw_gen.specs.Around.{Around, kind_in}
use Rattle.scw_gen.specs.Instr.{bytes_of, is_between, size_of}
use Rattle.scw_gen.specs.Kind.{width_of, word_of}
use Rattle.scw_gen.specs.Method.{is_method}
use Rattle.scw_gen.specs.Mode.{bit, ended, unit}
use Rattle.scw_gen.specs.Mode as modes
use Rattle.scw_gen.specs.Operator.{call_of, called, called_in, done, form_of, form_of_value, given_by, int_instr, kind_of_width, literal, loaded, local, logic, long_instr, made, op_code, primitive, set_local, string_instr}
use Rattle.scw_gen.specs.Outcome.{◌>>=◌}
use Rattle.scw_gen.specs.Pool.{integer_index, string_index}
use Rattle.scw_gen.specs.Room.{of_call_of, of_given, of_literal, of_op, of_result, width_at}
use Rattle.scw_gen.specs.Scope.{Scope, slot_of}
use Rattle.scw_gen.specs.Typed as typed
use Rattle.scw_gen.specs.Typed.{Known, kind_of_call, kind_of_call_by, kind_of_joined, kind_of_literal, kind_of_logic, kind_of_op, kind_of_primitive, kind_of_read, kind_of_set, kinds_of_parameters, known, taking}
use Rattle.scw_gen.proofs.Landing.{reach}
use Rattle.scw_gen.proofs.Steps.{bound}
use Rattle.scw_frame.specs.declared.operation.BuiltIn.TheVariants as machine
use Rattle.scw_frame.specs.declared.operation.Operation.{Operation}
use Rattle.scw_frame.specs.declared.operation.Operation.TheVariants as operation
use Rattle.scw_frame.specs.declared.program.Method.{Method}
use Rattle.scw_frame.specs.declared.program.Program.{Program}
use Rattle.scw_frame.specs.declared.program.Target.TheVariants as target
use Rattle.scw_frame.specs.declared.value.Value.TheVariants.{Int, Long}
use Rattle.scw_back.proofs.Placed.{At, LoadsText, Means, Selects, StandsAt, Stood, arithmetic_of, division_of, value_of_kind, value_of_word, m_int, m_wide_int, m_text, m_wide_text, m_long_bit, m_long, m_load, m_store, m_arithmetic, m_division, m_call}
use Rattle.scw_back.proofs.Loaded.{around_by}
use Rattle.scw_back.proofs.Goals.{Behind, Goal, OpAt, PutAt, UnitAt, goal_of, drop, p_made, b_unit, b_value, o_unit, o_boolean, o_int, o_long, o_text, o_no_text, o_local, o_set, o_call, o_idle, o_arithmetic, o_division, o_comparison, o_equal, o_not_equal, o_concatenate, o_print, ComparedAt}
use Rattle.scw_back.proofs.Matches.{Matches}
use Rattle.scw_back.proofs.CodeGoals.{Fits, Only, behind-one, comparison-at, only-number, only-static, put-at, same-stand, there-as, truth-at, unit-at}
use Rattle.scw_back.proofs.TypedKinds.{leaf-kind, some-is, taking-is}

-- ---- what instructions of operators mean

module _ (p : core.Program) (K : CoreClass) (L : Program) where
  abbrev Sure : ℕ → Instr → Operation → Type 0
  Sure pc i o = Only p.table K L pc i o

  only-constant : (n pc : ℕ) → Sure pc (instr.Constant (constant.Int n)) (operation.Push (Int n))
  only-constant n pc x (m_int n') = refl

  only-wide : (n pc : ℕ) → Sure pc (instr.WideConstant (constant.Int n)) (operation.Push (Int n))
  only-wide n pc x (m_wide_int n') = refl

  only-loaded : (index n pc : ℕ) → Sure pc (loaded index (constant.Int n)) (operation.Push (Int n))
  only-loaded index n pc = cond_both (nat_le index 255) (instr.Constant (constant.Int n)) (instr.WideConstant (constant.Int n)) (λ (i : Instr). Sure pc i (operation.Push (Int n))) (λ h. only-constant n pc) (λ h. only-wide n pc)

  only-int : (g : Around) (n pc : ℕ) → n < 2 ^ 32 → Sure pc (int_instr g n) (operation.Push (Int n))
  only-int g n pc small =
      let z = cast_signed w32 n in
      let i = loaded (integer_index g.pool n) (constant.Int n) in
      cond_both (is_between (negsuc 32767) (pos 32767) z) (instr.Number z) i (λ (j : Instr). Sure pc j (operation.Push (Int n)))
      (λ h x means. only-number p.table K L z pc x means ∙ ap (λ k. operation.Push (Int k)) (of_z-to_z w32 n small)) (λ h. only-loaded (integer_index g.pool n) n pc)

  only-long_bit : (b : Bool) (pc : ℕ) → Sure pc (instr.LongBit b) (operation.Push (Long (bit b)))
  only-long_bit b pc x (m_long_bit b') = refl

  only-long_constant : (n pc : ℕ) → Sure pc (instr.LongConstant n) (operation.Push (Long n))
  only-long_constant n pc x (m_long n') = refl

  bit-is : (n : ℕ) → n ≤ 1 → bit (nat_eq n 1) ≡ n
  bit-is zero h = refl
  bit-is (suc zero) h = refl
  bit-is (suc (suc n)) h = absurd (omega (arith, h))

  only-long : (n pc : ℕ) → Sure pc (long_instr n) (operation.Push (Long n))
  only-long n pc =
      cond_both (nat_le n 1) (instr.LongBit (nat_eq n 1)) (instr.LongConstant n) (λ (i : Instr). Sure pc i (operation.Push (Long n)))
      (λ h x means. only-long_bit (nat_eq n 1) pc x means ∙ ap (λ k. operation.Push (Long k)) (bit-is n (leb-true n 1 h))) (λ h. only-long_constant n pc)

  -- the text of a constant is loaded
  abbrev LoadsOne : TextId → Operation → Type 0
  LoadsOne t x = (n : ℕ) × (LoadsText p.table K L t n) × (x ≡ operation.PushText (record { 0 = n }))

  means-constant : (t : TextId) (pc : ℕ) (x : Operation) → Means p.table K L pc (instr.Constant (constant.Text t)) x → LoadsOne t x
  means-constant t pc x (m_text n l) = (n, l, refl)

  means-wide : (t : TextId) (pc : ℕ) (x : Operation) → Means p.table K L pc (instr.WideConstant (constant.Text t)) x → LoadsOne t x
  means-wide t pc x (m_wide_text n l) = (n, l, refl)

  means-loaded : (index : ℕ) (t : TextId) (pc : ℕ) (x : Operation) → Means p.table K L pc (loaded index (constant.Text t)) x → LoadsOne t x
  means-loaded index t pc = cond_both (nat_le index 255) (instr.Constant (constant.Text t)) (instr.WideConstant (constant.Text t)) (λ (i : Instr). (x : Operation) → Means p.table K L pc i x → LoadsOne t x)
      (λ h. means-constant t pc) (λ h. means-wide t pc)

  only-load : (w : Word) (n pc : ℕ) → Sure pc (instr.Load w n) (operation.Load (value_of_word w) n)
  only-load w n pc x (m_load w' n') = refl

  only-store : (w : Word) (n pc : ℕ) → Sure pc (instr.Store w n) (operation.Store (value_of_word w) n)
  only-store w n pc x (m_store w' n') = refl

  only-arithmetic : (w : Width) (o : Arithmetic) (pc : ℕ) → Sure pc (instr.Arithmetic w o) (arithmetic_of w o)
  only-arithmetic w o pc x (m_arithmetic w' o') = refl

  only-division : (w : Width) (o : Division) (pc : ℕ) → Sure pc (instr.Division w o) (division_of w o)
  only-division w o pc x (m_division w' o') = refl

  abbrev CallsOne : SymId → Operation → Type 0
  CallsOne s x = (selector : ℕ) × (Selects p.table K L s selector) × (x ≡ operation.CallVirtual (record { 0 = selector }))

  means-call : (s : SymId) (pc : ℕ) (x : Operation) → Means p.table K L pc (instr.Call s) x → CallsOne s x
  means-call s pc x (m_call selector h) = (selector, h, refl)

-- ---- operators

module _ (p : core.Program) (K : CoreClass) (pool : List PoolEntry) (far : Bool) (L : Program) (m : Method) where
  abbrev g : Around
  g = around_by p K pool far

  -- kinds don't depend on how jumps are made
  abbrev near : Around
  near = around_by p K pool false

  abbrev Stand : ℕ → List Instr → Type 0
  Stand pc is = Stood p.table K L m pc is

  there : (pc : ℕ) (i : Instr) (o : Operation) → StandsAt p.table K L m pc i → Only p.table K L pc i o → At p.table K L m pc o (pc + size_of i)
  there pc i o s only = there-as p.table K L m pc i o s only

  call-there : (x : SymId) (pc : ℕ) → StandsAt p.table K L m pc (instr.Call x) → (selector : ℕ) × (Selects p.table K L x selector) × (At p.table K L m pc (operation.CallVirtual (record { 0 = selector })) (pc + 3))
  call-there x pc s = let c = means-call p K L x pc s.operation s.means in (c.0, c.1, subst (λ (o : Operation). At p.table K L m pc o (pc + 3)) c.2 s.there)

  -- an instruction, and then `()`
  done-at : (mode : Mode) (i : Instr) (d pc e : ℕ) → Fits mode kind.Unit → of_given mode 1 ≤ d → Stand pc (done g mode i) → e ≡ pc + bytes_of (done g mode i) → e + reach mode ≤ 65535 → UnitAt p K pool L m d (goal_of mode e) (pc + size_of i)
  unfolding bytes_of
  done-at mode i d pc e fits room st at few = unit-at p K pool L m far mode d (pc + size_of i) e fits room st.1 (omega (arith, at)) few

  module _ (ys : List Known) (s : Scope) (d : ℕ) where
    abbrev Op_at : Form → Op → List Kind → Kind → Goal → ℕ → Type 0
    Op_at f o ks k goal pc = OpAt p K pool L m ys s d f o ks k goal pc

    -- of a kind that is the same
    of-kind : (mode : Mode) (f : Form) (o : Op) (ks : List Kind) (l k : Kind) (pc e : ℕ) → l ≡ k → Fits mode k → (Fits mode l → Op_at f o ks l (goal_of mode e) pc) → Op_at f o ks k (goal_of mode e) pc
    of-kind mode f o ks l k pc e same fits make = subst (λ (x : Kind). Op_at f o ks x (goal_of mode e) pc) same (make (subst (λ (x : Kind). Fits mode x) (sym same) fits))

    of-kinds : (f : Form) (o : Op) (ls ks : List Kind) (k : Kind) (goal : Goal) (pc : ℕ) → ls ≡ ks → Op_at f o ls k goal pc → Op_at f o ks k goal pc
    of-kinds f o ls ks k goal pc same h = subst (λ (xs : List Kind). Op_at f o xs k goal pc) same h

    -- ---- literals

    text-made : (mode : Mode) (f : Form) (t : TextId) (text : List ℕ) (pc e : ℕ) → Fits mode kind.String → 1 ≤ d → Stand pc (string_instr g t text ∷ ended far mode kind.String) → e ≡ pc + bytes_of (string_instr g t text ∷ ended far mode kind.String)
        → e + reach mode ≤ 65535 → Op_at f (op.Literal (literals.String t)) [] kind.String (goal_of mode e) pc
    text-made mode f t text pc e fits room st at few =
        let i = string_instr g t text in
        let l = means-loaded p K L (string_index g.pool text) t pc st.0.operation st.0.means in
        let stands = subst (λ (x : Operation). At p.table K L m pc x (pc + size_of i)) l.2 st.0.there in
        o_text {x = l.0} l.1 (p_made {r = pc + size_of i} room stands (behind-one p K pool L m far mode kind.String i pc e fits st at few))

    string-at : (mode : Mode) (f : Form) (t : TextId) (text : List ℕ) (pc e : ℕ) → text_at p.table t ≡ Some text → Fits mode kind.String → of_given mode 1 ≤ d → Stand pc (given_by g mode kind.String (string_instr g t text))
        → e ≡ pc + bytes_of (given_by g mode kind.String (string_instr g t text)) → e + reach mode ≤ 65535 → Op_at f (op.Literal (literals.String t)) [] kind.String (goal_of mode e) pc
    unfolding bytes_of
    string-at Value f t text pc e is fits room st at few = text-made Value f t text pc e fits room st at few
    string-at Effect f t text pc e is fits room st at few = o_no_text {text = text} is (inl (omega (arith, at)))
    string-at (Test sense way) f t text pc e is fits room st at few = text-made (Test sense way) f t text pc e fits room st at few
    string-at (Return w) f t text pc e is fits room st at few = text-made (Return w) f t text pc e fits room st at few

    -- a number below a limit
    below : (n max : ℕ) (l k : Kind) → cond (nat_lt n max) (Some l) None ≡ Some k → (n < max) × (l ≡ k)
    below n max l k h = by (nat_lt n max) refl h
      where
        by : (b : Bool) → nat_lt n max ≡ b → cond b (Some l) None ≡ Some k → (n < max) × (l ≡ k)
        by true e h = (ltb-true n max e, some-is l k h)
        by false e h = absurd (cc)

    text-kind : (o : Option (List ℕ)) (k : Kind) → typed.kind_of_text o ≡ Some k → kind.String ≡ k
    text-kind None k h = absurd (cc)
    text-kind (Some us) k h = some-is kind.String k h

    literal-at : (mode : Mode) (f : Form) (l : Literal) (k : Kind) (is : List Instr) (pc e : ℕ) → kind_of_literal near l ≡ Some k → literal g mode l ≡ Some is → Fits mode k → of_literal mode l ≤ d → Stand pc is → e ≡ pc + bytes_of is → e + reach mode ≤ 65535
        → Op_at f (op.Literal l) [] k (goal_of mode e) pc
    literal-at mode f literals.Unit k is pc e h c fits room st at few =
        let s = same-stand p K pool L m (unit far mode) is pc e c st at in
        of-kind mode f (op.Literal literals.Unit) [] kind.Unit k pc e (some-is kind.Unit k h) fits (λ fit. o_unit (unit-at p K pool L m far mode d pc e fit room s.0 s.1 few))
    literal-at mode f (literals.Boolean b) k is pc e h c fits room st at few =
        let s = same-stand p K pool L m (modes.truth far mode b) is pc e c st at in
        of-kind mode f (op.Literal (literals.Boolean b)) [] kind.Boolean k pc e (some-is kind.Boolean k h) fits (λ fit. o_boolean (truth-at p K pool L m far mode b d pc e fit room s.0 s.1 few))
    literal-at mode f (literals.Char x) k is pc e h c fits room st at few = absurd (cc)
    literal-at mode f (literals.Int n) k is pc e h c fits room st at few =
        let s = same-stand p K pool L m (given_by g mode kind.Int (int_instr g n)) is pc e c st at in
        let b = below n (2 ^ 32) kind.Int k h in
        of-kind mode f (op.Literal (literals.Int n)) [] kind.Int k pc e b.1 fits
        (λ fit. o_int b.0 (put-at p K pool L m far mode kind.Int (int_instr g n) (operation.Push (Int n)) d pc e fit (only-int p K L g n pc b.0) room s.0 s.1 few))
    literal-at mode f (literals.Long n) k is pc e h c fits room st at few =
        let s = same-stand p K pool L m (given_by g mode kind.Long (long_instr n)) is pc e c st at in
        let b = below n (2 ^ 64) kind.Long k h in
        of-kind mode f (op.Literal (literals.Long n)) [] kind.Long k pc e b.1 fits
        (λ fit. o_long b.0 (put-at p K pool L m far mode kind.Long (long_instr n) (operation.Push (Long n)) d pc e fit (only-long p K L n pc) room s.0 s.1 few))
    literal-at mode f literals.Null k is pc e h c fits room st at few = absurd (cc)
    literal-at mode f (literals.String t) k is pc e h c fits room st at few =
        let b = bound (text_at p.table t) (λ text. Some (given_by g mode kind.String (string_instr g t text))) is c in
        let s = same-stand p K pool L m (given_by g mode kind.String (string_instr g t b.0)) is pc e b.2 st at in
        of-kind mode f (op.Literal (literals.String t)) [] kind.String k pc e (text-kind (text_at p.table t) k h) fits (λ fit. string-at mode f t b.0 pc e b.1 fit room s.0 s.1 few)

    -- ---- locals

    read-is : (o : Option Known) (k : Kind) → kind_of_read o ≡ Some k → (y : Known) × (o ≡ Some y) × (y.is_set ≡ true) × (y.kind ≡ k)
    read-is None k h = absurd (cc)
    read-is (Some y) k h = by y.is_set refl h
      where
        by : (b : Bool) → y.is_set ≡ b → cond b (Some y.kind) None ≡ Some k → (z : Known) × (Some y ≡ Some z) × (z.is_set ≡ true) × (z.kind ≡ k)
        by true e h = (y, refl, e, some-is y.kind k h)
        by false e h = absurd (cc)

    local-at : (mode : Mode) (f : Form) (x : SymId) (t : TypeId) (k : Kind) (is : List Instr) (pc e : ℕ) → Matches ys s → kind_of_read (known ys x) ≡ Some k → kind_in near t ≡ Some k → local g mode (slot_of s x) ≡ Some is → Fits mode k
        → of_given mode (width_at g t) ≤ d → Stand pc is → e ≡ pc + bytes_of is → e + reach mode ≤ 65535 → Op_at f (op.Local x) [] k (goal_of mode e) pc
    local-at mode f x t k is pc e matches h told c fits room st at few =
        let r = read-is (known ys x) k h in
        let y = r.0 in
        let slots = matches.found x y r.1 in
        let slot = slots.0 in
        let i = instr.Load (word_of slot.kind) slot.place in
        let c2 = subst (λ (o : Option Slot). local g mode o ≡ Some is) slots.1 c in
        let stands = same-stand p K pool L m (given_by g mode slot.kind i) is pc e c2 st at in
        let same : slot.kind ≡ k = slots.2 ∙ r.3 in
        let wide : width_at g t ≡ width_of k = rw told refl in
        let room2 = subst (λ n. of_given mode n ≤ d) (wide ∙ ap width_of (sym same)) room in
        let put = put-at p K pool L m far mode slot.kind i (operation.Load (value_of_kind slot.kind) slot.place) d pc e (subst (λ (l : Kind). Fits mode l) (sym same) fits) (only-load p K L (word_of slot.kind) slot.place pc) room2 stands.0 stands.1 few in
        let put2 = subst (λ (l : Kind). PutAt p K pool L m d (operation.Load (value_of_kind l) slot.place) l (goal_of mode e) pc) slots.2 put in
        of-kind mode f (op.Local x) [] y.kind k pc e r.3 fits (λ fit. o_local {y = y} {slot = slot} r.1 r.2 slots.1 slots.2 put2)

    set-is : (o : Option Known) (ks : List Kind) (k : Kind) → kind_of_set o ks ≡ Some k → (y : Known) × (o ≡ Some y) × (y.kind ∷ [] ≡ ks) × (kind.Unit ≡ k)
    set-is None ks k h = absurd (cc)
    set-is (Some y) ks k h = let t = taking-is (y.kind ∷ []) ks kind.Unit k h in (y, refl, t.0, t.1)

    set-at : (mode : Mode) (f : Form) (x : SymId) (ks : List Kind) (k : Kind) (is : List Instr) (pc e : ℕ) → Matches ys s → kind_of_set (known ys x) ks ≡ Some k → set_local g mode (slot_of s x) ≡ Some is → Fits mode k
        → of_given mode 1 ≤ d → Stand pc is → e ≡ pc + bytes_of is → e + reach mode ≤ 65535 → Op_at Values (op.SetLocal x) ks k (goal_of mode e) pc
    set-at mode f x ks k is pc e matches h c fits room st at few =
        let r = set-is (known ys x) ks k h in
        let y = r.0 in
        let slots = matches.found x y r.1 in
        let slot = slots.0 in
        let i = instr.Store (word_of slot.kind) slot.place in
        let c2 = subst (λ (o : Option Slot). set_local g mode o ≡ Some is) slots.1 c in
        let stands = same-stand p K pool L m (done g mode i) is pc e c2 st at in
        let stores = there pc i (operation.Store (value_of_kind slot.kind) slot.place) stands.0.0 (only-store p K L (word_of slot.kind) slot.place pc) in
        let stores2 = subst (λ (l : Kind). At p.table K L m pc (operation.Store (value_of_kind l) slot.place) (pc + size_of i)) slots.2 stores in
        of-kind mode Values (op.SetLocal x) ks kind.Unit k pc e r.3 fits
        (λ fit. of-kinds Values (op.SetLocal x) (y.kind ∷ []) ks kind.Unit (goal_of mode e) pc r.2 (o_set {y = y} {slot = slot} r.1 slots.1 slots.2 stores2 (done-at mode i d pc e fit room stands.0 stands.1 few)))

    -- ---- calls

    value-behind : (mode : Mode) (x : SymId) (k : Kind) (pc e : ℕ) → 1 ≤ typed.rank k → Fits mode k → width_of k ≤ d → Stand pc (made g mode k (instr.Call x)) → e ≡ pc + bytes_of (made g mode k (instr.Call x)) → e + reach mode ≤ 65535 → Behind p K pool L m d k (goal_of mode e) (pc + 3)
    value-behind mode x k pc e ranks fits room st at few = b_value ranks room (behind-one p K pool L m far mode k (instr.Call x) pc e fits st at few)

    called-at : (mode : Mode) (x : SymId) (k : Kind) (pc e : ℕ) → Fits mode k → of_result mode (Some k) ≤ d → Stand pc (called g mode x k) → e ≡ pc + bytes_of (called g mode x k) → e + reach mode ≤ 65535
        → StandsAt p.table K L m pc (instr.Call x) × Behind p K pool L m d k (goal_of mode e) (pc + 3)
    called-at mode x kind.Unit pc e fits room st at few = (st.0, b_unit (done-at mode (instr.Call x) d pc e fits room st at few))
    called-at mode x kind.Boolean pc e fits room st at few = (st.0, value-behind mode x kind.Boolean pc e (omega arith) fits room st at few)
    called-at mode x kind.Int pc e fits room st at few = (st.0, value-behind mode x kind.Int pc e (omega arith) fits room st at few)
    called-at mode x kind.Long pc e fits room st at few = (st.0, value-behind mode x kind.Long pc e (omega arith) fits room st at few)
    called-at mode x kind.String pc e fits room st at few = (st.0, value-behind mode x kind.String pc e (omega arith) fits room st at few)
    called-at mode x kind.Strings pc e fits room st at few = (st.0, value-behind mode x kind.Strings pc e (omega arith) fits room st at few)
    called-at mode x kind.This pc e fits room st at few = (st.0, value-behind mode x kind.This pc e (omega arith) fits room st at few)

    -- the member that is called, with the kinds of its parameters and its result
    pub record CallKind (x : SymId) (ks : List Kind) (k : Kind) : Type 0 where
      pub member : Member
      pub parameters : List Kind
      pub member_is : in_members K.members x ≡ Some member
      pub parameters_are : kinds_of_parameters near member.parameters ≡ Some parameters
      pub result_is : kind_in near member.result ≡ Some k
      pub kinds_are : kind.This ∷ parameters ≡ ks

    call-kind : (x : SymId) (ks : List Kind) (k : Kind) (o : Option Member) → in_members K.members x ≡ o → kind_of_call near ks o ≡ Some k → CallKind x ks k
    call-kind x ks k None there h = absurd (cc)
    call-kind x ks k (Some member) there h = by (is_method member) h
      where
        by : (b : Bool) → cond b (kind_of_call_by near member ks) None ≡ Some k → CallKind x ks k
        by true h =
            let a = bound (kinds_of_parameters near member.parameters) (λ ps. kind_in near member.result >>= taking (kind.This ∷ ps) ks) k h in
            let b = bound (kind_in near member.result) (taking (kind.This ∷ a.0) ks) k a.2 in
            let t = taking-is (kind.This ∷ a.0) ks b.0 k b.2 in
            record { member = member; parameters = a.0; member_is = there; parameters_are = a.1; result_is = b.1 ∙ ap Some t.1; kinds_are = t.0 }
        by false h = absurd (cc)

    call-at : (mode : Mode) (f : Form) (x : SymId) (ks : List Kind) (k : Kind) (is : List Instr) (pc e : ℕ) → CallKind x ks k → call_of g mode x (in_members K.members x) ≡ Some is → Fits mode k
        → of_call_of g mode (in_members K.members x) ≤ d → Stand pc is → e ≡ pc + bytes_of is → e + reach mode ≤ 65535 → Op_at Values (op.Call x) ks k (goal_of mode e) pc
    call-at mode f x ks k is pc e call c fits room st at few =
        let c2 = subst (λ (o : Option Member). call_of g mode x o ≡ Some is) call.member_is c in
        let c3 = subst (λ (o : Option Kind). called_in g mode x o ≡ Some is) call.result_is c2 in
        let room2 = subst (λ (o : Option Member). of_call_of g mode o ≤ d) call.member_is room in
        let room3 = subst (λ (o : Option Kind). of_result mode o ≤ d) call.result_is room2 in
        let stands = same-stand p K pool L m (called g mode x k) is pc e c3 st at in
        let b = called-at mode x k pc e fits room3 stands.0 stands.1 few in
        let l = call-there x pc b.0 in
        of-kinds Values (op.Call x) (kind.This ∷ call.parameters) ks k (goal_of mode e) pc call.kinds_are (o_call {r = pc + 3} {selector = l.0} {member = call.member} call.member_is call.parameters_are call.result_is l.1 l.2 b.1)

    -- ---- operators of the built-in types

    -- the value is dropped and never made
    idle : (o : Primitive) (ks : List Kind) (k : Kind) (is : List Instr) (pc e : ℕ) → form_of Effect (op.Primitive o) ≡ Effects → kind_of_primitive o ks ≡ Some k → Some [] ≡ Some is → Stand pc is → e ≡ pc + bytes_of is → Op_at Effects (op.Primitive o) ks k (drop e) pc
    unfolding bytes_of
    idle o ks k is pc e form h c st at = let s = same-stand p K pool L m [] is pc e c st at in let same : pc ≡ e = omega (arith, s.1) in o_idle form h (inl same)

    arithmetic-made : (mode : Mode) (w : Width) (a : Arithmetic) (ks : List Kind) (k : Kind) (is : List Instr) (pc e : ℕ) → kind_of_primitive (primitives.Arithmetic w a) ks ≡ Some k → Some (instr.Arithmetic w a ∷ ended far mode (kind_of_width w)) ≡ Some is → Fits mode k
        → Stand pc is → e ≡ pc + bytes_of is → e + reach mode ≤ 65535 → Op_at Values (op.Primitive (primitives.Arithmetic w a)) ks k (goal_of mode e) pc
    arithmetic-made mode w a ks k is pc e h c fits st at few =
        let i = instr.Arithmetic w a in
        let n = kind_of_width w in
        let stands = same-stand p K pool L m (i ∷ ended far mode n) is pc e c st at in
        let t = taking-is (n ∷ n ∷ []) ks n k h in
        let o = op.Primitive (primitives.Arithmetic w a) in
        of-kind mode Values o ks n k pc e t.1 fits
        (λ fit. of-kinds Values o (n ∷ n ∷ []) ks n (goal_of mode e) pc t.0 (o_arithmetic {r = pc + 1} (there pc i (arithmetic_of w a) stands.0.0 (only-arithmetic p K L w a pc)) (behind-one p K pool L m far mode n i pc e fit stands.0 stands.1 few)))

    arithmetic-at : (mode : Mode) (w : Width) (a : Arithmetic) (ks : List Kind) (k : Kind) (is : List Instr) (pc e : ℕ) → kind_of_primitive (primitives.Arithmetic w a) ks ≡ Some k → Some (given_by g mode (kind_of_width w) (instr.Arithmetic w a)) ≡ Some is → Fits mode k
        → Stand pc is → e ≡ pc + bytes_of is → e + reach mode ≤ 65535 → Op_at (form_of_value mode) (op.Primitive (primitives.Arithmetic w a)) ks k (goal_of mode e) pc
    arithmetic-at Value w a ks k is pc e h c fits st at few = arithmetic-made Value w a ks k is pc e h c fits st at few
    arithmetic-at Effect w a ks k is pc e h c fits st at few = idle (primitives.Arithmetic w a) ks k is pc e refl h c st at
    arithmetic-at (Test sense way) w a ks k is pc e h c fits st at few = arithmetic-made (Test sense way) w a ks k is pc e h c fits st at few
    arithmetic-at (Return v) w a ks k is pc e h c fits st at few = arithmetic-made (Return v) w a ks k is pc e h c fits st at few

    division-at : (mode : Mode) (w : Width) (a : Division) (ks : List Kind) (k : Kind) (is : List Instr) (pc e : ℕ) → kind_of_primitive (primitives.Division w a) ks ≡ Some k → Some (made g mode (kind_of_width w) (instr.Division w a)) ≡ Some is → Fits mode k
        → Stand pc is → e ≡ pc + bytes_of is → e + reach mode ≤ 65535 → Op_at Values (op.Primitive (primitives.Division w a)) ks k (goal_of mode e) pc
    division-at mode w a ks k is pc e h c fits st at few =
        let i = instr.Division w a in
        let n = kind_of_width w in
        let stands = same-stand p K pool L m (i ∷ ended far mode n) is pc e c st at in
        let t = taking-is (n ∷ n ∷ []) ks n k h in
        let o = op.Primitive (primitives.Division w a) in
        of-kind mode Values o ks n k pc e t.1 fits
        (λ fit. of-kinds Values o (n ∷ n ∷ []) ks n (goal_of mode e) pc t.0 (o_division {r = pc + 1} (there pc i (division_of w a) stands.0.0 (only-division p K L w a pc)) (behind-one p K pool L m far mode n i pc e fit stands.0 stands.1 few)))

    -- a comparison by an operator that its rule makes one
    compared-made : (mode : Mode) (o : Primitive) (w : Width) (c : Comparison) (l : Kind) (ks : List Kind) (k : Kind) (is : List Instr) (pc e : ℕ) → form_of_value mode ≡ Values → taking (l ∷ l ∷ []) ks kind.Boolean ≡ Some k
        → ((goal : Goal) (q : ℕ) → ComparedAt p K pool L m w c goal q → Op_at Values (op.Primitive o) (l ∷ l ∷ []) kind.Boolean goal q) → Some (modes.comparison far mode w c) ≡ Some is → Fits mode k
        → Stand pc is → e ≡ pc + bytes_of is → e + reach mode ≤ 65535 → Op_at Values (op.Primitive o) ks k (goal_of mode e) pc
    compared-made mode o w c l ks k is pc e form h rule same fits st at few =
        let stands = same-stand p K pool L m (modes.comparison far mode w c) is pc e same st at in
        let t = taking-is (l ∷ l ∷ []) ks kind.Boolean k h in
        of-kind mode Values (op.Primitive o) ks kind.Boolean k pc e t.1 fits
        (λ fit. of-kinds Values (op.Primitive o) (l ∷ l ∷ []) ks kind.Boolean (goal_of mode e) pc t.0 (rule (goal_of mode e) pc (comparison-at p K pool L m far mode w c pc e form fit stands.0 stands.1 few)))

    compared-at : (mode : Mode) (o : Primitive) (w : Width) (c : Comparison) (l : Kind) (ks : List Kind) (k : Kind) (is : List Instr) (pc e : ℕ) → form_of Effect (op.Primitive o) ≡ Effects → kind_of_primitive o ks ≡ Some k → taking (l ∷ l ∷ []) ks kind.Boolean ≡ Some k
        → ((goal : Goal) (q : ℕ) → ComparedAt p K pool L m w c goal q → Op_at Values (op.Primitive o) (l ∷ l ∷ []) kind.Boolean goal q) → Some (modes.comparison far mode w c) ≡ Some is → Fits mode k
        → Stand pc is → e ≡ pc + bytes_of is → e + reach mode ≤ 65535 → Op_at (form_of_value mode) (op.Primitive o) ks k (goal_of mode e) pc
    compared-at Value o w c l ks k is pc e form h h2 rule same fits st at few = compared-made Value o w c l ks k is pc e refl h2 rule same fits st at few
    compared-at Effect o w c l ks k is pc e form h h2 rule same fits st at few = idle o ks k is pc e form h same st at
    compared-at (Test sense way) o w c l ks k is pc e form h h2 rule same fits st at few = compared-made (Test sense way) o w c l ks k is pc e refl h2 rule same fits st at few
    compared-at (Return v) o w c l ks k is pc e form h h2 rule same fits st at few = compared-made (Return v) o w c l ks k is pc e refl h2 rule same fits st at few

    logic-at : (mode : Mode) (l : Logic) (ks : List Kind) (k : Kind) (is : List Instr) (pc e : ℕ) → kind_of_logic l ks ≡ Some k → logic g mode l ≡ Some is → Fits mode k
        → Stand pc is → e ≡ pc + bytes_of is → e + reach mode ≤ 65535 → Op_at (form_of_value mode) (op.Primitive (primitives.Logic l)) ks k (goal_of mode e) pc
    logic-at mode logics.And ks k is pc e h c fits st at few = absurd (cc)
    logic-at mode logics.Or ks k is pc e h c fits st at few = absurd (cc)
    logic-at mode logics.Xor ks k is pc e h c fits st at few = absurd (cc)
    logic-at mode logics.Equal ks k is pc e h c fits st at few = compared-at mode (primitives.Logic logics.Equal) width.Int comparison.Equal kind.Boolean ks k is pc e refl h h (λ goal q x. o_equal x) c fits st at few
    logic-at mode logics.NotEqual ks k is pc e h c fits st at few = compared-at mode (primitives.Logic logics.NotEqual) width.Int comparison.NotEqual kind.Boolean ks k is pc e refl h h (λ goal q x. o_not_equal x) c fits st at few

    joined-kinds : (ks : List Kind) (k : Kind) → kind_of_joined ks ≡ Some k → (a : Kind) × (b : Kind) × (a ∷ b ∷ [] ≡ ks) × (kind.String ≡ k)
    joined-kinds [] k h = absurd (cc)
    joined-kinds (a ∷ []) k h = absurd (cc)
    joined-kinds (a ∷ b ∷ []) k h = by (typed.has_text a && typed.has_text b) h
      where
        by : (c : Bool) → cond c (Some kind.String) None ≡ Some k → (x : Kind) × (y : Kind) × (x ∷ y ∷ [] ≡ a ∷ b ∷ []) × (kind.String ≡ k)
        by true h = (a, b, refl, some-is kind.String k h)
        by false h = absurd (cc)
    joined-kinds (a ∷ b ∷ c ∷ ks) k h = absurd (cc)

    concatenate-at : (mode : Mode) (ks : List Kind) (k : Kind) (is : List Instr) (pc e : ℕ) → kind_of_joined ks ≡ Some k → Some (made g mode kind.String (instr.CallBuiltIn built.Concat)) ≡ Some is → Fits mode k
        → Stand pc is → e ≡ pc + bytes_of is → e + reach mode ≤ 65535 → Op_at Texts (op.Primitive primitives.Concatenate) ks k (goal_of mode e) pc
    concatenate-at mode ks k is pc e h c fits st at few =
        let i = instr.CallBuiltIn built.Concat in
        let stands = same-stand p K pool L m (i ∷ ended far mode kind.String) is pc e c st at in
        let j = joined-kinds ks k h in
        let o = op.Primitive primitives.Concatenate in
        let calls = there pc i (operation.CallStatic (target.BuiltIn machine.Concat)) stands.0.0 (only-static p.table K L built.Concat (operation.CallStatic (target.BuiltIn machine.Concat)) pc refl) in
        of-kind mode Texts o ks kind.String k pc e j.3 fits
        (λ fit. of-kinds Texts o (j.0 ∷ j.1 ∷ []) ks kind.String (goal_of mode e) pc j.2 (o_concatenate {r = pc + 3} calls (behind-one p K pool L m far mode kind.String i pc e fit stands.0 stands.1 few)))

    primitive-at : (mode : Mode) (o : Primitive) (ks : List Kind) (k : Kind) (is : List Instr) (pc e : ℕ) → kind_of_primitive o ks ≡ Some k → primitive g mode o ≡ Some is → Fits mode k
        → Stand pc is → e ≡ pc + bytes_of is → e + reach mode ≤ 65535 → Op_at (form_of mode (op.Primitive o)) (op.Primitive o) ks k (goal_of mode e) pc
    primitive-at mode (primitives.Arithmetic w a) ks k is pc e h c fits st at few = arithmetic-at mode w a ks k is pc e h c fits st at few
    primitive-at mode (primitives.Division w a) ks k is pc e h c fits st at few = division-at mode w a ks k is pc e h c fits st at few
    primitive-at mode (primitives.Comparison w a) ks k is pc e h c fits st at few = compared-at mode (primitives.Comparison w a) w a (kind_of_width w) ks k is pc e refl h h (λ goal q x. o_comparison x) c fits st at few
    primitive-at mode (primitives.Logic l) ks k is pc e h c fits st at few = logic-at mode l ks k is pc e h c fits st at few
    primitive-at mode primitives.Concatenate ks k is pc e h c fits st at few = concatenate-at mode ks k is pc e h c fits st at few
    primitive-at mode _ ks k is pc e h c fits st at few = absurd (cc)

    print-at : (mode : Mode) (f : Form) (r : RunMethod) (ks : List Kind) (k : Kind) (is : List Instr) (pc e : ℕ) → taking (kind.String ∷ []) ks kind.Unit ≡ Some k → Some (done g mode (instr.CallBuiltIn built.Print)) ≡ Some is → Fits mode k → of_given mode 1 ≤ d
        → Stand pc is → e ≡ pc + bytes_of is → e + reach mode ≤ 65535 → Op_at Values (op.Run r) ks k (goal_of mode e) pc
    print-at mode f r ks k is pc e h c fits room st at few =
        let i = instr.CallBuiltIn built.Print in
        let stands = same-stand p K pool L m (done g mode i) is pc e c st at in
        let t = taking-is (kind.String ∷ []) ks kind.Unit k h in
        let calls = there pc i (operation.CallStatic (target.BuiltIn machine.Print)) stands.0.0 (only-static p.table K L built.Print (operation.CallStatic (target.BuiltIn machine.Print)) pc refl) in
        of-kind mode Values (op.Run r) ks kind.Unit k pc e t.1 fits
        (λ fit. of-kinds Values (op.Run r) (kind.String ∷ []) ks kind.Unit (goal_of mode e) pc t.0 (o_print {r = pc + 3} calls (done-at mode i d pc e fit room stands.0 stands.1 few)))

    pub op-at : (mode : Mode) (o : Op) (t : TypeId) (ks : List Kind) (k : Kind) (is : List Instr) (pc e : ℕ) → Matches ys s → kind_of_op near ys o ks ≡ Some k → kind_in near t ≡ Some k → op_code g s mode o ≡ Some is → Fits mode k → of_op g mode o t ≤ d
        → Stand pc is → e ≡ pc + bytes_of is → e + reach mode ≤ 65535 → Op_at (form_of mode o) o ks k (goal_of mode e) pc
    op-at mode (op.Literal l) t ks k is pc e matches h told c fits room st at few =
        let leaf = leaf-kind near ys ks (kind_of_literal near l) k h in
        of-kinds Values (op.Literal l) [] ks k (goal_of mode e) pc (sym leaf.0) (literal-at mode Values l k is pc e leaf.1 c fits room st at few)
    op-at mode (op.Local x) t ks k is pc e matches h told c fits room st at few =
        let leaf = leaf-kind near ys ks (kind_of_read (known ys x)) k h in
        of-kinds Values (op.Local x) [] ks k (goal_of mode e) pc (sym leaf.0) (local-at mode Values x t k is pc e matches leaf.1 told c fits room st at few)
    op-at mode (op.SetLocal x) t ks k is pc e matches h told c fits room st at few = set-at mode Values x ks k is pc e matches h c fits room st at few
    op-at mode (op.Call x) t ks k is pc e matches h told c fits room st at few = call-at mode Values x ks k is pc e (call-kind x ks k (in_members K.members x) refl h) c fits room st at few
    op-at mode (op.Primitive o) t ks k is pc e matches h told c fits room st at few = primitive-at mode o ks k is pc e h c fits st at few
    op-at mode (op.Run r) t ks k is pc e matches h told c fits room st at few = print-at mode Values r ks k is pc e h c fits room st at few
    op-at mode _ t ks k is pc e matches h told c fits room st at few = absurd (cc)
