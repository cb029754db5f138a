-- The pool that a class needs has bytes, and each index in it names what it must.
use Rattle.std.proofs.Common.{◌≡◌, ℕ, ◌≤◌, true, false, List, [], ◌∷◌, length, Option, Some, None, refl, sym, ap, ◌∙◌, codes}
use Rattle.std.proofs.lemmas.Option.{cond_some}
use Rattle.scw_classfile.specs.declared.pool_entry.PoolEntry.{PoolEntry}
use Rattle.scw_classfile.specs.Descriptor.{is_method, is_array, is_field, is_return, after_parameters}
use Rattle.scw_classfile.specs.Kinds.{kinds_of}
use Rattle.scw_core.specs.Program.{Program, in_members, text_at}
use Rattle.scw_core.specs.Text.{units_of_name}
use Rattle.scw_core.specs.declared.class.CoreClass.{CoreClass}
use Rattle.scw_core.specs.declared.class.Member.{Member}
use Rattle.scw_core.specs.declared.operator.TextId.{TextId}
use Rattle.scw_gen.specs.declared.instr.BuiltIn.{BuiltIn}
use Rattle.scw_gen.specs.declared.instr.BuiltIn.TheVariants as built
use Rattle.scw_gen.specs.declared.instr.Constant.{Constant}
use Rattle.scw_gen.specs.declared.instr.Constant.TheVariants as constant
use Rattle.scw_gen.specs.declared.instr.Instr.{Instr}
use Rattle.scw_gen.specs.declared.instr.Instr.TheVariants as instr
use Rattle.scw_gen.specs.declared.named.Named.{Named}
use Rattle.scw_gen.specs.declared.named.Named.TheVariants.{Nothing, Integer, Long, Text, Class, Method}
use Rattle.scw_gen.specs.declared.pool.MethodName.{MethodName}
use Rattle.scw_gen.specs.Around.{Around}
use Rattle.scw_gen.specs.Method as methods
use Rattle.scw_gen.specs.Method.{methods_of}
use Rattle.scw_gen.specs.Name.{descriptor, described, method_name, built_in_name, own_method}
use Rattle.scw_gen.specs.Named.{named_by, named_constant, named_member, named_text, with_instrs, with_named}
use Rattle.scw_gen.specs.Pool.{with_utf8, with_class}
use Rattle.scw_gen.specs.Generate.{around, first_pool, needed, with_method, with_methods}
use Rattle.scw_gen.proofs.Steps.{bound}
use Rattle.scw_gen.proofs.PoolIndex.{begins-whole}
use Rattle.scw_gen.proofs.PoolLaid.{Laid, nothing}
use Rattle.scw_gen.proofs.PoolGrown.{Grown, grown-utf8, grown-integer, grown-long, grown-class, grown-string, grown-method}

-- ---- what instructions name

-- a class is no array, and a method has a descriptor of one
abbrev pub Sound : Named → Type 0
Sound Nothing = Unit {0}
Sound (Integer n) = Unit {0}
Sound (Long n) = Unit {0}
Sound (Text us) = Unit {0}
Sound (Class name) = is_array name ≡ false
Sound (Method m) = (is_array m.class ≡ false) × (is_method m.descriptor ≡ true)

pub described-is : (n m : MethodName) → described n ≡ Some m → (n ≡ m) × (is_method m.descriptor ≡ true)
described-is n m h = let c = cond_some (is_method n.descriptor) n m h in let same = c.1 in (same, ap (λ (k : MethodName). is_method k.descriptor) (sym same) ∙ c.0)

module _ (g : Around) where
  -- the name of the class itself
  abbrev own : List ℕ
  own = units_of_name g.class.binary_name

  pub method_name-is : (m : Member) (n : MethodName) → method_name g m ≡ Some n → (n.class ≡ own) × (is_method n.descriptor ≡ true)
  method_name-is m n h =
      let b = bound (descriptor g m) (λ text. described (own_method g (units_of_name m.name) text)) n h in
      let d = described-is (own_method g (units_of_name m.name) b.0) n b.2 in
      (ap (λ (k : MethodName). k.class) (sym d.0), d.1)

  module _ (plain : is_array own ≡ false) where
    method_sound : (m : Option Member) (n : Named) → named_member g m ≡ Some n → Sound n
    method_sound None n h = absurd (cc)
    method_sound (Some m) n h =
        let b = bound (method_name g m) (λ k. Some (Method k)) n h in
        let i = method_name-is m b.0 b.1 in
        is n b.0 b.2 i.0 i.1
      where
        is : (n : Named) (k : MethodName) → Some (Method k) ≡ Some n → k.class ≡ own → is_method k.descriptor ≡ true → Sound n
        is n k h c d = let same : Method k ≡ n = cc in rw (sym same) ((rw c plain, d))

    text_sound : (t : TextId) (n : Named) → named_text g t ≡ Some n → Sound n
    text_sound t n h = let b = bound (text_at g.table t) (λ us. Some (Text us)) n h in let same : Text b.0 ≡ n = (let e = b.2 in cc) in rw (sym same) tt

    constant_sound : (c : Constant) (n : Named) → named_constant g c ≡ Some n → Sound n
    constant_sound (constant.Int k) n h = let same : Integer k ≡ n = cc in rw (sym same) tt
    constant_sound (constant.Text t) n h = text_sound t n h

    built_in_sound : (b : BuiltIn) → Sound (Method (built_in_name b))
    unfolding is_method is_field is_return after_parameters
    built_in_sound built.Print = (refl, refl)
    built_in_sound built.Concat = (refl, refl)
    built_in_sound built.Unit = (refl, refl)
    built_in_sound built.BoxBoolean = (refl, refl)
    built_in_sound built.BoxInt = (refl, refl)
    built_in_sound built.BoxLong = (refl, refl)
    built_in_sound built.ToString = (refl, refl)

    same_sound : (m n : Named) → Some m ≡ Some n → Sound m → Sound n
    same_sound m n h s = let same : m ≡ n = cc in rw (sym same) s

    pub named_sound : (i : Instr) (n : Named) → named_by g i ≡ Some n → Sound n
    unfolding is_method is_field is_return after_parameters
    named_sound (instr.Constant c) n h = constant_sound c n h
    named_sound (instr.WideConstant c) n h = constant_sound c n h
    named_sound (instr.LongConstant k) n h = same_sound (Long k) n h tt
    named_sound (instr.Call x) n h = method_sound (in_members g.class.members x) n h
    named_sound (instr.CallBuiltIn m) n h = same_sound (Method (built_in_name m)) n h (built_in_sound m)
    named_sound instr.InitObject n h = same_sound _ n h (refl, refl)
    named_sound instr.InitThis n h = same_sound _ n h (plain, refl)
    named_sound instr.New n h = same_sound _ n h plain
    named_sound _ n h = same_sound Nothing n h tt

    -- ---- the pool with what they name

    named_grown : (whole p : List PoolEntry) (n : Named) → Sound n → Grown whole p → Grown whole (with_named p n)
    named_grown whole p Nothing s g' = g'
    named_grown whole p (Integer k) s g' = grown-integer whole p g' k
    named_grown whole p (Long k) s g' = grown-long whole p g' k
    named_grown whole p (Text us) s g' = grown-string whole p g' us
    named_grown whole p (Class name) s g' = grown-class whole p g' name s
    named_grown whole p (Method m) s g' = grown-method whole p g' m s.0 s.1

    instrs_grown : (whole p q : List PoolEntry) (is : List Instr) → with_instrs g p is ≡ Some q → Grown whole p → Grown whole q
    unfolding with_instrs
    instrs_grown whole p q [] h g' = let same : p ≡ q = cc in rw (sym same) g'
    instrs_grown whole p q (i ∷ is) h g' =
        let b = bound (named_by g i) (λ n. with_instrs g (with_named p n) is) q h in
        instrs_grown whole (with_named p b.0) q is b.2 (named_grown whole p b.0 (named_sound i b.0 b.1) g')

    method_grown : (whole p q : List PoolEntry) (m : methods.Method) → with_method g p m ≡ Some q → Grown whole p → Grown whole q
    method_grown whole p q m h g' =
        let r = with_utf8 p m.name in
        instrs_grown whole (with_utf8 r m.descriptor) q m.instrs h (grown-utf8 whole r (grown-utf8 whole p g' m.name) m.descriptor)

    methods_grown : (whole p q : List PoolEntry) (ms : List methods.Method) → with_methods g p ms ≡ Some q → Grown whole p → Grown whole q
    unfolding with_methods
    methods_grown whole p q [] h g' = let same : p ≡ q = cc in rw (sym same) g'
    methods_grown whole p q (m ∷ ms) h g' =
        let b = bound (with_method g p m) (λ r. with_methods g r ms) q h in
        methods_grown whole b.0 q ms b.2 (method_grown whole p b.0 m b.1 g')

    first_grown : (whole : List PoolEntry) → Grown whole (first_pool g)
    first_grown whole =
        let p = with_class [] own in
        let q = with_class p (codes "java/lang/Object") in
        grown-utf8 whole q (grown-class whole p (grown-class whole [] (record { laid = λ b. nothing }) own plain) (codes "java/lang/Object") refl) (codes "Code")

-- the pool that a class needs, unless it is too large
pub needed_laid : (p : Program) (k : CoreClass) (pool : List PoolEntry) → is_array (units_of_name k.binary_name) ≡ false → needed p k ≡ Some pool → length pool ≤ 65534 → Laid (kinds_of pool) pool
needed_laid p k pool plain h few =
    let g = around p k [] in
    let b = bound (methods_of g p.bodies) (λ ms. with_methods g (first_pool g) ms) pool h in
    (methods_grown g plain pool (first_pool g) pool b.0 b.2 (first_grown g plain pool)).laid (begins-whole pool few)
