-- What the instructions of a generated file mean to the machine that runs the program to which it is linked.
use Rattle.std.proofs.Common.{◌≡◌, ℕ, zero, suc, ◌+◌, ◌-◌, ◌<◌, ◌≤◌, pos, neg_ℤ, Bool, true, false, List, [], ◌∷◌, ◌++◌, map, length, Option, Some, None, unwrap_or, slice_get, refl, sym, ap, ◌∙◌, subst, arith, codes}
use Rattle.std.specs.Prelude.{nat_lt}
use Rattle.std.specs.List.{list_all}
use Rattle.std.specs.Option.{option_map}
use Rattle.std.proofs.lemmas.Bool.{and_parts, ltb-true}
use Rattle.std.proofs.lemmas.Option.{same_Some, none-some, slice_get-map}
use Rattle.scw_text.specs.declared.number.SymId.{SymId}
use Rattle.scw_classfile.specs.declared.class_file.MemberInfo.{MemberInfo}
use Rattle.scw_classfile.specs.declared.pool_entry.PoolEntry.{PoolEntry}
use Rattle.scw_classfile.specs.declared.pool_entry.PoolEntry.TheVariants as pool_entry
use Rattle.scw_classfile.specs.Kinds.{kinds_of}
use Rattle.scw_core.specs.Program.{in_members, text_at}
use Rattle.scw_core.specs.Text.{units_of_name}
use Rattle.scw_core.specs.declared.class.Member.{Member}
use Rattle.scw_core.specs.declared.operator.TextId.{TextId}
use Rattle.scw_frame.specs.declared.operation.Operation.{Operation}
use Rattle.scw_frame.specs.declared.operation.Operation.TheVariants as op
use Rattle.scw_frame.specs.declared.operation.BuiltIn.TheVariants as machine
use Rattle.scw_frame.specs.declared.program.Program.{Program}
use Rattle.scw_frame.specs.declared.program.Target.TheVariants as target
use Rattle.scw_frame.specs.declared.value.Value.TheVariants as value
use Rattle.scw_frame.specs.declared.value.ValueKind.TheVariants as kind
use Rattle.scw_gen.specs.declared.instr.BuiltIn.{BuiltIn}
use Rattle.scw_gen.specs.declared.instr.BuiltIn.TheVariants as built
use Rattle.scw_gen.specs.declared.instr.Constant.{Constant}
use Rattle.scw_gen.specs.declared.instr.Constant.TheVariants as constant
use Rattle.scw_gen.specs.declared.instr.Instr.{Instr}
use Rattle.scw_gen.specs.declared.instr.Instr.TheVariants as instr
use Rattle.scw_gen.specs.declared.named.Named as gen
use Rattle.scw_gen.specs.declared.named.Named.TheVariants.{Integer, Long, Text, Class, Method}
use Rattle.scw_core.specs.declared.class.Member.{Member}
use Rattle.scw_core.specs.declared.class.Parameter.{Parameter}
use Rattle.scw_gen.specs.declared.kind.Kind.{Kind}
use Rattle.scw_gen.specs.Name.{kind_of_parameter}
use Rattle.scw_gen.specs.Outcome.{◌>>=◌}
use Rattle.scw_gen.specs.Typed.{kinds_of_parameters}
use Rattle.scw_back.proofs.DescriptorKinds.{Read}
use Rattle.scw_back.proofs.Placed.{plain_around, value_of_kind}
use Rattle.scw_gen.specs.declared.pool.MethodName.{MethodName}
use Rattle.scw_gen.specs.Around.{Around}
use Rattle.scw_gen.specs.Encode.{calling, encoded, with_index}
use Rattle.scw_gen.specs.Name.{built_in_name, method_name, object_init, this_init}
use Rattle.scw_gen.specs.Named.{index_of_named, named_by, named_constant, named_member, named_text}
use Rattle.scw_gen.specs.Pool.{class_index, fits, found, integer_index, long_index, method_index, string_index}
use Rattle.scw_gen.proofs.Landing.{Right}
use Rattle.scw_gen.proofs.PoolIndex.{found-is}
use Rattle.scw_gen.proofs.PoolLaid.{Laid}
use Rattle.scw_gen.proofs.Steps.{bound}
use Rattle.scw_link.specs.BuiltInMethods.{built_in_method}
use Rattle.scw_link.specs.BuiltIns.{built_in_number}
use Rattle.scw_link.specs.Classes.{class_number, superclasses}
use Rattle.scw_link.specs.Descriptor.{parameter_kinds}
use Rattle.scw_link.specs.Meaning.{meaning_of}
use Rattle.scw_link.specs.Members.{target_in}
use Rattle.scw_link.specs.Names.{Named, and_then, at, method_ref, utf8}
use Rattle.scw_link.specs.Numbers.{or_undefined}
use Rattle.scw_link.specs.Resolve as resolve
use Rattle.scw_link.specs.Resolve.{is_concrete, long_constant, new_of, one_constant, operation, selector_number}
use Rattle.scw_link.specs.Site.{Selector, Site}
use Rattle.scw_link.specs.Types.{text_of}
use Rattle.scw_back.proofs.Firsts.{get-front}
use Rattle.scw_back.proofs.LinkedClasses as linked
use Rattle.scw_back.proofs.LinkedClasses.{lines, own_target, text_target}
use Rattle.scw_back.proofs.Operations.{arithmetic_does, back_to, branch_does, division_does, far_goto_does, goto_does, load_does, number_does, returning_does, store_does}
use Rattle.scw_back.proofs.Placed.{LoadsText, Means, SelectsText, m_arithmetic, m_back, m_branch, m_call, m_compare, m_division, m_dup, m_far_back, m_far_goto, m_goto, m_init_object, m_init_this, m_int, m_load, m_long, m_long_bit, m_new, m_number, m_pop, m_pop_two, m_return, m_return_nothing, m_static, m_store, m_text, m_to_string, m_wide_int, m_wide_text, number_of, static_built_in}
use Rattle.scw_back.proofs.PoolNames.{Text_named, class_named, integer_named, long_named, method_named, string_named}
use Rattle.scw_back.proofs.SelectorNumbers.{Numbered, numbered}

-- ---- lists and pools

all-at : {A : Type 0} (test : A → Bool) (xs : List A) (i : ℕ) (x : A) → list_all test xs ≡ true → slice_get xs i ≡ Some x → test x ≡ true
all-at test [] i x h at = absurd (none-some x at)
all-at test (y ∷ ys) zero x h at = ap test (sym (same_Some y x at)) ∙ (and_parts (test y) (list_all test ys) h).0
all-at test (y ∷ ys) (suc i) x h at = all-at test ys i x (and_parts (test y) (list_all test ys) h).1 at

-- an entry of a pool passes what all pass
entry-passes : (test : PoolEntry → Bool) (p : List PoolEntry) (n : ℕ) (e : PoolEntry) → list_all test p ≡ true → at p n ≡ Some e → test e ≡ true
entry-passes test p zero e h at = absurd (none-some e at)
entry-passes test p (suc n) e h at = all-at test p n e h at

utf8-entry : (o : Option PoolEntry) (us : List ℕ) → utf8 o ≡ Some us → o ≡ Some (pool_entry.Utf8 us)
utf8-entry None us h = absurd (none-some us h)
utf8-entry (Some (pool_entry.Utf8 vs)) us h = ap (λ x. Some (pool_entry.Utf8 x)) (same_Some vs us h)
utf8-entry (Some _) us h = absurd (none-some us h)

-- the text of a constant of the pool is that of the program with its index
text-there : (p : List PoolEntry) (n k : ℕ) (us : List ℕ) → at p n ≡ Some (pool_entry.Str k) → utf8 (at p k) ≡ Some us → slice_get ([] ∷ (map (text_of p) p ++ [])) (0 + n) ≡ Some us
text-there p zero k us h t = absurd (none-some (pool_entry.Str k) h)
text-there p (suc n) k us h t =
    let e : 0 + suc n ≡ suc n = omega arith in
    let got : slice_get (map (text_of p) p) n ≡ Some us = slice_get-map (text_of p) p n ∙ ap (option_map (text_of p)) h ∙ ap (λ o. Some (unwrap_or o [])) t in
    ap (slice_get ([] ∷ (map (text_of p) p ++ []))) e ∙ get-front (map (text_of p) p) [] n us got

-- an index that was found
index-is : (a b : ℕ) → found a ≡ Some b → (a ≡ b) × (0 < b)
index-is a b h = let f = found-is a b h in (f.0, omega (arith, f.0, f.1))

-- ---- what the class's own methods are to calls

module _ (g : Around) (infos : List MemberInfo) (this above : ℕ) where
  pub record Calls : Type 0 where
    pub own : class_number (linked.F g.pool infos this above) (units_of_name g.class.binary_name) ≡ Some 24
    pub init : target_in (linked.F g.pool infos this above) false (codes "<init>") (codes "()V") (24 ∷ 0 ∷ []) ≡ Some (target.Code (record { 0 = 1 }))
    pub method : (x : SymId) (m : Member) (n : MethodName) → in_members g.class.members x ≡ Some m → method_name g m ≡ Some n
        → (number : ℕ) × (number_of g.class x ≡ Some number) × (target_in (linked.F g.pool infos this above) false n.name n.descriptor (24 ∷ 0 ∷ []) ≡ Some (target.Code (record { 0 = number }))) × Read g m n.descriptor

-- the pool and the jumps don't matter for kinds
pub kinds-anywhere : (g : Around) (xs : List Parameter) → kinds_of_parameters g xs ≡ kinds_of_parameters (plain_around g.table g.class) xs
kinds-anywhere g [] = refl
kinds-anywhere g (x ∷ xs) = ap (λ (o : Option (List Kind)). kind_of_parameter g x >>= λ k. o >>= λ ks. Some (k ∷ ks)) (kinds-anywhere g xs)

-- the name of a method, as the linker sees it
abbrev seen : MethodName → Named
seen m = record { class = m.class; name = m.name; descriptor = m.descriptor }

-- a place of two bytes
abbrev pub is_place : ℕ → Bool
is_place n = nat_lt n 65536

module _ (g : Around) (few : length g.pool ≤ 65534) (laid : Laid (kinds_of g.pool) g.pool) (fit : list_all fits g.pool ≡ true) (infos : List MemberInfo) (this above : ℕ) (calls : Calls g infos this above) (main : List ℕ) (pc switch : ℕ) where
  abbrev S : Site
  S = linked.S g.pool infos this above

  abbrev L : Program
  L = linked.P g.pool infos this above main

  -- the instruction means what the encoded one is
  abbrev Does : Instr → ℕ → Type 0
  Does i index = Means g.table g.class L pc i (operation S pc switch (encoded i index))

  does : (i : Instr) (index : ℕ) (o : Operation) → operation S pc switch (encoded i index) ≡ o → Means g.table g.class L pc i o → Does i index
  does i index o e m = subst (Means g.table g.class L pc i) (sym e) m

  -- ---- constants

  text_index : (t : TextId) (n : gen.Named) (index : ℕ) → named_text g t ≡ Some n → index_of_named g.pool n ≡ Some index → (us : List ℕ) × (text_at g.table t ≡ Some us) × (found (string_index g.pool us) ≡ Some index)
  text_index t n index h k =
      let b = bound (text_at g.table t) (λ us. Some (Text us)) n h in
      (b.0, b.1, ap (index_of_named g.pool) (same_Some (Text b.0) n b.2) ∙ k)

  text_loaded : (t : TextId) (index : ℕ) (us : List ℕ) → text_at g.table t ≡ Some us → Text_named g.pool few laid us index → LoadsText g.table g.class L t (0 + index)
  text_loaded t index us is n = record {
    text = us;
    text_is = is;
    there = text-there g.pool index n.text us n.there n.is;
    units = entry-passes fits g.pool n.text (pool_entry.Utf8 us) fit (utf8-entry (at g.pool n.text) us n.is);
  }

  int_at : (c : ℕ) (n : gen.Named) (index : ℕ) → Some (Integer c) ≡ Some n → index_of_named g.pool n ≡ Some index → at g.pool index ≡ Some (pool_entry.Integer c)
  int_at c n index h k = let f = index-is (integer_index g.pool c) index (ap (index_of_named g.pool) (same_Some (Integer c) n h) ∙ k) in integer_named g.pool few laid c index f.0 f.1

  constant_means : (c : Constant) (n : gen.Named) (index : ℕ) → named_constant g c ≡ Some n → index_of_named g.pool n ≡ Some index → Does (instr.Constant c) index
  unfolding meaning_of
  constant_means (constant.Int c) n index h k = does (instr.Constant (constant.Int c)) index (op.Push (value.Int c)) (ap (one_constant (0 + index)) (int_at c n index h k)) (m_int c)
  constant_means (constant.Text t) n index h k =
      let u = text_index t n index h k in
      let f = index-is (string_index g.pool u.0) index u.2 in
      let s = string_named g.pool few laid u.0 index f.0 f.1 in
      does (instr.Constant (constant.Text t)) index (op.PushText (record { 0 = 0 + index })) (ap (one_constant (0 + index)) s.there) (m_text (0 + index) (text_loaded t index u.0 u.1 s))

  wide_means : (c : Constant) (n : gen.Named) (index : ℕ) → named_constant g c ≡ Some n → index_of_named g.pool n ≡ Some index → Does (instr.WideConstant c) index
  unfolding meaning_of
  wide_means (constant.Int c) n index h k = does (instr.WideConstant (constant.Int c)) index (op.Push (value.Int c)) (ap (one_constant (0 + index)) (int_at c n index h k)) (m_wide_int c)
  wide_means (constant.Text t) n index h k =
      let u = text_index t n index h k in
      let f = index-is (string_index g.pool u.0) index u.2 in
      let s = string_named g.pool few laid u.0 index f.0 f.1 in
      does (instr.WideConstant (constant.Text t)) index (op.PushText (record { 0 = 0 + index })) (ap (one_constant (0 + index)) s.there) (m_wide_text (0 + index) (text_loaded t index u.0 u.1 s))

  long_means : (c : ℕ) (n : gen.Named) (index : ℕ) → Some (Long c) ≡ Some n → index_of_named g.pool n ≡ Some index → Does (instr.LongConstant c) index
  unfolding meaning_of
  long_means c n index h k =
      let f = index-is (long_index g.pool c) index (ap (index_of_named g.pool) (same_Some (Long c) n h) ∙ k) in
      does (instr.LongConstant c) index (op.Push (value.Long c)) (ap long_constant (long_named g.pool few laid c index f.0 f.1)) (m_long c)

  bit_means : (b : Bool) (index : ℕ) → Does (instr.LongBit b) index
  unfolding meaning_of
  bit_means true index = m_long_bit true
  bit_means false index = m_long_bit false

  -- ---- calls

  abbrev virtual : Named → Operation
  virtual n = or_undefined (option_map (λ k. op.CallVirtual (record { 0 = k })) (selector_number (linked.SS g.pool infos this above) n.name n.descriptor))

  abbrev special : Named → Operation
  special n = or_undefined (option_map (λ t. op.CallSpecial t) (resolve.target S false n))

  abbrev static : Named → Operation
  static n = or_undefined (option_map (λ t. op.CallStatic t) (resolve.target S true n))

  method_at : (m : MethodName) (n : gen.Named) (index : ℕ) → Some (Method m) ≡ Some n → index_of_named g.pool n ≡ Some index → method_ref g.pool (at g.pool index) ≡ Some (seen m)
  method_at m n index h k = let f = index-is (method_index g.pool m) index (ap (index_of_named g.pool) (same_Some (Method m) n h) ∙ k) in method_named g.pool few laid m index f.0 f.1

  -- the selector of a method that the pool names
  selector_at : (m : MethodName) (index : ℕ) → method_ref g.pool (at g.pool index) ≡ Some (seen m) → Numbered (linked.SS g.pool infos this above) m.name m.descriptor
  selector_at m index h = numbered (linked.C g.pool infos this above) index (seen m) h

  selects : (m : MethodName) (index : ℕ) (h : method_ref g.pool (at g.pool index) ≡ Some (seen m)) → operation S pc switch (with_index 182 index) ≡ op.CallVirtual (record { 0 = (selector_at m index h).number })
  unfolding meaning_of
  selects m index h =
      ap (λ o. or_undefined (option_map virtual o)) h
      ∙ ap (λ o. or_undefined (option_map (λ k. op.CallVirtual (record { 0 = k })) o)) (selector_at m index h).is

  own_means : (x : SymId) (m : Member) (n : MethodName) (index : ℕ) → in_members g.class.members x ≡ Some m → method_name g m ≡ Some n → method_ref g.pool (at g.pool index) ≡ Some (seen n) → Does (instr.Call x) index
  own_means x m n index there name h =
      let s = selector_at n index h in
      let c = calls.method x m n there name in
      let kinds = λ (t : Selector). kind.Reference ∷ parameter_kinds t.descriptor in
      does (instr.Call x) index (op.CallVirtual (record { 0 = s.number })) (selects n index h) (m_call s.number (record {
        kinds = kinds (record { name = n.name; descriptor = n.descriptor });
        number = c.0;
        kinds_are = slice_get-map kinds (linked.SS g.pool infos this above) s.number ∙ ap (option_map kinds) s.there;
        number_is = c.1;
        target_is = own_target g.pool infos this above main s.number (record { name = n.name; descriptor = n.descriptor }) s.there ∙ c.2;
        arguments_are = λ m' ks there' are.
            let same : Some m ≡ Some m' = sym there ∙ there' in
            let member : m ≡ m' = cc in
            let read : Read g m n.descriptor = c.3 in
            let kinds_same : Some read.kinds ≡ Some ks = sym read.kinds_are ∙ kinds-anywhere g m.parameters ∙ ap (λ (a : Member). kinds_of_parameters (plain_around g.table g.class) a.parameters) member ∙ are in
            let list : read.kinds ≡ ks = cc in
            ap (λ l. kind.Reference ∷ l) (read.is ∙ ap (map value_of_kind) list);
      }))

  called : (x : SymId) (m : Option Member) (n : gen.Named) (index : ℕ) → in_members g.class.members x ≡ m → named_member g m ≡ Some n → index_of_named g.pool n ≡ Some index → Does (instr.Call x) index
  called x None n index e h k = absurd (none-some n h)
  called x (Some m) n index e h k = let b = bound (method_name g m) (λ y. Some (Method y)) n h in own_means x m b.0 index e b.1 (method_at b.0 n index b.2 k)

  -- a static method of the machine's own
  static_means : (b : BuiltIn) (o : Operation) (index : ℕ) → static_built_in b ≡ Some o → method_ref g.pool (at g.pool index) ≡ Some (seen (built_in_name b)) → operation S pc switch (with_index (calling b) index) ≡ o
  unfolding meaning_of built_in_number built_in_method
  static_means built.Print o index e h = ap (λ r. or_undefined (option_map static r)) h ∙ same_Some _ o e
  static_means built.Concat o index e h = ap (λ r. or_undefined (option_map static r)) h ∙ same_Some _ o e
  static_means built.Unit o index e h = ap (λ r. or_undefined (option_map static r)) h ∙ same_Some _ o e
  static_means built.BoxBoolean o index e h = ap (λ r. or_undefined (option_map static r)) h ∙ same_Some _ o e
  static_means built.BoxInt o index e h = ap (λ r. or_undefined (option_map static r)) h ∙ same_Some _ o e
  static_means built.BoxLong o index e h = ap (λ r. or_undefined (option_map static r)) h ∙ same_Some _ o e
  static_means built.ToString o index e h = absurd (none-some o e)

  text_selects : (index : ℕ) (s : Numbered (linked.SS g.pool infos this above) (codes "toString") (codes "()Ljava/lang/String;")) → SelectsText g.table g.class L s.number
  text_selects index s =
      let kinds = λ (t : Selector). kind.Reference ∷ parameter_kinds t.descriptor in
      record {
        kinds_are = slice_get-map kinds (linked.SS g.pool infos this above) s.number ∙ ap (option_map kinds) s.there;
        target_is = λ c t. text_target g.pool infos this above main s.number c s.there t;
      }

  built_in_means : (b : BuiltIn) (index : ℕ) → method_ref g.pool (at g.pool index) ≡ Some (seen (built_in_name b)) → Does (instr.CallBuiltIn b) index
  built_in_means built.Print index h = does (instr.CallBuiltIn built.Print) index _ (static_means built.Print _ index refl h) (m_static built.Print _ refl)
  built_in_means built.Concat index h = does (instr.CallBuiltIn built.Concat) index _ (static_means built.Concat _ index refl h) (m_static built.Concat _ refl)
  built_in_means built.Unit index h = does (instr.CallBuiltIn built.Unit) index _ (static_means built.Unit _ index refl h) (m_static built.Unit _ refl)
  built_in_means built.BoxBoolean index h = does (instr.CallBuiltIn built.BoxBoolean) index _ (static_means built.BoxBoolean _ index refl h) (m_static built.BoxBoolean _ refl)
  built_in_means built.BoxInt index h = does (instr.CallBuiltIn built.BoxInt) index _ (static_means built.BoxInt _ index refl h) (m_static built.BoxInt _ refl)
  built_in_means built.BoxLong index h = does (instr.CallBuiltIn built.BoxLong) index _ (static_means built.BoxLong _ index refl h) (m_static built.BoxLong _ refl)
  built_in_means built.ToString index h =
      let s = selector_at (built_in_name built.ToString) index h in
      does (instr.CallBuiltIn built.ToString) index (op.CallVirtual (record { 0 = s.number })) (selects (built_in_name built.ToString) index h) (m_to_string s.number (text_selects index s))

  object_means : (index : ℕ) → method_ref g.pool (at g.pool index) ≡ Some (seen object_init) → Does instr.InitObject index
  unfolding meaning_of built_in_number built_in_method
  object_means index h = does instr.InitObject index (op.CallSpecial (target.BuiltIn machine.ObjectInit)) (ap (λ r. or_undefined (option_map special r)) h) m_init_object

  -- the class's own constructor
  this_means : (index : ℕ) → method_ref g.pool (at g.pool index) ≡ Some (seen (this_init g)) → Does instr.InitThis index
  unfolding meaning_of
  this_means index h =
      does instr.InitThis index (op.CallSpecial (target.Code (record { 0 = 1 })))
      (ap (λ r. or_undefined (option_map special r)) h
      ∙ ap (λ o. or_undefined (option_map (λ t. op.CallSpecial t) (and_then (option_map (superclasses lines) o) (target_in (linked.F g.pool infos this above) false (codes "<init>") (codes "()V"))))) calls.own
      ∙ ap (λ o. or_undefined (option_map (λ t. op.CallSpecial t) o)) calls.init)
      m_init_this

  new_means : (n : gen.Named) (index : ℕ) → Some (Class (units_of_name g.class.binary_name)) ≡ Some n → index_of_named g.pool n ≡ Some index → Does instr.New index
  unfolding meaning_of is_concrete
  new_means n index h k =
      let own = units_of_name g.class.binary_name in
      let f = index-is (class_index g.pool own) index (ap (index_of_named g.pool) (same_Some (Class own) n h) ∙ k) in
      let files = linked.F g.pool infos this above in
      does instr.New index (op.New (record { 0 = 24 }))
      (ap (λ o. or_undefined (and_then (and_then o (class_number files)) (new_of files))) (class_named g.pool few laid own index f.0 f.1)
      ∙ ap (λ o. or_undefined (and_then o (new_of files))) calls.own)
      m_new

  -- ---- all of them

  place-le : (n : ℕ) → is_place n ≡ true → n ≤ 65535
  place-le n h = let l = ltb-true n 65536 h in omega (arith, l)

  pub means : (i : Instr) (n : gen.Named) (index : ℕ) → named_by g i ≡ Some n → index_of_named g.pool n ≡ Some index → Right g.table g.pool is_place pc i → Does i index
  unfolding meaning_of
  means (instr.Number z) n index h k r = does (instr.Number z) index _ (number_does S pc switch z) (m_number z)
  means (instr.Constant c) n index h k r = constant_means c n index h k
  means (instr.WideConstant c) n index h k r = wide_means c n index h k
  means (instr.LongBit b) n index h k r = bit_means b index
  means (instr.LongConstant c) n index h k r = long_means c n index h k
  means (instr.Load w s) n index h k r = does (instr.Load w s) index _ (load_does S pc switch w s r) (m_load w s)
  means (instr.Store w s) n index h k r = does (instr.Store w s) index _ (store_does S pc switch w s r) (m_store w s)
  means (instr.Arithmetic w o) n index h k r = does (instr.Arithmetic w o) index _ (arithmetic_does S pc switch w o) (m_arithmetic w o)
  means (instr.Division w o) n index h k r = does (instr.Division w o) index _ (division_does S pc switch w o) (m_division w o)
  means instr.CompareLongs n index h k r = m_compare
  means instr.Pop n index h k r = m_pop
  means instr.PopTwo n index h k r = m_pop_two
  means instr.Dup n index h k r = m_dup
  means (instr.Branch c by way) n index h k r = does (instr.Branch c by way) index _ (branch_does S pc switch c by (pc + way) (pos way) refl (place-le (pc + way) r.0)) (m_branch c by way)
  means (instr.Goto way) n index h k r = does (instr.Goto way) index _ (goto_does S pc switch (pc + way) (pos way) refl (place-le (pc + way) r.0)) (m_goto way)
  means (instr.FarGoto way) n index h k r = does (instr.FarGoto way) index _ (far_goto_does S pc switch (pc + way) (pos way) refl (place-le (pc + way) r.0)) (m_far_goto way)
  means (instr.Back way) n index h k r = does (instr.Back way) index _ (goto_does S pc switch (pc - way) (neg_ℤ (pos way)) (back_to pc way r.1) (place-le (pc - way) r.0)) (m_back way r.1)
  means (instr.FarBack way) n index h k r = does (instr.FarBack way) index _ (far_goto_does S pc switch (pc - way) (neg_ℤ (pos way)) (back_to pc way r.1) (place-le (pc - way) r.0)) (m_far_back way r.1)
  means (instr.Return w) n index h k r = does (instr.Return w) index _ (returning_does S pc switch w) (m_return w)
  means instr.ReturnNothing n index h k r = m_return_nothing
  means (instr.Call x) n index h k r = called x (in_members g.class.members x) n index refl h k
  means (instr.CallBuiltIn b) n index h k r = built_in_means b index (method_at (built_in_name b) n index h k)
  means instr.InitObject n index h k r = object_means index (method_at object_init n index h k)
  means instr.InitThis n index h k r = this_means index (method_at (this_init g) n index h k)
  means instr.New n index h k r = new_means n index h k
