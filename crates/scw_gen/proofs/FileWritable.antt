-- The class file that is generated can be written.
use Rattle.std.proofs.Common.{◌≡◌, ℕ, ◌-◌, ◌<◌, ◌≤◌, ◌^◌, min, Bool, true, false, not, ◌&&◌, cond, eqb, List, [], ◌∷◌, ◌++◌, length, Option, Some, None, Ok, refl, sym, ap, ◌∙◌, subst, arith, append-nil, append_assoc, codes}
use Rattle.std.specs.List.{list_all}
use Rattle.std.proofs.lemmas.Bool.{and_from, and_parts, lt-ltb, ne_eqb, not-true, cond-false}
use Rattle.std.proofs.lemmas.Option.{cond_some}
use Rattle.scw_code.specs.declared.instr.Instr as any
use Rattle.scw_classfile.specs.declared.class_file.ClassFile.{ClassFile}
use Rattle.scw_classfile.specs.declared.class_file.MemberInfo.{MemberInfo}
use Rattle.scw_classfile.specs.declared.class_rule.ClassRule.TheVariants as class_rule
use Rattle.scw_classfile.specs.declared.index.Expected.TheVariants as expected
use Rattle.scw_classfile.specs.declared.pool_entry.EntryKind.{EntryKind}
use Rattle.scw_classfile.specs.declared.pool_entry.EntryKind.TheVariants as kind
use Rattle.scw_classfile.specs.declared.pool_entry.PoolEntry.{PoolEntry}
use Rattle.scw_classfile.specs.declared.pool_entry.TextKind.{TextKind}
use Rattle.scw_classfile.specs.declared.pool_entry.TextKind.TheVariants as text
use Rattle.scw_classfile.specs.Codec.{is_none, sound_flagged, unless}
use Rattle.scw_classfile.specs.Descriptor.{is_array, is_field, is_method, text_kind}
use Rattle.scw_classfile.specs.Kinds.{is_index, kind_at, kinds_of, lets_some}
use Rattle.scw_classfile.specs.Pool.{pool}
use Rattle.scw_classfile.specs.Format.{class, index, method as method_codec, parent, parent_is, tail}
use Rattle.scw_classfile.specs.ReadClass.{IsWritable}
use Rattle.scw_core.specs.Program.{Program}
use Rattle.scw_core.specs.Text.{units_of_name}
use Rattle.scw_core.specs.declared.class.CoreClass.{CoreClass}
use Rattle.scw_gen.specs.Outcome.{◌>>=◌}
use Rattle.scw_gen.specs.Around.{Around}
use Rattle.scw_gen.specs.declared.fault.LargeKind.TheVariants as large
use Rattle.scw_gen.specs.declared.excess.Excess.{Excess}
use Rattle.scw_gen.specs.declared.excess.TheConstants.{MAX_POOL, MAX_SHORT}
use Rattle.scw_gen.specs.Excess.{above, code_excess, code_of_method, excess_of, number_excess, slots_excess, text_excess}
use Rattle.scw_gen.specs.Instr.{bytes_of}
use Rattle.scw_gen.specs.Method.{Method, methods_of}
use Rattle.scw_gen.specs.Name.{get_name}
use Rattle.scw_gen.specs.Named.{encoded_from}
use Rattle.scw_gen.specs.Pool.{class_index, fits, found, utf8_index}
use Rattle.scw_gen.specs.Generate.{Made, Names, are_distinct, around, ends_in_dollar, file, file_by, file_of, file_with, info_with, is_built, is_class_name, is_fitting, made, made_under, made_with, member_info, member_infos, names_of, needed, sized}
use Rattle.scw_gen.specs.Typed.{is_well_typed}
use Rattle.scw_gen.proofs.Steps.{bound}
use Rattle.scw_gen.proofs.TextKinds.{index_right, text_kind-method}
use Rattle.scw_gen.proofs.PoolLaid.{neither, pool_counts, pool_sound, within}
use Rattle.scw_gen.proofs.PoolIndex.{found-is}
use Rattle.scw_gen.proofs.PoolWritable.{needed_laid}
use Rattle.scw_gen.proofs.IndexNames.{names_class, names_text}
use Rattle.scw_gen.proofs.EncodedAll.{Encodes, encodes}
use Rattle.scw_gen.proofs.CodeWritable.{code_counts, code_sound}
use Rattle.scw_gen.proofs.MethodsRight.{AllRight, MethodRight, methods-right}

-- ---- methods

code_kind : text_kind (codes "Code") ≡ text.Code
unfolding text_kind is_field is_method
code_kind = refl

-- a method's bytes are as few as its code's limit
code_within : (m : Method) → code_of_method m ≡ None → bytes_of m.instrs ≤ 65535
code_within m h = let le = within large.Code MAX_SHORT (min (bytes_of m.instrs) (2 ^ 64 - 1)) h in omega (arith, le)

module _ (g : Around) (few : length g.pool ≤ 65534) where
  abbrev K : List EntryKind
  K = kinds_of g.pool

  -- what the names of a method are found to be
  record Named_right (m : Method) (n : Names) : Type 0 where
    name : kind_at K n.name ≡ Some (kind.Utf8 (text_kind m.name))
    descriptor : kind_at K n.descriptor ≡ Some (kind.Utf8 (text_kind m.descriptor))
    code : kind_at K n.code ≡ Some (kind.Utf8 text.Code)
    name_fits : n.name < 65536
    descriptor_fits : n.descriptor < 65536
    code_fits : n.code < 65536

  -- the names of a method have indices
  names_right : (m : Method) (n : Names) → names_of g.pool m ≡ Some n → Named_right m n
  names_right m n h =
      let p = g.pool in
      let a = bound (found (utf8_index p m.name)) (λ x. found (utf8_index p m.descriptor) >>= λ d. found (utf8_index p (codes "Code")) >>= λ c. Some (record { name = x; descriptor = d; code = c })) n h in
      let b = bound (found (utf8_index p m.descriptor)) (λ d. found (utf8_index p (codes "Code")) >>= λ c. Some (record { name = a.0; descriptor = d; code = c })) n a.2 in
      let c = bound (found (utf8_index p (codes "Code"))) (λ c. Some (record { name = a.0; descriptor = b.0; code = c })) n b.2 in
      let same : record { name = a.0; descriptor = b.0; code = c.0 } ≡ n = (let e = c.2 in cc) in
      let x = names_text p few m.name a.0 a.1 in
      let y = names_text p few m.descriptor b.0 b.1 in
      let z = names_text p few (codes "Code") c.0 c.1 in
      subst (Named_right m) same
      (record { name = x.at; descriptor = y.at; code = z.at ∙ ap (λ (t : TextKind). Some (kind.Utf8 t)) code_kind; name_fits = x.few; descriptor_fits = y.few; code_fits = z.few })

  module _ (m : Method) (right : MethodRight g m) (small : bytes_of m.instrs ≤ 65535) where
    info_counts : (code : List any.Instr) (n : Names) → Encodes g m.instrs code → Named_right m n → (method_codec 52 K).counts (info_with n m code) ≡ true
    info_counts code n e r =
        let a = lt-ltb m.flags (2 ^ 16) (let le = right.flags in omega (arith, le)) in
        let b = lt-ltb n.name (2 ^ 16) r.name_fits in
        let c = lt-ltb n.descriptor (2 ^ 16) r.descriptor_fits in
        let d = lt-ltb n.code (2 ^ 16) r.code_fits in
        let f = code_counts g few m.instrs code e right.closed small m.stack m.locals in
        rw (a, b, c, d, f) refl

    info_sound : (code : List any.Instr) (n : Names) → Encodes g m.instrs code → Named_right m n → (method_codec 52 K).sound (info_with n m code) ≡ true
    unfolding sound_flagged
    info_sound code n e r =
        let a = r.name in
        let b = r.descriptor ∙ ap (λ (t : TextKind). Some (kind.Utf8 t)) (text_kind-method m.descriptor right.described) in
        let c = r.code in
        let f = code_sound g few m.instrs code e right.closed small m.stack m.locals in
        rw (a, b, c, f) refl

    -- the method of the file that a method is
    info_right : (x : MemberInfo) → member_info g m ≡ Some x → ((method_codec 52 K).counts x ≡ true) × ((method_codec 52 K).sound x ≡ true)
    info_right x h =
        let a = bound (encoded_from g [] m.instrs) (λ code. names_of g.pool m >>= λ n. Some (info_with n m code)) x h in
        let b = bound (names_of g.pool m) (λ n. Some (info_with n m a.0)) x a.2 in
        let same : info_with b.0 m a.0 ≡ x = (let e = b.2 in cc) in
        let e = encodes g m.instrs a.0 a.1 in
        let r = names_right m b.0 b.1 in
        subst (λ (y : MemberInfo). ((method_codec 52 K).counts y ≡ true) × ((method_codec 52 K).sound y ≡ true)) same (info_counts a.0 b.0 e r, info_sound a.0 b.0 e r)

  -- those of all methods
  record Infos (found : List MemberInfo) (out : List MemberInfo) (n : ℕ) : Type 0 where
    rest : List MemberInfo
    is : found ++ rest ≡ out
    size : length rest ≡ n
    counts : list_all (method_codec 52 K).counts rest ≡ true
    sound : list_all (method_codec 52 K).sound rest ≡ true

  infos_right : (ms : List Method) (found out : List MemberInfo) → AllRight g ms → code_excess ms ≡ None → member_infos g found ms ≡ Some out → Infos found out (length ms)
  unfolding member_infos
  infos_right [] found out right small h = let same : found ≡ out = cc in record { rest = []; is = append-nil found ∙ same; size = refl; counts = refl; sound = refl }
  infos_right (m ∷ ms) found out right small h =
      let s = neither (code_of_method m) (code_excess ms) small in
      let b = bound (member_info g m) (λ x. member_infos g (found ++ x ∷ []) ms) out h in
      let one = info_right m right.0 (code_within m s.0) b.0 b.1 in
      let r = infos_right ms (found ++ b.0 ∷ []) out right.1 s.1 b.2 in
      record {
        rest = b.0 ∷ r.rest;
        is = sym (append_assoc found (b.0 ∷ []) r.rest) ∙ r.is;
        size = (let n = r.size in omega (arith, n));
        counts = and_from ((method_codec 52 K).counts b.0) (list_all (method_codec 52 K).counts r.rest) one.0 r.counts;
        sound = and_from ((method_codec 52 K).sound b.0) (list_all (method_codec 52 K).sound r.rest) one.1 r.sound;
      }

-- ---- the class

module _ (p : List PoolEntry) (infos : List MemberInfo) (this above : ℕ) where
  abbrev Kinds : List EntryKind
  Kinds = kinds_of p

  class_counts : (pool 52).counts p ≡ true → this < 65536 → above < 65536 → length infos ≤ 65535 → list_all (method_codec 52 Kinds).counts infos ≡ true → class.counts (file_with p infos this above) ≡ true
  unfolding class tail
  class_counts h a b c d =
      let x = lt-ltb this (2 ^ 16) a in
      let y = lt-ltb above (2 ^ 16) b in
      let z = lt-ltb (length infos) (2 ^ 16) (omega (arith, c)) in
      rw (h, x, y, z, d) refl

  class_sound : (pool 52).sound p ≡ true → (index 52 Kinds expected.Class).sound this ≡ true → (parent 52 Kinds this).sound above ≡ true → list_all (method_codec 52 Kinds).sound infos ≡ true
      → class.sound (file_with p infos this above) ≡ true
  unfolding class tail
  class_sound h a b d = rw (h, a, b, d) refl

-- a superclass is named
parent_right : (kinds : List EntryKind) (this n c : ℕ) → 0 < n → kind_at kinds n ≡ Some (kind.Class c) → (parent 52 kinds this).sound n ≡ true
parent_right kinds this n c some at =
    let ne : eqb n 0 ≡ false = ne_eqb n 0 (λ z. omega (arith, z, some)) in
    let is : parent_is 52 kinds this n ≡ true = cond-false (eqb n 0) _ (is_index 52 kinds expected.Class n) ne ∙ ap (lets_some 52 expected.Class) at in
    ap (λ (b : Bool). is_none (unless b class_rule.Index 0)) is

-- ---- the file

-- what is made, and the class that is built
record Source (p : Program) (k : CoreClass) (m : Made) : Type 0 where
  built : is_built p k ≡ true
  needed' : needed p k ≡ Some m.pool
  methods : methods_of (around p k m.pool) p.bodies ≡ Some m.methods
  fit : list_all fits m.pool ≡ true

made_from : (p : Program) (k : CoreClass) (pool : List PoolEntry) (ms : List Method) (m : Made) → is_built p k ≡ true → needed p k ≡ Some pool → methods_of (around p k pool) p.bodies ≡ Some ms → made_with pool ms ≡ Some m → Source p k m
made_from p k pool ms m built need are h =
    let c = cond_some (are_distinct ms && list_all fits pool) (record { pool = pool; methods = ms }) m h in
    let a = and_parts (are_distinct ms) (list_all fits pool) c.0 in
    let same : record { pool = pool; methods = ms } ≡ m = c.1 in
    subst (Source p k) same (record { built = built; needed' = need; methods = are; fit = a.1 })

source_of : (p : Program) (k : CoreClass) (m : Made) → made p k ≡ Some m → Source p k m
source_of p k m h = by (is_built p k) refl h
  where
    by : (b : Bool) → is_built p k ≡ b → cond b (needed p k >>= λ pool. made_under p k pool) None ≡ Some m → Source p k m
    by false t e = absurd (cc)
    by true t e =
        let a = bound (needed p k) (λ pool. made_under p k pool) m e in
        let b = bound (methods_of (around p k a.0) p.bodies) (made_with a.0) m a.2 in
        made_from p k a.0 b.0 m t a.1 b.1 b.2

-- the name of the class is no array, and its getter has a descriptor
record Name_right (p : Program) (k : CoreClass) : Type 0 where
  plain : is_array (units_of_name k.binary_name) ≡ false
  getter : is_method (get_name (around p k [])).descriptor ≡ true

name_right : (p : Program) (k : CoreClass) → is_built p k ≡ true → Name_right p k
name_right p k h =
    let g = around p k [] in
    let own = units_of_name k.binary_name in
    let a = and_parts _ (is_fitting g p k) h in
    let b = and_parts (is_class_name g own) (is_well_typed g p.bodies k.members) a.1 in
    let c = and_parts (not (is_array own) && is_method (get_name g).descriptor) (ends_in_dollar own) b.0 in
    let d = and_parts (not (is_array own)) (is_method (get_name g).descriptor) c.0 in
    record { plain = not-true (is_array own) d.0; getter = d.1 }

-- no part of the class is too large
record Within (m : Made) : Type 0 where
  code : code_excess m.methods ≡ None
  pool : length m.pool ≤ 65534
  methods : length m.methods ≤ 65535
  texts : text_excess m.pool ≡ None

within_all : (m : Made) → excess_of m.pool m.methods ≡ None → Within m
within_all m h =
    let a = neither (number_excess m.pool m.methods) (text_excess m.pool) h in
    let b = neither (code_excess m.methods) _ a.0 in
    let c = neither (above large.Pool MAX_POOL (length m.pool)) _ b.1 in
    let d = neither (above large.Methods MAX_SHORT (length m.methods)) (slots_excess m.methods) c.1 in
    record { code = b.0; pool = within large.Pool MAX_POOL (length m.pool) c.0; methods = within large.Methods MAX_SHORT (length m.methods) d.0; texts = a.1 }

file_writable : (p : Program) (k : CoreClass) (m : Made) (c : ClassFile) → Source p k m → Within m → file p k m ≡ Some c → IsWritable c
file_writable p k m c source size h =
    let g = around p k m.pool in
    let name = name_right p k source.built in
    let laid = needed_laid p k m.pool name.plain source.needed' size.pool in
    let a = bound (member_infos g [] m.methods) (λ infos. file_by k m.pool infos) c h in
    let i = infos_right g size.pool m.methods [] a.0 (methods-right g p.bodies m.methods name.getter source.methods) size.code a.1 in
    let own = units_of_name k.binary_name in
    let b = bound (found (class_index m.pool own)) (λ this. found (class_index m.pool (codes "java/lang/Object")) >>= λ parent. Some (file_with m.pool a.0 this parent)) c a.2 in
    let d = bound (found (class_index m.pool (codes "java/lang/Object"))) (λ parent. Some (file_with m.pool a.0 b.0 parent)) c b.2 in
    let same : file_with m.pool a.0 b.0 d.0 ≡ c = (let e = d.2 in cc) in
    let this = names_class m.pool size.pool own b.0 b.1 in
    let above = names_class m.pool size.pool (codes "java/lang/Object") d.0 d.1 in
    let f = found-is (class_index m.pool (codes "java/lang/Object")) d.0 d.1 in
    let infos : i.rest ≡ a.0 = i.is in
    let n = i.size in
    let counts = subst (λ (l : List MemberInfo). list_all (method_codec 52 (kinds_of m.pool)).counts l ≡ true) infos i.counts in
    let sound = subst (λ (l : List MemberInfo). list_all (method_codec 52 (kinds_of m.pool)).sound l ≡ true) infos i.sound in
    let long : length a.0 ≤ 65535 = (let le = size.methods in let l = ap length infos in omega (arith, l, n, le)) in
    subst IsWritable same (
      class_counts m.pool a.0 b.0 d.0 (pool_counts m.pool laid size.pool source.fit size.texts) this.few above.few long counts,
      class_sound m.pool a.0 b.0 d.0 (pool_sound m.pool laid size.pool) (index_right (kinds_of m.pool) expected.Class b.0 0 _ this.at refl)
          (parent_right (kinds_of m.pool) b.0 d.0 _ (omega (arith, f.0, f.1)) above.at) sound,
    )

sized_writable : (p : Program) (k : CoreClass) (m : Made) (x : Option Excess) (c : ClassFile) → Source p k m → (x ≡ None → Within m) → sized p k m x ≡ Some (Ok c) → IsWritable c
sized_writable p k m None c source size h =
    let a = bound (file p k m) (λ f. Some (Ok f)) (Ok c) h in
    let same : a.0 ≡ c = (let e = a.2 in cc) in
    subst IsWritable same (file_writable p k m a.0 source (size refl) a.1)
sized_writable p k m (Some e) c source size h = absurd (cc)

-- a class file that is generated can be written
pub writable : (p : Program) (k : CoreClass) (c : ClassFile) → file_of p k ≡ Some (Ok c) → IsWritable c
unfolding file_of
writable p k c h =
    let a = bound (made p k) (λ m. sized p k m (excess_of m.pool m.methods)) (Ok c) h in
    sized_writable p k a.0 (excess_of a.0.pool a.0.methods) c (source_of p k a.0 a.1) (λ e. within_all a.0 e) a.2
