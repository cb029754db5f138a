-- The parts of a class file that is generated: its methods beside the members of the class, and those of the file beside them.
use Rattle.std.proofs.Common.{◌≡◌, ℕ, zero, suc, ◌-◌, ◌<◌, ◌≤◌, ◌^◌, min, Bool, true, false, not, ◌&&◌, cond, List, [], ◌∷◌, ◌++◌, length, Option, Some, None, slice_get, refl, sym, ap, ◌∙◌, subst, arith, append-nil, append_assoc, codes}
use Rattle.std.specs.List.{list_all}
use Rattle.std.proofs.lemmas.Bool.{and_parts, not-true, or_parts}
use Rattle.std.proofs.lemmas.Option.{cond_some, same_Some, none-some}
use Rattle.scw_text.specs.declared.number.SymId.{SymId}
use Rattle.scw_classfile.specs.Descriptor.{is_array, is_method as is_descriptor}
use Rattle.scw_classfile.specs.declared.class_file.Attribute.{out-roll-Attribute}
use Rattle.scw_classfile.specs.declared.class_file.AttrBody.TheVariants as body
use Rattle.scw_classfile.specs.declared.class_file.ClassFile.{ClassFile}
use Rattle.scw_classfile.specs.declared.class_file.Code.{roll-Code}
use Rattle.scw_classfile.specs.declared.class_file.MemberInfo.{MemberInfo}
use Rattle.scw_classfile.specs.declared.pool_entry.PoolEntry.{PoolEntry}
use Rattle.scw_classfile.specs.Kinds.{kinds_of}
use Rattle.scw_code.specs.declared.instr.Instr as any
use Rattle.scw_core.specs.Program.{Program}
use Rattle.scw_core.specs.Text.{units_of_name}
use Rattle.scw_core.specs.Tree.{Tree}
use Rattle.scw_core.specs.declared.class.CoreClass.{CoreClass}
use Rattle.scw_core.specs.declared.class.Member.{Member}
use Rattle.scw_gen.specs.Outcome.{◌>>=◌}
use Rattle.scw_gen.specs.Around.{Around}
use Rattle.scw_gen.specs.Excess.{above, code_excess, code_of_method, excess_of, number_excess, slots_excess, slots_of_method, text_excess}
use Rattle.scw_gen.specs.Generate.{Made, Names, are_distinct, around, ends_in_dollar, file, file_by, file_with, flags_of, info_with, is_among, is_built, is_class_name, is_fitting, is_same, made, made_under, made_with, member_info, member_infos, names_of, needed, short}
use Rattle.scw_gen.specs.Instr.{bytes_of}
use Rattle.scw_gen.specs.Method.{Method, constructor, getter, method_of, methods_from, methods_of}
use Rattle.scw_gen.specs.Name.{get_name}
use Rattle.scw_gen.specs.Named.{encoded_from}
use Rattle.scw_gen.specs.Pool.{class_index, fits, found, utf8_index}
use Rattle.scw_gen.specs.Typed.{is_well_typed}
use Rattle.scw_gen.specs.declared.excess.TheConstants.{MAX_ARGUMENTS, MAX_POOL, MAX_SHORT}
use Rattle.scw_gen.specs.declared.fault.LargeKind.TheVariants as large
use Rattle.scw_gen.proofs.EncodedAll.{Encodes, encodes}
use Rattle.scw_gen.proofs.MethodsRight.{AllRight, MethodRight, methods-right}
use Rattle.scw_gen.proofs.PoolIndex.{found-is}
use Rattle.scw_gen.proofs.PoolLaid.{Laid, neither, within}
use Rattle.scw_gen.proofs.PoolWritable.{needed_laid}
use Rattle.scw_gen.proofs.Steps.{bound}
use Rattle.scw_link.specs.Members.{body_code, code_of}
use Rattle.scw_link.specs.Names.{at, class_name, or_else, utf8}
use Rattle.scw_back.proofs.PoolNames.{class_named, text_named}

-- ---- lists, one made of the other

module _ {A B : Type 0} (f : A → Option B) where
  -- element by element
  pub record Made_of (xs : List A) (ys : List B) : Type 0 where
    pub to : (i : ℕ) (x : A) → slice_get xs i ≡ Some x → (y : B) × (slice_get ys i ≡ Some y) × (f x ≡ Some y)
    pub back : (i : ℕ) (y : B) → slice_get ys i ≡ Some y → (x : A) × (slice_get xs i ≡ Some x) × (f x ≡ Some y)

  made_none : Made_of [] []
  made_none = record { to = λ i x h. absurd (none-some x h); back = λ i y h. absurd (none-some y h) }

  made_more : (x : A) (y : B) (xs : List A) (ys : List B) → f x ≡ Some y → Made_of xs ys → Made_of (x ∷ xs) (y ∷ ys)
  made_more x y xs ys e r = record { to = to; back = back }
    where
      to : (i : ℕ) (u : A) → slice_get (x ∷ xs) i ≡ Some u → (v : B) × (slice_get (y ∷ ys) i ≡ Some v) × (f u ≡ Some v)
      to zero u h = (y, refl, ap f (sym (same_Some x u h)) ∙ e)
      to (suc i) u h = r.to i u h

      back : (i : ℕ) (v : B) → slice_get (y ∷ ys) i ≡ Some v → (u : A) × (slice_get (x ∷ xs) i ≡ Some u) × (f u ≡ Some v)
      back zero v h = (x, refl, e ∙ h)
      back (suc i) v h = r.back i v h

-- ---- the methods of the class

record From (g : Around) (bodies : List (SymId × Tree)) (found out : List Method) (ms : List Member) : Type 0 where
  rest : List Method
  is : found ++ rest ≡ out
  beside : Made_of (method_of g bodies) ms rest

from_all : (g : Around) (bodies : List (SymId × Tree)) (found out : List Method) (ms : List Member) → methods_from g bodies found ms ≡ Some out → From g bodies found out ms
unfolding methods_from
from_all g bodies found out [] h = record { rest = []; is = append-nil found ∙ same_Some found out h; beside = made_none (method_of g bodies) }
from_all g bodies found out (m ∷ ms) h =
    let b = bound (method_of g bodies m) (λ x. methods_from g bodies (found ++ x ∷ []) ms) out h in
    let r = from_all g bodies (found ++ b.0 ∷ []) out ms b.2 in
    record {
      rest = b.0 ∷ r.rest;
      is = sym (append_assoc found (b.0 ∷ []) r.rest) ∙ r.is;
      beside = made_more (method_of g bodies) m b.0 ms r.rest b.1 r.beside;
    }

-- ---- the methods of the file

record Infos (g : Around) (found out : List MemberInfo) (ms : List Method) : Type 0 where
  rest : List MemberInfo
  is : found ++ rest ≡ out
  beside : Made_of (member_info g) ms rest

infos_all : (g : Around) (found out : List MemberInfo) (ms : List Method) → member_infos g found ms ≡ Some out → Infos g found out ms
unfolding member_infos
infos_all g found out [] h = record { rest = []; is = append-nil found ∙ same_Some found out h; beside = made_none (member_info g) }
infos_all g found out (m ∷ ms) h =
    let b = bound (member_info g m) (λ x. member_infos g (found ++ x ∷ []) ms) out h in
    let r = infos_all g (found ++ b.0 ∷ []) out ms b.2 in
    record {
      rest = b.0 ∷ r.rest;
      is = sym (append_assoc found (b.0 ∷ []) r.rest) ∙ r.is;
      beside = made_more (member_info g) m b.0 ms r.rest b.1 r.beside;
    }

-- ---- methods that are distinct

not_among : (m b : Method) (ms : List Method) (j : ℕ) → is_among m ms ≡ false → slice_get ms j ≡ Some b → is_same m b ≡ false
unfolding is_among
not_among m b [] j h at = absurd (none-some b at)
not_among m b (n ∷ ns) zero h at = ap (is_same m) (sym (same_Some n b at)) ∙ (or_parts (is_same m n) (is_among m ns) h).0
not_among m b (n ∷ ns) (suc j) h at = not_among m b ns j (or_parts (is_same m n) (is_among m ns) h).1 at

pub apart : (a b : Method) (ms : List Method) (i j : ℕ) → are_distinct ms ≡ true → i < j → slice_get ms i ≡ Some a → slice_get ms j ≡ Some b → is_same a b ≡ false
unfolding are_distinct
apart a b [] i j d l x y = absurd (none-some a x)
apart a b (m ∷ ms) i zero d l x y = absurd (omega arith)
apart a b (m ∷ ms) zero (suc j) d l x y =
    let p = and_parts (not (is_among m ms)) (are_distinct ms) d in
    ap (λ (k : Method). is_same k b) (sym (same_Some m a x)) ∙ not_among m b ms j (not-true (is_among m ms) p.0) y
apart a b (m ∷ ms) (suc i) (suc j) d l x y =
    let p = and_parts (not (is_among m ms)) (are_distinct ms) d in
    apart a b ms i j p.1 (omega arith) x y

-- ---- one method of the file

pub record Info (g : Around) (x : Method) (info : MemberInfo) : Type 0 where
  pub name : utf8 (at g.pool info.name) ≡ Some x.name
  pub descriptor : utf8 (at g.pool info.descriptor) ≡ Some x.descriptor
  pub flags : info.flags ≡ flags_of x.flags
  pub code : List any.Instr
  pub encoded : Encodes g x.instrs code
  pub code_is : code_of info ≡ Some (roll-Code (record { stack = short x.stack; locals = short x.locals; code = code; handlers = []; attributes = [] }))

-- the indices of a method's name and descriptor
record Names_found (p : List PoolEntry) (x : Method) (n : Names) : Type 0 where
  name : found (utf8_index p x.name) ≡ Some n.name
  descriptor : found (utf8_index p x.descriptor) ≡ Some n.descriptor

names_found : (p : List PoolEntry) (x : Method) (n : Names) → names_of p x ≡ Some n → Names_found p x n
names_found p x n h =
    let a = bound (found (utf8_index p x.name)) (λ name. found (utf8_index p x.descriptor) >>= λ d. found (utf8_index p (codes "Code")) >>= λ code. Some (record { name = name; descriptor = d; code = code })) n h in
    let b = bound (found (utf8_index p x.descriptor)) (λ d. found (utf8_index p (codes "Code")) >>= λ code. Some (record { name = a.0; descriptor = d; code = code })) n a.2 in
    let c = bound (found (utf8_index p (codes "Code"))) (λ code. Some (record { name = a.0; descriptor = b.0; code = code })) n b.2 in
    subst (Names_found p x) (same_Some (record { name = a.0; descriptor = b.0; code = c.0 }) n c.2) (record { name = a.1; descriptor = b.1 })

module _ (g : Around) (few : length g.pool ≤ 65534) (laid : Laid (kinds_of g.pool) g.pool) where
  with_code : (x : Method) (n : Names) (code : List any.Instr) → code_of (info_with n x code) ≡ Some (roll-Code (record { stack = short x.stack; locals = short x.locals; code = code; handlers = []; attributes = [] }))
  with_code x n code =
      ap (λ y. or_else (body_code y.body) None) (out-roll-Attribute (record { name = n.code; body = body.Code (roll-Code (record { stack = short x.stack; locals = short x.locals; code = code; handlers = []; attributes = [] })) }))

  pub info_of : (x : Method) (info : MemberInfo) → member_info g x ≡ Some info → Info g x info
  info_of x info h =
      let p = g.pool in
      let a = bound (encoded_from g [] x.instrs) (λ code. names_of p x >>= λ n. Some (info_with n x code)) info h in
      let b = bound (names_of p x) (λ n. Some (info_with n x a.0)) info a.2 in
      let r = names_found p x b.0 b.1 in
      let name = found-is (utf8_index p x.name) b.0.name r.name in
      let descriptor = found-is (utf8_index p x.descriptor) b.0.descriptor r.descriptor in
      subst (Info g x) (same_Some (info_with b.0 x a.0) info b.2) (record {
        name = text_named p few laid x.name b.0.name name.0 (omega (arith, name.0, name.1));
        descriptor = text_named p few laid x.descriptor b.0.descriptor descriptor.0 (omega (arith, descriptor.0, descriptor.1));
        flags = refl;
        code = a.0;
        encoded = encodes g x.instrs a.0 a.1;
        code_is = with_code x b.0 a.0;
      })

-- ---- the class

-- what of a method doesn't pass its limit
pub record Small (x : Method) : Type 0 where
  pub code : bytes_of x.instrs ≤ 65535
  pub arguments : x.arguments ≤ 255
  pub locals : x.locals ≤ 65535
  pub stack : x.stack ≤ 65535

code_within : (x : Method) → code_of_method x ≡ None → bytes_of x.instrs ≤ 65535
code_within x h = let le = within large.Code MAX_SHORT (min (bytes_of x.instrs) (2 ^ 64 - 1)) h in omega (arith, le)

small_of : (x : Method) → code_of_method x ≡ None → slots_of_method x ≡ None → Small x
small_of x c s =
    let a = neither (above large.Slots MAX_ARGUMENTS x.arguments) _ s in
    let b = neither (above large.Slots MAX_SHORT x.locals) (above large.Slots MAX_SHORT x.stack) a.1 in
    record { code = code_within x c; arguments = within large.Slots MAX_ARGUMENTS x.arguments a.0; locals = within large.Slots MAX_SHORT x.locals b.0; stack = within large.Slots MAX_SHORT x.stack b.1 }

small_at : (ms : List Method) (i : ℕ) (x : Method) → code_excess ms ≡ None → slots_excess ms ≡ None → slice_get ms i ≡ Some x → Small x
small_at [] i x c s h = absurd (none-some x h)
small_at (m ∷ ms) zero x c s h =
    let a = neither (code_of_method m) (code_excess ms) c in
    let b = neither (slots_of_method m) (slots_excess ms) s in
    subst Small (same_Some m x h) (small_of m a.0 b.0)
small_at (m ∷ ms) (suc i) x c s h = small_at ms i x (neither (code_of_method m) (code_excess ms) c).1 (neither (slots_of_method m) (slots_excess ms) s).1 h

right_at : (g : Around) (ms : List Method) (i : ℕ) (x : Method) → AllRight g ms → slice_get ms i ≡ Some x → MethodRight g x
right_at g [] i x r h = absurd (none-some x h)
right_at g (m ∷ ms) zero x r h = subst (MethodRight g) (same_Some m x h) r.0
right_at g (m ∷ ms) (suc i) x r h = right_at g ms i x r.1 h

-- the class that is built, and what is made of it
record Source (p : Program) (k : CoreClass) (m : Made) : Type 0 where
  built : is_built p k ≡ true
  needed' : needed p k ≡ Some m.pool
  methods : methods_of (around p k m.pool) p.bodies ≡ Some m.methods
  distinct : are_distinct m.methods ≡ true
  fit : list_all fits m.pool ≡ true

made_from : (p : Program) (k : CoreClass) (pool : List PoolEntry) (ms : List Method) (m : Made) → is_built p k ≡ true → needed p k ≡ Some pool → methods_of (around p k pool) p.bodies ≡ Some ms → made_with pool ms ≡ Some m → Source p k m
made_from p k pool ms m built need are h =
    let c = cond_some (are_distinct ms && list_all fits pool) (record { pool = pool; methods = ms }) m h in
    let a = and_parts (are_distinct ms) (list_all fits pool) c.0 in
    let same : record { pool = pool; methods = ms } ≡ m = c.1 in
    subst (Source p k) same (record { built = built; needed' = need; methods = are; distinct = a.0; fit = a.1 })

source_of : (p : Program) (k : CoreClass) (m : Made) → made p k ≡ Some m → Source p k m
source_of p k m h = by (is_built p k) refl h
  where
    by : (b : Bool) → is_built p k ≡ b → cond b (needed p k >>= λ pool. made_under p k pool) None ≡ Some m → Source p k m
    by false t e = absurd (none-some m e)
    by true t e =
        let a = bound (needed p k) (λ pool. made_under p k pool) m e in
        let b = bound (methods_of (around p k a.0) p.bodies) (made_with a.0) m a.2 in
        made_from p k a.0 b.0 m t a.1 b.1 b.2

-- the name of the class is no array, ends in `$`, and its accessor has a descriptor
record Own (p : Program) (k : CoreClass) : Type 0 where
  plain : is_array (units_of_name k.binary_name) ≡ false
  dollar : ends_in_dollar (units_of_name k.binary_name) ≡ true
  accessor : is_descriptor (get_name (around p k [])).descriptor ≡ true

own_of : (p : Program) (k : CoreClass) → is_built p k ≡ true → Own p k
own_of p k h =
    let g = around p k [] in
    let own = units_of_name k.binary_name in
    let a = and_parts _ (is_fitting g p k) h in
    let b = and_parts (is_class_name g own) (is_well_typed g p.bodies k.members) a.1 in
    let c = and_parts (not (is_array own) && is_descriptor (get_name g).descriptor) (ends_in_dollar own) b.0 in
    let d = and_parts (not (is_array own)) (is_descriptor (get_name g).descriptor) c.0 in
    record { plain = not-true (is_array own) d.0; dollar = c.1; accessor = d.1 }

-- no part of the class is too large
record Within (m : Made) : Type 0 where
  code : code_excess m.methods ≡ None
  pool : length m.pool ≤ 65534
  slots : slots_excess m.methods ≡ None

within_all : (m : Made) → excess_of m.pool m.methods ≡ None → Within m
within_all m h =
    let a = neither (number_excess m.pool m.methods) (text_excess m.pool) h in
    let b = neither (code_excess m.methods) _ a.0 in
    let c = neither (above large.Pool MAX_POOL (length m.pool)) _ b.1 in
    let d = neither (above large.Methods MAX_SHORT (length m.methods)) (slots_excess m.methods) c.1 in
    record { code = b.0; pool = within large.Pool MAX_POOL (length m.pool) c.0; slots = d.1 }

-- What a class file that is generated is made of.
pub record Parts (p : Program) (k : CoreClass) (m : Made) (c : ClassFile) : Type 0 where
  pub infos : List MemberInfo
  pub this : ℕ
  pub parent : ℕ
  pub is : file_with m.pool infos this parent ≡ c
  -- the pool
  pub few : length m.pool ≤ 65534
  pub laid : Laid (kinds_of m.pool) m.pool
  pub fit : list_all fits m.pool ≡ true
  pub this_is : class_name m.pool (at m.pool this) ≡ Some (units_of_name k.binary_name)
  pub parent_is : class_name m.pool (at m.pool parent) ≡ Some (codes "java/lang/Object")
  -- the name of the class
  pub dollar : ends_in_dollar (units_of_name k.binary_name) ≡ true
  pub accessor : is_descriptor (get_name (around p k m.pool)).descriptor ≡ true
  -- the methods
  pub rest : List Method
  pub methods : constructor (around p k m.pool) ∷ getter (around p k m.pool) ∷ rest ≡ m.methods
  pub distinct : are_distinct m.methods ≡ true
  pub members : Made_of (method_of (around p k m.pool) p.bodies) k.members rest
  pub beside : Made_of (member_info (around p k m.pool)) m.methods infos
  pub right : (i : ℕ) (x : Method) → slice_get m.methods i ≡ Some x → MethodRight (around p k m.pool) x
  pub small : (i : ℕ) (x : Method) → slice_get m.methods i ≡ Some x → Small x

pub parts_of : (p : Program) (k : CoreClass) (m : Made) (c : ClassFile) → made p k ≡ Some m → excess_of m.pool m.methods ≡ None → file p k m ≡ Some c → Parts p k m c
parts_of p k m c is_made none h =
    let g = around p k m.pool in
    let own = units_of_name k.binary_name in
    let source = source_of p k m is_made in
    let size = within_all m none in
    let name = own_of p k source.built in
    let few = size.pool in
    let laid = needed_laid p k m.pool name.plain source.needed' few in
    let all = from_all g p.bodies (constructor g ∷ getter g ∷ []) m.methods k.members source.methods in
    let a = bound (member_infos g [] m.methods) (λ infos. file_by k m.pool infos) c h in
    let i = infos_all g [] a.0 m.methods a.1 in
    let b = bound (found (class_index m.pool own)) (λ this. found (class_index m.pool (codes "java/lang/Object")) >>= λ parent. Some (file_with m.pool a.0 this parent)) c a.2 in
    let d = bound (found (class_index m.pool (codes "java/lang/Object"))) (λ parent. Some (file_with m.pool a.0 b.0 parent)) c b.2 in
    let this = found-is (class_index m.pool own) b.0 b.1 in
    let parent = found-is (class_index m.pool (codes "java/lang/Object")) d.0 d.1 in
    let right = methods-right g p.bodies m.methods name.accessor source.methods in
    record {
      infos = a.0;
      this = b.0;
      parent = d.0;
      is = same_Some (file_with m.pool a.0 b.0 d.0) c d.2;
      few = few;
      laid = laid;
      fit = source.fit;
      this_is = class_named m.pool few laid own b.0 this.0 (omega (arith, this.0, this.1));
      parent_is = class_named m.pool few laid (codes "java/lang/Object") d.0 parent.0 (omega (arith, parent.0, parent.1));
      dollar = name.dollar;
      accessor = name.accessor;
      rest = all.rest;
      methods = all.is;
      distinct = source.distinct;
      members = all.beside;
      beside = subst (Made_of (member_info g) m.methods) i.is i.beside;
      right = λ j x at. right_at g m.methods j x right at;
      small = λ j x at. small_at m.methods j x size.code size.slots at;
    }
