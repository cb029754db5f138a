-- The methods of a program that is linked from one generated file.
use Rattle.std.proofs.Common.{◌≡◌, ℕ, zero, suc, ◌+◌, ◌≤◌, Bool, true, false, ◌&&◌, List, [], ◌∷◌, ◌++◌, map, length, Some, None, unwrap_or, slice_get, refl, ap, ◌∙◌}
use Rattle.std.specs.Prelude.{nat_eq}
use Rattle.std.specs.Int.RustNames.{bit_and}
use Rattle.std.specs.Option.{option_map}
use Rattle.std.proofs.lemmas.Bool.{and_from, and_right}
use Rattle.std.proofs.lemmas.Option.{same_Some, none-some}
use Rattle.scw_classfile.specs.declared.access_flags.AccessFlags.{AccessFlags}
use Rattle.scw_classfile.specs.declared.class_file.ClassFile.{ClassFile}
use Rattle.scw_classfile.specs.declared.class_file.Code.{out-roll-Code, roll-Code}
use Rattle.scw_classfile.specs.declared.class_file.MemberInfo.{MemberInfo}
use Rattle.scw_classfile.specs.declared.pool_entry.PoolEntry.{PoolEntry}
use Rattle.scw_classfile.specs.Kinds.{kinds_of}
use Rattle.scw_code.specs.declared.instr.Instr as any
use Rattle.scw_frame.specs.declared.program.Method.{Method}
use Rattle.scw_frame.specs.declared.program.Origin.{Origin}
use Rattle.scw_frame.specs.declared.program.Target.TheVariants as target
use Rattle.scw_frame.specs.declared.value.ValueKind.{ValueKind}
use Rattle.scw_gen.specs.Around.{Around}
use Rattle.scw_gen.specs.Generate.{are_distinct, file_with, member_info, short}
use Rattle.scw_gen.specs.Method as gen
use Rattle.scw_gen.proofs.EncodedAll.{Encodes}
use Rattle.scw_gen.proofs.PoolLaid.{Laid}
use Rattle.scw_link.specs.BuiltInMethods.{agree}
use Rattle.scw_link.specs.Classes.{is_static}
use Rattle.scw_link.specs.Code.{code_from, guard_of}
use Rattle.scw_link.specs.Descriptor.{parameter_kinds}
use Rattle.scw_link.specs.Members.{code_of, code_target, declared, is_member, member_place, method_target, target_in}
use Rattle.scw_link.specs.Methods.{arguments_of, methods_from, origin, receiver, with_code}
use Rattle.scw_link.specs.Names.{and_then, at, is_text, or_else, same, utf8}
use Rattle.scw_link.specs.Site.{Site}
use Rattle.scw_link.specs.Sizes.{start_of}
use Rattle.scw_back.proofs.Firsts.{first-position}
use Rattle.scw_back.proofs.MadeParts.{Info, Made_of, apart, info_of}
use Rattle.scw_back.proofs.SelectorNumbers.{same-refl}

-- static, by the flags (JVMS 4.6)
abbrev pub static_by : ℕ → Bool
static_by flags = nat_eq (bit_and flags 8) 8

agree-same : (b : Bool) → agree b b ≡ true
agree-same true = refl
agree-same false = refl

static-is : (m : MemberInfo) (flags : ℕ) → m.flags ≡ record { 0 = flags } → is_static m ≡ static_by flags
unfolding is_static
static-is m flags e = ap (λ (f : AccessFlags). nat_eq (bit_and f.0 8) 8) e

-- ---- the method at a place of a file

linked_at : (s : Site) (k n place number : ℕ) (infos : List MemberInfo) (j : ℕ) (info : MemberInfo) → slice_get infos j ≡ Some info
    → (o : Origin) × (first : ℕ) × (slice_get (methods_from s k n place number infos) j ≡ Some (with_code s o (arguments_of s.pool info) first (code_of info)))
linked_at s k n place number [] j info h = absurd (none-some info h)
linked_at s k n place number (m ∷ ms) zero info h =
    (origin k n (start_of place m), number, ap (λ (x : MemberInfo). Some (with_code s (origin k n (start_of place m)) (arguments_of s.pool x) number (code_of x))) (same_Some m info h))
linked_at s k n place number (m ∷ ms) (suc j) info h = linked_at s k (n + 1) _ _ ms j info h

with_code-some : (s : Site) (o : Origin) (ks : List ValueKind) (first stack locals : ℕ) (code : List any.Instr)
    → with_code s o ks first (Some (roll-Code (record { stack = stack; locals = locals; code = code; handlers = []; attributes = [] }))) ≡ record { origin = o; arguments = ks; stack = stack; locals = locals; code = code_from s 0 first code; guards = [] }
with_code-some s o ks first stack locals code =
    ap (λ x. record { origin = o; arguments = ks; stack = x.stack; locals = x.locals; code = code_from s 0 first x.code; guards = map (guard_of s) x.handlers }) (out-roll-Code (record { stack = stack; locals = locals; code = code; handlers = []; attributes = [] }))

-- a method of a file, linked where the file's names are resolved
pub record Linked (g : Around) (s : Site) (x : gen.Method) (m : Method) : Type 0 where
  pub arguments_are : m.arguments ≡ receiver (static_by x.flags) ++ parameter_kinds x.descriptor
  pub stack_is : m.stack ≡ short x.stack
  pub locals_is : m.locals ≡ short x.locals
  pub guards_are : m.guards ≡ []
  pub first : ℕ
  pub code : List any.Instr
  pub encoded : Encodes g x.instrs code
  pub code_is : m.code ≡ code_from s 0 first code

module _ (g : Around) (few : length g.pool ≤ 65534) (laid : Laid (kinds_of g.pool) g.pool) (ms : List gen.Method) (infos : List MemberInfo) (beside : Made_of (member_info g) ms infos) where
  -- by the site's pool, which is that of the class
  pub method_at : (s : Site) (k n place number j : ℕ) (x : gen.Method) → s.pool ≡ g.pool → slice_get ms j ≡ Some x → (m : Method) × (slice_get (methods_from s k n place number infos) j ≡ Some m) × Linked g s x m
  method_at s k n place number j x pool h =
      let b = beside.to j x h in
      let info : MemberInfo = b.0 in
      let i = info_of g few laid x info b.2 in
      let l = linked_at s k n place number infos j info b.1 in
      let ks = arguments_of s.pool info in
      let m : Method = record { origin = l.0; arguments = ks; stack = short x.stack; locals = short x.locals; code = code_from s 0 l.1 i.code; guards = [] } in
      let is : with_code s l.0 ks l.1 (code_of info) ≡ m = ap (with_code s l.0 ks l.1) i.code_is ∙ with_code-some s l.0 ks l.1 (short x.stack) (short x.locals) i.code in
      let text : unwrap_or (utf8 (at s.pool info.descriptor)) [] ≡ x.descriptor = ap (λ (p : List PoolEntry). unwrap_or (utf8 (at p info.descriptor)) []) pool ∙ ap (λ o. unwrap_or o []) i.descriptor in (
        m,
        l.2 ∙ ap (λ (y : Method). Some y) is,
        record {
          arguments_are = ap (λ b. receiver b ++ parameter_kinds (unwrap_or (utf8 (at s.pool info.descriptor)) [])) (static-is info x.flags i.flags) ∙ ap (λ t. receiver (static_by x.flags) ++ parameter_kinds t) text;
          stack_is = refl;
          locals_is = refl;
          guards_are = refl;
          first = l.1;
          code = i.code;
          encoded = i.encoded;
          code_is = refl;
        },
      )

  module _ (this above : ℕ) (distinct : are_distinct ms ≡ true) where
    abbrev C : ClassFile
    C = file_with g.pool infos this above

    abbrev F : List ClassFile
    F = C ∷ []

    -- ---- which method a name and a descriptor mean

    named-as : (y : gen.Method) (info : MemberInfo) (name descriptor : List ℕ) → Info g y info → is_member g.pool name descriptor info ≡ (same y.name name && same y.descriptor descriptor)
    named-as y info name descriptor i = ap (λ o. is_text o name && is_text (utf8 (at g.pool info.descriptor)) descriptor) i.name ∙ ap (λ o. same y.name name && is_text o descriptor) i.descriptor

    place_at : (j : ℕ) (x : gen.Method) → slice_get ms j ≡ Some x → member_place (static_by x.flags) g.pool x.name x.descriptor infos ≡ Some j
    place_at j x h =
        let wanted = static_by x.flags in
        let test : MemberInfo → Bool = λ m. agree wanted (is_static m) && is_member g.pool x.name x.descriptor m in
        let b = beside.to j x h in
        let i = info_of g few laid x b.0 b.2 in
        first-position test infos j b.0 (record {
          there = b.1;
          passes = and_from (agree wanted (is_static b.0)) (is_member g.pool x.name x.descriptor b.0)
              (ap (agree wanted) (static-is b.0 x.flags i.flags) ∙ agree-same wanted)
              (named-as x b.0 x.name x.descriptor i ∙ and_from (same x.name x.name) (same x.descriptor x.descriptor) (same-refl x.name) (same-refl x.descriptor));
          before = λ k info l at.
              let a = beside.back k info at in
              let d = apart a.0 x ms k j distinct l a.1 h in
              and_right (agree wanted (is_static info)) (is_member g.pool x.name x.descriptor info) (named-as a.0 info x.name x.descriptor (info_of g few laid a.0 info a.2) ∙ d);
        })

    -- what a call of the method runs on an object of the class
    pub target_at : (j : ℕ) (x : gen.Method) → slice_get ms j ≡ Some x → target_in F (static_by x.flags) x.name x.descriptor (24 ∷ 0 ∷ []) ≡ Some (target.Code (record { 0 = 1 + j }))
    target_at j x h =
        let wanted = static_by x.flags in
        let b = beside.to j x h in
        let i = info_of g few laid x b.0 b.2 in
        let above_it = or_else (declared F wanted x.name x.descriptor 0) None in
        ap (λ o. and_then (or_else (option_map (method_target F 0 C) o) above_it) (λ t. t)) (place_at j x h)
        ∙ ap (λ o. code_target (1 + j) (and_then o code_of)) b.1
        ∙ ap (code_target (1 + j)) i.code_is
