-- What an index that was found in the pool of a class names to the linker.
use Rattle.std.proofs.Common.{◌≡◌, ℕ, zero, suc, ◌+◌, ◌<◌, ◌≤◌, Bool, true, false, cond, List, [], ◌∷◌, length, Option, Some, None, slice_get, refl, sym, ap, ◌∙◌, subst, arith}
use Rattle.std.specs.Prelude.{nat_eq}
use Rattle.std.specs.Cmp.Lexicographic.{same_text}
use Rattle.std.proofs.lemmas.Bool.{false≢true, and_parts, eqb-true}
use Rattle.std.proofs.lemmas.Option.{same_Some, none-some}
use Rattle.scw_classfile.specs.declared.fault.Flaw.{Flaw}
use Rattle.scw_classfile.specs.declared.index.Expected.{Expected}
use Rattle.scw_classfile.specs.declared.index.Expected.TheVariants as expected
use Rattle.scw_classfile.specs.declared.pool_entry.EntryKind.{EntryKind}
use Rattle.scw_classfile.specs.declared.pool_entry.PoolEntry.{PoolEntry}
use Rattle.scw_classfile.specs.declared.pool_entry.PoolEntry.TheVariants.{Utf8, Integer, Long, Class, Str, Methodref, NameAndType, Second}
use Rattle.scw_classfile.specs.Codec.{first_of_two, is_none}
use Rattle.scw_classfile.specs.Kinds.{index_flaw, is_method_text, is_type_text, kinds_of, text_flaw, type_flaw}
use Rattle.scw_classfile.specs.Pool.{entry_flaw}
use Rattle.scw_gen.specs.declared.pool.MethodName.{MethodName}
use Rattle.scw_gen.specs.Instr.{plus}
use Rattle.scw_gen.specs.Pool.{class_index, index_from, index_of, integer_index, is_class, is_integer, is_long, is_methodref, is_name_and_type, is_str, is_utf8, long_index, method_index, name_and_type_index, string_index, utf8_index}
use Rattle.scw_gen.proofs.PoolIndex.{Stands}
use Rattle.scw_gen.proofs.PoolLaid.{Laid, nothing, single, double}
use Rattle.scw_link.specs.Names.{and_then, at, class_name, method_ref, named, utf8}

-- ---- the entry at an index

stands : (test : PoolEntry → Bool) (k : ℕ) (p : List PoolEntry) → k + length p ≤ 65535 → 0 < index_from test k p → Stands test k p (index_from test k p)
stands test k [] few some = absurd (omega arith)
stands test k (e ∷ es) few some = by (test e) refl some (λ s. stands test (plus k 1) es (omega arith) s)
  where
    by : (b : Bool) → test e ≡ b → 0 < cond b k (index_from test (plus k 1) es)
        → (0 < index_from test (plus k 1) es → Stands test (plus k 1) es (index_from test (plus k 1) es)) → Stands test k (e ∷ es) (cond b k (index_from test (plus k 1) es))
    by true h s later = record { place = 0; entry = e; is = omega arith; at = refl; passes = h }
    by false h s later = let f = later s in record { place = suc f.place; entry = f.entry; is = omega (arith, f.is); at = f.at; passes = f.passes }

-- an entry that passes stands at the index
record Entry_at (test : PoolEntry → Bool) (p : List PoolEntry) (n : ℕ) : Type 0 where
  place : ℕ
  entry : PoolEntry
  is : n ≡ suc place
  there : slice_get p place ≡ Some entry
  passes : test entry ≡ true

entry_at : (test : PoolEntry → Bool) (p : List PoolEntry) (n : ℕ) → length p ≤ 65534 → index_from test 1 p ≡ n → 0 < n → Entry_at test p n
entry_at test p n few is some =
    let s = stands test 1 p (omega arith) (omega (arith, is, some)) in
    let e = s.is in
    record { place = s.place; entry = s.entry; is = omega (arith, is, e); there = s.at; passes = s.passes }

-- what the linker sees at the index
at-place : (p : List PoolEntry) (n place : ℕ) (e : PoolEntry) → n ≡ suc place → slice_get p place ≡ Some e → at p n ≡ Some e
at-place p n place e is h = ap (at p) is ∙ h

-- ---- entries by their tests

utf8_is : (us : List ℕ) (e : PoolEntry) → is_utf8 us e ≡ true → e ≡ Utf8 us
utf8_is us (Utf8 vs) h = ap Utf8 (same_text vs us (sym h))
utf8_is us _ h = absurd (false≢true h)

integer_is : (n : ℕ) (e : PoolEntry) → is_integer n e ≡ true → e ≡ Integer n
integer_is n (Integer k) h = ap Integer (eqb-true k n h)
integer_is n _ h = absurd (false≢true h)

long_is : (n : ℕ) (e : PoolEntry) → is_long n e ≡ true → e ≡ Long n
long_is n (Long k) h = ap Long (eqb-true k n h)
long_is n _ h = absurd (false≢true h)

class_is : (n : ℕ) (e : PoolEntry) → is_class n e ≡ true → e ≡ Class n
class_is n (Class k) h = ap Class (eqb-true k n h)
class_is n _ h = absurd (false≢true h)

str_is : (n : ℕ) (e : PoolEntry) → is_str n e ≡ true → e ≡ Str n
str_is n (Str k) h = ap Str (eqb-true k n h)
str_is n _ h = absurd (false≢true h)

type_is : (n d : ℕ) (e : PoolEntry) → is_name_and_type n d e ≡ true → e ≡ NameAndType n d
type_is n d (NameAndType a b) h =
    let parts = and_parts (nat_eq a n) (nat_eq b d) h in
    ap (λ k. NameAndType k b) (eqb-true a n parts.0) ∙ ap (NameAndType n) (eqb-true b d parts.1)
type_is n d _ h = absurd (false≢true h)

methodref_is : (c n : ℕ) (e : PoolEntry) → is_methodref c n e ≡ true → e ≡ Methodref c n
methodref_is c n (Methodref a b) h =
    let parts = and_parts (nat_eq a c) (nat_eq b n) h in
    ap (λ k. Methodref k b) (eqb-true a c parts.0) ∙ ap (Methodref c) (eqb-true b n parts.1)
methodref_is c n _ h = absurd (false≢true h)

-- ---- what entries name isn't nothing

-- each entry of a pool that is laid has no flaw
laid-at : (kinds : List EntryKind) (es : List PoolEntry) → Laid kinds es → (n : ℕ) (e : PoolEntry) → slice_get es n ≡ Some e → is_none (entry_flaw 52 kinds e) ≡ true
laid-at kinds es nothing n e h = absurd (none-some e h)
laid-at kinds es (single x rest w l) zero e h = ap (λ y. is_none (entry_flaw 52 kinds y)) (sym (same_Some x e h)) ∙ w.flawless
laid-at kinds es (single x rest w l) (suc n) e h = laid-at kinds rest l n e h
laid-at kinds es (double k rest l) zero e h = ap (λ y. is_none (entry_flaw 52 kinds y)) (sym (same_Some (Long k) e h))
laid-at kinds es (double k rest l) (suc zero) e h = ap (λ y. is_none (entry_flaw 52 kinds y)) (sym (same_Some Second e h))
laid-at kinds es (double k rest l) (suc (suc n)) e h = laid-at kinds rest l n e h

-- neither of two flaws is there
both_none : (a b : Option Flaw) → is_none (first_of_two a b) ≡ true → (is_none a ≡ true) × (is_none b ≡ true)
both_none None b h = (refl, h)
both_none (Some x) b h = absurd (false≢true h)

index_some : (kinds : List EntryKind) (e : Expected) (n after : ℕ) → is_none (index_flaw 52 kinds e n after) ≡ true → 0 < n
index_some kinds e zero after h = absurd (false≢true h)
index_some kinds e (suc n) after h = omega arith

module _ (p : List PoolEntry) (few : length p ≤ 65534) (laid : Laid (kinds_of p) p) where
  abbrev K : List EntryKind
  K = kinds_of p

  pub text_named : (us : List ℕ) (n : ℕ) → utf8_index p us ≡ n → 0 < n → utf8 (at p n) ≡ Some us
  unfolding utf8_index
  text_named us n is some =
      let e = entry_at (is_utf8 us) p n few is some in
      ap utf8 (at-place p n e.place e.entry e.is e.there) ∙ ap (λ x. utf8 (Some x)) (utf8_is us e.entry e.passes)

  -- the entry that was looked for, which has no flaw
  record Is (n : ℕ) (e : PoolEntry) : Type 0 where
    there : at p n ≡ Some e
    flawless : is_none (entry_flaw 52 K e) ≡ true

  is_there : (n : ℕ) (test : PoolEntry → Bool) (x : PoolEntry) → index_from test 1 p ≡ n → 0 < n → ((e : PoolEntry) → test e ≡ true → e ≡ x) → Is n x
  is_there n test x is some same =
      let e = entry_at test p n few is some in
      subst (Is n) (same e.entry e.passes) (record { there = at-place p n e.place e.entry e.is e.there; flawless = laid-at K p laid e.place e.entry e.there })

  pub integer_named : (c n : ℕ) → integer_index p c ≡ n → 0 < n → at p n ≡ Some (Integer c)
  unfolding index_of
  integer_named c n is some = (is_there n (is_integer c) (Integer c) is some (integer_is c)).there

  pub long_named : (c n : ℕ) → long_index p c ≡ n → 0 < n → at p n ≡ Some (Long c)
  unfolding index_of
  long_named c n is some = (is_there n (is_long c) (Long c) is some (long_is c)).there

  -- a text is in the pool, and a constant of it
  pub record Text_named (us : List ℕ) (n : ℕ) : Type 0 where
    pub text : ℕ
    pub there : at p n ≡ Some (Str text)
    pub is : utf8 (at p text) ≡ Some us

  pub string_named : (us : List ℕ) (n : ℕ) → string_index p us ≡ n → 0 < n → Text_named us n
  unfolding index_of
  string_named us n is some =
      let t = utf8_index p us in
      let e = is_there n (is_str t) (Str t) is some (str_is t) in
      record { text = t; there = e.there; is = text_named us t refl (index_some K expected.Text t 1 e.flawless) }

  pub class_named : (name : List ℕ) (n : ℕ) → class_index p name ≡ n → 0 < n → class_name p (at p n) ≡ Some name
  unfolding index_of
  class_named name n is some =
      let t = utf8_index p name in
      let e = is_there n (is_class t) (Class t) is some (class_is t) in
      ap (class_name p) e.there ∙ text_named name t refl (index_some K expected.Text t 1 (both_none (index_flaw 52 K expected.Text t 1) _ e.flawless).0)

  -- a name with a descriptor
  type_named : (c name descriptor : List ℕ) (n : ℕ) → name_and_type_index p name descriptor ≡ n → 0 < n → named p c (at p n) ≡ Some (record { class = c; name = name; descriptor = descriptor })
  unfolding index_of
  type_named c name descriptor n is some =
      let t = utf8_index p name in
      let d = utf8_index p descriptor in
      let e = is_there n (is_name_and_type t d) (NameAndType t d) is some (type_is t d) in
      let f = both_none (index_flaw 52 K expected.Text t 1) (text_flaw 52 K is_type_text d 3) e.flawless in
      let g = both_none (index_flaw 52 K expected.Text d 3) _ f.1 in
      ap (named p c) e.there
      ∙ ap (λ o. and_then o (λ x. and_then (utf8 (at p d)) (λ y. Some (record { class = c; name = x; descriptor = y })))) (text_named name t refl (index_some K expected.Text t 1 f.0))
      ∙ ap (λ o. and_then o (λ y. Some (record { class = c; name = name; descriptor = y }))) (text_named descriptor d refl (index_some K expected.Text d 3 g.0))

  -- a method of a class
  pub method_named : (m : MethodName) (n : ℕ) → method_index p m ≡ n → 0 < n → method_ref p (at p n) ≡ Some (record { class = m.class; name = m.name; descriptor = m.descriptor })
  unfolding index_of
  method_named m n is some =
      let c = class_index p m.class in
      let t = name_and_type_index p m.name m.descriptor in
      let e = is_there n (is_methodref c t) (Methodref c t) is some (methodref_is c t) in
      let f = both_none (index_flaw 52 K expected.Class c 1) (type_flaw 52 K is_method_text t 3) e.flawless in
      let g = both_none (index_flaw 52 K expected.NameAndType t 3) _ f.1 in
      ap (method_ref p) e.there
      ∙ ap (λ o. and_then o (λ x. named p x (at p t))) (class_named m.class c refl (index_some K expected.Class c 1 f.0))
      ∙ type_named m.class m.name m.descriptor t refl (index_some K expected.NameAndType t 3 g.0)
