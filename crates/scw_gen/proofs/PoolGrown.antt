-- What is added to the pool names what it must, and the pool stays such.
use Rattle.std.proofs.Common.{◌≡◌, ℕ, ◌<◌, ◌^◌, Bool, true, false, List, [], ◌∷◌, ◌++◌, Some, refl, sym, ap, ◌∙◌, arith, append-nil, append_assoc}
use Rattle.std.specs.Prelude.{nat_eq, nat_lt}
use Rattle.std.specs.Cmp.Lexicographic.{pointwise, same_text}
use Rattle.std.proofs.lemmas.Bool.{false≢true, and_parts, and_from, cond_both, eqb-true, eqb-false, eq-eqb, lt-ltb}
use Rattle.scw_classfile.specs.declared.index.Expected.TheVariants as expected
use Rattle.scw_classfile.specs.declared.pool_entry.EntryKind.{EntryKind}
use Rattle.scw_classfile.specs.declared.pool_entry.EntryKind.TheVariants as kind
use Rattle.scw_classfile.specs.declared.pool_entry.PoolEntry.{PoolEntry}
use Rattle.scw_classfile.specs.declared.pool_entry.PoolEntry.TheVariants.{Utf8, Integer, Long, Class, Str, Methodref, NameAndType, Second}
use Rattle.scw_classfile.specs.Descriptor.{is_method, is_array, text_kind}
use Rattle.scw_classfile.specs.Kinds.{kind_of, kinds_of, kind_at, is_class_text, is_type_text, is_method_text, index_flaw, text_flaw, type_flaw}
use Rattle.scw_gen.specs.declared.pool.Entry.{Entry}
use Rattle.scw_gen.specs.declared.pool.Entry.TheVariants as entry
use Rattle.scw_gen.specs.declared.pool.MethodName.{MethodName}
use Rattle.scw_gen.specs.Pool.{is_utf8, is_entry, entry_of, index_from, utf8_index, index_of, class_index, name_and_type_index, long_index, unless_there, with_utf8, with_entry, with_integer, with_long, class_behind, with_class, string_behind, with_string, name_and_type_behind, with_name_and_type, method_behind, with_method}
use Rattle.scw_gen.proofs.NoFlaw.{no_first}
use Rattle.scw_gen.proofs.PoolIndex.{index-grown, index-added, index-le, Begins, begins-front, leads}
use Rattle.scw_gen.proofs.PoolLaid.{Whole, Laid, nothing, single, double, laid-append}
use Rattle.scw_gen.proofs.TextKinds.{text_kind-method, is_class_text-plain, index_right, text_right, type_right}

-- ---- a pool and one that goes on from it

record Longer (p q : List PoolEntry) : Type 0 where
  more : List PoolEntry
  is : q ≡ p ++ more

longer-more : (index : ℕ) (p more : List PoolEntry) → Longer p (unless_there index p more)
longer-more index p more = cond_both (nat_eq index 0) (p ++ more) p (Longer p) (λ _. record { more = more; is = refl }) (λ _. record { more = []; is = sym (append-nil p) })

longer-both : (p q r : List PoolEntry) → Longer p q → Longer q r → Longer p r
longer-both p q r a b = record { more = a.more ++ b.more; is = b.is ∙ ap (λ (l : List PoolEntry). l ++ b.more) a.is ∙ append_assoc p a.more b.more }

kept : (test : PoolEntry → Bool) (p q : List PoolEntry) → Longer p q → 0 < index_from test 1 p → index_from test 1 q ≡ index_from test 1 p
kept test p q l some = ap (index_from test 1) l.is ∙ index-grown test 1 p l.more some

-- what is added, unless it is there, has an index
there : (test : PoolEntry → Bool) (p : List PoolEntry) (e : PoolEntry) (more : List PoolEntry) → test e ≡ true → 0 < index_from test 1 (unless_there (index_from test 1 p) p (e ∷ more))
there test p e more h =
    let n = index_from test 1 p in
    cond_both (nat_eq n 0) (p ++ e ∷ more) p (λ q. 0 < index_from test 1 q) (λ _. index-added test 1 p e more (omega arith) h) (λ no. positive n (eqb-false n 0 no))
  where
    positive : (n : ℕ) → (n ≡ 0 → ⊥) → 0 < n
    positive n h = omega arith

-- ---- entries by their kinds

utf8_kind : (us : List ℕ) (e : PoolEntry) → is_utf8 us e ≡ true → kind_of e ≡ kind.Utf8 (text_kind us)
utf8_kind us (Utf8 vs) h = ap (λ (l : List ℕ). kind.Utf8 (text_kind l)) (same_text vs us (sym h))
utf8_kind us _ h = absurd (false≢true h)

class_kind : (n : ℕ) (e : PoolEntry) → is_entry (entry.Class n) e ≡ true → kind_of e ≡ kind.Class n
class_kind n (Class k) h = ap kind.Class (eqb-true k n h)
class_kind n _ h = absurd (false≢true h)

name_and_type_kind : (n d : ℕ) (e : PoolEntry) → is_entry (entry.NameAndType n d) e ≡ true → kind_of e ≡ kind.NameAndType d
name_and_type_kind n d (NameAndType a b) h = ap kind.NameAndType (eqb-true b d (and_parts (nat_eq a n) (nat_eq b d) h).1)
name_and_type_kind n d _ h = absurd (false≢true h)

methodref_kind : (c n : ℕ) (e : PoolEntry) → is_entry (entry.Methodref c n) e ≡ true → kind_of e ≡ kind.Methodref
methodref_kind c n (Methodref a b) h = refl
methodref_kind c n _ h = absurd (false≢true h)

str_kind : (n : ℕ) (e : PoolEntry) → is_entry (entry.Str n) e ≡ true → kind_of e ≡ kind.Str
str_kind n (Str k) h = refl
str_kind n _ h = absurd (false≢true h)

integer_kind : (n : ℕ) (e : PoolEntry) → is_entry (entry.Integer n) e ≡ true → kind_of e ≡ kind.Integer
integer_kind n (Integer k) h = refl
integer_kind n _ h = absurd (false≢true h)

long_kind : (n : ℕ) (e : PoolEntry) → is_entry (entry.Long n) e ≡ true → kind_of e ≡ kind.Long
long_kind n (Long k) h = refl
long_kind n _ h = absurd (false≢true h)

-- the kind of what an index leads to
leads_kind : (whole p : List PoolEntry) (test : PoolEntry → Bool) (k : EntryKind) → ((e : PoolEntry) → test e ≡ true → kind_of e ≡ k) → Begins whole p → 0 < index_from test 1 p → kind_at (kinds_of whole) (index_from test 1 p) ≡ Some k
leads_kind whole p test k same b some = let l = leads whole p test b some in l.kind ∙ ap (λ (j : EntryKind). Some j) (same l.entry l.passes)

module _ (whole p : List PoolEntry) (b : Begins whole p) where
  pub utf8_at : (us : List ℕ) → 0 < utf8_index p us → kind_at (kinds_of whole) (utf8_index p us) ≡ Some (kind.Utf8 (text_kind us))
  unfolding utf8_index
  utf8_at us some = leads_kind whole p (is_utf8 us) _ (utf8_kind us) b some

  pub class_at : (n : ℕ) → 0 < index_of p (entry.Class n) → kind_at (kinds_of whole) (index_of p (entry.Class n)) ≡ Some (kind.Class n)
  unfolding index_of
  class_at n some = leads_kind whole p (is_entry (entry.Class n)) _ (class_kind n) b some

  pub name_and_type_at : (n d : ℕ) → 0 < index_of p (entry.NameAndType n d) → kind_at (kinds_of whole) (index_of p (entry.NameAndType n d)) ≡ Some (kind.NameAndType d)
  unfolding index_of
  name_and_type_at n d some = leads_kind whole p (is_entry (entry.NameAndType n d)) _ (name_and_type_kind n d) b some

  pub methodref_at : (c n : ℕ) → 0 < index_of p (entry.Methodref c n) → kind_at (kinds_of whole) (index_of p (entry.Methodref c n)) ≡ Some kind.Methodref
  unfolding index_of
  methodref_at c n some = leads_kind whole p (is_entry (entry.Methodref c n)) _ (methodref_kind c n) b some

  pub str_at : (n : ℕ) → 0 < index_of p (entry.Str n) → kind_at (kinds_of whole) (index_of p (entry.Str n)) ≡ Some kind.Str
  unfolding index_of
  str_at n some = leads_kind whole p (is_entry (entry.Str n)) _ (str_kind n) b some

  pub integer_at : (n : ℕ) → 0 < index_of p (entry.Integer n) → kind_at (kinds_of whole) (index_of p (entry.Integer n)) ≡ Some kind.Integer
  unfolding index_of
  integer_at n some = leads_kind whole p (is_entry (entry.Integer n)) _ (integer_kind n) b some

  pub long_at : (n : ℕ) → 0 < index_of p (entry.Long n) → kind_at (kinds_of whole) (index_of p (entry.Long n)) ≡ Some kind.Long
  unfolding index_of
  long_at n some = leads_kind whole p (is_entry (entry.Long n)) _ (long_kind n) b some

-- ---- indices stay, and have 16 bits

utf8_kept : (p q : List PoolEntry) (us : List ℕ) → Longer p q → 0 < utf8_index p us → utf8_index q us ≡ utf8_index p us
unfolding utf8_index
utf8_kept p q us l some = kept (is_utf8 us) p q l some

index_kept : (p q : List PoolEntry) (e : Entry) → Longer p q → 0 < index_of p e → index_of q e ≡ index_of p e
unfolding index_of
index_kept p q e l some = kept (is_entry e) p q l some

pub utf8_short : (p : List PoolEntry) (us : List ℕ) → nat_lt (utf8_index p us) (2 ^ 16) ≡ true
unfolding utf8_index
utf8_short p us = let le = index-le (is_utf8 us) 1 p (omega arith) in lt-ltb (index_from (is_utf8 us) 1 p) (2 ^ 16) (omega (arith, le))

pub index_short : (p : List PoolEntry) (e : Entry) → nat_lt (index_of p e) (2 ^ 16) ≡ true
unfolding index_of
index_short p e = let le = index-le (is_entry e) 1 p (omega arith) in lt-ltb (index_from (is_entry e) 1 p) (2 ^ 16) (omega (arith, le))

-- ---- what was added has an index

utf8_there : (p : List PoolEntry) (us : List ℕ) → 0 < utf8_index (with_utf8 p us) us
unfolding utf8_index
utf8_there p us = there (is_utf8 us) p (Utf8 us) [] (same us)
  where
    same : (us : List ℕ) → pointwise nat_eq us us ≡ true
    same [] = refl
    same (u ∷ us) = and_from (nat_eq u u) (pointwise nat_eq us us) (eq-eqb u u refl) (same us)

is_entry-same : (e : Entry) → is_entry e (entry_of e) ≡ true
is_entry-same (entry.Integer n) = eq-eqb n n refl
is_entry-same (entry.Long n) = eq-eqb n n refl
is_entry-same (entry.Class n) = eq-eqb n n refl
is_entry-same (entry.Str n) = eq-eqb n n refl
is_entry-same (entry.NameAndType n d) = and_from (nat_eq n n) (nat_eq d d) (eq-eqb n n refl) (eq-eqb d d refl)
is_entry-same (entry.Methodref c n) = and_from (nat_eq c c) (nat_eq n n) (eq-eqb c c refl) (eq-eqb n n refl)

entry_there : (p : List PoolEntry) (e : Entry) → 0 < index_of (with_entry p e) e
unfolding index_of
entry_there p e = there (is_entry e) p (entry_of e) [] (is_entry-same e)

-- the pool has the class, with its name
record HasClass (p : List PoolEntry) (name : List ℕ) : Type 0 where
  text : 0 < utf8_index p name
  class : 0 < class_index p name

class_kept : (p q : List PoolEntry) (name : List ℕ) → Longer p q → HasClass p name → HasClass q name
class_kept p q name l h =
    let text = utf8_kept p q name l h.text in
    let class = index_kept p q (entry.Class (utf8_index p name)) l h.class in
    record { text = rw text h.text; class = rw (text, class) h.class }

class_there : (p : List PoolEntry) (name : List ℕ) → HasClass (with_class p name) name
class_there p name =
    let q = with_utf8 p name in
    let l = longer-more (index_of q (entry.Class (utf8_index q name))) q (Class (utf8_index q name) ∷ []) in
    let some = utf8_there p name in
    let text = utf8_kept q (with_class p name) name l some in
    record { text = rw text some; class = rw text (entry_there q (entry.Class (utf8_index q name))) }

-- the pool has the name and type, with its descriptor
record HasType (p : List PoolEntry) (name descriptor : List ℕ) : Type 0 where
  text : 0 < utf8_index p descriptor
  type' : 0 < name_and_type_index p name descriptor

module _ (p : List PoolEntry) (name descriptor : List ℕ) where
  abbrev texts : List PoolEntry
  texts = with_utf8 (with_utf8 p name) descriptor

  name_there : 0 < utf8_index texts name
  name_there =
      let q = with_utf8 p name in
      let some = utf8_there p name in
      let e = utf8_kept q texts name (longer-more (utf8_index q descriptor) q (Utf8 descriptor ∷ [])) some in
      rw e some

  type_there : HasType (with_name_and_type p name descriptor) name descriptor
  type_there =
      let n = utf8_index texts name in
      let d = utf8_index texts descriptor in
      let l = longer-more (index_of texts (entry.NameAndType n d)) texts (NameAndType n d ∷ []) in
      let a = utf8_kept texts (with_name_and_type p name descriptor) name l name_there in
      let some = utf8_there (with_utf8 p name) descriptor in
      let b = utf8_kept texts (with_name_and_type p name descriptor) descriptor l some in
      record { text = rw b some; type' = rw (a, b) (entry_there texts (entry.NameAndType n d)) }

  type_longer : Longer p (with_name_and_type p name descriptor)
  type_longer =
      let q = with_utf8 p name in
      let n = utf8_index texts name in
      let d = utf8_index texts descriptor in
      longer-both p q _ (longer-more (utf8_index p name) p (Utf8 name ∷ []))
      (longer-both q texts _ (longer-more (utf8_index q descriptor) q (Utf8 descriptor ∷ [])) (longer-more (index_of texts (entry.NameAndType n d)) texts (NameAndType n d ∷ [])))

-- ---- the pool stays right

-- if a pool that begins with these entries is the file's
pub record Grown (whole p : List PoolEntry) : Type 0 where
  pub laid : Begins whole p → Laid (kinds_of whole) p

grown-more : (whole p more : List PoolEntry) (index : ℕ) → Grown whole p → (Begins whole p → Laid (kinds_of whole) more) → Grown whole (unless_there index p more)
grown-more whole p more index g f =
    cond_both (nat_eq index 0) (p ++ more) p (Grown whole)
    (λ _. record { laid = λ b. let front = begins-front whole p more b in laid-append (kinds_of whole) p more (g.laid front) (f front) }) (λ _. g)

-- a list of one entry
one_more : (kinds : List EntryKind) (e : PoolEntry) → Whole kinds e → Laid kinds (e ∷ [])
one_more kinds e w = single e [] w nothing

module _ (whole p : List PoolEntry) (g : Grown whole p) where
  abbrev K : List EntryKind
  K = kinds_of whole

  pub grown-utf8 : (us : List ℕ) → Grown whole (with_utf8 p us)
  grown-utf8 us = grown-more whole p (Utf8 us ∷ []) (utf8_index p us) g (λ b. one_more K (Utf8 us) (record { single = refl; flawless = refl; counts = refl }))

  pub grown-integer : (n : ℕ) → Grown whole (with_integer p n)
  grown-integer n = grown-more whole p (Integer n ∷ []) (index_of p (entry.Integer n)) g (λ b. one_more K (Integer n) (record { single = refl; flawless = refl; counts = refl }))

  pub grown-long : (n : ℕ) → Grown whole (with_long p n)
  grown-long n = grown-more whole p (Long n ∷ Second ∷ []) (long_index p n) g (λ b. double n [] nothing)

  -- a class, whose name has an index
  grown-class_behind : (name : List ℕ) → is_array name ≡ false → 0 < utf8_index p name → Grown whole (class_behind p name)
  grown-class_behind name plain some =
      let n = utf8_index p name in
      grown-more whole p (Class n ∷ []) (index_of p (entry.Class n)) g
      (λ b. one_more K (Class n) (record { single = refl; flawless = text_right K is_class_text n 1 (text_kind name) (utf8_at whole p b name some) (is_class_text-plain name plain); counts = utf8_short p name }))

  grown-string_behind : (us : List ℕ) → 0 < utf8_index p us → Grown whole (string_behind p us)
  grown-string_behind us some =
      let n = utf8_index p us in
      grown-more whole p (Str n ∷ []) (index_of p (entry.Str n)) g
      (λ b. one_more K (Str n) (record { single = refl; flawless = index_right K expected.Text n 1 (kind.Utf8 (text_kind us)) (utf8_at whole p b us some) refl; counts = utf8_short p us }))

  grown-type_behind : (name descriptor : List ℕ) → is_method descriptor ≡ true → 0 < utf8_index p name → 0 < utf8_index p descriptor → Grown whole (name_and_type_behind p name descriptor)
  grown-type_behind name descriptor is some also =
      let n = utf8_index p name in
      let d = utf8_index p descriptor in
      grown-more whole p (NameAndType n d ∷ []) (index_of p (entry.NameAndType n d)) g
      (λ b. one_more K (NameAndType n d) (record {
        single = refl;
        flawless = no_first (index_flaw 52 K expected.Text n 1) (text_flaw 52 K is_type_text d 3)
            (index_right K expected.Text n 1 (kind.Utf8 (text_kind name)) (utf8_at whole p b name some) refl)
            (text_right K is_type_text d 3 (text_kind descriptor) (utf8_at whole p b descriptor also) (ap is_type_text (text_kind-method descriptor is)));
        counts = and_from (nat_lt n (2 ^ 16)) (nat_lt d (2 ^ 16)) (utf8_short p name) (utf8_short p descriptor);
      }))

  grown-method_behind : (m : MethodName) → is_method m.descriptor ≡ true → HasClass p m.class → HasType p m.name m.descriptor → Grown whole (method_behind p m)
  grown-method_behind m is has typed =
      let c = class_index p m.class in
      let n = name_and_type_index p m.name m.descriptor in
      let d = utf8_index p m.descriptor in
      grown-more whole p (Methodref c n ∷ []) (index_of p (entry.Methodref c n)) g
      (λ b. one_more K (Methodref c n) (record {
        single = refl;
        flawless = no_first (index_flaw 52 K expected.Class c 1) (type_flaw 52 K is_method_text n 3)
            (index_right K expected.Class c 1 (kind.Class (utf8_index p m.class)) (class_at whole p b (utf8_index p m.class) has.class) refl)
            (type_right K is_method_text n 3 d (text_kind m.descriptor) (name_and_type_at whole p b (utf8_index p m.name) d typed.type') (utf8_at whole p b m.descriptor typed.text)
            (ap is_method_text (text_kind-method m.descriptor is)));
        counts = and_from (nat_lt c (2 ^ 16)) (nat_lt n (2 ^ 16)) (index_short p (entry.Class (utf8_index p m.class))) (index_short p (entry.NameAndType (utf8_index p m.name) d));
      }))

module _ (whole p : List PoolEntry) (g : Grown whole p) where
  pub grown-class : (name : List ℕ) → is_array name ≡ false → Grown whole (with_class p name)
  grown-class name plain = grown-class_behind whole (with_utf8 p name) (grown-utf8 whole p g name) name plain (utf8_there p name)

  pub grown-string : (us : List ℕ) → Grown whole (with_string p us)
  grown-string us = grown-string_behind whole (with_utf8 p us) (grown-utf8 whole p g us) us (utf8_there p us)

  grown-type : (name descriptor : List ℕ) → is_method descriptor ≡ true → Grown whole (with_name_and_type p name descriptor)
  grown-type name descriptor is =
      let q = with_utf8 p name in
      grown-type_behind whole (texts p name descriptor) (grown-utf8 whole q (grown-utf8 whole p g name) descriptor) name descriptor is (name_there p name descriptor) (utf8_there q descriptor)

module _ (whole p : List PoolEntry) (g : Grown whole p) where
  pub grown-method : (m : MethodName) → is_array m.class ≡ false → is_method m.descriptor ≡ true → Grown whole (with_method p m)
  grown-method m plain is =
      let q = with_class p m.class in
      grown-method_behind whole (with_name_and_type q m.name m.descriptor) (grown-type whole q (grown-class whole p g m.class plain) m.name m.descriptor is)
      m is (class_kept q (with_name_and_type q m.name m.descriptor) m.class (type_longer q m.name m.descriptor) (class_there p m.class)) (type_there q m.name m.descriptor)
