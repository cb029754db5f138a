-- What was added to the pool has an index in it, and keeps it as the pool grows.
use Rattle.std.proofs.Common.{◌≡◌, ℕ, ◌<◌, ◌^◌, Bool, true, List, [], ◌∷◌, ◌++◌, refl, sym, ap, ◌∙◌, subst, arith, append-nil, append_assoc}
use Rattle.std.specs.Prelude.{nat_eq, nat_lt}
use Rattle.std.specs.Cmp.Lexicographic.{pointwise}
use Rattle.std.specs.List.{list_all}
use Rattle.std.proofs.lemmas.Bool.{and_from, and_parts, cond_both, eqb-false, eq-eqb}
use Rattle.scw_classfile.specs.declared.pool_entry.PoolEntry.{PoolEntry}
use Rattle.scw_classfile.specs.declared.pool_entry.PoolEntry.TheVariants.{Utf8, Long, Second}
use Rattle.scw_gen.specs.declared.named.Named as gen
use Rattle.scw_gen.specs.declared.named.Named.TheVariants as named
use Rattle.scw_gen.specs.declared.pool.Entry.{Entry}
use Rattle.scw_gen.specs.declared.pool.Entry.TheVariants as entry
use Rattle.scw_gen.specs.declared.pool.MethodName.{MethodName}
use Rattle.scw_gen.specs.Pool.{class_index, entry_of, fits, index_from, index_of, integer_index, is_entry, is_utf8, long_index, method_index, name_and_type_index, string_index, unless_there, utf8_index, with_class, with_entry, with_long, with_string, with_utf8}
use Rattle.scw_gen.proofs.PoolIndex.{index-added, index-grown}
use Rattle.scw_built.proofs.Sound.{are_units}

-- ---- a pool and one that goes on from it, whose entries fit if those did

pub record Longer (p q : List PoolEntry) : Type 0 where
  pub more : List PoolEntry
  pub is : q ≡ p ++ more
  pub fit : list_all fits p ≡ true → list_all fits q ≡ true

pub longer-same : (p : List PoolEntry) → Longer p p
longer-same p = record { more = []; is = sym (append-nil p); fit = λ h. h }

all-append : (p more : List PoolEntry) → list_all fits p ≡ true → list_all fits more ≡ true → list_all fits (p ++ more) ≡ true
all-append [] more h k = k
all-append (e ∷ p) more h k = let a = and_parts (fits e) (list_all fits p) h in and_from (fits e) (list_all fits (p ++ more)) a.0 (all-append p more a.1 k)

longer-more : (index : ℕ) (p more : List PoolEntry) → list_all fits more ≡ true → Longer p (unless_there index p more)
longer-more index p more f = cond_both (nat_eq index 0) (p ++ more) p (Longer p) (λ _. record { more = more; is = refl; fit = λ h. all-append p more h f }) (λ _. longer-same p)

pub longer-both : (p q r : List PoolEntry) → Longer p q → Longer q r → Longer p r
longer-both p q r a b = record { more = a.more ++ b.more; is = b.is ∙ ap (λ (l : List PoolEntry). l ++ b.more) a.is ∙ append_assoc p a.more b.more; fit = λ h. b.fit (a.fit h) }

kept : (test : PoolEntry → Bool) (p q : List PoolEntry) → Longer p q → 0 < index_from test 1 p → index_from test 1 q ≡ index_from test 1 p
kept test p q l some = ap (index_from test 1) l.is ∙ index-grown test 1 p l.more some

-- what is added, unless it is there, has an index
there : (test : PoolEntry → Bool) (p : List PoolEntry) (e : PoolEntry) (more : List PoolEntry) → test e ≡ true → 0 < index_from test 1 (unless_there (index_from test 1 p) p (e ∷ more))
there test p e more h =
    let n = index_from test 1 p in
    cond_both (nat_eq n 0) (p ++ e ∷ more) p (λ q. 0 < index_from test 1 q) (λ _. index-added test 1 p e more (omega arith) h) (λ no. positive n (eqb-false n 0 no))
  where
    positive : (n : ℕ) → (n ≡ 0 → ⊥) → 0 < n
    positive n h = omega arith

pub utf8_kept : (p q : List PoolEntry) (us : List ℕ) → Longer p q → 0 < utf8_index p us → utf8_index q us ≡ utf8_index p us
unfolding utf8_index
utf8_kept p q us l some = kept (is_utf8 us) p q l some

index_kept : (p q : List PoolEntry) (e : Entry) → Longer p q → 0 < index_of p e → index_of q e ≡ index_of p e
unfolding index_of
index_kept p q e l some = kept (is_entry e) p q l some

-- ---- what has an index

pub utf8_stays : (p q : List PoolEntry) (us : List ℕ) → Longer p q → 0 < utf8_index p us → 0 < utf8_index q us
utf8_stays p q us l h = let e = utf8_kept p q us l h in rw e h

entry_stays : (p q : List PoolEntry) (e : Entry) → Longer p q → 0 < index_of p e → 0 < index_of q e
entry_stays p q e l h = let f = index_kept p q e l h in rw f h

pub record HasText (p : List PoolEntry) (us : List ℕ) : Type 0 where
  pub text : 0 < utf8_index p us
  pub there : 0 < string_index p us

pub record HasClass (p : List PoolEntry) (name : List ℕ) : Type 0 where
  pub text : 0 < utf8_index p name
  pub there : 0 < class_index p name

pub record HasType (p : List PoolEntry) (name descriptor : List ℕ) : Type 0 where
  pub name' : 0 < utf8_index p name
  pub descriptor' : 0 < utf8_index p descriptor
  pub there : 0 < name_and_type_index p name descriptor

pub record HasMethod (p : List PoolEntry) (m : MethodName) : Type 0 where
  pub class : HasClass p m.class
  pub type' : HasType p m.name m.descriptor
  pub there : 0 < method_index p m

abbrev pub Has : List PoolEntry → gen.Named → Type 0
Has p named.Nothing = Unit {0}
Has p (named.Integer n) = 0 < integer_index p n
Has p (named.Long n) = 0 < long_index p n
Has p (named.Text us) = HasText p us
Has p (named.Class name) = HasClass p name
Has p (named.Method m) = HasMethod p m

text_stays : (p q : List PoolEntry) (us : List ℕ) → Longer p q → HasText p us → HasText q us
text_stays p q us l h =
    let a = utf8_kept p q us l h.text in
    let b = entry_stays p q (entry.Str (utf8_index p us)) l h.there in
    record { text = utf8_stays p q us l h.text; there = rw a b }

pub class_stays : (p q : List PoolEntry) (name : List ℕ) → Longer p q → HasClass p name → HasClass q name
class_stays p q name l h =
    let a = utf8_kept p q name l h.text in
    let b = entry_stays p q (entry.Class (utf8_index p name)) l h.there in
    record { text = utf8_stays p q name l h.text; there = rw a b }

pub type_stays : (p q : List PoolEntry) (name descriptor : List ℕ) → Longer p q → HasType p name descriptor → HasType q name descriptor
type_stays p q name descriptor l h =
    let a = utf8_kept p q name l h.name' in
    let b = utf8_kept p q descriptor l h.descriptor' in
    let c = entry_stays p q (entry.NameAndType (utf8_index p name) (utf8_index p descriptor)) l h.there in
    record { name' = utf8_stays p q name l h.name'; descriptor' = utf8_stays p q descriptor l h.descriptor'; there = rw (a, b) c }

pub class_index_kept : (p q : List PoolEntry) (name : List ℕ) → Longer p q → HasClass p name → class_index q name ≡ class_index p name
class_index_kept p q name l h = let a = utf8_kept p q name l h.text in ap (λ n. index_of q (entry.Class n)) a ∙ index_kept p q (entry.Class (utf8_index p name)) l h.there

pub type_index_kept : (p q : List PoolEntry) (name descriptor : List ℕ) → Longer p q → HasType p name descriptor → name_and_type_index q name descriptor ≡ name_and_type_index p name descriptor
type_index_kept p q name descriptor l h =
    let a = utf8_kept p q name l h.name' in
    let b = utf8_kept p q descriptor l h.descriptor' in
    ap (λ n. index_of q (entry.NameAndType n (utf8_index q descriptor))) a ∙ ap (λ n. index_of q (entry.NameAndType (utf8_index p name) n)) b
    ∙ index_kept p q (entry.NameAndType (utf8_index p name) (utf8_index p descriptor)) l h.there

method_index_kept : (p q : List PoolEntry) (m : MethodName) → Longer p q → HasMethod p m → method_index q m ≡ method_index p m
method_index_kept p q m l h =
    ap (λ n. index_of q (entry.Methodref n (name_and_type_index q m.name m.descriptor))) (class_index_kept p q m.class l h.class)
    ∙ ap (λ n. index_of q (entry.Methodref (class_index p m.class) n)) (type_index_kept p q m.name m.descriptor l h.type')
    ∙ index_kept p q (entry.Methodref (class_index p m.class) (name_and_type_index p m.name m.descriptor)) l h.there

method_stays : (p q : List PoolEntry) (m : MethodName) → Longer p q → HasMethod p m → HasMethod q m
method_stays p q m l h = record {
  class = class_stays p q m.class l h.class;
  type' = type_stays p q m.name m.descriptor l h.type';
  there = subst (λ n. 0 < n) (sym (method_index_kept p q m l h)) h.there;
}

pub has_stays : (p q : List PoolEntry) (n : gen.Named) → Longer p q → Has p n → Has q n
has_stays p q named.Nothing l h = tt
has_stays p q (named.Integer n) l h = entry_stays p q (entry.Integer n) l h
has_stays p q (named.Long n) l h = entry_stays p q (entry.Long n) l h
has_stays p q (named.Text us) l h = text_stays p q us l h
has_stays p q (named.Class name) l h = class_stays p q name l h
has_stays p q (named.Method m) l h = method_stays p q m l h

-- ---- what is added

pub utf8_there : (p : List PoolEntry) (us : List ℕ) → 0 < utf8_index (with_utf8 p us) us
unfolding utf8_index
utf8_there p us = there (is_utf8 us) p (Utf8 us) [] (same us)
  where
    same : (us : List ℕ) → pointwise nat_eq us us ≡ true
    same [] = refl
    same (u ∷ us) = and_from (nat_eq u u) (pointwise nat_eq us us) (eq-eqb u u refl) (same us)

is_entry-same : (e : Entry) → is_entry e (entry_of e) ≡ true
is_entry-same (entry.Integer n) = eq-eqb n n refl
is_entry-same (entry.Long n) = eq-eqb n n refl
is_entry-same (entry.Class n) = eq-eqb n n refl
is_entry-same (entry.Str n) = eq-eqb n n refl
is_entry-same (entry.NameAndType n d) = and_from (nat_eq n n) (nat_eq d d) (eq-eqb n n refl) (eq-eqb d d refl)
is_entry-same (entry.Methodref c n) = and_from (nat_eq c c) (nat_eq n n) (eq-eqb c c refl) (eq-eqb n n refl)

pub entry_there : (p : List PoolEntry) (e : Entry) → 0 < index_of (with_entry p e) e
unfolding index_of
entry_there p e = there (is_entry e) p (entry_of e) [] (is_entry-same e)

pub long_there : (p : List PoolEntry) (n : ℕ) → 0 < long_index (with_long p n) n
unfolding index_of
long_there p n = there (is_entry (entry.Long n)) p (Long n) (Second ∷ []) (is_entry-same (entry.Long n))

pub utf8-longer : (p : List PoolEntry) (us : List ℕ) → are_units us ≡ true → Longer p (with_utf8 p us)
utf8-longer p us f = longer-more (utf8_index p us) p (Utf8 us ∷ []) (and_from (are_units us) true f refl)

pub long-longer : (p : List PoolEntry) (n : ℕ) → nat_lt n (2 ^ 64) ≡ true → Longer p (with_long p n)
long-longer p n f = longer-more (long_index p n) p (Long n ∷ Second ∷ []) (and_from (nat_lt n (2 ^ 64)) true f refl)

pub entry-longer : (p : List PoolEntry) (e : Entry) → fits (entry_of e) ≡ true → Longer p (with_entry p e)
entry-longer p e f = longer-more (index_of p e) p (entry_of e ∷ []) (and_from (fits (entry_of e)) true f refl)

-- a pool that goes on from one, and has something
pub record Added (p q : List PoolEntry) (n : gen.Named) : Type 0 where
  pub longer : Longer p q
  pub has : Has q n

pub text-added : (p : List PoolEntry) (us : List ℕ) → are_units us ≡ true → Added p (with_string p us) (named.Text us)
text-added p us f =
    let q = with_utf8 p us in
    let e = entry.Str (utf8_index q us) in
    let l = entry-longer q e refl in
    let a = utf8_kept q (with_string p us) us l (utf8_there p us) in
    let b = entry_there q e in
    record { longer = longer-both p q (with_string p us) (utf8-longer p us f) l; has = record { text = utf8_stays q (with_string p us) us l (utf8_there p us); there = rw a b } }

pub class-added : (p : List PoolEntry) (name : List ℕ) → are_units name ≡ true → Added p (with_class p name) (named.Class name)
class-added p name f =
    let q = with_utf8 p name in
    let e = entry.Class (utf8_index q name) in
    let l = entry-longer q e refl in
    let a = utf8_kept q (with_class p name) name l (utf8_there p name) in
    let b = entry_there q e in
    record { longer = longer-both p q (with_class p name) (utf8-longer p name f) l; has = record { text = utf8_stays q (with_class p name) name l (utf8_there p name); there = rw a b } }
