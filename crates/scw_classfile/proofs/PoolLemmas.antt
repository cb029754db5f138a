-- The law of the constant pool.
use Rattle.std.proofs.Common.{◌≡◌, ℕ, zero, suc, ◌+◌, ◌-◌, ◌<◌, Bool, true, false, ◌&&◌, not, eqb, List, [], ◌∷◌, ◌++◌, length, take, drop, ltb, Option, Some, None, Result, Ok, Err, refl, sym, ap, ◌∙◌, subst, inl, inr, min, ◌^◌, arith}
use Rattle.std.proofs.lemmas.Bool.{and_parts, cases_Bool, eqb-true, ltb-false, false≢true}
use Rattle.std.proofs.lemmas.List.{length-take}
use Rattle.scw_text.proofs.ByteLemmas.{AreBytes, AreBytes-tail}
use Rattle.scw_text.proofs.ModifiedLemmas.{units_of-modified, modified-units_of, units_of_place}
use Rattle.scw_text.specs.Modified.{units_of}
use Rattle.scw_text.specs.ReadModified.{Reads, reported, last_place}
use Rattle.scw_text.specs.declared.modified.ModifiedFault.{ModifiedFault}
use Rattle.scw_text.specs.declared.modified.ModifiedFault.TheVariants as modified_fault
use Rattle.scw_classfile.specs.Gives.{Fails}
use Rattle.scw_classfile.specs.TextFault.{text_fault as text_fault_in}
use Rattle.scw_classfile.specs.declared.class_rule.ClassRule.TheVariants as class_rule
use Rattle.scw_classfile.specs.declared.pool_entry.PoolEntry.{PoolEntry}
use Rattle.scw_classfile.specs.declared.pool_entry.PoolEntry.TheVariants.{Utf8, Integer, Float, Long, Double, Class, Str, MethodType, Fieldref, Methodref, InterfaceMethodref, NameAndType, InvokeDynamic, MethodHandle, Second}
use Rattle.scw_classfile.specs.declared.tag.Tag.{Tag}
use Rattle.scw_classfile.specs.declared.tag.Tag.TheVariants as tag
use Rattle.scw_classfile.specs.Codec.{Codec, here, cut, read_bytes, u1, u2, u4, u8, judged, parsed, is_none, unless}
use Rattle.scw_classfile.specs.Pool.{two, tag_number, tag_among, tags, tag_named, is_wide_tag, tag_of, text_or_flaw, units, text, handle, info_of, entry_bytes, entry_counts, place_counts, made, of_pair, read_info, is_wide_entry, is_second, read_tagged, read_entry, place, takes_two, pool_count, entries, entries_flaw, pool}
use Rattle.scw_classfile.specs.Kinds.{kinds_of}
use Rattle.scw_classfile.proofs.CodecLemmas.{Spelled, Lawful, bind_ok, else_ok, lawful_u1, lawful_u2, lawful_u4, lawful_u8, lawful_followed, lawful_seen_as, lawful_judged}
use Rattle.scw_classfile.proofs.ListLemmas.{LawfulFilling, lawful_filled, lawful_flagged}

pub lawful_two : Lawful two
lawful_two = lawful_followed u2 (λ _. u2) lawful_u2 (λ _. lawful_u2)

-- ---- texts

text_ok : (r : Result (List ℕ) ℕ) (us : List ℕ) → text_or_flaw r ≡ Ok us → r ≡ Ok us
text_ok (Ok vs) us h = cc
text_ok (Err place) us h = absurd cc

lawful_units : LawfulFilling units
lawful_units = record {
  again = λ us p q. ap text_or_flaw (units_of-modified us p);
  back = λ bytes us h e.
      let k = modified-units_of bytes us h (text_ok (units_of bytes) us e) in
      (k.1, refl, sym k.0);
}

pub lawful_text : Lawful text
lawful_text = lawful_filled u2 units lawful_u2 lawful_units

lawful_handle : Lawful handle
lawful_handle = lawful_followed u1 (λ _. u2) lawful_u1 (λ _. lawful_u2)

-- ---- entries

-- the tags that are found under a number have it
among_is : (ts : List Tag) (n : ℕ) (t : Tag) → tag_among ts n ≡ Some t → n ≡ tag_number t
among_is [] n t h = absurd cc
among_is (s ∷ ts) n t h = elim (cases_Bool (eqb n (tag_number s))) [
  | inl same_tag ↦ let same : Some s ≡ Some t = rw same_tag at h in eqb-true n (tag_number s) same_tag ∙ ap tag_number cc
  | inr other ↦ among_is ts n t (rw other at h)
]

-- an entry and its tag
entry_again : (follow : ℕ) (e : PoolEntry) (rest : List ℕ) → place_counts e ≡ true → is_second e ≡ false → (is_wide_entry e && eqb follow 0) ≡ false → read_entry follow (entry_bytes e ++ rest) ≡ Ok (e, rest)
unfolding entry_bytes
entry_again follow (Utf8 us) rest p s q = rw (lawful_text.again us rest (p, refl)) refl
entry_again follow (Integer n) rest p s q = rw (lawful_u4.again n rest (p, refl)) refl
entry_again follow (Float n) rest p s q = rw (lawful_u4.again n rest (p, refl)) refl
entry_again follow (Long n) rest p s q = rw (q, lawful_u8.again n rest (p, refl)) refl
entry_again follow (Double n) rest p s q = rw (q, lawful_u8.again n rest (p, refl)) refl
entry_again follow (Class n) rest p s q = rw (lawful_u2.again n rest (p, refl)) refl
entry_again follow (Str n) rest p s q = rw (lawful_u2.again n rest (p, refl)) refl
entry_again follow (MethodType n) rest p s q = rw (lawful_u2.again n rest (p, refl)) refl
entry_again follow (Fieldref c n) rest p s q = rw (lawful_two.again (c, n) rest (p, refl)) refl
entry_again follow (Methodref c n) rest p s q = rw (lawful_two.again (c, n) rest (p, refl)) refl
entry_again follow (InterfaceMethodref c n) rest p s q = rw (lawful_two.again (c, n) rest (p, refl)) refl
entry_again follow (NameAndType n d) rest p s q = rw (lawful_two.again (n, d) rest (p, refl)) refl
entry_again follow (InvokeDynamic b n) rest p s q = rw (lawful_two.again (b, n) rest (p, refl)) refl
entry_again follow (MethodHandle k n) rest p s q = rw (lawful_handle.again (k, n) rest (p, refl)) refl
entry_again follow Second rest p s q = absurd (false≢true (sym s))

-- what was read behind a tag is an entry with this tag
record Info (t : Tag) (bytes : List ℕ) (x : PoolEntry × List ℕ) : Type 0 where
  tagged : tag_of x.0 ≡ Some t
  counts : entry_counts x.0 ≡ true
  first : is_second x.0 ≡ false
  wide : is_wide_entry x.0 ≡ is_wide_tag t
  is : bytes ≡ info_of x.0 ++ x.1

made_back : {A : Type 0} (t : Tag) (make : A → PoolEntry) (c : Codec A) (bytes : List ℕ) (x : PoolEntry × List ℕ) → Lawful c
    → ((a : A) → c.counts a ≡ true → (tag_of (make a) ≡ Some t) × (entry_counts (make a) ≡ true) × (is_second (make a) ≡ false) × (is_wide_entry (make a) ≡ is_wide_tag t) × (info_of (make a) ≡ c.spell a))
    → AreBytes bytes → made make c bytes ≡ Ok x → Info t bytes x
made_back {A} t make c bytes x lc facts h e =
    let one = bind_ok (c.read bytes) (λ a. Ok (make a.0, a.1)) x e in
    let a = one.0 in
    let sa = lc.back bytes a h one.1 in
    let f = facts a.0 sa.fits.0 in
    let same : (make a.0, a.1) ≡ x = let last = one.2 in cc in
    let P : PoolEntry × List ℕ → Type 0 = λ v. Info t bytes v in
    subst P same (record { tagged = f.0; counts = f.1; first = f.2; wide = f.3; is = sa.is ∙ ap (λ (l : List ℕ). l ++ a.1) (sym f.4) })

info_back : (t : Tag) (bytes : List ℕ) (x : PoolEntry × List ℕ) → AreBytes bytes → read_info t bytes ≡ Ok x → Info t bytes x
info_back tag.Utf8 bytes x h e = made_back tag.Utf8 Utf8 text bytes x lawful_text (λ a p. (refl, p, refl, refl, refl)) h e
info_back tag.Integer bytes x h e = made_back tag.Integer Integer u4 bytes x lawful_u4 (λ a p. (refl, p, refl, refl, refl)) h e
info_back tag.Float bytes x h e = made_back tag.Float Float u4 bytes x lawful_u4 (λ a p. (refl, p, refl, refl, refl)) h e
info_back tag.Long bytes x h e = made_back tag.Long Long u8 bytes x lawful_u8 (λ a p. (refl, p, refl, refl, refl)) h e
info_back tag.Double bytes x h e = made_back tag.Double Double u8 bytes x lawful_u8 (λ a p. (refl, p, refl, refl, refl)) h e
info_back tag.Class bytes x h e = made_back tag.Class Class u2 bytes x lawful_u2 (λ a p. (refl, p, refl, refl, refl)) h e
info_back tag.Str bytes x h e = made_back tag.Str Str u2 bytes x lawful_u2 (λ a p. (refl, p, refl, refl, refl)) h e
info_back tag.Fieldref bytes x h e = made_back tag.Fieldref (of_pair Fieldref) two bytes x lawful_two (λ a p. (refl, p, refl, refl, refl)) h e
info_back tag.Methodref bytes x h e = made_back tag.Methodref (of_pair Methodref) two bytes x lawful_two (λ a p. (refl, p, refl, refl, refl)) h e
info_back tag.InterfaceMethodref bytes x h e = made_back tag.InterfaceMethodref (of_pair InterfaceMethodref) two bytes x lawful_two (λ a p. (refl, p, refl, refl, refl)) h e
info_back tag.NameAndType bytes x h e = made_back tag.NameAndType (of_pair NameAndType) two bytes x lawful_two (λ a p. (refl, p, refl, refl, refl)) h e
info_back tag.MethodHandle bytes x h e = made_back tag.MethodHandle (of_pair MethodHandle) handle bytes x lawful_handle (λ a p. (refl, p, refl, refl, refl)) h e
info_back tag.MethodType bytes x h e = made_back tag.MethodType MethodType u2 bytes x lawful_u2 (λ a p. (refl, p, refl, refl, refl)) h e
info_back tag.InvokeDynamic bytes x h e = made_back tag.InvokeDynamic (of_pair InvokeDynamic) two bytes x lawful_two (λ a p. (refl, p, refl, refl, refl)) h e

tagged_ok : (follow : ℕ) (from : List ℕ) (o : Option Tag) (bytes : List ℕ) (x : PoolEntry × List ℕ) → read_tagged follow from o bytes ≡ Ok x → (t : Tag) × (o ≡ Some t) × ((is_wide_tag t && eqb follow 0) ≡ false) × (read_info t bytes ≡ Ok x)
tagged_ok follow from None bytes x h = absurd cc
tagged_ok follow from (Some t) bytes x h = elim (cases_Bool (is_wide_tag t && eqb follow 0)) [
  | inl same_tag ↦ absurd (let wrong : Err (here class_rule.Tag from) ≡ Ok x = rw same_tag at h in cc)
  | inr other ↦ (t, refl, other, rw other at h)
]

entry_back : (follow : ℕ) (bytes : List ℕ) (x : PoolEntry × List ℕ) → AreBytes bytes → read_entry follow bytes ≡ Ok x → Spelled (place false follow) bytes x
unfolding entry_bytes
entry_back follow [] x h e = absurd cc
entry_back follow (b ∷ bs) x h e =
    let k = tagged_ok follow (b ∷ bs) (tag_named b) bs x e in
    let t = k.0 in
    let info = info_back t bs x (AreBytes-tail b bs h) k.3 in
    let number : b ≡ tag_number t = among_is tags b t k.1 in
    let narrow : (is_wide_entry x.0 && eqb follow 0) ≡ false = rw info.wide k.2 in
    record {
      fits = (rw info.first info.counts, rw (info.first, narrow) refl);
      is = rw info.tagged (ap (λ (n : ℕ). n ∷ bs) number ∙ ap (λ (l : List ℕ). tag_number t ∷ l) info.is);
    }

not_true : (b : Bool) → not b ≡ true → b ≡ false
not_true true h = absurd (false≢true h)
not_true false h = refl

second_is : (e : PoolEntry) → is_second e ≡ true → e ≡ Second
second_is (Utf8 us) h = absurd (false≢true h)
second_is (Integer n) h = absurd (false≢true h)
second_is (Float n) h = absurd (false≢true h)
second_is (Long n) h = absurd (false≢true h)
second_is (Double n) h = absurd (false≢true h)
second_is (Class n) h = absurd (false≢true h)
second_is (Str n) h = absurd (false≢true h)
second_is (MethodType n) h = absurd (false≢true h)
second_is (Fieldref c n) h = absurd (false≢true h)
second_is (Methodref c n) h = absurd (false≢true h)
second_is (InterfaceMethodref c n) h = absurd (false≢true h)
second_is (NameAndType n d) h = absurd (false≢true h)
second_is (InvokeDynamic b n) h = absurd (false≢true h)
second_is (MethodHandle k n) h = absurd (false≢true h)
second_is Second h = refl

second_again : (follow : ℕ) (e : PoolEntry) (rest : List ℕ) → e ≡ Second → (place true follow).read ((place true follow).spell e ++ rest) ≡ Ok (e, rest)
unfolding entry_bytes
second_again follow e rest same = rw same refl

second_back : (follow : ℕ) (bytes : List ℕ) (x : PoolEntry × List ℕ) → (place true follow).read bytes ≡ Ok x → Spelled (place true follow) bytes x
unfolding entry_bytes
second_back follow bytes x e =
    let same : (Second, bytes) ≡ x = cc in
    let P : PoolEntry × List ℕ → Type 0 = λ v. Spelled (place true follow) bytes v in
    subst P same (record { fits = (refl, refl); is = refl })

lawful_place : (second : Bool) (follow : ℕ) → Lawful (place second follow)
lawful_place true follow = record {
  again = λ e rest h. second_again follow e rest (second_is e h.1);
  back = λ bytes x h e. second_back follow bytes x e;
}
lawful_place false follow = record {
  again = λ e rest h.
      let q = and_parts (not (is_second e)) (not (is_wide_entry e && eqb follow 0)) h.1 in
      entry_again follow e rest h.0 (not_true (is_second e) q.0) (not_true (is_wide_entry e && eqb follow 0) q.1);
  back = entry_back follow;
}

not_zero : (n : ℕ) → is_none (unless (not (eqb n 0)) class_rule.Tag 0) ≡ true → n ≡ 0 → ⊥
not_zero zero h e = false≢true h
not_zero (suc n) h e = omega arith

lawful_pool_count : Lawful pool_count
lawful_pool_count = lawful_seen_as (λ n. n - 1) (λ n. n + 1) (judged (λ n. unless (not (eqb n 0)) class_rule.Tag 0) u2) (λ n. omega arith)
    (λ n fits. let some : n ≡ 0 → ⊥ = not_zero n fits.1 in omega arith)
    (lawful_judged (λ n. unless (not (eqb n 0)) class_rule.Tag 0) u2 lawful_u2)

pub lawful_entries : Lawful entries
lawful_entries = lawful_flagged place takes_two lawful_place entry_bytes place_counts same_bytes same_counts pool_count lawful_pool_count
  where
    same_bytes : (second : Bool) (follow : ℕ) (e : PoolEntry) → (place second follow).spell e ≡ entry_bytes e
    same_bytes true follow e = refl
    same_bytes false follow e = refl

    same_counts : (second : Bool) (follow : ℕ) (e : PoolEntry) → (place second follow).counts e ≡ place_counts e
    same_counts true follow e = refl
    same_counts false follow e = refl

pub lawful_pool : (major : ℕ) → Lawful (pool major)
lawful_pool major = lawful_judged (λ p. entries_flaw major (kinds_of p) 2 p) entries lawful_entries

-- ---- for the functions that read

-- the fault of a text of fewer than 2^16 bytes is reported at its place
text_fault_of : (left place : ℕ) (rest : List ℕ) (r : Result (List ℕ) ℕ) → ((p : ℕ) → r ≡ Err p → p < 2 ^ 16) → reported r ≡ Err place → parsed left rest (text_or_flaw r) ≡ Err (record { rule = class_rule.Utf8; left = left - place })
text_fault_of left place rest (Ok us) small h = absurd cc
text_fault_of left place rest (Err p) small h =
    let at : min p last_place ≡ place = cc in
    let below = small p refl in
    let same : p ≡ place = omega arith in
    ap (λ (k : ℕ). Err (record { rule = class_rule.Utf8; left = left - k })) same

pub text_fault : (left place : ℕ) (rest bytes : List ℕ) → length bytes < 2 ^ 16 → reported (units_of bytes) ≡ Err place → parsed left rest (units.parse bytes) ≡ Err (record { rule = class_rule.Utf8; left = left - place })
text_fault left place rest bytes small h = text_fault_of left place rest (units_of bytes) (λ p e. let within = units_of_place bytes p e in omega arith) h

pub length-read_bytes : (n : ℕ) (bytes : List ℕ) (x : List ℕ × List ℕ) → read_bytes n bytes ≡ Ok x → length x.0 ≡ n
length-read_bytes n bytes x e =
    let k = else_ok (ltb (length bytes) n) cut (take n bytes, drop n bytes) x e in
    let enough = ltb-false (length bytes) n k.0 in
    omega (arith, length-take n bytes, ap (λ (v : List ℕ × List ℕ). length v.0) k.1)

-- a text that isn't read is at the fault that is reported
pub text_fails : (left : ℕ) (bytes rest : List ℕ) (fault : ModifiedFault) → length bytes < 2 ^ 16 → Reads (Err fault) (units_of bytes) → Fails (text_fault_in left fault) (parsed left rest (units.parse bytes))
text_fails left bytes rest (modified_fault.Bad place) small h = text_fault left place rest bytes small h
text_fails left bytes rest modified_fault.NoMemory small h = tt

-- a text that is read
pub text_gives : (left : ℕ) (bytes rest us : List ℕ) → units_of bytes ≡ Ok us → parsed left rest (units.parse bytes) ≡ Ok (us, rest)
text_gives left bytes rest us h = ap (λ (r : Result (List ℕ) ℕ). parsed left rest (text_or_flaw r)) h
