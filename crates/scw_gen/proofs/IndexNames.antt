-- An index that was found in the pool names an entry of the kind that was looked for.
use Rattle.std.proofs.Common.{◌≡◌, ℕ, ◌<◌, ◌≤◌, List, length, Some, subst, arith}
use Rattle.std.proofs.lemmas.Bool.{ltb-true}
use Rattle.scw_classfile.specs.declared.pool_entry.EntryKind.{EntryKind}
use Rattle.scw_classfile.specs.declared.pool_entry.EntryKind.TheVariants as kind
use Rattle.scw_classfile.specs.declared.pool_entry.PoolEntry.{PoolEntry}
use Rattle.scw_classfile.specs.Descriptor.{text_kind}
use Rattle.scw_classfile.specs.Kinds.{kind_at, kinds_of}
use Rattle.scw_gen.specs.declared.pool.Entry.{Entry}
use Rattle.scw_gen.specs.declared.pool.Entry.TheVariants as entry
use Rattle.scw_gen.specs.declared.pool.MethodName.{MethodName}
use Rattle.scw_gen.specs.Pool.{class_index, found, index_of, integer_index, long_index, method_index, name_and_type_index, string_index, utf8_index}
use Rattle.scw_gen.proofs.PoolIndex.{begins-whole, found-is}
use Rattle.scw_gen.proofs.PoolGrown.{class_at, index_short, integer_at, long_at, methodref_at, str_at, utf8_at, utf8_short}

-- the index names an entry of the kind
pub record Names (kinds : List EntryKind) (k : EntryKind) (index : ℕ) : Type 0 where
  pub few : index < 65536
  pub at : kind_at kinds index ≡ Some k

-- an index that was found is the one that was looked for
names_from : (kinds : List EntryKind) (k : EntryKind) (n index : ℕ) → found n ≡ Some index → n < 65536 → (0 < n → kind_at kinds n ≡ Some k) → Names kinds k index
names_from kinds k n index h few at =
    let f = found-is n index h in
    let same = f.0 in
    record { few = omega (arith, same, few); at = subst (λ (m : ℕ). kind_at kinds m ≡ Some k) same (at f.1) }

module _ (p : List PoolEntry) (few : length p ≤ 65534) where
  abbrev K : List EntryKind
  K = kinds_of p

  short : (e : Entry) → index_of p e < 65536
  short e = ltb-true (index_of p e) 65536 (index_short p e)

  pub names_text : (us : List ℕ) (index : ℕ) → found (utf8_index p us) ≡ Some index → Names K (kind.Utf8 (text_kind us)) index
  names_text us index h = names_from K (kind.Utf8 (text_kind us)) (utf8_index p us) index h (ltb-true (utf8_index p us) 65536 (utf8_short p us)) (λ some. utf8_at p p (begins-whole p few) us some)

  pub names_integer : (n index : ℕ) → found (integer_index p n) ≡ Some index → Names K kind.Integer index
  names_integer n index h = names_from K kind.Integer (integer_index p n) index h (short (entry.Integer n)) (λ some. integer_at p p (begins-whole p few) n some)

  pub names_long : (n index : ℕ) → found (long_index p n) ≡ Some index → Names K kind.Long index
  names_long n index h = names_from K kind.Long (long_index p n) index h (short (entry.Long n)) (λ some. long_at p p (begins-whole p few) n some)

  pub names_string : (us : List ℕ) (index : ℕ) → found (string_index p us) ≡ Some index → Names K kind.Str index
  names_string us index h = names_from K kind.Str (string_index p us) index h (short (entry.Str (utf8_index p us))) (λ some. str_at p p (begins-whole p few) (utf8_index p us) some)

  pub names_class : (name : List ℕ) (index : ℕ) → found (class_index p name) ≡ Some index → Names K (kind.Class (utf8_index p name)) index
  names_class name index h = names_from K (kind.Class (utf8_index p name)) (class_index p name) index h (short (entry.Class (utf8_index p name))) (λ some. class_at p p (begins-whole p few) (utf8_index p name) some)

  pub names_method : (m : MethodName) (index : ℕ) → found (method_index p m) ≡ Some index → Names K kind.Methodref index
  names_method m index h =
      let c = class_index p m.class in
      let n = name_and_type_index p m.name m.descriptor in
      names_from K kind.Methodref (method_index p m) index h (short (entry.Methodref c n)) (λ some. methodref_at p p (begins-whole p few) c n some)
