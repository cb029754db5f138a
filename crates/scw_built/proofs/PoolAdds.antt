-- Each thing that instructions name is added to the pool, if it fits its entries.
use Rattle.std.proofs.Common.{◌≡◌, ℕ, true, List, refl}
use Rattle.scw_classfile.specs.declared.pool_entry.PoolEntry.{PoolEntry}
use Rattle.scw_gen.specs.declared.named.Named as gen
use Rattle.scw_gen.specs.declared.named.Named.TheVariants as named
use Rattle.scw_gen.specs.declared.pool.Entry.TheVariants as entry
use Rattle.scw_gen.specs.declared.pool.MethodName.{MethodName}
use Rattle.scw_gen.specs.Named.{with_named}
use Rattle.scw_gen.specs.Pool.{class_index, name_and_type_index, utf8_index, with_class, with_method, with_name_and_type, with_utf8}
use Rattle.scw_built.proofs.Alike.{Fits, MethodFits}
use Rattle.scw_built.proofs.PoolHas.{Added, HasType, Longer, class-added, class_stays, entry-longer, entry_there, longer-both, long-longer, long_there, longer-same, text-added, type_stays, class_index_kept, type_index_kept, utf8-longer, utf8_kept, utf8_stays, utf8_there}
use Rattle.scw_built.proofs.Sound.{are_units}

-- a name and a type
record TypeAdded (p q : List PoolEntry) (name descriptor : List ℕ) : Type 0 where
  longer : Longer p q
  has : HasType q name descriptor

type-added : (p : List PoolEntry) (name descriptor : List ℕ) → are_units name ≡ true → are_units descriptor ≡ true → TypeAdded p (with_name_and_type p name descriptor) name descriptor
type-added p name descriptor f g =
    let q = with_utf8 p name in
    let r = with_utf8 q descriptor in
    let all = with_name_and_type p name descriptor in
    let e = entry.NameAndType (utf8_index r name) (utf8_index r descriptor) in
    let first = utf8-longer q descriptor g in
    let last = entry-longer r e refl in
    let a = utf8_stays q r name first (utf8_there p name) in
    let b = utf8_there q descriptor in
    let c = utf8_kept r all name last a in
    let d = utf8_kept r all descriptor last b in
    let t = entry_there r e in
    record {
      longer = longer-both p q all (utf8-longer p name f) (longer-both q r all first last);
      has = record { name' = utf8_stays r all name last a; descriptor' = utf8_stays r all descriptor last b; there = rw (c, d) t };
    }

method-added : (p : List PoolEntry) (m : MethodName) → MethodFits m → Added p (with_method p m) (named.Method m)
method-added p m f =
    let q = with_class p m.class in
    let r = with_name_and_type q m.name m.descriptor in
    let all = with_method p m in
    let class = class-added p m.class f.0 in
    let type' = type-added q m.name m.descriptor f.1 f.2 in
    let e = entry.Methodref (class_index r m.class) (name_and_type_index r m.name m.descriptor) in
    let last = entry-longer r e refl in
    let c = class_stays q r m.class type'.longer class.has in
    let a = class_index_kept r all m.class last c in
    let b = type_index_kept r all m.name m.descriptor last type'.has in
    let t = entry_there r e in
    record {
      longer = longer-both p q all class.longer (longer-both q r all type'.longer last);
      has = record { class = class_stays r all m.class last c; type' = type_stays r all m.name m.descriptor last type'.has; there = rw (a, b) t };
    }

pub named-added : (p : List PoolEntry) (n : gen.Named) → Fits n → Added p (with_named p n) n
named-added p named.Nothing f = record { longer = longer-same p; has = tt }
named-added p (named.Integer n) f = record { longer = entry-longer p (entry.Integer n) f; has = entry_there p (entry.Integer n) }
named-added p (named.Long n) f = record { longer = long-longer p n f; has = long_there p n }
named-added p (named.Text us) f = text-added p us f
named-added p (named.Class name) f = class-added p name f
named-added p (named.Method m) f = method-added p m f
