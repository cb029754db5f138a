-- What an index of the constant pool names: JVMS 4.4.
use Rattle.std.specs.Prelude.{ℕ, zero, suc, Bool, false, List, Option, Some, None, slice_get, nat_eq}
use Rattle.std.specs.Cmp.Lexicographic.{pointwise}
use Rattle.scw_classfile.specs.declared.pool_entry.PoolEntry.{PoolEntry}
use Rattle.scw_classfile.specs.declared.pool_entry.PoolEntry.TheVariants as entry

-- two texts are one
abbrev pub same : List ℕ → List ℕ → Bool
same a b = pointwise nat_eq a b

-- the entry of an index, which counts from 1
abbrev pub at : List PoolEntry → ℕ → Option PoolEntry
at p zero = None
at p (suc n) = slice_get p n

abbrev pub utf8 : Option PoolEntry → Option (List ℕ)
utf8 (Some (entry.Utf8 us)) = Some us
utf8 _ = None

abbrev pub class_name : List PoolEntry → Option PoolEntry → Option (List ℕ)
class_name p (Some (entry.Class n)) = utf8 (at p n)
class_name p _ = None

-- a field or a method by its class, its name and its descriptor
pub record Named : Type 0 where
  pub class : List ℕ
  pub name : List ℕ
  pub descriptor : List ℕ

abbrev pub and_then : {A B : Type 0} → Option A → (A → Option B) → Option B
and_then None k = None
and_then (Some x) k = k x

abbrev pub or_else : {A : Type 0} → Option A → Option A → Option A
or_else None o = o
or_else (Some x) o = Some x

abbrev pub named : List PoolEntry → List ℕ → Option PoolEntry → Option Named
named p c (Some (entry.NameAndType n d)) = and_then (utf8 (at p n)) (λ x. and_then (utf8 (at p d)) (λ y. Some (record { class = c; name = x; descriptor = y })))
named p c _ = None

-- what the indices of a class and of a name and type stand for
abbrev pub member : List PoolEntry → ℕ → ℕ → Option Named
member p c nt = and_then (class_name p (at p c)) (λ x. named p x (at p nt))

-- the method of a class or of an interface: JVMS 4.4.2
abbrev pub method_ref : List PoolEntry → Option PoolEntry → Option Named
method_ref p (Some (entry.Methodref c nt)) = member p c nt
method_ref p (Some (entry.InterfaceMethodref c nt)) = member p c nt
method_ref p _ = None

-- the field: JVMS 4.4.2
abbrev pub field_ref : List PoolEntry → Option PoolEntry → Option Named
field_ref p (Some (entry.Fieldref c nt)) = member p c nt
field_ref p _ = None

-- the text is there, and is this one
abbrev pub is_text : Option (List ℕ) → List ℕ → Bool
is_text None t = false
is_text (Some s) t = same s t
