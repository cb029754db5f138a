-- The pool that methods need is there; in it each thing that they name has an index, so that their twins can be encoded.
use Rattle.std.proofs.Common.{◌≡◌, ℕ, ◌<◌, true, false, List, [], ◌∷◌, ◌++◌, Some, None, refl, ◌∙◌, subst, arith, codes}
use Rattle.std.specs.Prelude.{nat_eq}
use Rattle.std.proofs.lemmas.Bool.{cond-false, ne_eqb}
use Rattle.scw_classfile.specs.declared.pool_entry.PoolEntry.{PoolEntry}
use Rattle.scw_classfile.specs.declared.class_file.MemberInfo.{MemberInfo}
use Rattle.scw_code.specs.declared.instr.Instr as any
use Rattle.scw_core.specs.Program.{Table}
use Rattle.scw_core.specs.declared.class.CoreClass.{CoreClass}
use Rattle.scw_core.specs.declared.class.Member.{Member}
use Rattle.scw_gen.specs.Around.{Around}
use Rattle.scw_gen.specs.Encode.{encoded}
use Rattle.scw_gen.specs.Generate.{Names as MemberNames, info_with, member_info, member_infos, names_of, with_method, with_methods}
use Rattle.scw_gen.specs.Method.{Method}
use Rattle.scw_gen.specs.Named.{encoded_from, index_of_named, named_by, with_instrs, with_named}
use Rattle.scw_gen.specs.Outcome.{◌>>=◌}
use Rattle.scw_gen.specs.Pool.{class_index, found, integer_index, long_index, method_index, string_index, utf8_index, with_utf8}
use Rattle.scw_gen.specs.declared.instr.Instr.{Instr}
use Rattle.scw_gen.specs.declared.named.Named as gen
use Rattle.scw_gen.specs.declared.named.Named.TheVariants as name
use Rattle.scw_built.proofs.Alike.{Names, named, no_more, quiet}
use Rattle.scw_built.proofs.Members.{named-anywhere}
use Rattle.scw_built.proofs.Operators.{plain, under}
use Rattle.scw_built.proofs.PoolAdds.{named-added}
use Rattle.scw_built.proofs.PoolHas.{Has, Longer, has_stays, longer-both, longer-same, utf8-longer, utf8_stays, utf8_there}
use Rattle.scw_built.proofs.Sound.{are_units}
use Rattle.scw_built.proofs.Twins.{Beside, Twins, member_more, no_members, then-is}

-- ---- a pool has all of this

abbrev pub HasAll : List PoolEntry → List gen.Named → Type 0
HasAll p [] = Unit {0}
HasAll p (n ∷ ns) = Has p n × HasAll p ns

all_stay : (p q : List PoolEntry) (ns : List gen.Named) → Longer p q → HasAll p ns → HasAll q ns
all_stay p q [] l h = tt
all_stay p q (n ∷ ns) l h = (has_stays p q n l h.0, all_stay p q ns l h.1)

pub record Filled (g : Around) (p : List PoolEntry) (is : List Instr) (ns : List gen.Named) : Type 0 where
  pub pool : List PoolEntry
  pub pool_is : with_instrs g p is ≡ Some pool
  pub longer : Longer p pool
  pub all : HasAll pool ns

pub filled : (g : Around) (p : List PoolEntry) (is : List Instr) (ns : List gen.Named) → Names g is ns → Filled g p is ns
unfolding with_instrs
filled g p is ns no_more = record { pool = p; pool_is = refl; longer = longer-same p; all = tt }
filled g p is ns (quiet i js ms e h) =
    let f = filled g p js ms h in
    record { pool = f.pool; pool_is = then-is (named_by g i) (λ n. with_instrs g (with_named p n) js) name.Nothing (Some f.pool) e f.pool_is; longer = f.longer; all = f.all }
filled g p is ns (named i n js ms e t h) =
    let a = named-added p n t in
    let q = with_named p n in
    let f = filled g q js ms h in
    record {
      pool = f.pool;
      pool_is = then-is (named_by g i) (λ n. with_instrs g (with_named p n) js) n (Some f.pool) e f.pool_is;
      longer = longer-both p q f.pool a.longer f.longer;
      all = (has_stays q f.pool n f.longer a.has, f.all);
    }

-- ---- methods

-- the pool has what a method needs, whose instructions name these
pub record HasParts (p : List PoolEntry) (x : Method) (ns : List gen.Named) : Type 0 where
  pub name' : 0 < utf8_index p x.name
  pub descriptor' : 0 < utf8_index p x.descriptor
  pub all : HasAll p ns

parts_stay : (p q : List PoolEntry) (x : Method) (ns : List gen.Named) → Longer p q → HasParts p x ns → HasParts q x ns
parts_stay p q x ns l h = record { name' = utf8_stays p q x.name l h.name'; descriptor' = utf8_stays p q x.descriptor l h.descriptor'; all = all_stay p q ns l h.all }

record MethodFilled (g : Around) (p : List PoolEntry) (x : Method) (ns : List gen.Named) : Type 0 where
  pool : List PoolEntry
  pool_is : with_method g p x ≡ Some pool
  longer : Longer p pool
  parts : HasParts pool x ns

method-filled : (g : Around) (p : List PoolEntry) (x : Method) (ns : List gen.Named) → are_units x.name ≡ true → are_units x.descriptor ≡ true → Names g x.instrs ns → MethodFilled g p x ns
method-filled g p x ns u v h =
    let q = with_utf8 p x.name in
    let r = with_utf8 q x.descriptor in
    let f = filled g r x.instrs ns h in
    let a = utf8-longer q x.descriptor v in
    let b = longer-both q r f.pool a f.longer in
    record {
      pool = f.pool;
      pool_is = f.pool_is;
      longer = longer-both p q f.pool (utf8-longer p x.name u) b;
      parts = record { name' = utf8_stays q f.pool x.name b (utf8_there p x.name); descriptor' = utf8_stays r f.pool x.descriptor f.longer (utf8_there q x.descriptor); all = f.all };
    }

-- methods whose twins the pool has
pub data AllIn (g : Around) (p : List PoolEntry) : List Method → List Method → Type 0 where
  none_in : AllIn g p [] []
  one_in : (x y : Method) (xs ys : List Method) (t : Twins g x y) → HasParts p x t.names → AllIn g p xs ys → AllIn g p (x ∷ xs) (y ∷ ys)

pub data AllTwins (g : Around) : List Method → List Method → Type 0 where
  no_twins : AllTwins g [] []
  twins_more : (x y : Method) (xs ys : List Method) → Twins g x y → AllTwins g xs ys → AllTwins g (x ∷ xs) (y ∷ ys)

pub twins-beside : (g : Around) (ms : List Member) (xs ys : List Method) → Beside g ms xs ys → AllTwins g xs ys
twins-beside g ms xs ys no_members = no_twins
twins-beside g ms xs ys (member_more m x y ns us vs t n b) = twins_more x y us vs t (twins-beside g ns us vs b)

pub record AllFilled (g : Around) (p : List PoolEntry) (xs ys : List Method) : Type 0 where
  pub pool : List PoolEntry
  pub pool_is : with_methods g p xs ≡ Some pool
  pub longer : Longer p pool
  pub all : AllIn g pool xs ys

pub methods-filled : (g : Around) (p : List PoolEntry) (xs ys : List Method) → AllTwins g xs ys → AllFilled g p xs ys
unfolding with_methods
methods-filled g p xs ys no_twins = record { pool = p; pool_is = refl; longer = longer-same p; all = none_in }
methods-filled g p xs ys (twins_more x y us vs t h) =
    let a = method-filled g p x t.names t.units t.also t.first in
    let f = methods-filled g a.pool us vs h in
    record {
      pool = f.pool;
      pool_is = then-is (with_method g p x) (λ q. with_methods g q us) a.pool (Some f.pool) a.pool_is f.pool_is;
      longer = longer-both p a.pool f.pool a.longer f.longer;
      all = one_in x y us vs t (parts_stay a.pool f.pool x t.names f.longer a.parts) f.all;
    }

-- ---- indices that are found

pub found-some : (n : ℕ) → 0 < n → found n ≡ Some n
found-some n h = cond-false (nat_eq n 0) None (Some n) (ne_eqb n 0 (λ z. omega (arith, z, h)))

index-some : (p : List PoolEntry) (n : gen.Named) → Has p n → (index : ℕ) × (index_of_named p n ≡ Some index)
index-some p name.Nothing h = (0, refl)
index-some p (name.Integer n) h = (integer_index p n, found-some (integer_index p n) h)
index-some p (name.Long n) h = (long_index p n, found-some (long_index p n) h)
index-some p (name.Text us) h = (string_index p us, found-some (string_index p us) h.there)
index-some p (name.Class n) h = (class_index p n, found-some (class_index p n) h.there)
index-some p (name.Method m) h = (method_index p m, found-some (method_index p m) h.there)

module _ (table : Table) (class : CoreClass) (p : List PoolEntry) where
  abbrev N : Around
  N = plain table class

  abbrev G : Around
  G = under table class p false

  encoded-some : (code : List any.Instr) (is : List Instr) (ns : List gen.Named) → Names N is ns → HasAll p ns → (out : List any.Instr) × (encoded_from G code is ≡ Some out)
  unfolding encoded_from
  encoded-some code is ns no_more h = (code, refl)
  encoded-some code is ns (quiet i js ms e k) h =
      let r = encoded-some (code ++ encoded i 0 ∷ []) js ms k h in
      (r.0, then-is (named_by G i) (λ n. index_of_named p n >>= λ index. encoded_from G (code ++ encoded i index ∷ []) js) name.Nothing (Some r.0) (named-anywhere table class p false i ∙ e) r.1)
  encoded-some code is ns (named i n js ms e t k) h =
      let x = index-some p n h.0 in
      let r = encoded-some (code ++ encoded i x.0 ∷ []) js ms k h.1 in (
        r.0,
        then-is (named_by G i) (λ n. index_of_named p n >>= λ index. encoded_from G (code ++ encoded i index ∷ []) js) n (Some r.0) (named-anywhere table class p false i ∙ e)
            (then-is (index_of_named p n) (λ index. encoded_from G (code ++ encoded i index ∷ []) js) x.0 (Some r.0) x.1 r.1),
      )

  names-some : (m : Method) → 0 < utf8_index p m.name → 0 < utf8_index p m.descriptor → 0 < utf8_index p (codes "Code") → (n : MemberNames) × (names_of p m ≡ Some n)
  names-some m a b c =
      let i = utf8_index p m.name in
      let j = utf8_index p m.descriptor in
      let k = utf8_index p (codes "Code") in
      let n : MemberNames = record { name = i; descriptor = j; code = k } in (
        n,
        then-is (found i) (λ name. found j >>= λ descriptor. found k >>= λ code. Some (record { name = name; descriptor = descriptor; code = code })) i (Some n) (found-some i a)
            (then-is (found j) (λ descriptor. found k >>= λ code. Some (record { name = i; descriptor = descriptor; code = code })) j (Some n) (found-some j b)
            (then-is (found k) (λ code. Some (record { name = i; descriptor = j; code = code })) k (Some n) (found-some k c) refl)),
      )

  info-some : (x y : Method) (t : Twins N x y) → HasParts p x t.names → 0 < utf8_index p (codes "Code") → (i : MemberInfo) × (member_info G y ≡ Some i)
  info-some x y t h c =
      let e = encoded-some [] y.instrs t.names t.second h.all in
      let n = names-some y (subst (λ us. 0 < utf8_index p us) t.name h.name') (subst (λ us. 0 < utf8_index p us) t.descriptor h.descriptor') c in
      let i = info_with n.0 y e.0 in (
        i,
        then-is (encoded_from G [] y.instrs) (λ code. names_of p y >>= λ names. Some (info_with names y code)) e.0 (Some i) e.1
            (then-is (names_of p y) (λ names. Some (info_with names y e.0)) n.0 (Some i) n.1 refl),
      )

  pub infos-some : (before : List MemberInfo) (xs ys : List Method) → AllIn N p xs ys → 0 < utf8_index p (codes "Code") → (out : List MemberInfo) × (member_infos G before ys ≡ Some out)
  unfolding member_infos
  infos-some before xs ys none_in c = (before, refl)
  infos-some before xs ys (one_in x y us vs t h r) c =
      let i = info-some x y t h c in
      let o = infos-some (before ++ i.0 ∷ []) us vs r c in
      (o.0, then-is (member_info G y) (λ z. member_infos G (before ++ z ∷ []) vs) i.0 (Some o.0) i.1 o.1)
