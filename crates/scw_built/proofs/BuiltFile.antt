-- The definition of the generator gives an answer for each class that passes its conditions.
use Rattle.std.proofs.Common.{◌≡◌, ℕ, zero, suc, ◌<◌, true, not, ◌&&◌, List, [], ◌∷◌, Option, Some, None, Result, Ok, Err, slice_get, refl, sym, ◌∙◌, subst, codes}
use Rattle.std.specs.List.{list_all}
use Rattle.std.proofs.lemmas.Bool.{and_from, and_parts, cond-true}
use Rattle.std.proofs.lemmas.Option.{none-some, same_Some}
use Rattle.scw_classfile.specs.Descriptor.{is_array, is_method as is_descriptor}
use Rattle.scw_classfile.specs.declared.class_file.ClassFile.{ClassFile}
use Rattle.scw_classfile.specs.declared.pool_entry.PoolEntry.{PoolEntry}
use Rattle.scw_core.specs.Program.{Program, text_at}
use Rattle.scw_core.specs.Text.{units_of_name}
use Rattle.scw_core.specs.declared.class.CoreClass.{CoreClass}
use Rattle.scw_core.specs.declared.operator.TextId.{TextId}
use Rattle.scw_gen.specs.Around.{Around}
use Rattle.scw_gen.specs.Excess.{excess_of}
use Rattle.scw_gen.specs.Generate.{Made, are_distinct, around, ends_in_dollar, file, file_by, file_of, file_with, first_pool, is_built, is_class_name, is_fitting, large, made, made_under, made_with, member_infos, needed, sized, with_methods}
use Rattle.scw_gen.specs.Method.{Method, constructor, getter, methods_of}
use Rattle.scw_gen.specs.Name.{get_name, object_init, this_init}
use Rattle.scw_gen.specs.Outcome.{◌>>=◌}
use Rattle.scw_gen.specs.Pool.{class_index, fits, found, utf8_index, with_class}
use Rattle.scw_gen.specs.Typed.{is_well_typed}
use Rattle.scw_gen.specs.declared.excess.Excess.{Excess}
use Rattle.scw_gen.specs.declared.fault.Large.{Large}
use Rattle.scw_gen.specs.declared.named.Named.TheVariants as name
use Rattle.scw_built.proofs.AllMethods.{AllMethods}
use Rattle.scw_built.proofs.Alike.{Names, named, no_more, quiet}
use Rattle.scw_built.proofs.Distinct.{all-distinct}
use Rattle.scw_built.proofs.Found.{AllFilled, AllIn, AllTwins, found-some, infos-some, methods-filled, twins-beside, twins_more}
use Rattle.scw_built.proofs.Members.{AllWhole, all-whole, name-found}
use Rattle.scw_built.proofs.Operators.{Ready}
use Rattle.scw_built.proofs.PoolHas.{HasClass, Longer, class-added, has_stays, longer-both, utf8-longer, utf8_stays, utf8_there}
use Rattle.scw_built.proofs.Sound.{Sound, are_units}
use Rattle.scw_built.proofs.Texts.{IsOwn, own_named, units-append}
use Rattle.scw_built.proofs.Twins.{AllPairs, Twins, all-pairs, then-is}

-- ---- what the conditions say

units-at : (texts : List (List ℕ)) (n : ℕ) (us : List ℕ) → list_all are_units texts ≡ true → slice_get texts n ≡ Some us → are_units us ≡ true
units-at [] n us h e = absurd (none-some us e)
units-at (t ∷ texts) zero us h e = subst (λ l. are_units l ≡ true) (same_Some t us e) (and_parts (are_units t) (list_all are_units texts) h).0
units-at (t ∷ texts) (suc n) us h e = units-at texts n us (and_parts (are_units t) (list_all are_units texts) h).1 e

-- the name of the class can stand in descriptors, and its members are well typed
record Conditions (p : Program) (k : CoreClass) : Type 0 where
  named : IsOwn (units_of_name k.binary_name)
  typed : is_well_typed (around p k []) p.bodies k.members ≡ true

conditions : (p : Program) (k : CoreClass) → is_built p k ≡ true → Conditions p k
conditions p k h =
    let own = units_of_name k.binary_name in
    let g = around p k [] in
    let a = and_parts _ (is_fitting g p k) h in
    let b = and_parts (is_class_name g own) (is_well_typed g p.bodies k.members) a.1 in
    let c = and_parts (not (is_array own) && is_descriptor (get_name g).descriptor) (ends_in_dollar own) b.0 in
    let d = and_parts (not (is_array own)) (is_descriptor (get_name g).descriptor) c.0 in
    record { named = own_named g d.1; typed = b.1 }

-- ---- the constructor and the accessor

module _ (p : Program) (k : CoreClass) (q : List PoolEntry) where
  abbrev N : Around
  N = around p k []

  abbrev G : Around
  G = around p k q

  init-twins : are_units (units_of_name k.binary_name) ≡ true → Twins N (constructor N) (constructor G)
  init-twins own = record { name = refl; descriptor = refl; units = refl; also = refl; names = name.Method object_init ∷ []; first = calls; second = calls }
    where
      calls : Names N (constructor N).instrs (name.Method object_init ∷ [])
      calls = quiet _ _ _ refl (named _ _ _ _ refl (refl, refl, refl) (quiet _ _ _ refl no_more))

  get-twins : are_units (units_of_name k.binary_name) ≡ true → Twins N (getter N) (getter G)
  get-twins own = record {
    name = refl;
    descriptor = refl;
    units = refl;
    also = units-append (units_of_name k.binary_name) (codes ";") own refl;
    names = name.Class (units_of_name k.binary_name) ∷ name.Method (this_init N) ∷ [];
    first = makes;
    second = makes;
  }
    where
      makes : Names N (getter N).instrs (name.Class (units_of_name k.binary_name) ∷ name.Method (this_init N) ∷ [])
      makes = named _ _ _ _ refl own (quiet _ _ _ refl (named _ _ _ _ refl (own, refl, refl) (quiet _ _ _ refl no_more)))

-- ---- the first pool

record First (g : Around) : Type 0 where
  longer : Longer [] (first_pool g)
  own : HasClass (first_pool g) (units_of_name g.class.binary_name)
  object : HasClass (first_pool g) (codes "java/lang/Object")
  code : 0 < utf8_index (first_pool g) (codes "Code")

first : (g : Around) → are_units (units_of_name g.class.binary_name) ≡ true → First g
first g own =
    let name' = units_of_name g.class.binary_name in
    let object = codes "java/lang/Object" in
    let q = with_class [] name' in
    let r = with_class q object in
    let all = first_pool g in
    let a = class-added [] name' own in
    let b = class-added q object refl in
    let c = utf8-longer r (codes "Code") refl in
    record {
      longer = longer-both [] q all a.longer (longer-both q r all b.longer c);
      own = has_stays q all (name.Class name') (longer-both q r all b.longer c) a.has;
      object = has_stays r all (name.Class object) c b.has;
      code = utf8_there r (codes "Code");
    }

-- ---- the file

module _ (p : Program) (k : CoreClass) (built : is_built p k ≡ true) (sound : Sound p k) (methods : AllMethods k) where
  abbrev plain_one : Around
  plain_one = around p k []

  abbrev own : List ℕ
  own = units_of_name k.binary_name

  whole : AllWhole p.table k p.bodies k.members
  whole = let c = conditions p k built in all-whole p.table k p.bodies k.members sound.own c.named sound.names methods.methods methods.values c.typed

  text-units : (t : TextId) (us : List ℕ) → text_at p.table t ≡ Some us → are_units us ≡ true
  unfolding text_at
  text-units t us h = units-at p.table.texts t.0 us sound.texts h

  ready : Ready p.table k
  ready = record { texts = text-units; members = λ x m h. name-found p.table k p.bodies k.members x m whole h }

  pairs : (q : List PoolEntry) → AllPairs p.table k ready p.bodies [] q k.members
  pairs q = all-pairs p.table k ready p.bodies [] q k.members whole

  -- the methods under no pool, and under this one
  abbrev before : List PoolEntry → List Method
  before q = constructor plain_one ∷ getter plain_one ∷ (pairs q).first

  abbrev after : List PoolEntry → List Method
  after q = constructor (around p k q) ∷ getter (around p k q) ∷ (pairs q).second

  twins : (q : List PoolEntry) → AllTwins plain_one (before q) (after q)
  twins q =
      twins_more (constructor plain_one) (constructor (around p k q)) (getter plain_one ∷ (pairs q).first) (getter (around p k q) ∷ (pairs q).second) (init-twins p k q sound.own)
      (twins_more (getter plain_one) (getter (around p k q)) (pairs q).first (pairs q).second (get-twins p k q sound.own) (twins-beside plain_one k.members (pairs q).first (pairs q).second (pairs q).beside))

  all-filled : (q : List PoolEntry) → AllFilled plain_one (first_pool plain_one) (before q) (after q)
  all-filled q = methods-filled plain_one (first_pool plain_one) (before q) (after q) (twins q)

  needed-is : (q : List PoolEntry) → needed p k ≡ Some (all-filled q).pool
  needed-is q =
      then-is (methods_of plain_one p.bodies) (λ ms. with_methods plain_one (first_pool plain_one) ms) (before q) (Some (all-filled q).pool)
      ((pairs q).first_is (constructor plain_one ∷ getter plain_one ∷ [])) (all-filled q).pool_is

  -- the pool of the file
  record Whole (q : List PoolEntry) : Type 0 where
    longer : Longer (first_pool plain_one) q
    all : AllIn plain_one q (before q) (after q)

  whole-pool : (q : List PoolEntry) → needed p k ≡ Some q → Whole q
  whole-pool q h =
      let f = all-filled q in
      let same : f.pool ≡ q = same_Some f.pool q (sym (needed-is q) ∙ h) in
      record { longer = subst (Longer (first_pool plain_one)) same f.longer; all = subst (λ r. AllIn plain_one r (before q) (after q)) same f.all }

  module _ (q : List PoolEntry) (h : needed p k ≡ Some q) where
    abbrev this_one : Around
    this_one = around p k q

    abbrev made_here : Made
    made_here = record { pool = q; methods = after q }

    made-is : made_under p k q ≡ Some made_here
    made-is =
        let w = whole-pool q h in
        let f = first plain_one sound.own in
        let distinct = all-distinct plain_one this_one k.members (pairs q).first (pairs q).second (pairs q).beside sound.init sound.get sound.apart in
        let fit = (longer-both [] (first_pool plain_one) q f.longer w.longer).fit refl in
        then-is (methods_of this_one p.bodies) (made_with q) (after q) (Some made_here) ((pairs q).second_is (constructor this_one ∷ getter this_one ∷ []))
        (cond-true (are_distinct (after q) && list_all fits q) (Some made_here) None (and_from (are_distinct (after q)) (list_all fits q) distinct fit))

    has-file : (c : ClassFile) × (file p k made_here ≡ Some c)
    has-file =
        let w = whole-pool q h in
        let f = first plain_one sound.own in
        let infos = infos-some p.table k q [] (before q) (after q) w.all (utf8_stays (first_pool plain_one) q (codes "Code") w.longer f.code) in
        let this = has_stays (first_pool plain_one) q (name.Class own) w.longer f.own in
        let parent = has_stays (first_pool plain_one) q (name.Class (codes "java/lang/Object")) w.longer f.object in
        let i = class_index q own in
        let j = class_index q (codes "java/lang/Object") in
        let c = file_with q infos.0 i j in (
          c,
          then-is (member_infos this_one [] (after q)) (λ is. file_by k q is) infos.0 (Some c) infos.1
              (then-is (found i) (λ a. found j >>= λ b. Some (file_with q infos.0 a b)) i (Some c) (found-some i this.there)
              (then-is (found j) (λ b. Some (file_with q infos.0 i b)) j (Some c) (found-some j parent.there) refl)),
        )

    answer : (x : Option Excess) → (r : Result ClassFile Large) × (sized p k made_here x ≡ Some r)
    answer None = (Ok has-file.0, then-is (file p k made_here) (λ c. Some (Ok c)) has-file.0 (Some (Ok has-file.0)) has-file.1 refl)
    answer (Some e) = (Err (large k e), refl)

    answered : (r : Result ClassFile Large) × (file_of p k ≡ Some r)
    unfolding file_of
    answered =
        let a = answer (excess_of q (after q)) in
        let is : made p k ≡ Some made_here = cond-true (is_built p k) (needed p k >>= λ pool. made_under p k pool) None built ∙ then-is (needed p k) (λ pool. made_under p k pool) q (Some made_here) h made-is in
        (a.0, then-is (made p k) (λ m. sized p k m (excess_of m.pool m.methods)) made_here (Some a.0) is a.1)

-- Each class that passes the conditions of the generator has a file, or is too large for one, if its texts and names are units,
-- its methods have names of their own, and its members are methods without parameters by name.
pub built_has_file : (p : Program) (k : CoreClass) → is_built p k ≡ true → Sound p k → AllMethods k → (r : Result ClassFile Large) × (file_of p k ≡ Some r)
built_has_file p k built sound methods = answered p k built sound methods (all-filled p k built sound methods []).pool (needed-is p k built sound methods [])
