-- Where entries stand in the pool, and what stays so when the pool grows.
use Rattle.std.proofs.Common.{◌≡◌, ℕ, zero, suc, ◌+◌, ◌-◌, ◌<◌, ◌≤◌, Bool, true, false, cond, eqb, List, [], ◌∷◌, ◌++◌, map, length, Some, None, refl, sym, ap, ◌∙◌, subst, arith, length-append, append_assoc, append-nil}
use Rattle.std.specs.Prelude.{slice_get}
use Rattle.std.proofs.lemmas.Bool.{ne_eqb, cond-false}
use Rattle.scw_classfile.specs.declared.pool_entry.EntryKind.{EntryKind}
use Rattle.scw_classfile.specs.declared.pool_entry.PoolEntry.{PoolEntry}
use Rattle.scw_classfile.specs.Kinds.{kind_of, kinds_of, kind_at}
use Rattle.scw_gen.specs.Instr.{plus}
use Rattle.scw_gen.specs.Pool.{index_from, found}

-- ---- the entry at an index

-- an entry that passes stands where the index says, which counts from k
pub record Stands (test : PoolEntry → Bool) (k : ℕ) (p : List PoolEntry) (n : ℕ) : Type 0 where
  pub place : ℕ
  pub entry : PoolEntry
  pub is : n ≡ k + place
  pub at : slice_get p place ≡ Some entry
  pub passes : test entry ≡ true

stands : (test : PoolEntry → Bool) (k : ℕ) (p : List PoolEntry) → k + length p ≤ 65535 → 0 < index_from test k p → Stands test k p (index_from test k p)
stands test k [] few some = absurd (omega arith)
stands test k (e ∷ es) few some = by (test e) refl some (λ s. stands test (plus k 1) es (omega arith) s)
  where
    by : (b : Bool) → test e ≡ b → 0 < cond b k (index_from test (plus k 1) es)
        → (0 < index_from test (plus k 1) es → Stands test (plus k 1) es (index_from test (plus k 1) es)) → Stands test k (e ∷ es) (cond b k (index_from test (plus k 1) es))
    by true h s later = record { place = 0; entry = e; is = omega arith; at = refl; passes = h }
    by false h s later = let f = later s in record { place = suc f.place; entry = f.entry; is = omega (arith, f.is); at = f.at; passes = f.passes }

-- ---- the pool grows

at-prefix : (p more : List PoolEntry) (n : ℕ) (e : PoolEntry) → slice_get p n ≡ Some e → slice_get (p ++ more) n ≡ Some e
at-prefix [] more n e h = absurd (cc)
at-prefix (x ∷ p) more zero e h = h
at-prefix (x ∷ p) more (suc n) e h = at-prefix p more n e h

-- what has an index keeps it
pub index-grown : (test : PoolEntry → Bool) (k : ℕ) (p more : List PoolEntry) → 0 < index_from test k p → index_from test k (p ++ more) ≡ index_from test k p
index-grown test k [] more some = absurd (omega arith)
index-grown test k (e ∷ es) more some = by (test e) some (λ s. index-grown test (plus k 1) es more s)
  where
    by : (b : Bool) → 0 < cond b k (index_from test (plus k 1) es) → (0 < index_from test (plus k 1) es → index_from test (plus k 1) (es ++ more) ≡ index_from test (plus k 1) es)
        → cond b k (index_from test (plus k 1) (es ++ more)) ≡ cond b k (index_from test (plus k 1) es)
    by true s later = refl
    by false s later = later s

-- what was added has an index
pub index-added : (test : PoolEntry → Bool) (k : ℕ) (p : List PoolEntry) (e : PoolEntry) (more : List PoolEntry) → 0 < k → test e ≡ true → 0 < index_from test k (p ++ e ∷ more)
index-added test k [] e more some h = rw h some
index-added test k (x ∷ xs) e more some h = by (test x) (index-added test (plus k 1) xs e more (omega arith) h)
  where
    by : (b : Bool) → 0 < index_from test (plus k 1) (xs ++ e ∷ more) → 0 < cond b k (index_from test (plus k 1) (xs ++ e ∷ more))
    by true s = some
    by false s = s

-- an index has 16 bits
pub index-le : (test : PoolEntry → Bool) (k : ℕ) (p : List PoolEntry) → k ≤ 65535 → index_from test k p ≤ 65535
index-le test k [] h = omega arith
index-le test k (e ∷ es) h = by (test e) (index-le test (plus k 1) es (omega arith))
  where
    by : (b : Bool) → index_from test (plus k 1) es ≤ 65535 → cond b k (index_from test (plus k 1) es) ≤ 65535
    by true l = h
    by false l = l

-- ---- kinds

kind-got : (p : List PoolEntry) (n : ℕ) (e : PoolEntry) → slice_get p n ≡ Some e → slice_get (map kind_of p) n ≡ Some (kind_of e)
kind-got [] n e h = absurd (cc)
kind-got (x ∷ p) zero e h = let same : x ≡ e = cc in ap (λ (y : PoolEntry). Some (kind_of y)) same
kind-got (x ∷ p) (suc n) e h = kind-got p n e h

-- an entry that passes has this index in the pool
pub record Leads (kinds : List EntryKind) (test : PoolEntry → Bool) (n : ℕ) : Type 0 where
  pub entry : PoolEntry
  pub passes : test entry ≡ true
  pub kind : kind_at kinds n ≡ Some (kind_of entry)

-- the pool of a file begins with these entries, and isn't too large
pub record Begins (whole p : List PoolEntry) : Type 0 where
  pub rest : List PoolEntry
  pub is : p ++ rest ≡ whole
  pub few : length whole ≤ 65534

pub begins-whole : (p : List PoolEntry) → length p ≤ 65534 → Begins p p
begins-whole p few = record { rest = []; is = append-nil p; few = few }

-- the front of a front
pub begins-front : (whole p more : List PoolEntry) → Begins whole (p ++ more) → Begins whole p
begins-front whole p more b = record { rest = more ++ b.rest; is = sym (append_assoc p more b.rest) ∙ b.is; few = b.few }

pub leads : (whole p : List PoolEntry) (test : PoolEntry → Bool) → Begins whole p → 0 < index_from test 1 p → Leads (kinds_of whole) test (index_from test 1 p)
leads whole p test b some =
    let n = index_from test 1 p in
    let len = length-append p b.rest in
    let size : length p + length b.rest ≡ length whole = sym len ∙ ap length b.is in
    let few = b.few in
    let s = stands test 1 p (omega arith) some in
    let e : n - 1 ≡ s.place = omega (arith, s.is) in
    let got : slice_get whole s.place ≡ Some s.entry = subst (λ (l : List PoolEntry). slice_get l s.place ≡ Some s.entry) b.is (at-prefix p b.rest s.place s.entry s.at) in
    record {
      entry = s.entry;
      passes = s.passes;
      kind =
          cond-false (eqb n 0) None (slice_get (kinds_of whole) (n - 1)) (ne_eqb n 0 (λ z. omega arith))
          ∙ ap (slice_get (kinds_of whole)) e ∙ kind-got whole s.place s.entry got;
    }

-- an index that was found
pub found-is : (n m : ℕ) → found n ≡ Some m → (n ≡ m) × (0 < n)
found-is n m h = by (eqb n 0) refl h
  where
    by : (b : Bool) → eqb n 0 ≡ b → cond b None (Some n) ≡ Some m → (n ≡ m) × (0 < n)
    by true t e = absurd (cc)
    by false t e = (let same : n ≡ m = cc in same, some n t)
      where
        some : (n : ℕ) → eqb n 0 ≡ false → 0 < n
        some zero t = absurd (cc)
        some (suc n) t = omega arith
