-- Which numbers the selectors of a class file have.
use Rattle.std.proofs.Common.{◌≡◌, ℕ, zero, suc, Bool, true, false, cond, List, [], ◌∷◌, ◌++◌, length, Option, Some, None, is_some, slice_get, fold, refl, sym, ap, ◌∙◌}
use Rattle.std.specs.Prelude.{nat_eq}
use Rattle.std.specs.Option.{option_map}
use Rattle.std.specs.Cmp.Lexicographic.{pointwise, same_text}
use Rattle.std.proofs.lemmas.Bool.{and_from, and_parts, eq-eqb}
use Rattle.std.proofs.lemmas.Option.{same_Some, none-some}
use Rattle.scw_classfile.specs.declared.class_file.ClassFile.{ClassFile}
use Rattle.scw_classfile.specs.declared.pool_entry.PoolEntry.{PoolEntry}
use Rattle.scw_link.specs.Names.{Named, at, method_ref, same}
use Rattle.scw_link.specs.Resolve.{is_selector, selector_number}
use Rattle.scw_link.specs.Selectors.{called_by, called_in, main_selector, selector_of, selectors_of, with_selector}
use Rattle.scw_link.specs.Site.{Selector}
use Rattle.scw_back.proofs.Firsts.{any-first, first-position, get-front, get-kept, get-last, position-first}

-- a text is itself
pub same-refl : (us : List ℕ) → same us us ≡ true
same-refl [] = refl
same-refl (u ∷ us) = and_from (nat_eq u u) (pointwise nat_eq us us) (eq-eqb u u refl) (same-refl us)

-- among the selectors is one of this name and descriptor
record Has (ss : List Selector) (s : Selector) : Type 0 where
  place : ℕ
  found : Selector
  there : slice_get ss place ≡ Some found
  is : is_selector s.name s.descriptor found ≡ true

-- what stands there stays
step_keeps : (ss : List Selector) (s : Selector) (i : ℕ) (x : Selector) → slice_get ss i ≡ Some x → slice_get (with_selector ss s) i ≡ Some x
step_keeps ss s i x h = by (is_some (selector_number ss s.name s.descriptor))
  where
    by : (b : Bool) → slice_get (cond b ss (ss ++ s ∷ [])) i ≡ Some x
    by true = h
    by false = get-front ss (s ∷ []) i x h

pub all_keep : (ss more : List Selector) (i : ℕ) (x : Selector) → slice_get ss i ≡ Some x → slice_get (fold with_selector ss more) i ≡ Some x
all_keep ss [] i x h = h
all_keep ss (s ∷ more) i x h = all_keep (with_selector ss s) more i x (step_keeps ss s i x h)

step_has : (ss : List Selector) (s : Selector) → Has (with_selector ss s) s
unfolding selector_number
step_has ss s = by (selector_number ss s.name s.descriptor) refl
  where
    by : (o : Option ℕ) → selector_number ss s.name s.descriptor ≡ o → Has (cond (is_some o) ss (ss ++ s ∷ [])) s
    by (Some j) e = let f = position-first (is_selector s.name s.descriptor) ss j e in record { place = j; found = f.0; there = f.1.there; is = f.1.passes }
    by None e = record { place = length ss; found = s; there = get-last ss s; is = and_from (same s.name s.name) (same s.descriptor s.descriptor) (same-refl s.name) (same-refl s.descriptor) }

-- each selector has its number in the end
all_have : (ss more : List Selector) (k : ℕ) (s : Selector) → slice_get more k ≡ Some s → Has (fold with_selector ss more) s
all_have ss [] k s h = absurd (none-some s h)
all_have ss (x ∷ more) zero s h =
    let f = step_has ss x in
    let same_one = same_Some x s h in
    record { place = f.place; found = f.found; there = all_keep (with_selector ss x) more f.place f.found f.there; is = ap (λ (y : Selector). is_selector y.name y.descriptor f.found) (sym same_one) ∙ f.is }
all_have ss (x ∷ more) (suc k) s h = all_have (with_selector ss x) more k s h

-- the first selector of a name and a descriptor
pub record Numbered (ss : List Selector) (name descriptor : List ℕ) : Type 0 where
  pub number : ℕ
  pub is : selector_number ss name descriptor ≡ Some number
  pub there : slice_get ss number ≡ Some (record { name = name; descriptor = descriptor })

has_number : (ss : List Selector) (s : Selector) → Has ss s → Numbered ss s.name s.descriptor
unfolding selector_number
has_number ss s h =
    let f = any-first (is_selector s.name s.descriptor) ss h.place h.found h.there h.is in
    let x : Selector = f.1 in
    let parts = and_parts (same x.name s.name) (same x.descriptor s.descriptor) f.2.passes in
    let name = same_text x.name s.name (sym parts.0) in
    let descriptor = same_text x.descriptor s.descriptor (sym parts.1) in
    let is : x ≡ s = (λ k. record { name = name k; descriptor = descriptor k }) in
    record { number = f.0; is = first-position (is_selector s.name s.descriptor) ss f.0 x f.2; there = f.2.there ∙ ap (λ (y : Selector). Some y) is }

-- the selector that runs a program has the number 0
pub main_numbered : (c : ClassFile) → slice_get (selectors_of (c ∷ [])) 0 ≡ Some main_selector
main_numbered c = all_keep (main_selector ∷ []) (called_in c.pool ++ []) 0 main_selector refl

-- a method that the pool names has a number
pub numbered : (c : ClassFile) (n : ℕ) (m : Named) → method_ref c.pool (at c.pool n) ≡ Some m → Numbered (selectors_of (c ∷ [])) m.name m.descriptor
numbered c zero m h = absurd (none-some m h)
numbered c (suc k) m h = by (slice_get c.pool k) refl h
  where
    by : (o : Option PoolEntry) → slice_get c.pool k ≡ o → method_ref c.pool o ≡ Some m → Numbered (selectors_of (c ∷ [])) m.name m.descriptor
    by None e g = absurd (none-some m g)
    by (Some x) e g =
        let f = get-kept (called_by c.pool) c.pool k x (selector_of m) e (ap (option_map selector_of) g) in
        let a = get-front (called_in c.pool) [] f.0 (selector_of m) f.1 in
        has_number (selectors_of (c ∷ [])) (selector_of m) (all_have (main_selector ∷ []) (called_in c.pool ++ []) f.0 (selector_of m) a)
