-- What the definition of a heap says of numbers and words: for callers.
use Rattle.std.proofs.Common.{◌≡◌, ℕ, ◌+◌, ◌-◌, ◌<◌, ◌≤◌, suc, zero, Bool, true, List, [], ◌∷◌, ◌++◌, Some, None, Option, is_some, IsSome, IsTrue, ◌↔◌, length, get_or, set, take, sym, ◌∙◌, ap, refl, inl, inr, arith}
use Rattle.std.proofs.lemmas.Bool.{cases_eq}
use Rattle.std.proofs.lemmas.List.{length-set, get_or-set_same, get_or-set_other}
use Rattle.scw_heap.specs.declared.kind.Kind.{Kind}
use Rattle.scw_heap.specs.Heap.{zeroed, Entity, size_of, units_of, used, object_at, number_of, with_word, with_word_in, words_in, words_at}
use Rattle.scw_heap.proofs.LayoutLemmas.{object_at-first, object_at-next, with_word-first, with_word-next}

-- an object keeps its size
pub size_of-with_word_in : (o : Entity) (i v : ℕ) → size_of (with_word_in o i v) ≡ size_of o
size_of-with_word_in o i v = ap (units_of o.kind) (length-set o.words i v)

-- a write at null changes nothing
pub with_word-zero : (objects : List Entity) (i v : ℕ) → with_word objects 0 i v ≡ objects
with_word-zero [] i v = refl
with_word-zero (o ∷ os) i v =
    let z : 0 - size_of o ≡ 0 = omega arith in
    ap (λ n. o ∷ with_word os n i v) z ∙ ap (λ xs. o ∷ xs) (with_word-zero os i v)

-- a write takes no units
pub used-with_word : (objects : List Entity) (n i v : ℕ) → used (with_word objects n i v) ≡ used objects
used-with_word [] n i v = refl
used-with_word (o ∷ os) n i v =
    elim (cases_eq n 1) [
      | inl e ↦ ap used (with_word-first o os n i v e) ∙ ap (λ x. x + used os) (size_of-with_word_in o i v)
      | inr e ↦ ap used (with_word-next o os n i v e) ∙ ap (λ x. size_of o + x) (used-with_word os (n - size_of o) i v)
    ]

-- the object that was written has the word
pub object_at-with_word_same : (objects : List Entity) (n i v : ℕ) (o : Entity) → object_at objects n ≡ Some o → object_at (with_word objects n i v) n ≡ Some (with_word_in o i v)
object_at-with_word_same [] n i v o h = absurd (cc)
object_at-with_word_same (p ∷ os) n i v o h =
    elim (cases_eq n 1) [
      | inl e ↦
          let q : p ≡ o = let g = object_at-first p os n e in cc in
          ap (λ xs. object_at xs n) (with_word-first p os n i v e) ∙
          (object_at-first (with_word_in p i v) os n e ∙ ap (λ x. Some (with_word_in x i v)) q)
      | inr e ↦
          ap (λ xs. object_at xs n) (with_word-next p os n i v e) ∙
          (object_at-next p (with_word os (n - size_of p) i v) n e ∙
          object_at-with_word_same os (n - size_of p) i v o (sym (object_at-next p os n e) ∙ h))
    ]

-- if they stay in general, they stay behind objects of so many units
pub object_at-with_word_beyond : (objects : List Entity) (n m size i v : ℕ) → (m ≡ n → ⊥) → ((a b : ℕ) → (b ≡ a → ⊥) → object_at (with_word objects a i v) b ≡ object_at objects b) → object_at (with_word objects (n - size) i v) (m - size) ≡ object_at objects (m - size)
object_at-with_word_beyond objects n m size i v ne stays =
    elim (cases_eq (m - size) (n - size)) [
      | inl e ↦
          let z : n - size ≡ 0 = elim (cases_eq (n - size) 0) [ inl y ↦ y | inr y ↦ absurd (ne (omega arith)) ] in
          ap (λ x. object_at (with_word objects x i v) (m - size)) z ∙
          ap (λ xs. object_at xs (m - size)) (with_word-zero objects i v)
      | inr e ↦ stays (n - size) (m - size) e
    ]

-- the other objects stay
pub object_at-with_word_other : (objects : List Entity) (n m i v : ℕ) → (m ≡ n → ⊥) → object_at (with_word objects n i v) m ≡ object_at objects m
object_at-with_word_other [] n m i v ne = refl
object_at-with_word_other (p ∷ os) n m i v ne =
    elim (cases_eq n 1) [
      | inl e ↦
          let k : m ≡ 1 → ⊥ = λ q. ne (q ∙ sym e) in
          ap (λ xs. object_at xs m) (with_word-first p os n i v e) ∙
          (object_at-next (with_word_in p i v) os m k ∙
          (ap (λ x. object_at os (m - x)) (size_of-with_word_in p i v) ∙ sym (object_at-next p os m k)))
      | inr e ↦
          ap (λ xs. object_at xs m) (with_word-next p os n i v e) ∙
          elim (cases_eq m 1) [
            | inl q ↦ object_at-first p (with_word os (n - size_of p) i v) m q ∙ sym (object_at-first p os m q)
            | inr q ↦
                object_at-next p (with_word os (n - size_of p) i v) m q ∙
                (object_at-with_word_beyond os n m (size_of p) i v ne (λ a b k. object_at-with_word_other os a b i v k) ∙ sym (object_at-next p os m q))
          ]
    ]

-- the words that were written
pub words_at-with_word_same : (objects : List Entity) (n i v : ℕ) → words_at (with_word objects n i v) n ≡ set (words_at objects n) i v
words_at-with_word_same [] n i v = refl
words_at-with_word_same (p ∷ os) n i v =
    elim (cases_eq n 1) [
      | inl e ↦
          ap (λ xs. words_at xs n) (with_word-first p os n i v e) ∙
          (ap words_in (object_at-first (with_word_in p i v) os n e) ∙
          ap (λ x. set (words_in x) i v) (sym (object_at-first p os n e)))
      | inr e ↦
          ap (λ xs. words_at xs n) (with_word-next p os n i v e) ∙
          (ap words_in (object_at-next p (with_word os (n - size_of p) i v) n e) ∙
          (words_at-with_word_same os (n - size_of p) i v ∙
          ap (λ x. set (words_in x) i v) (sym (object_at-next p os n e))))
    ]

-- what was set is got
pub get-set_same : (objects : List Entity) (n i v : ℕ) → i < length (words_at objects n) → get_or (words_at (with_word objects n i v) n) i 0 ≡ v
get-set_same objects n i v h =
    ap (λ xs. get_or xs i 0) (words_at-with_word_same objects n i v) ∙ get_or-set_same (words_at objects n) i v 0 h

-- the other words of the object stay
pub get-set_other : (objects : List Entity) (n i j v : ℕ) → (j ≡ i → ⊥) → get_or (words_at (with_word objects n i v) n) j 0 ≡ get_or (words_at objects n) j 0
get-set_other objects n i j v ne =
    ap (λ xs. get_or xs j 0) (words_at-with_word_same objects n i v) ∙ get_or-set_other (words_at objects n) i j v 0 ne

-- units add up
pub used-append : (os ts : List Entity) → used (os ++ ts) ≡ used os + used ts
used-append [] ts = omega arith
used-append (o ∷ os) ts = omega (arith, used-append os ts)

-- no number of an object is past the units in use
pub object_at-le-used : (objects : List Entity) (n : ℕ) (o : Entity) → object_at objects n ≡ Some o → n ≤ used objects
object_at-le-used [] n o h = absurd (cc)
object_at-le-used (p ∷ os) n o h =
    elim (cases_eq n 1) [
      | inl e ↦ omega arith
      | inr e ↦ omega (arith, object_at-le-used os (n - size_of p) o (sym (object_at-next p os n e) ∙ h))
    ]

-- an object stays while others are made
pub object_at-append : (os ts : List Entity) (n : ℕ) (o : Entity) → object_at os n ≡ Some o → object_at (os ++ ts) n ≡ Some o
object_at-append [] ts n o h = absurd (cc)
object_at-append (p ∷ os) ts n o h =
    elim (cases_eq n 1) [
      | inl e ↦ object_at-first p (os ++ ts) n e ∙ (sym (object_at-first p os n e) ∙ h)
      | inr e ↦
          object_at-next p (os ++ ts) n e ∙
          object_at-append os ts (n - size_of p) o (sym (object_at-next p os n e) ∙ h)
    ]

-- the number of an object behind others
pub object_at-behind : (os ts : List Entity) (o : Entity) → object_at (os ++ o ∷ ts) (1 + used os) ≡ Some o
object_at-behind [] ts o = object_at-first o ts (1 + 0) (omega arith)
object_at-behind (p ∷ os) ts o =
    let k : 1 + used (p ∷ os) ≡ 1 → ⊥ = λ e. absurd (omega arith) in
    let d : 1 + used (p ∷ os) - size_of p ≡ 1 + used os = omega arith in
    object_at-next p (os ++ o ∷ ts) (1 + used (p ∷ os)) k ∙
    (ap (object_at (os ++ o ∷ ts)) d ∙ object_at-behind os ts o)

-- the object at each place is that with its number
pub object_at-number_of : (objects : List Entity) (k : ℕ) (d : Entity) → k < length objects → object_at objects (number_of objects k) ≡ Some (get_or objects k d)
object_at-number_of [] k d h = absurd (omega arith)
object_at-number_of (o ∷ os) zero d h = object_at-behind [] os o
object_at-number_of (o ∷ os) (suc k) d h =
    let n : ℕ = 1 + used (take (suc k) (o ∷ os)) in
    let e : n ≡ 1 → ⊥ = λ q. absurd (omega arith) in
    let m : n - size_of o ≡ 1 + used (take k os) = omega arith in
    object_at-next o os n e ∙ (ap (object_at os) m ∙ object_at-number_of os k d (omega arith))

-- a fresh object, at the number that `make` answers
pub object_at-made : (objects : List Entity) (k : Kind) (n : ℕ) → object_at (objects ++ zeroed k n ∷ []) (1 + used objects) ≡ Some (zeroed k n)
object_at-made objects k n = object_at-behind objects [] (zeroed k n)

-- objects keep their lengths
pub length-words_at-with_word : (objects : List Entity) (n m i v : ℕ) → length (words_at (with_word objects n i v) m) ≡ length (words_at objects m)
length-words_at-with_word objects n m i v =
    elim (cases_eq m n) [
      | inl e ↦
          ap (λ x. length (words_at (with_word objects n i v) x)) e ∙
          (ap length (words_at-with_word_same objects n i v) ∙
          (length-set (words_at objects n) i v ∙ ap (λ x. length (words_at objects x)) (sym e)))
      | inr e ↦ ap (λ x. length (words_in x)) (object_at-with_word_other objects n m i v e)
    ]

-- a test of an object is true where it is there
pub is_some-there : (x : Option Entity) (b : Bool) → b ≡ is_some x → IsTrue b ↔ IsSome x
is_some-there None b e = (λ t. absurd (cc), λ s. absurd (cc))
is_some-there (Some o) b e = (λ t. refl, λ s. e)

-- a write makes no object and loses none
pub is_some-with_word : (objects : List Entity) (n m i v : ℕ) → is_some (object_at (with_word objects n i v) m) ≡ is_some (object_at objects m)
is_some-with_word [] n m i v = refl
is_some-with_word (p ∷ os) n m i v =
    elim (cases_eq n 1) [
      | inl e ↦
          ap (λ xs. is_some (object_at xs m)) (with_word-first p os n i v e) ∙
          elim (cases_eq m 1) [
            | inl q ↦
                ap is_some (object_at-first (with_word_in p i v) os m q) ∙ sym (ap is_some (object_at-first p os m q))
            | inr q ↦
                ap is_some (object_at-next (with_word_in p i v) os m q) ∙
                (ap (λ x. is_some (object_at os (m - x))) (size_of-with_word_in p i v) ∙
                sym (ap is_some (object_at-next p os m q)))
          ]
      | inr e ↦
          ap (λ xs. is_some (object_at xs m)) (with_word-next p os n i v e) ∙
          elim (cases_eq m 1) [
            | inl q ↦
                ap is_some (object_at-first p (with_word os (n - size_of p) i v) m q) ∙
                sym (ap is_some (object_at-first p os m q))
            | inr q ↦
                ap is_some (object_at-next p (with_word os (n - size_of p) i v) m q) ∙
                (is_some-with_word os (n - size_of p) (m - size_of p) i v ∙
                sym (ap is_some (object_at-next p os m q)))
          ]
    ]

-- the number of an object is that of one while others are made
pub is_some-append : (os ts : List Entity) (n : ℕ) → is_some (object_at os n) ≡ true → is_some (object_at (os ++ ts) n) ≡ true
is_some-append [] ts n h = absurd (cc)
is_some-append (p ∷ os) ts n h =
    elim (cases_eq n 1) [
      | inl e ↦ ap is_some (object_at-first p (os ++ ts) n e)
      | inr e ↦
          ap is_some (object_at-next p (os ++ ts) n e) ∙
          is_some-append os ts (n - size_of p) (sym (ap is_some (object_at-next p os n e)) ∙ h)
    ]

-- an object that is there is there after a write, and while others are made
pub IsSome-with_word : (objects : List Entity) (n m i v : ℕ) → IsSome (object_at objects m) → IsSome (object_at (with_word objects n i v) m)
IsSome-with_word objects n m i v h =
    (is_some-there (object_at (with_word objects n i v) m) true (sym (is_some-with_word objects n m i v ∙ (is_some-there (object_at objects m) _ refl).1 h))).0 refl

pub IsSome-append : (os ts : List Entity) (n : ℕ) → IsSome (object_at os n) → IsSome (object_at (os ++ ts) n)
IsSome-append os ts n h =
    (is_some-there (object_at (os ++ ts) n) true (sym (is_some-append os ts n ((is_some-there (object_at os n) _ refl).1 h)))).0 refl

-- a fresh object is at its own number alone
pub object_at-made_other : (objects : List Entity) (k : Kind) (n m : ℕ) → (m ≡ 1 + used objects → ⊥) → object_at (objects ++ zeroed k n ∷ []) m ≡ object_at objects m
object_at-made_other [] k n m ne = object_at-next (zeroed k n) [] m (λ e. ne (omega arith))
object_at-made_other (p ∷ os) k n m ne =
    elim (cases_eq m 1) [
      | inl e ↦ object_at-first p (os ++ zeroed k n ∷ []) m e ∙ sym (object_at-first p os m e)
      | inr e ↦
          object_at-next p (os ++ zeroed k n ∷ []) m e ∙
          (object_at-made_other os k n (m - size_of p) (λ q. ne (omega arith)) ∙ sym (object_at-next p os m e))
    ]
