-- The flags of the units at which objects begin.
use Rattle.std.proofs.Common.{◌≡◌, ℕ, ◌-◌, ◌<◌, ◌≤◌, suc, zero, Bool, true, false, List, [], ◌∷◌, ◌++◌, None, length, get_or, replicate, is_some, sym, ◌∙◌, ap, refl, inl, inr, append_assoc, arith, Some}
use Rattle.std.proofs.lemmas.Bool.{cases_eq, cases_lt}
use Rattle.std.proofs.lemmas.List.{append-nil, length-append, length-replicate, get_or_append_left, get_or-append_right, get_or-replicate, get_or_past, get_or_read}
use Rattle.scw_heap.specs.declared.kind.Kind.{Kind}
use Rattle.scw_heap.specs.Heap.{Content, Entity, object_at, size_of, units_of, used, with_word, zeroed}
use Rattle.scw_heap.specs.Layout.{AreLaidOut, IsMarked, objects_of, starts_of}
use Rattle.scw_heap.proofs.HeapLemmas.{size_of-with_word_in}
use Rattle.scw_heap.proofs.LayoutLemmas.{objects_of-laid_out, object_at-next, object_at-zero, with_word-first, with_word-next}

-- there is a flag for each unit in use
pub length-starts_of : (objects : List Entity) → length (starts_of objects) ≡ used objects
length-starts_of [] = refl
length-starts_of (o ∷ os) =
    omega (arith, length-starts_of os, length-append (replicate (size_of o - 1) false) (starts_of os), length-replicate {A = Bool} (size_of o - 1) false)

-- the flags of objects behind others
pub starts_of-append : (os ts : List Entity) → starts_of (os ++ ts) ≡ starts_of os ++ starts_of ts
starts_of-append [] ts = refl
starts_of-append (o ∷ os) ts =
    let zs : List Bool = replicate (size_of o - 1) false in
    ap (λ xs. true ∷ (zs ++ xs)) (starts_of-append os ts) ∙
    ap (λ xs. true ∷ xs) (sym (append_assoc zs (starts_of os) (starts_of ts)))

-- a write moves no object
pub starts_of-with_word : (objects : List Entity) (n i v : ℕ) → starts_of (with_word objects n i v) ≡ starts_of objects
starts_of-with_word [] n i v = refl
starts_of-with_word (o ∷ os) n i v =
    elim (cases_eq n 1) [
      | inl e ↦
          ap starts_of (with_word-first o os n i v e) ∙
          ap (λ x. true ∷ (replicate (x - 1) false ++ starts_of os)) (size_of-with_word_in o i v)
      | inr e ↦
          ap starts_of (with_word-next o os n i v e) ∙
          ap (λ xs. true ∷ (replicate (size_of o - 1) false ++ xs)) (starts_of-with_word os (n - size_of o) i v)
    ]

-- behind the first unit the numbers are not that of the first object
pub object_at-beyond : (o : Entity) (os : List Entity) (k : ℕ) → object_at (o ∷ os) (suc (suc k)) ≡ object_at os (suc (suc k) - size_of o)
object_at-beyond o os k = object_at-next o os (suc (suc k)) (λ e. absurd (omega arith))

-- no object has a number inside another
pub object_at-inside : (o : Entity) (os : List Entity) (k : ℕ) → k < size_of o - 1 → object_at (o ∷ os) (suc (suc k)) ≡ None
object_at-inside o os k h =
    let z : suc (suc k) - size_of o ≡ 0 = omega arith in
    object_at-beyond o os k ∙ (ap (object_at os) z ∙ object_at-zero os)

-- a flag says whether the object with that number is there
pub start_at : (objects : List Entity) (k : ℕ) → get_or (starts_of objects) k false ≡ is_some (object_at objects (suc k))
start_at [] k = refl
start_at (o ∷ os) zero = refl
start_at (o ∷ os) (suc k) =
    let zs : List Bool = replicate (size_of o - 1) false in
    let l : length zs ≡ size_of o - 1 = length-replicate {A = Bool} (size_of o - 1) false in
    elim (cases_lt k (size_of o - 1)) [
      | inl h ↦
          get_or_append_left zs (starts_of os) false k (omega arith) ∙
          (get_or-replicate (size_of o - 1) k false false h ∙ sym (ap is_some (object_at-inside o os k h)))
      | inr h ↦
          let d : suc (suc k) - size_of o ≡ suc (k - (size_of o - 1)) = omega arith in
          get_or-append_right zs (starts_of os) (size_of o - 1) k false l (omega arith) ∙
          (start_at os (k - (size_of o - 1)) ∙
          sym (ap is_some (object_at-beyond o os k ∙ ap (object_at os) d)))
    ]

-- the flag that is read for a number
pub start_of : (heap : Content) (ws : List ℕ) (starts : List Bool) (units capacity n : ℕ) → IsMarked (objects_of ws) starts units capacity → record { objects = objects_of ws; units = Some units } ≡ heap → 0 < n → get_or starts (n - 1) false ≡ is_some (object_at heap.objects n)
start_of heap ws starts units capacity n m e h =
    let s : suc (n - 1) ≡ n = omega arith in
    ap (λ xs. get_or xs (n - 1) false) m.flags ∙
    (start_at (objects_of ws) (n - 1) ∙
    (ap (λ x. is_some (object_at (objects_of ws) x)) s ∙ ap (λ x. is_some (object_at x.objects n)) e))

-- the same of the flag as the code reads it
pub start_read : (heap : Content) (ws : List ℕ) (starts : List Bool) (units capacity n : ℕ) (b : Bool) → IsMarked (objects_of ws) starts units capacity → record { objects = objects_of ws; units = Some units } ≡ heap → 0 < n → n ≤ length starts → b ≡ get_or starts (n - 1) b → b ≡ is_some (object_at heap.objects n)
start_read heap ws starts units capacity n b m e h l r =
    get_or_read starts (n - 1) b (omega arith) r false ∙ start_of heap ws starts units capacity n m e h

-- where no flag is read there is no object
pub no_start : (heap : Content) (ws : List ℕ) (starts : List Bool) (units capacity n : ℕ) → IsMarked (objects_of ws) starts units capacity → record { objects = objects_of ws; units = Some units } ≡ heap → (0 < n → length starts < n) → is_some (object_at heap.objects n) ≡ false
no_start heap ws starts units capacity n m e h =
    elim (cases_lt 0 n) [
      | inl l ↦
          sym (start_of heap ws starts units capacity n m e l) ∙
          get_or_past starts (n - 1) false (let k : length starts < n = h l in omega arith)
      | inr l ↦
          let z : n ≡ 0 = omega arith in
          ap (λ x. is_some (object_at heap.objects x)) z ∙ ap is_some (object_at-zero heap.objects)
    ]

-- there is a flag for each unit of the heap in use
pub length-marked : (heap : Content) (ws : List ℕ) (starts : List Bool) (units capacity : ℕ) → IsMarked (objects_of ws) starts units capacity → record { objects = objects_of ws; units = Some units } ≡ heap → length starts ≡ used heap.objects
length-marked heap ws starts units capacity m e =
    ap length m.flags ∙ (length-starts_of (objects_of ws) ∙ ap (λ x. used x.objects) e)

-- the flags after a write, in the arena us
pub marked-set : (heap : Content) (ws us : List ℕ) (starts : List Bool) (units capacity n i v : ℕ) → IsMarked (objects_of ws) starts units capacity → record { objects = objects_of ws; units = Some units } ≡ heap → AreLaidOut (with_word heap.objects n i v) us → IsMarked (objects_of us) starts units capacity
marked-set heap ws us starts units capacity n i v m e h = record {
  flags = m.flags ∙
      (ap (λ x. starts_of x.objects) e ∙
      (sym (starts_of-with_word heap.objects n i v) ∙
      sym (ap starts_of (objects_of-laid_out (with_word heap.objects n i v) us h))));
  reserved = m.reserved;
}

-- the flags with those of a fresh object, in the arena us
pub marked-made : (heap : Content) (ws us : List ℕ) (starts flags : List Bool) (units capacity more : ℕ) (kind : Kind) (n : ℕ) → IsMarked (objects_of ws) starts units capacity → record { objects = objects_of ws; units = Some units } ≡ heap → AreLaidOut (heap.objects ++ zeroed kind n ∷ []) us → flags ≡ starts ++ (true ∷ replicate (units_of kind n - 1) false) → capacity ≤ more → IsMarked (objects_of us) flags units more
marked-made heap ws us starts flags units capacity more kind n m e h f r =
    let zs : List Bool = replicate (units_of kind n - 1) false in
    let s : starts_of (zeroed kind n ∷ []) ≡ true ∷ zs =
    append-nil (true ∷ replicate (size_of (zeroed kind n) - 1) false) ∙
    ap (λ x. true ∷ replicate (units_of kind x - 1) false) (length-replicate {A = ℕ} n 0) in
    let o : starts_of (objects_of us) ≡ starts ++ (true ∷ zs) =
    ap starts_of (objects_of-laid_out (heap.objects ++ zeroed kind n ∷ []) us h) ∙
    (starts_of-append heap.objects (zeroed kind n ∷ []) ∙
    (ap (λ xs. starts_of heap.objects ++ xs) s ∙
    ap (λ xs. xs ++ (true ∷ zs)) (sym (m.flags ∙ ap (λ x. starts_of x.objects) e)))) in
    record { flags = f ∙ sym o; reserved = omega (arith, m.reserved) }
