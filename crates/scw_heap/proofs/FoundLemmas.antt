-- What the arena holds at the number of an object.
use Rattle.std.proofs.Common.{◌≡◌, ℕ, ◌+◌, ◌-◌, ◌*◌, ◌^◌, ◌<◌, ◌≤◌, List, Option, Some, None, IsSome, length, get_or, drop, sym, ◌∙◌, ap, subst, refl, arith}
use Rattle.std.proofs.lemmas.List.{length-drop, get_or-drop}
use Rattle.std.proofs.lemmas.List.FromFn.{get_or-map-range_with_len}
use Rattle.scw_heap.specs.declared.kind.Kind.{Kind}
use Rattle.scw_heap.specs.Heap.{Content, words_at, Entity, size_of, object_at, words_in}
use Rattle.scw_heap.specs.Layout.{LiesAt, IsSound, objects_of, field, element, elements, cell_of, shift_of, width_of, code_of, kind_of, Begins, AreLaidOut}
use Rattle.scw_heap.proofs.LayoutLemmas.{kind_of-code_of, Begins-object_at, object_at-positive}
use Rattle.scw_heap.proofs.CellLemmas.{cell-lt}

-- where the words of an object lie
pub record IsFound (o : Entity) (ws : List ℕ) (n : ℕ) : Type 0 where
  pub some : 0 < n
  pub code : get_or ws (2 * (n - 1)) 0 ≡ code_of o.kind
  pub narrow : get_or ws (2 * (n - 1)) 0 < 2 ^ 35
  pub kind : kind_of (get_or ws (2 * (n - 1)) 0) ≡ o.kind
  pub count : get_or ws (2 * (n - 1) + 1) 0 ≡ length o.words
  pub short : get_or ws (2 * (n - 1) + 1) 0 < 2 ^ 32
  pub within : 2 * (n - 1) + 2 * size_of o ≤ length ws
  pub cell : (i : ℕ) → i < length o.words → 2 * (n - 1) + 2 + cell_of (kind_of (get_or ws (2 * (n - 1)) 0)) i < length ws
  pub word : (i : ℕ) → i < length o.words → get_or o.words i 0 ≡ field (get_or ws (2 * (n - 1) + 2 + cell_of (kind_of (get_or ws (2 * (n - 1)) 0)) i) 0) (shift_of (kind_of (get_or ws (2 * (n - 1)) 0)) i) (width_of (kind_of (get_or ws (2 * (n - 1)) 0)))

pub found : (o : Entity) (ws : List ℕ) (n : ℕ) → LiesAt o ws n → IsFound o ws n
unfolding element
found o ws n h =
    let b : Begins o (drop (2 * (n - 1)) ws) = h.begins in
    let z : 2 * (n - 1) + 0 ≡ 2 * (n - 1) = omega arith in
    let c : get_or ws (2 * (n - 1)) 0 ≡ code_of o.kind =
    ap (λ x. get_or ws x 0) (sym z) ∙ (sym (get_or-drop (2 * (n - 1)) ws 0 0) ∙ b.code) in
    let d : get_or ws (2 * (n - 1) + 1) 0 ≡ length o.words = sym (get_or-drop (2 * (n - 1)) ws 1 0) ∙ b.count in
    let k : kind_of (get_or ws (2 * (n - 1)) 0) ≡ o.kind = ap kind_of c ∙ kind_of-code_of o.kind in
    let l : length (drop (2 * (n - 1)) ws) ≡ length ws - 2 * (n - 1) = length-drop (2 * (n - 1)) ws in
    let m : 2 * size_of o ≤ length (drop (2 * (n - 1)) ws) = b.within in
    record {
      some = h.some;
      code = c;
      narrow = let x = b.narrow in omega arith;
      kind = k;
      count = d;
      short = let x = b.short in omega arith;
      within = omega arith;
      cell = λ i at.
          let P : Kind → Type 0 = λ x. 2 * (n - 1) + 2 + cell_of x i < length ws in
          let q : 2 * (n - 1) + 2 + cell_of o.kind i < length ws = omega (arith, cell-lt o.kind i (length o.words) at) in
          subst P (sym k) q;
      word = λ i l.
          let F : Kind → ℕ = λ x. field (get_or ws (2 * (n - 1) + 2 + cell_of x i) 0) (shift_of x i) (width_of x) in
          let p : get_or (elements o.kind (drop (2 * (n - 1)) ws) (length o.words)) i 0 ≡ element o.kind (drop (2 * (n - 1)) ws) i =
          get_or-map-range_with_len (element o.kind (drop (2 * (n - 1)) ws)) 0 (length o.words) i i 0 l (omega arith) in
          let q : 2 * (n - 1) + (2 + cell_of o.kind i) ≡ 2 * (n - 1) + 2 + cell_of o.kind i = omega arith in
          ap (λ xs. get_or xs i 0) (sym b.words) ∙ (p ∙
          (ap (λ x. field x (shift_of o.kind i) (width_of o.kind))
          (get_or-drop (2 * (n - 1)) ws (2 + cell_of o.kind i) 0 ∙ ap (λ x. get_or ws x 0) q) ∙
          ap F (sym k)));
    }

-- an object that is there
pub some_object : (x : Option Entity) → IsSome x → (o : Entity) × (x ≡ Some o)
some_object None h = absurd (cc)
some_object (Some o) h = (o, refl)

-- an object that has a word at i
pub some_word : (x : Option Entity) (i : ℕ) → i < length (words_in x) → (o : Entity) × (x ≡ Some o)
some_word None i h = absurd (omega arith)
some_word (Some o) i h = (o, refl)

-- an object lies where its number says
pub lies : (objects : List Entity) (ws : List ℕ) (n : ℕ) (o : Entity) → AreLaidOut objects ws → object_at objects n ≡ Some o → LiesAt o ws n
lies objects ws n o h e = record { some = object_at-positive objects n o e; begins = Begins-object_at objects ws n o h e }

-- an object of a heap, in its arena, of which us are the words
pub object_found : (heap : Content) (ws us : List ℕ) (units capacity n : ℕ) → IsSound ws units capacity → record { objects = objects_of ws; units = Some units } ≡ heap → us ≡ ws → IsSome (object_at heap.objects n) → (o : Entity) × (object_at heap.objects n ≡ Some o) × LiesAt o us n
object_found heap ws us units capacity n s e w h =
    let x : (o : Entity) × (object_at heap.objects n ≡ Some o) = some_object (object_at heap.objects n) h in
    let P : Content → Type 0 = λ c. AreLaidOut c.objects ws in
    let Q : List ℕ → Type 0 = λ xs. AreLaidOut heap.objects xs in
    (x.0, x.1, lies heap.objects us n x.0 (subst Q (sym w) (subst P e s.laid_out)) x.1)

-- an object of a heap that has a word at i, in its arena
pub word_found : (heap : Content) (ws us : List ℕ) (units capacity n i : ℕ) → IsSound ws units capacity → record { objects = objects_of ws; units = Some units } ≡ heap → us ≡ ws → i < length (words_at heap.objects n) → (o : Entity) × (object_at heap.objects n ≡ Some o) × LiesAt o us n × (i < length o.words)
word_found heap ws us units capacity n i s e w h =
    let x : (o : Entity) × (object_at heap.objects n ≡ Some o) = some_word (object_at heap.objects n) i h in
    let P : Content → Type 0 = λ c. AreLaidOut c.objects ws in
    let Q : List ℕ → Type 0 = λ xs. AreLaidOut heap.objects xs in
    let R : Option Entity → Type 0 = λ y. i < length (words_in y) in
    (x.0, x.1, lies heap.objects us n x.0 (subst Q (sym w) (subst P e s.laid_out)) x.1, subst R x.1 h)
