-- An arena after a change.
use Rattle.std.proofs.Common.{◌≡◌, ℕ, ◌+◌, ◌-◌, ◌*◌, ◌^◌, ◌<◌, ◌≤◌, List, [], ◌∷◌, ◌++◌, Option, Some, IfSome, length, get_or, set, replicate, sym, ◌∙◌, ap, subst, arith}
use Rattle.std.proofs.lemmas.List.{get_or_read}
use Rattle.scw_heap.specs.declared.kind.Kind.{Kind}
use Rattle.scw_heap.specs.Heap.{Content, Entity, limit_of, object_at, units_of, used, with_word, words_at, zeroed}
use Rattle.scw_heap.specs.Layout.{AreLaidOut, IsSound, LiesAt, cell_of, code_of, kind_of, objects_of, shift_of, width_of, with_field}
use Rattle.scw_heap.proofs.FoundLemmas.{found, word_found}
use Rattle.scw_heap.proofs.LayoutLemmas.{laid_out-append, laid_out-with_word, laid_out-zeroed, length-laid_out, objects_of-laid_out}

-- an arena with room for its objects is sound
pub IsSound-laid_out : (objects : List Entity) (ws : List ℕ) (units capacity : ℕ) → AreLaidOut objects ws → length ws ≤ 2 * units → 2 * units ≤ capacity → units < 2 ^ 32 → IsSound ws units capacity
IsSound-laid_out objects ws units capacity h within reserved small =
    let P : List Entity → Type 0 = λ os. AreLaidOut os ws in
    record { laid_out = subst P (sym (objects_of-laid_out objects ws h)) h; within = within; reserved = reserved; small = small }

-- the heap's objects are those of the arena
pub laid_out-view : (heap : Content) (ws : List ℕ) (units capacity : ℕ) → IsSound ws units capacity → record { objects = objects_of ws; units = Some units } ≡ heap → AreLaidOut heap.objects ws
laid_out-view heap ws units capacity s e = let P : Content → Type 0 = λ c. AreLaidOut c.objects ws in subst P e s.laid_out

-- the units in use, and those reserved
pub used_in : (heap : Content) (ws : List ℕ) (units capacity : ℕ) → IsSound ws units capacity → record { objects = objects_of ws; units = Some units } ≡ heap → (length ws ≡ 2 * used heap.objects) × (Some units ≡ heap.units)
used_in heap ws units capacity s e =
    let U : Content → Option ℕ = λ c. c.units in
    (length-laid_out heap.objects ws (laid_out-view heap ws units capacity s e), ap U e)

-- a bound on the words of an object that is there
pub narrow_at : (x : Option Entity) (v : ℕ) (o : Entity) → IfSome x (λ y. v < limit_of y.kind) → x ≡ Some o → v < 2 ^ width_of o.kind
narrow_at x v o h e = let P : Option Entity → Type 0 = λ z. IfSome z (λ y. v < limit_of y.kind) in subst P e h

-- the arena with one word changed, of which us are the words
pub laid_out-set : (heap : Content) (ws us : List ℕ) (units capacity n i v j shift width x w : ℕ) → IsSound ws units capacity → record { objects = objects_of ws; units = Some units } ≡ heap → us ≡ ws → i < length (words_at heap.objects n) → IfSome (object_at heap.objects n) (λ y. v < limit_of y.kind) → j ≡ 2 * (n - 1) + 2 + cell_of (kind_of (get_or us (2 * (n - 1)) 0)) i → shift ≡ shift_of (kind_of (get_or us (2 * (n - 1)) 0)) i → width ≡ width_of (kind_of (get_or us (2 * (n - 1)) 0)) → j < length us → x ≡ get_or ws j x → w ≡ with_field x shift width v → AreLaidOut (with_word heap.objects n i v) (set ws j w)
laid_out-set heap ws us units capacity n i v j shift width x w s e u l m p q r t y z =
    let f : (o : Entity) × (object_at heap.objects n ≡ Some o) × LiesAt o us n × (i < length o.words) =
    word_found heap ws us units capacity n i s e u l in
    let k : kind_of (get_or us (2 * (n - 1)) 0) ≡ f.0.kind = (found f.0 us n f.2).kind in
    let C : Kind → ℕ = λ d. 2 * (n - 1) + 2 + cell_of d i in
    let S : Kind → ℕ = λ d. shift_of d i in
    let W : Kind → ℕ = λ d. width_of d in
    let j' : j ≡ 2 * (n - 1) + 2 + cell_of f.0.kind i = p ∙ ap C k in
    let s' : shift ≡ shift_of f.0.kind i = q ∙ ap S k in
    let r' : width ≡ width_of f.0.kind = r ∙ ap W k in
    let x' : x ≡ get_or ws j 0 = get_or_read ws j x (omega (arith, ap length u)) y 0 in
    let w' : w ≡ with_field (get_or ws j 0) (shift_of f.0.kind i) (width_of f.0.kind) v = cc in
    let P : ℕ → Type 0 = λ d. AreLaidOut (with_word heap.objects n i v) (set ws j d) in
    subst P (sym w') (laid_out-with_word heap.objects ws n i v j f.0 (laid_out-view heap ws units capacity s e) f.1 f.3
    (narrow_at (object_at heap.objects n) v f.0 m f.1) (omega arith))

-- the arena with a fresh object
pub laid_out-made : (heap : Content) (ws us : List ℕ) (units capacity : ℕ) (kind : Kind) (n : ℕ) → IsSound ws units capacity → record { objects = objects_of ws; units = Some units } ≡ heap → n < 2 ^ 32 → code_of kind < 2 ^ 35 → us ≡ ws ++ (code_of kind ∷ n ∷ replicate (2 * units_of kind n - 2) 0) → AreLaidOut (heap.objects ++ zeroed kind n ∷ []) us
laid_out-made heap ws us units capacity kind n s e l m q =
    let P : List ℕ → Type 0 = λ xs. AreLaidOut (heap.objects ++ zeroed kind n ∷ []) xs in
    let zs : List ℕ = replicate (2 * units_of kind n - 2) 0 in
    subst P (sym q) (laid_out-append heap.objects (zeroed kind n ∷ []) ws (code_of kind ∷ n ∷ zs)
    (laid_out-view heap ws units capacity s e)
    (laid_out-zeroed kind n (2 * units_of kind n - 2) m l (omega arith)))
