-- Where the elements of an object lie, and what a change of one leaves.
use Rattle.std.proofs.Common.{◌≡◌, ℕ, ◌+◌, ◌*◌, ◌/◌, ◌%◌, ◌^◌, ◌<◌, ◌≤◌, suc, zero, List, length, get_or, set, map, replicate, sym, ◌∙◌, ap, refl, inl, inr, arith}
use Rattle.std.specs.List.{range_with_len}
use Rattle.std.proofs.Math.Nat.{mul-le-mul_left, mul-add}
use Rattle.std.proofs.lemmas.Bool.{cases_eq, cases_order}
use Rattle.std.proofs.lemmas.List.{ext_get_or, length-set, get_or-set_same, get_or-set_other}
use Rattle.std.proofs.lemmas.List.FromFn.{length-map-range_with_len, get_or-map-range_with_len}
use Rattle.scw_heap.specs.declared.kind.Kind.{Kind}
use Rattle.scw_heap.specs.declared.kind.Kind.TheVariants.{Object, Text, Booleans, Chars, Ints, Longs, Refs}
use Rattle.scw_heap.specs.Heap.{bytes_of, units_of}
use Rattle.scw_heap.specs.Layout.{field, with_field, element, elements, cell_of, shift_of, width_of}
use Rattle.scw_heap.proofs.FieldLemmas.{field-with_field_same, field-with_field_above, field-with_field_below, field-zero}

-- an element lies within the object
pub cell-lt : (k : Kind) (i n : ℕ) → i < n → 2 + cell_of k i < 2 * units_of k n
cell-lt (Object class) i n h = omega arith
cell-lt Text i n h = omega arith
cell-lt Booleans i n h = omega arith
cell-lt Chars i n h = omega arith
cell-lt Ints i n h = omega arith
cell-lt Longs i n h = omega arith
cell-lt (Refs element) i n h = omega arith

-- an element lies within one word
pub shift-within : (k : Kind) (i : ℕ) → shift_of k i + width_of k ≤ 64
shift-within (Object class) i = omega arith
shift-within Text i = omega arith
shift-within Booleans i = omega arith
shift-within Chars i = omega arith
shift-within Ints i = omega arith
shift-within Longs i = omega arith
shift-within (Refs element) i = omega arith

-- an element has some bits
pub width-positive : (k : Kind) → 0 < width_of k
width-positive (Object class) = omega arith
width-positive Text = omega arith
width-positive Booleans = omega arith
width-positive Chars = omega arith
width-positive Ints = omega arith
width-positive Longs = omega arith
width-positive (Refs element) = omega arith

-- of two elements in one word, the bits of the first end before those of the second
pub shift-apart : (b i j : ℕ) → i < j → b * i / 8 ≡ b * j / 8 → 8 * (b * i % 8) + 8 * b ≤ 8 * (b * j % 8)
shift-apart b i j h e =
    let m : i + 1 ≤ j = omega arith in
    let l : b * (i + 1) ≤ b * j = mul-le-mul_left b m in
    omega (arith, mul-add b i 1)

-- an element that was changed
pub element-set_same : (k : Kind) (ws : List ℕ) (i v : ℕ) → 2 + cell_of k i < length ws → v < 2 ^ width_of k → element k (set ws (2 + cell_of k i) (with_field (get_or ws (2 + cell_of k i) 0) (shift_of k i) (width_of k) v)) i ≡ v
unfolding element
element-set_same k ws i v l h =
    let w : ℕ = with_field (get_or ws (2 + cell_of k i) 0) (shift_of k i) (width_of k) v in
    ap (λ x. field x (shift_of k i) (width_of k)) (get_or-set_same ws (2 + cell_of k i) w 0 l) ∙
    field-with_field_same (get_or ws (2 + cell_of k i) 0) (shift_of k i) (width_of k) v h

-- fields of two elements in one word
pub field-other : (k : Kind) (w i j v : ℕ) → v < 2 ^ width_of k → (j ≡ i → ⊥) → cell_of k j ≡ cell_of k i → field (with_field w (shift_of k i) (width_of k) v) (shift_of k j) (width_of k) ≡ field w (shift_of k j) (width_of k)
field-other k w i j v h ne e =
    elim (cases_order j i) [
      | inl same ↦ absurd (ne same)
      | inr other ↦ elim other [
        | inl before ↦ field-with_field_below w (shift_of k i) (width_of k) v (shift_of k j) (shift-apart (bytes_of k) j i before e)
        | inr after ↦ field-with_field_above w (shift_of k i) (width_of k) v (shift_of k j) h (shift-apart (bytes_of k) i j after (sym e))
      ]
    ]

-- an element beside one that was changed
pub element-set_other : (k : Kind) (ws : List ℕ) (i j v : ℕ) → 2 + cell_of k i < length ws → v < 2 ^ width_of k → (j ≡ i → ⊥) → element k (set ws (2 + cell_of k i) (with_field (get_or ws (2 + cell_of k i) 0) (shift_of k i) (width_of k) v)) j ≡ element k ws j
unfolding element
element-set_other k ws i j v l h ne =
    let w : ℕ = with_field (get_or ws (2 + cell_of k i) 0) (shift_of k i) (width_of k) v in
    elim (cases_eq (cell_of k j) (cell_of k i)) [
      | inl e ↦
          let p : 2 + cell_of k j ≡ 2 + cell_of k i = omega arith in
          let q : get_or (set ws (2 + cell_of k i) w) (2 + cell_of k j) 0 ≡ w =
          ap (λ n. get_or (set ws (2 + cell_of k i) w) n 0) p ∙ get_or-set_same ws (2 + cell_of k i) w 0 l in
          ap (λ x. field x (shift_of k j) (width_of k)) q ∙
          (field-other k (get_or ws (2 + cell_of k i) 0) i j v h ne e ∙
          ap (λ n. field (get_or ws n 0) (shift_of k j) (width_of k)) (sym p))
      | inr apart ↦
          ap (λ x. field x (shift_of k j) (width_of k)) (get_or-set_other ws (2 + cell_of k i) (2 + cell_of k j) w 0 (λ e. apart (omega arith)))
    ]

-- the elements after a change of one
pub elements-set : (k : Kind) (ws : List ℕ) (n i v : ℕ) → i < n → 2 + cell_of k i < length ws → v < 2 ^ width_of k → elements k (set ws (2 + cell_of k i) (with_field (get_or ws (2 + cell_of k i) 0) (shift_of k i) (width_of k) v)) n ≡ set (elements k ws n) i v
elements-set k ws n i v m l h =
    let us : List ℕ = set ws (2 + cell_of k i) (with_field (get_or ws (2 + cell_of k i) 0) (shift_of k i) (width_of k) v) in
    let a : length (elements k us n) ≡ n = length-map-range_with_len (element k us) 0 n in
    let b : length (elements k ws n) ≡ n = length-map-range_with_len (element k ws) 0 n in
    let at : (zs : List ℕ) (j : ℕ) → j < n → get_or (elements k zs n) j 0 ≡ element k zs j =
    λ zs j p. get_or-map-range_with_len (element k zs) 0 n j j 0 p (omega arith) in
    ext_get_or 0 (elements k us n) (set (elements k ws n) i v)
    (a ∙ sym (length-set (elements k ws n) i v ∙ b))
    (λ j p.
    let q : j < n = omega arith in
    elim (cases_eq j i) [
      | inl e ↦
          let s : get_or (set (elements k ws n) i v) j 0 ≡ v =
          ap (λ x. get_or (set (elements k ws n) i v) x 0) e ∙ get_or-set_same (elements k ws n) i v 0 (omega arith) in
          at us j q ∙ (ap (element k us) e ∙ (element-set_same k ws i v l h ∙ sym s))
      | inr ne ↦
          at us j q ∙ (element-set_other k ws i j v l h ne ∙
          (sym (at ws j q) ∙ sym (get_or-set_other (elements k ws n) i j v 0 ne)))
    ])

-- lists made by functions that agree
pub map-same : (f g : ℕ → ℕ) (a n : ℕ) → ((i : ℕ) → i < a + n → f i ≡ g i) → map f (range_with_len a n) ≡ map g (range_with_len a n)
map-same f g a zero h = refl
map-same f g a (suc n) h =
    rw (h a (omega arith), map-same f g (a + 1) n (λ i l. h i (omega arith))) refl

-- the elements are those of the object's words alone
pub elements-same : (k : Kind) (ws us : List ℕ) (n : ℕ) → ((j : ℕ) → j < 2 * units_of k n → get_or us j 0 ≡ get_or ws j 0) → elements k us n ≡ elements k ws n
unfolding element
elements-same k ws us n h =
    map-same (element k us) (element k ws) 0 n (λ i l.
    ap (λ x. field x (shift_of k i) (width_of k)) (h (2 + cell_of k i) (cell-lt k i n (omega arith))))

-- a list of zeros, made by a function
pub all_zero : (f : ℕ → ℕ) → ((i : ℕ) → f i ≡ 0) → (a n : ℕ) → map f (range_with_len a n) ≡ replicate n 0
all_zero f h a zero = refl
all_zero f h a (suc n) = rw (h a, all_zero f h (a + 1) n) refl

-- elements of empty words
pub elements-zero : (k : Kind) (ws : List ℕ) (n : ℕ) → ((j : ℕ) → get_or ws (2 + j) 0 ≡ 0) → elements k ws n ≡ replicate n 0
unfolding element
elements-zero k ws n h =
    let f : (i : ℕ) → element k ws i ≡ 0 =
    λ i. ap (λ x. field x (shift_of k i) (width_of k)) (h (cell_of k i)) ∙ field-zero (shift_of k i) (width_of k) in
    all_zero (element k ws) f 0 n
