-- Objects in an arena: found again, appended, and with one word changed.
use Rattle.std.proofs.Common.{◌≡◌, ℕ, ◌+◌, ◌-◌, ◌*◌, ◌/◌, ◌%◌, ◌^◌, ◌<◌, ◌≤◌, suc, zero, cond, List, [], ◌∷◌, ◌++◌, Some, None, length, get_or, set, drop, replicate, sym, ◌∙◌, ap, subst, refl, inl, inr, arith}
use Rattle.std.proofs.lemmas.Bool.{cases_eq, cases_lt, eq-eqb, ne_eqb}
use Rattle.std.proofs.lemmas.List.{length-set, length-drop, length-append, length-replicate, get_or-set_other, get_or-drop, get_or_append_left, get_or-replicate, get_or_past, drop-drop, drop_all, drop-append-le, drop-set-lt, drop-set-add}
use Rattle.scw_heap.specs.declared.kind.Kind.{Kind}
use Rattle.scw_heap.specs.declared.kind.Kind.TheVariants.{Object, Text, Booleans, Chars, Ints, Longs, Refs}
use Rattle.scw_heap.specs.Heap.{Entity, size_of, units_of, used, zeroed, object_at, with_word, with_word_in}
use Rattle.scw_heap.specs.Layout.{with_field, element, elements, cell_of, shift_of, width_of, code_of, kind_of, Begins, AreLaidOut, object_in, objects_from, objects_of}
use Rattle.scw_heap.proofs.CellLemmas.{cell-lt, elements-set, elements-same, elements-zero}

-- the kind is read again from its number
pub kind_of-code_of : (k : Kind) → kind_of (code_of k) ≡ k
kind_of-code_of (Object class) =
    let e : class * 8 % 8 ≡ 0 = omega arith in
    let f : class * 8 / 8 ≡ class = omega arith in
    rw (e, f) refl
kind_of-code_of Text = refl
kind_of-code_of Booleans = refl
kind_of-code_of Chars = refl
kind_of-code_of Ints = refl
kind_of-code_of Longs = refl
kind_of-code_of (Refs element) =
    let e : (element * 8 + 6) % 8 ≡ 6 = omega arith in
    let f : (element * 8 + 6) / 8 ≡ element = omega arith in
    rw (e, f) refl

-- words that are the same as far as the object goes
pub Begins-same : (o : Entity) (ws us : List ℕ) → Begins o ws → 2 * size_of o ≤ length us → ((j : ℕ) → j < 2 * size_of o → get_or us j 0 ≡ get_or ws j 0) → Begins o us
Begins-same o ws us b l h = record {
  code = h 0 (omega arith) ∙ b.code;
  count = h 1 (omega arith) ∙ b.count;
  within = l;
  narrow = b.narrow;
  short = b.short;
  words = elements-same o.kind ws us (length o.words) h ∙ b.words;
}

-- the object that the words begin with is read from them
pub object_in-Begins : (o : Entity) (ws : List ℕ) → Begins o ws → object_in ws ≡ o
object_in-Begins o ws b =
    let k : kind_of (get_or ws 0 0) ≡ o.kind = ap kind_of b.code ∙ kind_of-code_of o.kind in
    let make : Kind → ℕ → Entity = λ k n. record { kind = k; words = elements k ws n } in
    let e : make (kind_of (get_or ws 0 0)) (get_or ws 1 0) ≡ make o.kind (length o.words) =
    ap (λ k. make k (get_or ws 1 0)) k ∙ ap (make o.kind) b.count in
    let wrap : List ℕ → Entity = λ xs. record { kind = o.kind; words = xs } in
    e ∙ ap wrap b.words

-- the units in use are those of the arena
pub length-laid_out : (os : List Entity) (ws : List ℕ) → AreLaidOut os ws → length ws ≡ 2 * used os
length-laid_out [] ws h = ap length h
length-laid_out (o ∷ os) ws h =
    let b : 2 * size_of o ≤ length ws = h.0.within in
    omega (arith, length-laid_out os (drop (2 * size_of o) ws) h.1, length-drop (2 * size_of o) ws)

pub length-le-used : (os : List Entity) → length os ≤ used os
length-le-used [] = omega arith
length-le-used (o ∷ os) = omega (arith, length-le-used os)

-- the objects are read again from the arena
pub objects_from-laid_out : (most : ℕ) (os : List Entity) (ws : List ℕ) → AreLaidOut os ws → length os ≤ most → objects_from most ws ≡ os
unfolding objects_from
objects_from-laid_out zero [] ws h l = refl
objects_from-laid_out zero (o ∷ os) ws h l = absurd (omega arith)
objects_from-laid_out (suc most) [] ws h l = ap (objects_from (suc most)) h
objects_from-laid_out (suc most) (o ∷ os) [] h l =
    let b : 2 * size_of o ≤ 0 = h.0.within in absurd (omega arith)
objects_from-laid_out (suc most) (o ∷ os) (w ∷ ws) h l =
    let F : Entity → List Entity = λ x. x ∷ objects_from most (drop (2 * size_of x) (w ∷ ws)) in
    let e : F (object_in (w ∷ ws)) ≡ F o = ap F (object_in-Begins o (w ∷ ws) h.0) in
    e ∙ ap (λ t. o ∷ t) (objects_from-laid_out most os (drop (2 * size_of o) (w ∷ ws)) h.1 (omega arith))

pub objects_of-laid_out : (os : List Entity) (ws : List ℕ) → AreLaidOut os ws → objects_of ws ≡ os
objects_of-laid_out os ws h =
    objects_from-laid_out (length ws) os ws h (omega (arith, length-le-used os, length-laid_out os ws h))

-- the definitions at the first object and beyond it
pub object_at-first : (o : Entity) (os : List Entity) (n : ℕ) → n ≡ 1 → object_at (o ∷ os) n ≡ Some o
object_at-first o os n e = ap (λ b. cond b (Some o) (object_at os (n - size_of o))) (eq-eqb n 1 e)

pub object_at-next : (o : Entity) (os : List Entity) (n : ℕ) → (n ≡ 1 → ⊥) → object_at (o ∷ os) n ≡ object_at os (n - size_of o)
object_at-next o os n e = ap (λ b. cond b (Some o) (object_at os (n - size_of o))) (ne_eqb n 1 e)

pub with_word-first : (o : Entity) (os : List Entity) (n i v : ℕ) → n ≡ 1 → with_word (o ∷ os) n i v ≡ with_word_in o i v ∷ os
with_word-first o os n i v e =
    ap (λ b. cond b (with_word_in o i v ∷ os) (o ∷ with_word os (n - size_of o) i v)) (eq-eqb n 1 e)

pub with_word-next : (o : Entity) (os : List Entity) (n i v : ℕ) → (n ≡ 1 → ⊥) → with_word (o ∷ os) n i v ≡ o ∷ with_word os (n - size_of o) i v
with_word-next o os n i v e =
    ap (λ b. cond b (with_word_in o i v ∷ os) (o ∷ with_word os (n - size_of o) i v)) (ne_eqb n 1 e)

-- null is no object
pub object_at-zero : (os : List Entity) → object_at os 0 ≡ None
object_at-zero [] = refl
object_at-zero (o ∷ os) =
    let z : 0 - size_of o ≡ 0 = omega arith in
    ap (object_at os) z ∙ object_at-zero os

-- a number of an object is not 0
pub object_at-positive : (os : List Entity) (n : ℕ) (o : Entity) → object_at os n ≡ Some o → 0 < n
object_at-positive os zero o e = absurd (let z = object_at-zero os in cc)
object_at-positive os (suc n) o e = omega arith

-- an object begins where its number says
pub Begins-object_at : (os : List Entity) (ws : List ℕ) (n : ℕ) (o : Entity) → AreLaidOut os ws → object_at os n ≡ Some o → Begins o (drop (2 * (n - 1)) ws)
Begins-object_at [] ws n o h e = absurd (cc)
Begins-object_at (p ∷ os) ws n o h e =
    elim (cases_eq n 1) [
      | inl q ↦
          let f : p ≡ o = let g = object_at-first p os n q in cc in
          let z : 2 * (n - 1) ≡ 0 = omega arith in
          let P : ℕ → Type 0 = λ m. Begins o (drop m ws) in
          let Q : Entity → Type 0 = λ x. Begins x ws in
          subst P (sym z) (subst Q f h.0)
      | inr ne ↦
          let f : object_at os (n - size_of p) ≡ Some o = sym (object_at-next p os n ne) ∙ e in
          let k : 0 < n - size_of p = object_at-positive os (n - size_of p) o f in
          let d : 2 * size_of p + 2 * (n - size_of p - 1) ≡ 2 * (n - 1) = omega arith in
          let P : List ℕ → Type 0 = λ us. Begins o us in
          subst P (drop-drop (2 * (n - size_of p - 1)) (2 * size_of p) ws ∙ ap (λ m. drop m ws) d)
          (Begins-object_at os (drop (2 * size_of p) ws) (n - size_of p) o h.1 f)
    ]

-- one arena after another
pub laid_out-append : (os ts : List Entity) (ws us : List ℕ) → AreLaidOut os ws → AreLaidOut ts us → AreLaidOut (os ++ ts) (ws ++ us)
laid_out-append [] ts ws us h k =
    let P : List ℕ → Type 0 = λ xs. AreLaidOut ts (xs ++ us) in subst P (sym h) k
laid_out-append (o ∷ os) ts ws us h k =
    let b : 2 * size_of o ≤ length ws = h.0.within in
    let P : List ℕ → Type 0 = λ xs. AreLaidOut (os ++ ts) xs in (
      Begins-same o ws (ws ++ us) h.0 (omega (arith, length-append ws us)) (λ j l. get_or_append_left ws us 0 j (omega arith)),
      subst P (sym (drop-append-le (2 * size_of o) ws us b)) (laid_out-append os ts (drop (2 * size_of o) ws) us h.1 k),
    )

-- past the end of zeros there are zeros
pub get_or-zeros : (n j : ℕ) → get_or {A = ℕ} (replicate n 0) j 0 ≡ 0
get_or-zeros n j =
    elim (cases_lt j n) [
      | inl l ↦ get_or-replicate n j 0 0 l
      | inr l ↦ get_or_past (replicate n 0) j 0 (omega (arith, length-replicate {A = ℕ} n 0))
    ]

-- the words of a fresh object
pub laid_out-zeroed : (k : Kind) (n m : ℕ) → code_of k < 2 ^ 35 → n < 2 ^ 32 → m + 2 ≡ 2 * units_of k n → AreLaidOut (zeroed k n ∷ []) (code_of k ∷ n ∷ replicate m 0)
laid_out-zeroed k n m h l e =
    let zs : List ℕ = replicate n 0 in
    let ms : List ℕ = replicate m 0 in
    let c : length zs ≡ n = length-replicate {A = ℕ} n 0 in
    let d : length ms ≡ m = length-replicate {A = ℕ} m 0 in
    let ws : List ℕ = code_of k ∷ n ∷ ms in
    let z : (j : ℕ) → get_or ws (2 + j) 0 ≡ 0 =
    λ j. let p : 2 + j ≡ suc (suc j) = omega arith in ap (λ x. get_or ws x 0) p ∙ get_or-zeros m j in
    let t : length ws ≡ 2 * units_of k n = omega arith in
    let s : 2 * units_of k n ≡ 2 * units_of k (length zs) = ap (λ x. 2 * units_of k x) (sym c) in (
      record {
        code = refl;
        count = sym c;
        within = omega arith;
        narrow = h;
        short = omega arith;
        words = ap (elements k ws) c ∙ elements-zero k ws n z;
      },
      drop_all (2 * units_of k (length zs)) ws (omega arith),
    )

-- an object with one word changed
pub Begins-with_word_in : (o : Entity) (ws : List ℕ) (i v : ℕ) → Begins o ws → i < length o.words → v < 2 ^ width_of o.kind → Begins (with_word_in o i v) (set ws (2 + cell_of o.kind i) (with_field (get_or ws (2 + cell_of o.kind i) 0) (shift_of o.kind i) (width_of o.kind) v))
Begins-with_word_in o ws i v b l h =
    let w : ℕ = with_field (get_or ws (2 + cell_of o.kind i) 0) (shift_of o.kind i) (width_of o.kind) v in
    let c : length (set o.words i v) ≡ length o.words = length-set o.words i v in
    let d : length (set ws (2 + cell_of o.kind i) w) ≡ length ws = length-set ws (2 + cell_of o.kind i) w in
    let s : 2 + cell_of o.kind i < 2 * units_of o.kind (length o.words) = cell-lt o.kind i (length o.words) l in
    let p : 2 * units_of o.kind (length o.words) ≤ length ws = b.within in
    let q : 2 * units_of o.kind (length (set o.words i v)) ≤ length ws =
    let P : ℕ → Type 0 = λ x. 2 * units_of o.kind x ≤ length ws in subst P (sym c) p in
    record {
      code = get_or-set_other ws (2 + cell_of o.kind i) 0 w 0 (λ e. absurd (omega arith)) ∙ b.code;
      count = get_or-set_other ws (2 + cell_of o.kind i) 1 w 0 (λ e. absurd (omega arith)) ∙ (b.count ∙ sym c);
      within = omega arith;
      narrow = b.narrow;
      short = let r = b.short in omega arith;
      words = ap (elements o.kind (set ws (2 + cell_of o.kind i) w)) c ∙
          (elements-set o.kind ws (length o.words) i v l (omega arith) h ∙ ap (λ xs. set xs i v) b.words);
    }

-- the first object with one word changed
pub laid_out-first : (p : Entity) (os : List Entity) (ws : List ℕ) (n i v j : ℕ) → n ≡ 1 → i < length p.words → v < 2 ^ width_of p.kind → j ≡ 2 * (n - 1) + (2 + cell_of p.kind i) → AreLaidOut (p ∷ os) ws → AreLaidOut (with_word_in p i v ∷ os) (set ws j (with_field (get_or ws j 0) (shift_of p.kind i) (width_of p.kind) v))
laid_out-first p os ws n i v j one l m q h =
    let c : 2 + cell_of p.kind i ≡ j = omega arith in
    let R : ℕ → Type 0 = λ x. AreLaidOut (with_word_in p i v ∷ os) (set ws x (with_field (get_or ws x 0) (shift_of p.kind i) (width_of p.kind) v)) in
    let w : ℕ = with_field (get_or ws (2 + cell_of p.kind i) 0) (shift_of p.kind i) (width_of p.kind) v in
    let e : 2 * units_of p.kind (length (set p.words i v)) ≡ 2 * size_of p = ap (λ x. 2 * units_of p.kind x) (length-set p.words i v) in
    let s : 2 + cell_of p.kind i < 2 * size_of p = cell-lt p.kind i (length p.words) l in
    let t : drop (2 * units_of p.kind (length (set p.words i v))) (set ws (2 + cell_of p.kind i) w) ≡ drop (2 * size_of p) ws =
    ap (λ x. drop x (set ws (2 + cell_of p.kind i) w)) e ∙ drop-set-lt (2 * size_of p) ws (2 + cell_of p.kind i) w s in
    let Q : List ℕ → Type 0 = λ xs. AreLaidOut os xs in
    subst R c (Begins-with_word_in p ws i v h.0 l m, subst Q (sym t) h.1)

-- objects, one of them with one word changed
pub laid_out-with_word : (os : List Entity) (ws : List ℕ) (n i v j : ℕ) (o : Entity) → AreLaidOut os ws → object_at os n ≡ Some o → i < length o.words → v < 2 ^ width_of o.kind → j ≡ 2 * (n - 1) + (2 + cell_of o.kind i) → AreLaidOut (with_word os n i v) (set ws j (with_field (get_or ws j 0) (shift_of o.kind i) (width_of o.kind) v))
laid_out-with_word [] ws n i v j o h e l m q = absurd (cc)
laid_out-with_word (p ∷ os) ws n i v j o h e l m q =
    let w : ℕ = with_field (get_or ws j 0) (shift_of o.kind i) (width_of o.kind) v in
    let P : List Entity → Type 0 = λ xs. AreLaidOut xs (set ws j w) in
    elim (cases_eq n 1) [
      | inl one ↦
          let f : o ≡ p = let g = object_at-first p os n one in cc in
          let R : Entity → Type 0 = λ x. i < length x.words → v < 2 ^ width_of x.kind → j ≡ 2 * (n - 1) + (2 + cell_of x.kind i) → AreLaidOut (p ∷ os) ws → AreLaidOut (with_word_in p i v ∷ os) (set ws j (with_field (get_or ws j 0) (shift_of x.kind i) (width_of x.kind) v)) in
          subst P (sym (with_word-first p os n i v one)) (subst R (sym f) (laid_out-first p os ws n i v j one) l m q h)
      | inr ne ↦
          let f : object_at os (n - size_of p) ≡ Some o = sym (object_at-next p os n ne) ∙ e in
          let k : 0 < n - size_of p = object_at-positive os (n - size_of p) o f in
          let r : ℕ = 2 * (n - size_of p - 1) + (2 + cell_of o.kind i) in
          let d : j ≡ 2 * size_of p + (2 * (n - size_of p - 1) + (2 + cell_of o.kind i)) = omega arith in
          let g : get_or (drop (2 * size_of p) ws) r 0 ≡ get_or ws j 0 =
          get_or-drop (2 * size_of p) ws r 0 ∙ ap (λ x. get_or ws x 0) (sym d) in
          let t : drop (2 * size_of p) (set ws j w) ≡ set (drop (2 * size_of p) ws) r w =
          ap (λ x. drop (2 * size_of p) (set ws x w)) d ∙ drop-set-add (2 * size_of p) ws r w in
          let s : set (drop (2 * size_of p) ws) r w ≡ set (drop (2 * size_of p) ws) r (with_field (get_or (drop (2 * size_of p) ws) r 0) (shift_of o.kind i) (width_of o.kind) v) =
          ap (λ x. set (drop (2 * size_of p) ws) r (with_field x (shift_of o.kind i) (width_of o.kind) v)) (sym g) in
          let Q : List ℕ → Type 0 = λ xs. AreLaidOut (with_word os (n - size_of p) i v) xs in
          let b : 2 * size_of p ≤ length ws = h.0.within in
          subst P (sym (with_word-next p os n i v ne)) (
            Begins-same p ws (set ws j w) h.0 (omega (arith, length-set ws j w))
                (λ x l'. get_or-set_other ws j x w 0 (λ e'. absurd (omega arith))),
            subst Q (sym (t ∙ s)) (laid_out-with_word os (drop (2 * size_of p) ws) (n - size_of p) i v r o h.1 f l m refl),
          )
    ]
