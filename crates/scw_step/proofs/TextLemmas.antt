-- Strings of the heap: what one unit that is put leaves, and what all of them come to.
use Rattle.std.proofs.Common.{◌≢◌, IfOk, codes, ◌==◌, Result, Ok, Err, cond, IsSome, is_some, inl, inr, take, drop, drop-cons, add-one, replicate, append_assoc, length-append, ◌≡◌, ℕ, ◌+◌, ◌-◌, ◌%◌, ◌^◌, ◌<◌, ◌≤◌, suc, Bool, true, false, List, [], ◌∷◌, ◌++◌, Some, None, Option, IfSome, length, get_or, set, map, sym, ◌∙◌, ap, refl, arith}
use Rattle.std.proofs.lemmas.Bool.{cases_eq}
use Rattle.std.proofs.lemmas.List.{take_all, length-replicate, length-drop, length-take, get_or-drop, get_or-take, drop_all, set_at, length-set, length-map, get_or-map}
use Rattle.scw_heap.specs.Heap.{can_have, within, zeroed, units_of, used, size_of, Content, Entity, object_at, with_word, with_word_in, words_in, words_at, limit_of}
use Rattle.scw_heap.specs.declared.kind.Kind.{Kind}
use Rattle.scw_heap.specs.declared.kind.Kind.TheVariants.{Object, Text, Booleans, Chars, Ints, Longs, Refs}
use Rattle.scw_heap.proofs.LayoutLemmas.{object_at-next, with_word-first, with_word-next}
use Rattle.scw_heap.proofs.HeapLemmas.{object_at-made, object_at-made_other, object_at-with_word_same, object_at-with_word_other}
use Rattle.scw_step.specs.declared.state.State.{State}
use Rattle.scw_step.specs.declared.stop.Stop.{Stop}
use Rattle.scw_step.specs.declared.stop.Stop.TheVariants.{HeapFull}
use Rattle.scw_step.specs.StateStep.{Gives, making, provided, with_object}
use Rattle.scw_step.specs.TextStep.{shown_in, beginning, making_text, with_text, part, text_in, text_of, is_text, put_unit, putting, unit_of}

-- ---- an object

-- the units of an object that has some are its words, and it is a string
text_of-some : (k : Kind) (ws : List ℕ) (i : ℕ) → i < length (text_of (Some (record { kind = k; words = ws }))) → (k ≡ Text) × (text_of (Some (record { kind = k; words = ws })) ≡ map unit_of ws)
text_of-some (Object c) ws i h = absurd (omega arith)
text_of-some Text ws i h = (refl, refl)
text_of-some Booleans ws i h = absurd (omega arith)
text_of-some Chars ws i h = absurd (omega arith)
text_of-some Ints ws i h = absurd (omega arith)
text_of-some Longs ws i h = absurd (omega arith)
text_of-some (Refs t) ws i h = absurd (omega arith)

-- an object with such a kind has as many units as words
length-text_of_kind : (x : Option Entity) (k : Kind) → IfSome x (λ o. o.kind ≡ k) → is_text k ≡ true → length (text_of x) ≡ length (words_in x)
length-text_of_kind None k h e = refl
length-text_of_kind (Some o) k h e =
    let t : is_text o.kind ≡ true = ap is_text h ∙ e in
    rw t (length-map o.words unit_of)

-- a place in the text is one in the words
pub word-text_of : (x : Option Entity) (i : ℕ) → i < length (text_of x) → i < length (words_in x)
word-text_of None i h = absurd (omega arith)
word-text_of (Some o) i h =
    let p = text_of-some o.kind o.words i h in
    omega (arith, ap length p.1, length-map o.words unit_of)

-- a word of a string has 16 bits
pub narrow-text_of : (x : Option Entity) (i v : ℕ) → i < length (text_of x) → v < 2 ^ 16 → IfSome x (λ o. v < limit_of o.kind)
narrow-text_of None i v h n = absurd (omega arith)
narrow-text_of (Some o) i v h n =
    let p = text_of-some o.kind o.words i h in
    rw p.0 n

-- a unit is that of the word
pub get-text_of : (x : Option Entity) (i : ℕ) → i < length (text_of x) → get_or (text_of x) i 0 ≡ get_or (words_in x) i 0 % 2 ^ 16
get-text_of None i h = absurd (omega arith)
get-text_of (Some o) i h =
    let p = text_of-some o.kind o.words i h in
    let l : i < length o.words = omega (arith, ap length p.1, length-map o.words unit_of) in
    rw p.1 (get_or-map unit_of o.words i 0 0 l)

-- as many words give as many units
length-text_of : (k : Kind) (ws us : List ℕ) → length ws ≡ length us → length (text_of (Some (record { kind = k; words = ws }))) ≡ length (text_of (Some (record { kind = k; words = us })))
length-text_of (Object c) ws us e = refl
length-text_of Text ws us e = length-map ws unit_of ∙ (e ∙ sym (length-map us unit_of))
length-text_of Booleans ws us e = refl
length-text_of Chars ws us e = refl
length-text_of Ints ws us e = refl
length-text_of Longs ws us e = refl
length-text_of (Refs t) ws us e = refl

-- ---- a heap

-- what is read of the string with the number
pub word-text_in : (h : Content) (r i : ℕ) → i < length (text_in r h) → i < length (words_at h.objects r)
unfolding text_in
word-text_in h r i l = word-text_of (object_at h.objects r) i l

pub narrow-text_in : (h : Content) (r i v : ℕ) → i < length (text_in r h) → v < 2 ^ 16 → IfSome (object_at h.objects r) (λ o. v < limit_of o.kind)
unfolding text_in
narrow-text_in h r i v l n = narrow-text_of (object_at h.objects r) i v l n

pub get-text_in : (h : Content) (r i : ℕ) → i < length (text_in r h) → get_or (text_in r h) i 0 ≡ get_or (words_at h.objects r) i 0 % 2 ^ 16
unfolding text_in
get-text_in h r i l = get-text_of (object_at h.objects r) i l

pub length-text_in : (h : Content) (r : ℕ) (k : Kind) → IfSome (object_at h.objects r) (λ o. o.kind ≡ k) → is_text k ≡ true → length (text_in r h) ≡ length (words_at h.objects r)
unfolding text_in
length-text_in h r k e t = length-text_of_kind (object_at h.objects r) k e t

-- one unit that is put: the string keeps its length
length-put_unit_by : (h : Content) (r i u : ℕ) (x : Option Entity) → object_at h.objects r ≡ x → i < length (text_of x) → length (text_of (object_at (with_word h.objects r i u) r)) ≡ length (text_of x)
length-put_unit_by h r i u None e l = absurd (omega arith)
length-put_unit_by h r i u (Some o) e l =
    ap (λ y. length (text_of y)) (object_at-with_word_same h.objects r i u o e) ∙ length-text_of o.kind (set o.words i u) o.words (length-set o.words i u)

pub length-put_unit : (h : Content) (r i u : ℕ) → i < length (text_in r h) → length (text_in r (put_unit r i u h)) ≡ length (text_in r h)
unfolding text_in put_unit
length-put_unit h r i u l = length-put_unit_by h r i u (object_at h.objects r) refl l

-- the other strings stay
pub text_in-put_unit_other : (h : Content) (r i u a : ℕ) → (a ≡ r → ⊥) → text_in a (put_unit r i u h) ≡ text_in a h
unfolding text_in put_unit
text_in-put_unit_other h r i u a ne = ap text_of (object_at-with_word_other h.objects r a i u ne)

pub text_in-putting_other : (us : List ℕ) (h : Content) (r i a : ℕ) → (a ≡ r → ⊥) → text_in a (putting r i us h) ≡ text_in a h
unfolding putting
text_in-putting_other [] h r i a ne = refl
text_in-putting_other (u ∷ us) h r i a ne =
    text_in-putting_other us (put_unit r i u h) r (i + 1) a ne ∙ text_in-put_unit_other h r i u a ne

-- two texts, one behind the other
pub putting-append : (us vs : List ℕ) (h : Content) (r i : ℕ) → putting r i (us ++ vs) h ≡ putting r (i + length us) vs (putting r i us h)
unfolding putting
putting-append [] vs h r i = let e : i + 0 ≡ i = omega arith in ap (λ n. putting r n vs h) (sym e)
putting-append (u ∷ us) vs h r i =
    let e : i + 1 + length us ≡ i + length (u ∷ us) = omega arith in
    putting-append us vs (put_unit r i u h) r (i + 1) ∙ ap (λ n. putting r n vs (putting r (i + 1) us (put_unit r i u h))) e

-- ---- a new string

heap_of : List Entity → Kind → List ℕ → Option ℕ → Content
heap_of os k ws n = record { objects = os ++ record { kind = k; words = ws } ∷ []; units = n }

-- a word of the last object
pub with_word-last : (os : List Entity) (o : Entity) (i v : ℕ) → with_word (os ++ o ∷ []) (1 + used os) i v ≡ os ++ with_word_in o i v ∷ []
with_word-last [] o i v = with_word-first o [] (1 + 0) i v (omega arith)
with_word-last (p ∷ os) o i v =
    let k : 1 + used (p ∷ os) ≡ 1 → ⊥ = λ e. absurd (omega arith) in
    let d : 1 + used (p ∷ os) - size_of p ≡ 1 + used os = omega arith in
    with_word-next p (os ++ o ∷ []) (1 + used (p ∷ os)) i v k ∙
    ap (λ xs. p ∷ xs) (ap (λ n. with_word (os ++ o ∷ []) n i v) d ∙ with_word-last os o i v)

-- units that are put behind others in the last object, where zeros were
putting-last : (us pre : List ℕ) (os : List Entity) (k : Kind) (n : Option ℕ) (i : ℕ) → length pre ≡ i → putting (1 + used os) i us (heap_of os k (pre ++ replicate (length us) 0) n) ≡ heap_of os k (pre ++ us) n
unfolding putting put_unit heap_of
putting-last [] pre os k n i e = refl
putting-last (u ∷ us) pre os k n i e =
    let zs : List ℕ = replicate (length us) 0 in
    let l : length (pre ++ u ∷ []) ≡ i + 1 = length-append pre (u ∷ []) ∙ omega arith in
    ap (λ xs. putting (1 + used os) (i + 1) us (record { objects = xs; units = n }))
    (with_word-last os (record { kind = k; words = pre ++ 0 ∷ zs }) i u ∙
    ap (λ ws. os ++ record { kind = k; words = ws } ∷ []) (set_at pre 0 zs u i e ∙ sym (append_assoc pre (u ∷ []) zs))) ∙
    (putting-last us (pre ++ u ∷ []) os k n (i + 1) l ∙
    ap (λ ws. heap_of os k ws n) (append_assoc pre (u ∷ []) us))

-- ---- loops that put a text, unit by unit

pub putting-next : (us : List ℕ) (h : Content) (r place i u : ℕ) → i < length us → u ≡ get_or us i 0 → putting r place (drop i us) h ≡ putting r (place + 1) (drop (i + 1) us) (put_unit r place u h)
unfolding putting
putting-next us h r place i u l e =
    let d : drop i us ≡ u ∷ drop (i + 1) us = rw add-one (drop-cons us i 0 l ∙ ap (λ x. x ∷ drop (suc i) us) (sym e)) in
    ap (λ xs. putting r place xs h) d

pub putting-done : (us : List ℕ) (h : Content) (r place i : ℕ) → length us ≤ i → putting r place (drop i us) h ≡ h
unfolding putting
putting-done us h r place i l = ap (λ xs. putting r place xs h) (drop_all i us l)

-- a text that is put is put whole
pub putting-all : (us : List ℕ) (h t : Content) (r place i : ℕ) → putting r place (drop i us) h ≡ t → length us ≤ i → h ≡ t
putting-all us h t r place i e l = sym (putting-done us h r place i l) ∙ e

-- a loop that puts a text has put one unit more
pub putting-more : (us : List ℕ) (h g t : Content) (r place next i u : ℕ) → putting r place (drop i us) h ≡ t → i < length us → u ≡ get_or us i 0 → next ≡ place + 1 → g ≡ put_unit r place u h → putting r next (drop (i + 1) us) g ≡ t
putting-more us h g t r place next i u before l e n p = rw (n, p) (sym (putting-next us h r place i u l e) ∙ before)

-- ---- a part of a text

pub length-part : (from to : ℕ) (text : List ℕ) → from ≤ to → to ≤ length text → length (part from to text) ≡ to - from
length-part from to text a b = simp length-drop (omega (arith, length-take {A = ℕ}))

pub get-part : (from to i : ℕ) (text : List ℕ) → from ≤ i → i < to → get_or (part from to text) (i - from) 0 ≡ get_or text i 0
get-part from to i text a b =
    let e : from + (i - from) ≡ i = omega arith in
    get_or-drop from (take to text) (i - from) 0 ∙ (ap (λ n. get_or (take to text) n 0) e ∙ get_or-take to text i 0 b)

-- ---- an object that is made

pub record IsMade (k : Kind) (n r : ℕ) (s m : State) : Type 0 where
  pub number : r ≡ 1 + used s.heap.objects
  pub made : m ≡ with_object k n s

made_by : (b : Bool) (k : Kind) (n r : ℕ) (s m : State) → provided {A = ℕ × State} b (HeapFull (units_of k n)) (Ok (1 + used s.heap.objects, with_object k n s)) ≡ Ok (r, m) → IsMade k n r s m
made_by false k n r s m q = absurd (cc)
made_by true k n r s m q =
    let p : ◌≡◌ {A = ℕ × State} (1 + used s.heap.objects, with_object k n s) (r, m) = cc in
    record { number = sym (ap (λ x. x.0) p); made = sym (ap (λ x. x.1) p) }

pub making-made : (k : Kind) (n r : ℕ) (s m : State) → making k n s ≡ Ok (r, m) → IsMade k n r s m
unfolding making
making-made k n r s m e = made_by (within s.heap.units (used s.heap.objects + units_of k n)) k n r s m e

-- it is at its number
pub object_at-IsMade : (k : Kind) (n r : ℕ) (s m : State) → IsMade k n r s m → object_at m.heap.objects r ≡ Some (zeroed k n)
object_at-IsMade k n r s m h = rw (h.number, h.made) (object_at-made s.heap.objects k n)

-- no object had the number
object_at-beyond : (os : List Entity) → object_at os (1 + used os) ≡ None
object_at-beyond [] = refl
object_at-beyond (p ∷ os) =
    let k : 1 + used (p ∷ os) ≡ 1 → ⊥ = λ e. absurd (omega arith) in
    let d : 1 + used (p ∷ os) - size_of p ≡ 1 + used os = omega arith in
    object_at-next p os (1 + used (p ∷ os)) k ∙ (ap (object_at os) d ∙ object_at-beyond os)

pub other-IsMade : (k : Kind) (n r a : ℕ) (s m : State) → IsMade k n r s m → IsSome (object_at s.heap.objects a) → a ≡ r → ⊥
other-IsMade k n r a s m h there e =
    let z : object_at s.heap.objects a ≡ None = ap (object_at s.heap.objects) (e ∙ h.number) ∙ object_at-beyond s.heap.objects in
    let f : is_some (object_at s.heap.objects a) ≡ false = ap is_some z in
    let t : is_some (object_at s.heap.objects a) ≡ true = there in
    absurd (cc)

pub text_in-IsMade_other : (k : Kind) (n r a : ℕ) (s m : State) → IsMade k n r s m → IsSome (object_at s.heap.objects a) → text_in a m.heap ≡ text_in a s.heap
unfolding text_in
text_in-IsMade_other k n r a s m h there =
    let ne : a ≡ 1 + used s.heap.objects → ⊥ = λ e. other-IsMade k n r a s m h there (e ∙ sym h.number) in
    rw h.made (ap text_of (object_at-made_other s.heap.objects k n a ne))

-- ---- a string that is made

pub record IsBegun (n r : ℕ) (s m : State) : Type 0 where
  pub made : IsMade Text n r s m

begun_by : (b : Bool) (n r : ℕ) (s m : State) → provided b (HeapFull (units_of Text n)) (making Text n s) ≡ Ok (r, m) → IsBegun n r s m
begun_by false n r s m q = absurd (cc)
begun_by true n r s m q = record { made = making-made Text n r s m q }

pub beginning-begun : (n r : ℕ) (s m : State) → beginning n s ≡ Ok (r, m) → IsBegun n r s m
unfolding beginning
beginning-begun n r s m e = begun_by (can_have s.heap.units n) n r s m e

-- its units are zero at first
pub length-IsMade : (n r : ℕ) (s m : State) → IsMade Text n r s m → length (text_in r m.heap) ≡ n
unfolding text_in
length-IsMade n r s m h =
    ap (λ x. length (text_of x)) (object_at-IsMade Text n r s m h) ∙ (length-map (replicate n 0) unit_of ∙ length-replicate n 0)

pub length-made : (x : Result ℕ Stop) (n : ℕ) (s m : State) → Gives x s m (making Text n s) → IfOk x (λ r. length (text_in r m.heap) ≡ n)
length-made (Ok r) n s m h = length-IsMade n r s m (making-made Text n r s m h)
length-made (Err e) n s m h = tt

-- with all units put, it is the text
pub making_text-put : (text : List ℕ) (n r : ℕ) (s m f : State) → beginning n s ≡ Ok (r, m) → n ≡ length text → f ≡ record m { heap = putting r 0 text m.heap } → making_text text s ≡ Ok (r, f)
unfolding making_text heap_of
making_text-put text n r s m f e l p =
    let b : IsBegun n r s m = beginning-begun n r s m e in
    let z : putting r 0 text m.heap ≡ (with_text text s).heap =
    rw (b.made.number, b.made.made, l) (putting-last text [] s.heap.objects Text s.heap.units 0 refl) in
    let q : f ≡ with_text text s = rw (p, z, b.made.made) refl in
    rw (sym l, e, q) refl

-- ---- texts that are put one behind the other

pub putting-then : (us vs : List ℕ) (h g k : Content) (r i j : ℕ) → g ≡ putting r i us h → j ≡ i + length us → k ≡ putting r j vs g → k ≡ putting r i (us ++ vs) h
putting-then us vs h g k r i j a b c = rw (c, b, a) (sym (putting-append us vs h r i))

pub part-all : (us : List ℕ) (n : ℕ) → length us ≡ n → part 0 n us ≡ us
part-all us n e = take_all n us (omega arith)

-- a string that was there, or null, beside a new one
pub other-begun : (n r a : ℕ) (s m : State) → beginning n s ≡ Ok (r, m) → (a ≢ 0 → IsSome (object_at s.heap.objects a)) → a ≢ r
other-begun n r a s m e there q =
    let b : IsBegun n r s m = beginning-begun n r s m e in
    let p : a ≢ 0 = λ z. absurd (omega (arith, b.made.number)) in
    other-IsMade Text n r a s m b.made (there p) q

pub text_in-begun : (n r a : ℕ) (s m : State) → beginning n s ≡ Ok (r, m) → IsSome (object_at s.heap.objects a) → text_in a m.heap ≡ text_in a s.heap
text_in-begun n r a s m e there = text_in-IsMade_other Text n r a s m (beginning-begun n r s m e).made there

pub shown_in-begun : (n r a : ℕ) (s m : State) → beginning n s ≡ Ok (r, m) → (a ≢ 0 → IsSome (object_at s.heap.objects a)) → shown_in a m.heap ≡ shown_in a s.heap
unfolding shown_in
shown_in-begun n r a s m e there = elim (cases_eq a 0) [
  | inl z ↦ rw z refl
  | inr z ↦ ap (λ t. cond (a == 0) (codes "null") t) (text_in-begun n r a s m e (there z))
]

pub shown_in-putting_other : (us : List ℕ) (h : Content) (r i a : ℕ) → a ≢ r → shown_in a (putting r i us h) ≡ shown_in a h
unfolding shown_in
shown_in-putting_other us h r i a ne = ap (λ t. cond (a == 0) (codes "null") t) (text_in-putting_other us h r i a ne)
