-- The units of a string, and how far bytes have come that wait before they are put: what a run of calls needs.
use Rattle.std.proofs.Common.{◌≡◌, ℕ, zero, suc, ◌+◌, ◌-◌, ◌<◌, ◌≤◌, true, false, List, [], ◌++◌, length, take, drop, Option, Some, None, IfSome, Result, Ok, Err, OnErr, refl, sym, ap, ◌∙◌, subst, arith, ne_eqb, append_assoc, append-nil, length-append, length-drop}
use Rattle.std.specs.Prelude.{◌≢◌, ◌==◌, cond, codes, IsSomeAnd}
use Rattle.std.specs.Io.KnownBytes.{append_known}
use Rattle.std.proofs.lemmas.List.{drop-append-le, drop-drop, take-append-le, take-append-drop}
use Rattle.std.proofs.Math.Seq.{take-append_seam, drop-append_seam}
use Rattle.scw_heap.specs.declared.kind.Kind.TheVariants.{Text}
use Rattle.scw_heap.specs.Heap.{Entity, object_at, words_at, words_in}
use Rattle.scw_outside.specs.Puts.{TookPart}
use Rattle.scw_outside.proofs.PutsLemmas.{append_known-append, append_known-take, room-lowered}
use Rattle.scw_value.specs.Text.{utf8}
use Rattle.scw_machine.specs.Output.{IsParted, IsText, bytes_as, bytes_in, said, said_by}

-- what `length` answers
pub length_at : (found : Option Entity) (n : ℕ) → IsSomeAnd found (λ object. object.kind ≡ Text) → IfSome found (λ object. n ≡ length object.words) → n ≡ length (words_in found)
length_at None n there is = absurd there
length_at (Some object) n there is = is

-- what is said of a string
pub said-text : (objects : List Entity) (r : ℕ) → r ≢ 0 → utf8 (words_at objects r) ≡ said objects r
said-text objects r some = ap (λ b. cond b (codes "null") (utf8 (words_at objects r))) (sym (ne_eqb r 0 some))

bytes-text : (found : Option Entity) → IsSomeAnd found (λ object. object.kind ≡ Text) → bytes_in found ≡ utf8 (words_in found)
bytes-text None is = absurd is
bytes-text (Some object) is = ap (λ kind. bytes_as kind object.words) is

-- what is said of a string, and of null
pub said_by-text : (objects : List Entity) (r : ℕ) → (0 < r → IsText objects r) → said_by objects r ≡ said objects r
unfolding said_by
said_by-text objects zero is = refl
said_by-text objects (suc r) is = ap (λ bytes. cond (suc r == 0) (codes "null") bytes) (bytes-text (object_at objects (suc r)) (is (omega arith)))

-- what is said of another object
pub said_by-other : (objects : List Entity) (r : ℕ) → r ≢ 0 → bytes_in (object_at objects r) ≡ [] → said_by objects r ≡ []
unfolding said_by
said_by-other objects r some is = rw (ne_eqb r 0 some) is

pub append_known-none : (known : Option (List ℕ)) → known ≡ append_known known []
append_known-none None = refl
append_known-none (Some xs) = ap (λ (l : List ℕ). Some l) (sym (append-nil xs))

room_same : (room : Option ℕ) → IfSome room (λ r. room ≡ Some (r - 0))
room_same None = tt
room_same (Some r) = let e : r ≡ r - 0 = omega arith in ap (λ (k : ℕ). Some k) e

-- all bytes wait
pub parted-none : (old : Option (List ℕ)) (room : Option ℕ) (bytes : List ℕ) → IsParted old old room room bytes bytes
parted-none old room bytes = record { count = 0; within = omega arith; taken = append_known-none old; left = room_same room; rest = refl }

-- the first bytes were put, and the others wait
pub parted-front : (old new : Option (List ℕ)) (before after : Option ℕ) (front bytes : List ℕ)
    → new ≡ append_known old front → IfSome before (λ r. after ≡ Some (r - length front)) → IsParted old new before after (front ++ bytes) bytes
parted-front old new before after front bytes is less = record {
  count = length front;
  within = omega (arith, length-append front bytes);
  taken = is ∙ ap (λ (l : List ℕ). append_known old l) (sym (take-append_seam front bytes));
  left = less;
  rest = sym (drop-append_seam front bytes);
}

-- more bytes follow: from the bytes that waited, and those
pub parted-more : (old mid new : Option (List ℕ)) (before between after : Option ℕ) (bytes waiting more now : List ℕ)
    → IsParted old mid before between bytes waiting → IsParted mid new between after (waiting ++ more) now → IsParted old new before after (bytes ++ more) now
parted-more old mid new before between after bytes waiting more now a b =
    let behind : waiting ++ more ≡ drop a.count (bytes ++ more) =
    ap (λ (l : List ℕ). l ++ more) a.rest ∙ sym (drop-append-le a.count bytes more a.within) in
    record {
      count = a.count + b.count;
      within = let w = a.within in let v = b.within in omega (arith, ap length behind, length-drop a.count (bytes ++ more), length-append bytes more);
      taken = append_known-take old mid new (bytes ++ more) a.count b.count
          (a.taken ∙ ap (λ (l : List ℕ). append_known old l) (sym (take-append-le a.count bytes more a.within)))
          (b.taken ∙ ap (λ (l : List ℕ). append_known mid (take b.count l)) behind);
      left = room-lowered before between after a.count b.count a.left b.left;
      rest = b.rest ∙ ap (drop b.count) behind ∙ drop-drop b.count a.count (bytes ++ more);
    }

-- the sink failed when more bytes followed
pub part-more : (old mid new : Option (List ℕ)) (before between : Option ℕ) (bytes waiting more : List ℕ)
    → IsParted old mid before between bytes waiting → TookPart mid new (waiting ++ more) → TookPart old new (bytes ++ more)
part-more old mid new before between bytes waiting more a b =
    let behind : waiting ++ more ≡ drop a.count (bytes ++ more) =
    ap (λ (l : List ℕ). l ++ more) a.rest ∙ sym (drop-append-le a.count bytes more a.within) in
    let w = a.within in (
      a.count + b.0,
      omega (arith, b.1, ap length behind, length-drop a.count (bytes ++ more), length-append bytes more),
      append_known-take old mid new (bytes ++ more) a.count b.0
          (a.taken ∙ ap (λ (l : List ℕ). append_known old l) (sym (take-append-le a.count bytes more a.within)))
          (b.2 ∙ ap (λ (l : List ℕ). append_known mid (take b.0 l)) behind),
    )

-- a part of a front is a part of the whole
pub part-front : (old new : Option (List ℕ)) (front more : List ℕ) → TookPart old new front → TookPart old new (front ++ more)
part-front old new front more a = (
  a.0,
  omega (arith, a.1, length-append front more),
  a.2 ∙ ap (λ (l : List ℕ). append_known old l) (sym (take-append-le a.0 front more (omega (arith, a.1)))),
)

-- room for the whole is room for its front
pub room-front : (P : Type 0) (room : Option ℕ) (front more : List ℕ)
    → IfSome room (λ r. length front ≤ r → P) → IfSome room (λ r. length (front ++ more) ≤ r → P)
room-front P None front more h = tt
room-front P (Some r) front more h = λ fits. h (omega (arith, length-append front more))

-- room for all bytes is room for those that wait, and more
pub room-more : (P : Type 0) (old mid : Option (List ℕ)) (before between : Option ℕ) (bytes waiting more : List ℕ)
    → IsParted old mid before between bytes waiting → IfSome between (λ r. length (waiting ++ more) ≤ r → P) → IfSome before (λ r. length (bytes ++ more) ≤ r → P)
room-more P old mid None between bytes waiting more a h = tt
room-more P old mid (Some r) between bytes waiting more a h =
    let left : between ≡ Some (r - a.count) = a.left in
    let now : length (waiting ++ more) ≤ r - a.count → P = subst (λ room. IfSome room (λ n. length (waiting ++ more) ≤ n → P)) left h in
    let w = a.within in
    λ fits. now (omega (arith, length-append waiting more, length-append bytes more, ap length a.rest, length-drop a.count bytes))

-- what was taken and what waits are all the bytes
pub parted-whole : (old new : Option (List ℕ)) (before after : Option ℕ) (waiting more now : List ℕ)
    → IsParted old new before after (waiting ++ more) now → append_known new now ≡ append_known (append_known old waiting) more
parted-whole old new before after waiting more now a =
    ap (λ (l : List ℕ). append_known new l) a.rest
    ∙ ap (λ known. append_known known (drop a.count (waiting ++ more))) a.taken
    ∙ append_known-append old (take a.count (waiting ++ more)) (drop a.count (waiting ++ more))
    ∙ ap (λ (l : List ℕ). append_known old l) (take-append-drop a.count (waiting ++ more))
    ∙ sym (append_known-append old waiting more)

-- ---- a text is added to what waits, one character after the other

-- the bytes done so far, where those from a place on are a character's and those behind it
pub done-more : (done bytes rest from whole : List ℕ) → from ≡ bytes ++ rest → done ++ from ≡ whole → (done ++ bytes) ++ rest ≡ whole
done-more done bytes rest from whole split is = append_assoc done bytes rest ∙ ap (λ (l : List ℕ). done ++ l) (sym split) ∙ is

-- one character more
pub text-more : (old mid new : Option (List ℕ)) (before between after : Option ℕ) (first done bytes waiting now : List ℕ)
    → IsParted old mid before between (first ++ done) waiting → IsParted mid new between after (waiting ++ bytes) now → IsParted old new before after (first ++ (done ++ bytes)) now
text-more old mid new before between after first done bytes waiting now a b =
    subst (λ (l : List ℕ). IsParted old new before after l now) (append_assoc first done bytes)
    (parted-more old mid new before between after (first ++ done) waiting bytes now a b)

whole_is : (first done bytes rest whole : List ℕ) → (done ++ bytes) ++ rest ≡ whole → ((first ++ done) ++ bytes) ++ rest ≡ first ++ whole
whole_is first done bytes rest whole is = simp append_assoc (ap (λ (l : List ℕ). first ++ l) (sym (append_assoc done bytes rest) ∙ is))

-- the sink failed at a character
pub text-part : (old mid new : Option (List ℕ)) (before between : Option ℕ) (first done bytes rest whole waiting : List ℕ)
    → IsParted old mid before between (first ++ done) waiting → (done ++ bytes) ++ rest ≡ whole → TookPart mid new (waiting ++ bytes) → TookPart old new (first ++ whole)
text-part old mid new before between first done bytes rest whole waiting a is b =
    subst (TookPart old new) (whole_is first done bytes rest whole is)
    (part-front old new ((first ++ done) ++ bytes) rest (part-more old mid new before between (first ++ done) waiting bytes a b))

-- room for the whole text is room for the character
pub text-room : (P : Type 0) (old mid : Option (List ℕ)) (before between : Option ℕ) (first done bytes rest whole waiting : List ℕ)
    → IsParted old mid before between (first ++ done) waiting → (done ++ bytes) ++ rest ≡ whole
    → IfSome between (λ r. length (waiting ++ bytes) ≤ r → P) → IfSome before (λ r. length (first ++ whole) ≤ r → P)
text-room P old mid before between first done bytes rest whole waiting a is h =
    subst (λ (l : List ℕ). IfSome before (λ r. length l ≤ r → P)) (whole_is first done bytes rest whole is)
    (room-front P before ((first ++ done) ++ bytes) rest (room-more P old mid before between (first ++ done) waiting bytes a h))

-- what holds in each case holds of an error
pub on_err : {T E P : Type 0} (r : Result T E) → P → OnErr r P
on_err (Ok x) h = tt
on_err (Err e) h = h

-- a failed call was not sure to succeed
pub room-never : (P : Type 0) (room : Option ℕ) (n : ℕ) → IfSome room (λ r. n ≤ r → false ≡ true) → IfSome room (λ r. n ≤ r → P)
room-never P None n h = tt
room-never P (Some r) n h = λ fits. let never = h fits in absurd (cc)
