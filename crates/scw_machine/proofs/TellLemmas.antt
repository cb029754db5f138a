-- The bytes of an exception's line, put one part after the other.
use Rattle.std.proofs.Common.{◌≡◌, ℕ, ◌+◌, ◌-◌, ◌<◌, ◌≤◌, false, List, [], ◌∷◌, ◌++◌, length, map, drop, Option, Some, None, IfSome, Result, Ok, Err, OnOk, OnErr, refl, sym, ap, ◌∙◌, subst, arith, append_assoc}
use Rattle.std.specs.Prelude.{IsSome, IsSomeAnd, is_some, slice_get, slice_index, codes}
use Rattle.std.specs.Io.KnownBytes.{append_known}
use Rattle.std.proofs.lemmas.List.{get_or-map}
use Rattle.scw_outside.specs.Puts.{TookPart}
use Rattle.scw_frame.specs.declared.program.Program.{Program}
use Rattle.scw_heap.specs.declared.kind.Kind.{Kind}
use Rattle.scw_heap.specs.declared.kind.Kind.TheVariants.{Text}
use Rattle.scw_heap.specs.Heap.{Entity, object_at, words_at, words_in}
use Rattle.scw_step.specs.TextStep.{dotted}
use Rattle.scw_value.specs.Text.{bytes_at, units_at, utf8}
use Rattle.scw_value.proofs.EncodedLemmas.{utf8-drop, units_at-within, units_at-some}
use Rattle.scw_machine.specs.Output.{IsParted, IsText}
use Rattle.scw_machine.specs.Tell.{class_in, class_of, message_as, message_at, message_in, message_told, name_at, name_in, told}
use Rattle.scw_machine.proofs.OutputLemmas.{append_known-none, parted-more, part-front, part-more, room-front, room-more}
use Rattle.scw_machine.proofs.RunLemmas.{parted-all, put-whole}

-- ---- a character of a name

pub dotted-index : (name : List ℕ) (i : ℕ) → i < length name → dotted (slice_index name i) ≡ slice_index (map dotted name) i
dotted-index name i within = sym (get_or-map dotted name i 0 0 within)

pub encoded-bytes : (us bytes : List ℕ) (i first units : ℕ) (second : Option ℕ) → i < length us
    → first ≡ slice_index us i → second ≡ slice_get us (i + 1) → units ≡ units_at first second → bytes ≡ bytes_at first second
    → utf8 (drop i us) ≡ bytes ++ utf8 (drop (i + units) us)
encoded-bytes us bytes i first units second within one two takes is = rw (is, takes, one, two) (utf8-drop us i within)

pub encoded-end : (us : List ℕ) (i first units : ℕ) (second : Option ℕ) → i < length us
    → first ≡ slice_index us i → second ≡ slice_get us (i + 1) → units ≡ units_at first second → i + units ≤ length us
encoded-end us i first units second within one two takes = rw (takes, one, two) (units_at-within us i within)

pub encoded-some : (first units : ℕ) (second : Option ℕ) → units ≡ units_at first second → 0 < units
encoded-some first units second takes = rw takes (units_at-some first second)

-- ---- an object

-- the name of an object's class
pub named : (p : Program) (found : Option Entity) (kind : Kind) → IsSome found → IfSome found (λ object. kind ≡ object.kind) → name_in (class_of p kind) ≡ name_in (class_in p found)
named p None kind some is = absurd (cc)
named p (Some object) kind some is = ap (λ k. name_in (class_of p k)) is

pub nameless : (p : Program) (found : Option Entity) → is_some found ≡ false → name_in (class_in p found) ≡ []
nameless p None none = refl
nameless p (Some object) none = absurd (cc)

-- what is in no field
pub wordless : (found : Option Entity) → is_some found ≡ false → slice_index (words_in found) 0 ≡ 0
wordless None none = refl
wordless (Some object) none = absurd (cc)

index-none : (words : List ℕ) → length words ≤ 0 → slice_index words 0 ≡ 0
index-none [] none = refl
index-none (x ∷ xs) none = absurd (omega arith)

pub fieldless : (found : Option Entity) (n : ℕ) → IsSome found → IfSome found (λ object. n ≡ length object.words) → n ≤ 0 → slice_index (words_in found) 0 ≡ 0
fieldless None n some is none = refl
fieldless (Some object) n some is none = index-none object.words (omega (arith, is))

message-text : (found : Option Entity) → IsSomeAnd found (λ object. object.kind ≡ Text) → codes ": " ++ utf8 (words_in found) ≡ message_in found
message-text None is = absurd is
message-text (Some object) is = sym (ap (λ kind. message_as kind object.words) is)

pub message-none : (objects : List Entity) (message : ℕ) → message_in (object_at objects message) ≡ [] → message_told objects message ≡ []
unfolding message_told
message-none objects message none = none

pub message-some : (objects : List Entity) (message : ℕ) → IsText objects message → codes ": " ++ utf8 (words_at objects message) ≡ message_told objects message
unfolding message_told
message-some objects message is = message-text (object_at objects message) is

-- ---- parts of a line

pub two_parts : (a b c d : List ℕ) → (a ++ b) ++ (c ++ d) ≡ a ++ (b ++ (c ++ d))
two_parts a b c d = append_assoc a b (c ++ d)

pub three_parts : (a b c d : List ℕ) → ((a ++ b) ++ c) ++ d ≡ a ++ (b ++ (c ++ d))
three_parts a b c d = append_assoc (a ++ b) c d ∙ append_assoc a b (c ++ d)

-- the line, by what the code puts
pub told-parts : (p : Program) (objects : List Entity) (r : ℕ) (name : List ℕ) (message : ℕ) → name ≡ name_at p objects r → message ≡ message_at objects r
    → codes "exception " ++ (utf8 (map dotted name) ++ (message_told objects message ++ codes "\n")) ≡ told p objects r
unfolding told
told-parts p objects r name message name_is message_is = rw (name_is, message_is) refl

-- the sink failed in the first part
pub told-first : (old new : Option (List ℕ)) (p : Program) (objects : List Entity) (r : ℕ) → TookPart old new (codes "exception ") → TookPart old new (told p objects r)
unfolding told
told-first old new p objects r part =
    part-front old new (codes "exception ") (utf8 (map dotted (name_at p objects r)) ++ (message_told objects (message_at objects r) ++ codes "\n")) part

pub told-first-room : (P : Type 0) (room : Option ℕ) (p : Program) (objects : List Entity) (r : ℕ)
    → IfSome room (λ n. length (codes "exception ") ≤ n → P) → IfSome room (λ n. length (told p objects r) ≤ n → P)
unfolding told
told-first-room P room p objects r h =
    room-front P room (codes "exception ") (utf8 (map dotted (name_at p objects r)) ++ (message_told objects (message_at objects r) ++ codes "\n")) h

-- ---- the last part

pub last-parted : {T E : Type 0} (r : Result T E) (old mid new : Option (List ℕ)) (before between after : Option ℕ) (first more whole : List ℕ)
    → IsParted old mid before between first [] → first ++ more ≡ whole → OnOk r (IsParted mid new between after more []) → OnOk r (IsParted old new before after whole [])
last-parted (Ok x) old mid new before between after first more whole a is b =
    subst (λ (l : List ℕ). IsParted old new before after l []) is (parted-more old mid new before between after first [] more [] a b)
last-parted (Err e) old mid new before between after first more whole a is b = tt

pub last-part : {T E : Type 0} (r : Result T E) (old mid new : Option (List ℕ)) (before between : Option ℕ) (first more whole : List ℕ)
    → IsParted old mid before between first [] → first ++ more ≡ whole → OnErr r (TookPart mid new more) → OnErr r (TookPart old new whole)
last-part (Ok x) old mid new before between first more whole a is b = tt
last-part (Err e) old mid new before between first more whole a is b = subst (TookPart old new) is (part-more old mid new before between first [] more a b)

pub last-room : (P : Type 0) (old mid : Option (List ℕ)) (before between : Option ℕ) (first more whole : List ℕ)
    → IsParted old mid before between first [] → first ++ more ≡ whole → IfSome between (λ r. length more ≤ r → P) → IfSome before (λ r. length whole ≤ r → P)
last-room P old mid before between first more whole a is h =
    subst (λ (l : List ℕ). IfSome before (λ r. length l ≤ r → P)) is (room-more P old mid before between first [] more a h)

-- all bytes were put
pub all-taken : {T E : Type 0} (r : Result T E) (old new : Option (List ℕ)) (before after : Option ℕ) (whole : List ℕ)
    → OnOk r (IsParted old new before after whole []) → OnOk r (new ≡ append_known old whole)
all-taken (Ok x) old new before after whole a = put-whole old new new before after whole [] a (append_known-none new)
all-taken (Err e) old new before after whole a = tt

pub put-parted : {T E : Type 0} (r : Result T E) (old new : Option (List ℕ)) (before after : Option ℕ) (bytes : List ℕ)
    → OnOk r (new ≡ append_known old bytes) → OnOk r (IfSome before (λ n. after ≡ Some (n - length bytes))) → OnOk r (IsParted old new before after bytes [])
put-parted (Ok x) old new before after bytes is left = parted-all old new before after bytes is left
put-parted (Err e) old new before after bytes is left = tt
