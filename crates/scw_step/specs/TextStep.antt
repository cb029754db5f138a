-- Strings of the heap, which are texts of UTF-16 units (JVMS 2.5.3 and 5.1), and the making of one.
use Rattle.std.specs.Prelude.{ℕ, ◌+◌, ◌%◌, ◌^◌, Bool, true, false, cond, List, [], ◌∷◌, ◌++◌, length, drop, take, map, replicate, Option, Some, None, Result, Ok, Err, ◌==◌, codes}
use Rattle.scw_heap.specs.Heap.{Content, Entity, can_have, object_at, units_of, with_word}
use Rattle.scw_heap.specs.declared.kind.Kind.{Kind}
use Rattle.scw_heap.specs.declared.kind.Kind.TheVariants.{Object, Text, Booleans, Chars, Ints, Longs, Refs}
use Rattle.scw_step.specs.declared.state.State.{State}
use Rattle.scw_step.specs.declared.stop.Stop.{Stop}
use Rattle.scw_step.specs.declared.stop.Stop.TheVariants.{Undefined, HeapFull}
use Rattle.scw_step.specs.StateStep.{and_next, making, provided, shape_at}

abbrev pub is_text : Kind → Bool
is_text (Object class) = false
is_text Text = true
is_text Booleans = false
is_text Chars = false
is_text Ints = false
is_text Longs = false
is_text (Refs element) = false

-- the words of a string have 16 bits
abbrev pub unit_of : ℕ → ℕ
unit_of word = word % 2 ^ 16

abbrev pub text_of : Option Entity → List ℕ
text_of None = []
text_of (Some o) = cond (is_text o.kind) (map unit_of o.words) []

-- the units of the string with the number; none where there is no string
unfoldable pub text_in : ℕ → Content → List ℕ
text_in r h = text_of (object_at h.objects r)

-- the same, where it is a string and not null
unfoldable pub text_at : ℕ → Content → Result (List ℕ) Stop
text_at r h = and_next (shape_at r h) (λ s. cond (is_text s.kind) (Ok (text_in r h)) (Err Undefined))

-- null counts as a text here
unfoldable pub text_or_null : ℕ → Content → Result (List ℕ) Stop
text_or_null r h = cond (r == 0) (Ok (codes "null")) (text_at r h)

unfoldable pub shown_in : ℕ → Content → List ℕ
shown_in r h = cond (r == 0) (codes "null") (text_in r h)

-- the units from one place to another
abbrev pub part : ℕ → ℕ → List ℕ → List ℕ
part from to text = drop from (take to text)

-- ---- names of classes, in which `.` stands for the `/` of their binary names (JVMS 4.2.1)

abbrev pub dotted : ℕ → ℕ
dotted unit = cond (unit == 0x2f) 0x2e unit

-- ---- making

-- a heap with one string more
abbrev pub with_text : List ℕ → State → State
with_text text s = record s { heap = record s.heap { objects = s.heap.objects ++ record { kind = Text; words = text } ∷ [] } }

-- a string of so many units, all zero, and its number; a heap with a limit has no string of 2^32 units or more
unfoldable pub beginning : ℕ → State → Result (ℕ × State) Stop
beginning n s = provided (can_have s.heap.units n) (HeapFull (units_of Text n)) (making Text n s)

-- a new string, and its number
unfoldable pub making_text : List ℕ → State → Result (ℕ × State) Stop
making_text text s = and_next (beginning (length text) s) (λ x. Ok (x.0, with_text text s))

-- ---- how one is made: the heap, of which the string with the number has these units from the place on

unfoldable pub put_unit : ℕ → ℕ → ℕ → Content → Content
put_unit r i u h = record h { objects = with_word h.objects r i u }

unfoldable pub putting : ℕ → ℕ → List ℕ → Content → Content
putting r i [] h = h
putting r i (u ∷ us) h = putting r (i + 1) us (put_unit r i u h)

-- ---- new strings by what they are made of

-- of two strings, each of which may be null
unfoldable pub making_joined : ℕ → ℕ → State → Result (ℕ × State) Stop
making_joined a b s = and_next (text_or_null a s.heap) (λ x. and_next (text_or_null b s.heap) (λ y. making_text (x ++ y) s))

-- of a class's name and a message
unfoldable pub making_described : List ℕ → ℕ → State → Result (ℕ × State) Stop
making_described name message s =
    and_next (text_at message s.heap) (λ x. making_text (map dotted name ++ codes ": " ++ x) s)

-- the descriptor of an array of so many dimensions, of objects or of a primitive type (JVMS 4.3.2)
abbrev pub array_name : ℕ → List ℕ → List ℕ
array_name dimensions name = replicate dimensions 0x5b ++ codes "L" ++ map dotted name ++ codes ";"

abbrev pub array_letter : ℕ → ℕ → List ℕ
array_letter dimensions letter = replicate dimensions 0x5b ++ letter ∷ []
