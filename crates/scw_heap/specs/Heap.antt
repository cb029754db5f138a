-- A heap (JVMS 2.5.3): its objects in the order of making, each with its words, and how many units they may take.
-- The standard leaves the layout open; the sizes are this machine's own. The code keeps all objects in one arena, of
-- which nothing is said here.
use Rattle.std.specs.Prelude.{ℕ, ◌+◌, ◌-◌, ◌*◌, ◌/◌, ◌^◌, ◌==◌, Bool, true, nat_le, nat_lt, cond, List, [], ◌∷◌, Option, Some, None, length, slice_set, replicate, take}
use Rattle.scw_heap.specs.declared.kind.Kind.{Kind}
use Rattle.scw_heap.specs.declared.kind.Kind.TheVariants.{Object, Text, Booleans, Chars, Ints, Longs, Refs}

-- an object: its words are its fields, its elements or its code units
pub record Entity : Type 0 where
  pub kind : Kind
  pub words : List ℕ

pub record Content : Type 0 where
  pub objects : List Entity
  -- the units that are reserved; None sets no limit
  pub units : Option ℕ

-- so many are within a limit, if there is one
abbrev pub within : Option ℕ → ℕ → Bool
within None n = true
within (Some most) n = nat_le n most

-- An object can have so many words: in a heap with a limit, fewer than 2^32.
abbrev pub can_have : Option ℕ → ℕ → Bool
can_have None count = true
can_have (Some most) count = nat_lt count (2 ^ 32)

-- the bytes of one word
abbrev pub bytes_of : Kind → ℕ
bytes_of (Object class) = 8
bytes_of Text = 2
bytes_of Booleans = 1
bytes_of Chars = 2
bytes_of Ints = 4
bytes_of Longs = 8
bytes_of (Refs element) = 8

-- a word is below this number
abbrev pub limit_of : Kind → ℕ
limit_of kind = 2 ^ (8 * bytes_of kind)

-- one unit of 16 bytes, and one for each 16 bytes begun
abbrev pub units_of : Kind → ℕ → ℕ
units_of kind count = 1 + (bytes_of kind * count + 15) / 16

abbrev pub size_of : Entity → ℕ
size_of object = units_of object.kind (length object.words)

-- the units in use
abbrev pub used : List Entity → ℕ
used [] = 0
used (o ∷ os) = size_of o + used os

abbrev pub zeroed : Kind → ℕ → Entity
zeroed kind count = record { kind = kind; words = replicate count 0 }

-- The object with the number: that of the first is 1, and that of each other is one more than the units before it.
abbrev pub object_at : List Entity → ℕ → Option Entity
object_at [] number = None
object_at (o ∷ os) number = cond (number == 1) (Some o) (object_at os (number - size_of o))

-- the number of the object at the place k
abbrev pub number_of : List Entity → ℕ → ℕ
number_of objects k = 1 + used (take k objects)

-- the object, with another word at i
abbrev pub with_word_in : Entity → ℕ → ℕ → Entity
with_word_in object i word = record { kind = object.kind; words = slice_set object.words i word }

-- the objects, of which the one with the number has another word at i
abbrev pub with_word : List Entity → ℕ → ℕ → ℕ → List Entity
with_word [] number i word = []
with_word (o ∷ os) number i word =
    cond (number == 1) (with_word_in o i word ∷ os) (o ∷ with_word os (number - size_of o) i word)

-- the words of the object with the number; none where there is no such object
abbrev pub words_in : Option Entity → List ℕ
words_in None = []
words_in (Some o) = o.words

abbrev pub words_at : List Entity → ℕ → List ℕ
words_at objects number = words_in (object_at objects number)
