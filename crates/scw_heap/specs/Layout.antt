-- How objects lie in an arena of 64-bit words, two a unit: the first word of an object has its kind, the second the
-- number of its words; then come these, packed, the first in the lowest bits.
use Rattle.std.specs.Prelude.{◌≡◌, ℕ, ◌+◌, ◌-◌, ◌*◌, ◌/◌, ◌%◌, ◌^◌, ◌<◌, ◌≤◌, suc, zero, Bool, true, false, List, [], ◌∷◌, ◌++◌, length, get_or, drop, replicate, map}
use Rattle.std.specs.List.{range_with_len}
use Rattle.scw_heap.specs.declared.kind.Kind.{Kind}
use Rattle.scw_heap.specs.declared.kind.Kind.TheVariants.{Object, Text, Booleans, Chars, Ints, Longs, Refs}
use Rattle.scw_heap.specs.Heap.{Entity, bytes_of, size_of}

-- the number of `width` bits from the bit `shift` on
abbrev pub field : ℕ → ℕ → ℕ → ℕ
field word shift width = word / 2 ^ shift % 2 ^ width

-- the word, of which these bits are those of v
abbrev pub with_field : ℕ → ℕ → ℕ → ℕ → ℕ
with_field word shift width v = word - field word shift width * 2 ^ shift + v * 2 ^ shift

-- where the element at i lies: in which word of the data, and from which bit on
abbrev pub cell_of : Kind → ℕ → ℕ
cell_of kind i = bytes_of kind * i / 8

abbrev pub shift_of : Kind → ℕ → ℕ
shift_of kind i = 8 * (bytes_of kind * i % 8)

abbrev pub width_of : Kind → ℕ
width_of kind = 8 * bytes_of kind

-- the element at i of an object whose words these are, with the two of its header
unfoldable pub element : Kind → List ℕ → ℕ → ℕ
element kind ws i = field (get_or ws (2 + cell_of kind i) 0) (shift_of kind i) (width_of kind)

abbrev pub elements : Kind → List ℕ → ℕ → List ℕ
elements kind ws count = map (element kind ws) (range_with_len 0 count)

-- the first word of the header
abbrev pub code_of : Kind → ℕ
code_of (Object class) = class * 8
code_of Text = 1
code_of Booleans = 2
code_of Chars = 3
code_of Ints = 4
code_of Longs = 5
code_of (Refs element) = element * 8 + 6

-- the kind, by the two parts of its code
abbrev pub kind_by : ℕ → ℕ → Kind
kind_by tag number = get_or (Object number ∷ Text ∷ Booleans ∷ Chars ∷ Ints ∷ Longs ∷ []) tag (Refs number)

abbrev pub kind_of : ℕ → Kind
kind_of code = kind_by (code % 8) (code / 8)

-- the words begin with the object
pub record Begins (o : Entity) (ws : List ℕ) : Type 0 where
  pub code : get_or ws 0 0 ≡ code_of o.kind
  pub count : get_or ws 1 0 ≡ length o.words
  pub within : 2 * size_of o ≤ length ws
  pub narrow : code_of o.kind < 2 ^ 35
  pub short : length o.words < 2 ^ 32
  pub words : elements o.kind ws (length o.words) ≡ o.words

-- in the words the object lies where its number says
pub record LiesAt (o : Entity) (ws : List ℕ) (n : ℕ) : Type 0 where
  pub some : 0 < n
  pub begins : Begins o (drop (2 * (n - 1)) ws)

-- the words are those of the objects, one after another
abbrev pub AreLaidOut : List Entity → List ℕ → Type 0
AreLaidOut [] ws = ws ≡ []
AreLaidOut (o ∷ os) ws = Begins o ws × AreLaidOut os (drop (2 * size_of o) ws)

abbrev pub object_in : List ℕ → Entity
object_in ws =
    let kind : Kind = kind_of (get_or ws 0 0) in record { kind = kind; words = elements kind ws (get_or ws 1 0) }

-- the first objects that the words are those of, at most so many
unfoldable pub objects_from : ℕ → List ℕ → List Entity
objects_from zero ws = []
objects_from (suc most) [] = []
objects_from (suc most) (w ∷ ws) =
    object_in (w ∷ ws) ∷ objects_from most (drop (2 * size_of (object_in (w ∷ ws))) (w ∷ ws))

abbrev pub objects_of : List ℕ → List Entity
objects_of ws = objects_from (length ws) ws

-- what always holds of an arena: it holds objects alone, and has room for the units
pub record IsSound (ws : List ℕ) (units capacity : ℕ) : Type 0 where
  pub laid_out : AreLaidOut (objects_of ws) ws
  pub within : length ws ≤ 2 * units
  pub reserved : 2 * units ≤ capacity
  pub small : units < 2 ^ 32

-- a flag for each unit of the objects: whether one begins there
abbrev pub starts_of : List Entity → List Bool
starts_of [] = []
starts_of (o ∷ os) = true ∷ (replicate (size_of o - 1) false ++ starts_of os)

-- what always holds of the flags: they are those of the objects, and have room for the units
pub record IsMarked (objects : List Entity) (starts : List Bool) (units capacity : ℕ) : Type 0 where
  pub flags : starts ≡ starts_of objects
  pub reserved : units ≤ capacity
