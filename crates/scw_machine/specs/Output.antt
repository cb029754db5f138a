-- What is put for a string: UTF-8 of its UTF-16 units, and `?` for a surrogate that is in no pair. The texts of a class
-- file have another form (JVMS 4.4.7), in which a surrogate has bytes of its own. And how far bytes have come that wait
-- before they are put.
use Rattle.std.specs.Prelude.{◌≡◌, ℕ, ◌-◌, ◌≤◌, ◌==◌, cond, List, [], length, take, drop, Option, Some, None, IfSome, IsSomeAnd, codes}
use Rattle.std.specs.Io.KnownBytes.{append_known}
use Rattle.scw_heap.specs.declared.kind.Kind.{Kind}
use Rattle.scw_heap.specs.declared.kind.Kind.TheVariants.{Object, Text, Booleans, Chars, Ints, Longs, Refs}
use Rattle.scw_heap.specs.Heap.{Entity, object_at, words_at}
use Rattle.scw_value.specs.Text.{utf8}

-- the number is that of a string
abbrev pub IsText : List Entity → ℕ → Type 0
IsText objects r = IsSomeAnd (object_at objects r) (λ object. object.kind ≡ Text)

-- the bytes of the string with the number; those of `null` for 0
abbrev pub said : List Entity → ℕ → List ℕ
said objects r = cond (r == 0) (codes "null") (utf8 (words_at objects r))

-- the bytes of the words of an object, which has none unless it is a string
abbrev pub bytes_as : Kind → List ℕ → List ℕ
bytes_as (Object class) words = []
bytes_as Text words = utf8 words
bytes_as Booleans words = []
bytes_as Chars words = []
bytes_as Ints words = []
bytes_as Longs words = []
bytes_as (Refs element) words = []

abbrev pub bytes_in : Option Entity → List ℕ
bytes_in None = []
bytes_in (Some object) = bytes_as object.kind object.words

-- the same for any number: nothing is said of what is no string
unfoldable pub said_by : List Entity → ℕ → List ℕ
said_by objects r = cond (r == 0) (codes "null") (bytes_in (object_at objects r))

-- Between two moments a sink took the first of the bytes, and the others wait now. It told the bytes that it had taken
-- as `old` and `new`, and its room as `before` and `after`.
pub record IsParted (old new : Option (List ℕ)) (before after : Option ℕ) (bytes waiting : List ℕ) : Type 0 where
  pub count : ℕ
  pub within : count ≤ length bytes
  pub taken : new ≡ append_known old (take count bytes)
  pub left : IfSome before (λ r. after ≡ Some (r - count))
  pub rest : waiting ≡ drop count bytes

-- what always holds of a buffer: what waits is within its limit, and the room for that is reserved
pub record IsReserved (waiting most capacity : ℕ) : Type 0 where
  pub character : 4 ≤ most
  pub within : waiting ≤ most
  pub reserved : most ≤ capacity
