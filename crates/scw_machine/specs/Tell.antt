-- What is told of an exception that no frame caught: its class and its message, in a line.
use Rattle.std.specs.Prelude.{ℕ, List, [], ◌++◌, map, Option, Some, None, slice_get, slice_index, codes}
use Rattle.scw_frame.specs.declared.program.Class.{Class}
use Rattle.scw_frame.specs.declared.program.Program.{Program}
use Rattle.scw_heap.specs.declared.kind.Kind.{Kind}
use Rattle.scw_heap.specs.declared.kind.Kind.TheVariants.{Object, Text, Booleans, Chars, Ints, Longs, Refs}
use Rattle.scw_heap.specs.Heap.{Entity, object_at, words_at}
use Rattle.scw_step.specs.TextStep.{dotted}
use Rattle.scw_value.specs.Text.{utf8}

-- the class that an object was made of
abbrev pub class_of : Program → Kind → Option Class
class_of p (Object class) = slice_get p.classes class
class_of p Text = None
class_of p Booleans = None
class_of p Chars = None
class_of p Ints = None
class_of p Longs = None
class_of p (Refs element) = None

abbrev pub class_in : Program → Option Entity → Option Class
class_in p None = None
class_in p (Some object) = class_of p object.kind

abbrev pub name_in : Option Class → List ℕ
name_in None = []
name_in (Some class) = class.name

-- the name of the class of the object with the number
abbrev pub name_at : Program → List Entity → ℕ → List ℕ
name_at p objects r = name_in (class_in p (object_at objects r))

-- the number in its first field, where an exception has its message; 0 where it has no field
abbrev pub message_at : List Entity → ℕ → ℕ
message_at objects r = slice_index (words_at objects r) 0

-- the bytes of a message and what stands before it; none for what is no string
abbrev pub message_as : Kind → List ℕ → List ℕ
message_as (Object class) words = []
message_as Text words = codes ": " ++ utf8 words
message_as Booleans words = []
message_as Chars words = []
message_as Ints words = []
message_as Longs words = []
message_as (Refs element) words = []

abbrev pub message_in : Option Entity → List ℕ
message_in None = []
message_in (Some object) = message_as object.kind object.words

-- the same for the object with the number
unfoldable pub message_told : List Entity → ℕ → List ℕ
message_told objects message = message_in (object_at objects message)

-- the whole line, for any number
unfoldable pub told : Program → List Entity → ℕ → List ℕ
told p objects r = codes "exception " ++ (utf8 (map dotted (name_at p objects r)) ++ (message_told objects (message_at objects r) ++ codes "\n"))
