-- What a run of the machine shows of itself, as a run of a core program does.
use Rattle.std.specs.Prelude.{ℕ, ◌&&◌, List, [], ◌∷◌, Option, Some, None, cond}
use Rattle.scw_value.specs.Text.{is_high, is_low, point}
use Rattle.scw_core.specs.Seen.{Seen, End, running, normal, thrown}
use Rattle.scw_core.specs.Types.{Name}
use Rattle.scw_heap.specs.Heap.{Entity, object_at}
use Rattle.scw_heap.specs.declared.kind.Kind.{Kind}
use Rattle.scw_heap.specs.declared.kind.Kind.TheVariants.{Object, Text, Booleans, Chars, Ints, Longs, Refs}
use Rattle.scw_frame.specs.declared.program.Program.{Program}
use Rattle.scw_step.specs.declared.state.State.{State}
use Rattle.scw_machine.specs.Course.{Course, Halt, crowded, full, going, halted, returned, stuck, uncaught}
use Rattle.scw_machine.specs.Tell.{message_at, name_at}

-- the characters of UTF-16 units (The Unicode Standard, 3.9)
unfoldable pub characters_of : List ℕ → Name
characters_of [] = []
characters_of (u ∷ []) = u ∷ []
characters_of (u ∷ v ∷ us) = cond (is_high u && is_low v) (point u v ∷ characters_of us) (u ∷ characters_of (v ∷ us))

-- the text of an object, if it is a string
abbrev pub text_as : Kind → List ℕ → Option (List ℕ)
text_as (Object class) us = None
text_as Text us = Some us
text_as Booleans us = None
text_as Chars us = None
text_as Ints us = None
text_as Longs us = None
text_as (Refs element) us = None

abbrev pub text_in : Option Entity → Option (List ℕ)
text_in None = None
text_in (Some o) = text_as o.kind o.words

-- an exception, by the name of its class and its message
abbrev pub exception_at : Program → List Entity → ℕ → End
exception_at p h r = thrown (characters_of (name_at p h r)) (text_in (object_at h (message_at h r)))

-- how a run has ended, if it has; what goes no further without an end counts as going on
abbrev pub end_of : Program → Halt → State → End
end_of p returned s = normal
end_of p (uncaught r) s = exception_at p s.heap.objects r
end_of p stuck s = running
end_of p (full n) s = running
end_of p crowded s = running

unfoldable pub machine_seen : Program → Course → Seen
machine_seen p (going s out) = record { out = out; end = running }
machine_seen p (halted halt s out) = record { out = out; end = end_of p halt s }
