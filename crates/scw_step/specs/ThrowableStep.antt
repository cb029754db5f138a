-- The methods of `java/lang/Throwable`, of which each exception is an instance: its first field is the message.
use Rattle.std.specs.Prelude.{ℕ, cond, List, map, Option, Some, None, Result, Ok, slice_get, nat_lt, ◌==◌}
use Rattle.scw_heap.specs.Heap.{Content}
use Rattle.scw_heap.specs.declared.kind.Kind.{Kind}
use Rattle.scw_heap.specs.declared.kind.Kind.TheVariants as made
use Rattle.scw_frame.specs.declared.program.Program.{Program}
use Rattle.scw_step.specs.declared.state.State.{State}
use Rattle.scw_step.specs.declared.stop.Stop.{Stop}
use Rattle.scw_step.specs.declared.stop.Stop.TheVariants.{Undefined}
use Rattle.scw_frame.specs.declared.value.Value.TheVariants.{Reference}
use Rattle.scw_step.specs.HeapStep.{with_word_at, word_at}
use Rattle.scw_step.specs.StateStep.{and_next, provided, or_undefined, reference_taken, giving, shape_at}
use Rattle.scw_step.specs.StringStep.{giving_made}
use Rattle.scw_step.specs.TextStep.{dotted, making_text, making_described}

-- the class of an instance
abbrev pub class_in : Kind → Option ℕ
class_in (made.Object c) = Some c
class_in made.Text = None
class_in made.Booleans = None
class_in made.Chars = None
class_in made.Ints = None
class_in made.Longs = None
class_in (made.Refs t) = None

-- the class of an object that has a first field
unfoldable pub throwable_at : ℕ → Content → Result ℕ Stop
throwable_at r h = and_next (shape_at r h) (λ x. provided (nat_lt 0 x.length) Undefined (or_undefined (class_in x.kind)))

-- <init>()
abbrev pub starting_throwable : State → Result State Stop
starting_throwable s = and_next (reference_taken s) (λ r. and_next (throwable_at r.0 r.1.heap) (λ c. Ok r.1))

unfoldable pub message_set : ℕ → ℕ → State → Result State Stop
message_set r m s = and_next (throwable_at r s.heap) (λ c. Ok (with_word_at r 0 m s))

-- <init>(String)
abbrev pub starting_with_message : State → Result State Stop
starting_with_message s = and_next (reference_taken s) (λ m. and_next (reference_taken m.1) (λ r. message_set r.0 m.0 r.1))

unfoldable pub message_at : ℕ → Content → Result ℕ Stop
message_at r h = and_next (throwable_at r h) (λ c. Ok (word_at r 0 h))

-- getMessage
abbrev pub giving_message : State → Result State Stop
giving_message s = and_next (reference_taken s) (λ r. and_next (message_at r.0 r.1.heap) (λ m. giving (Reference m) r.1))

-- the name of the class, and the message where it isn't null
unfoldable pub describing : List ℕ → ℕ → State → Result (ℕ × State) Stop
describing name m s = cond (m == 0) (making_text (map dotted name) s) (making_described name m s)

unfoldable pub making_description : Program → ℕ → State → Result (ℕ × State) Stop
making_description p r s =
    and_next (throwable_at r s.heap) (λ c. and_next (or_undefined (slice_get p.classes c)) (λ class. describing class.name (word_at r 0 s.heap) s))

-- toString
abbrev pub giving_description : Program → State → Result State Stop
giving_description p s = and_next (reference_taken s) (λ r. giving_made (making_description p r.0) r.1)
