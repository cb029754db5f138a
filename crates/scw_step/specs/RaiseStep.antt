-- The exceptions that the machine makes itself: JVMS 2.10 and 6.5. Their messages are the machine's own.
use Rattle.std.specs.Prelude.{ℕ, ◌+◌, Option, Some, None, Result, Ok, List, length, codes}
use Rattle.std.specs.Int.{w32, cast_signed}
use Rattle.scw_heap.specs.Heap.{units_of, used, within}
use Rattle.scw_heap.specs.declared.kind.Kind.TheVariants as made
use Rattle.scw_value.specs.Text.{number_text}
use Rattle.scw_step.specs.declared.event.Event.{Event}
use Rattle.scw_frame.specs.declared.program.Program.{Program}
use Rattle.scw_step.specs.declared.state.State.{State}
use Rattle.scw_step.specs.declared.stop.Fault.{Fault}
use Rattle.scw_step.specs.declared.stop.Fault.TheVariants as fault
use Rattle.scw_step.specs.declared.stop.Stop.{Stop}
use Rattle.scw_step.specs.declared.stop.Stop.TheVariants.{HeapFull}
use Rattle.scw_step.specs.HeapStep.{with_word_at}
use Rattle.scw_step.specs.StateStep.{and_next, making, provided}
use Rattle.scw_step.specs.TextStep.{making_text}
use Rattle.scw_step.specs.UnwindStep.{unwinding}

-- the number of the exception's class
abbrev pub class_of_fault : Fault → ℕ
class_of_fault fault.NullPointer = 13
class_of_fault fault.DividedByZero = 11
class_of_fault (fault.ArrayIndex i) = 15
class_of_fault (fault.StringIndex i) = 16
class_of_fault fault.NegativeSize = 17
class_of_fault fault.ArrayStore = 18
class_of_fault fault.ClassCast = 12

-- an index, which is given by its bits, as a text
abbrev pub index_text : ℕ → List ℕ
index_text i = number_text (cast_signed w32 i)

abbrev pub message_of : Fault → Option (List ℕ)
message_of fault.NullPointer = None
message_of fault.DividedByZero = Some (codes "/ by zero")
message_of (fault.ArrayIndex i) = Some (index_text i)
message_of (fault.StringIndex i) = Some (index_text i)
message_of fault.NegativeSize = None
message_of fault.ArrayStore = None
message_of fault.ClassCast = None

-- the units of the heap that an exception and a message of so many code units take
abbrev pub units_for : ℕ → ℕ → ℕ
units_for class units = units_of made.Text units + units_of (made.Object class) 1

-- the heap has room for an exception of the class and a message of so many units
abbrev pub room_for : ℕ → ℕ → State → Result (Unit {0}) Stop
room_for class units s =
    provided (within s.heap.units (used s.heap.objects + units_for class units)) (HeapFull (units_for class units)) (Ok tt)

unfoldable pub with_message : ℕ → ℕ → State → Result (ℕ × State) Stop
with_message class m s = and_next (making (made.Object class) 1 s) (λ e. Ok (e.0, with_word_at e.0 0 m e.1))

-- a new exception: its one field is its message, or null; what both need together is asked for first
unfoldable pub exception_by : ℕ → Option (List ℕ) → State → Result (ℕ × State) Stop
exception_by class None s = making (made.Object class) 1 s
exception_by class (Some text) s =
    and_next (room_for class (length text) s) (λ _. and_next (making_text text s) (λ m. with_message class m.0 m.1))

unfoldable pub exception : Fault → State → Result (ℕ × State) Stop
exception f s = exception_by (class_of_fault f) (message_of f) s

-- the exception is made and thrown
unfoldable pub raising : Program → Fault → State → Result (Event × State) Stop
raising p f s = and_next (exception f s) (λ e. unwinding p e.0 e.1)
