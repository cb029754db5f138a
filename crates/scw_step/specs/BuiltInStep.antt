-- The methods of the machine's own.
use Rattle.std.specs.Prelude.{ℕ, cond, Result, Ok, ◌==◌}
use Rattle.scw_heap.specs.Heap.{Content}
use Rattle.scw_step.specs.declared.event.Event.{Event}
use Rattle.scw_step.specs.declared.event.Event.TheVariants.{On, Says}
use Rattle.scw_frame.specs.declared.operation.BuiltIn.{BuiltIn}
use Rattle.scw_frame.specs.declared.operation.BuiltIn.TheVariants.{ObjectInit, Equals, ToString, StringLength, StringCharAt, Substring, StringIsEmpty, CompareTo, ThrowableInit, ThrowableInitMessage, GetMessage, ThrowableToString, Print, Concat, Unit, Box, Unbox, Same}
use Rattle.scw_frame.specs.declared.program.Program.{Program}
use Rattle.scw_step.specs.declared.state.State.{State}
use Rattle.scw_step.specs.declared.stop.Stop.{Stop}
use Rattle.scw_step.specs.BoxStep.{boxing, unboxing, making_unit, comparing_same, testing_equal}
use Rattle.scw_step.specs.ObjectStep.{starting_object, giving_text}
use Rattle.scw_step.specs.StateStep.{and_next, reference_taken}
use Rattle.scw_step.specs.StringStep.{giving_made, giving_length, testing_empty, giving_unit, giving_part, comparing_texts, giving_joined}
use Rattle.scw_step.specs.TextStep.{text_at}
use Rattle.scw_step.specs.ThrowableStep.{starting_throwable, starting_with_message, giving_message, giving_description}

-- what is put: a string, or null
unfoldable pub said_at : ℕ → Content → Result Event Stop
said_at r h = cond (r == 0) (Ok (Says 0)) (and_next (text_at r h) (λ t. Ok (Says r)))

-- print of Run
unfoldable pub saying : State → Result (Event × State) Stop
saying s = and_next (reference_taken s) (λ r. and_next (said_at r.0 r.1.heap) (λ e. Ok (e, r.1)))

abbrev pub quiet : Result State Stop → Result (Event × State) Stop
quiet r = and_next r (λ s. Ok (On, s))

unfoldable pub built_in : Program → BuiltIn → State → Result (Event × State) Stop
built_in p ObjectInit s = quiet (starting_object s)
built_in p Equals s = quiet (testing_equal s)
built_in p ToString s = quiet (giving_text p s)
built_in p StringLength s = quiet (giving_length s)
built_in p StringCharAt s = quiet (giving_unit s)
built_in p Substring s = quiet (giving_part s)
built_in p StringIsEmpty s = quiet (testing_empty s)
built_in p CompareTo s = quiet (comparing_texts s)
built_in p ThrowableInit s = quiet (starting_throwable s)
built_in p ThrowableInitMessage s = quiet (starting_with_message s)
built_in p GetMessage s = quiet (giving_message s)
built_in p ThrowableToString s = quiet (giving_description p s)
built_in p Print s = saying s
built_in p Concat s = quiet (giving_joined s)
built_in p Unit s = quiet (giving_made making_unit s)
built_in p (Box q) s = quiet (boxing q s)
built_in p (Unbox q) s = quiet (unboxing q s)
built_in p Same s = quiet (comparing_same s)
