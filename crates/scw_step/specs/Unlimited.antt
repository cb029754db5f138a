-- A state without limits: the frames and the heap are the same, and may grow for ever.
use Rattle.std.specs.Prelude.{None}
use Rattle.scw_heap.specs.Heap.{Content}
use Rattle.scw_frame.specs.Frame.{Calls}
use Rattle.scw_step.specs.declared.state.State.{State}

abbrev pub unlimited_frames : Calls → Calls
unlimited_frames c = record c { most_frames = None; most_words = None }

abbrev pub unlimited_heap : Content → Content
unlimited_heap h = record h { units = None }

abbrev pub unlimited : State → State
unlimited s = record s { frames = unlimited_frames s.frames; heap = unlimited_heap s.heap }
