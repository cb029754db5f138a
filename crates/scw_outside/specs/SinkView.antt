-- What a sink in memory shows of itself.
use Rattle.std.specs.Prelude.{ℕ, List}
use Rattle.scw_outside.specs.declared.calls.Calls.{Calls}
use Rattle.scw_outside.specs.declared.mem_sink.MemSink.{MemSink}

-- the bytes taken so far
abbrev pub taken_of : MemSink → List ℕ
taken_of s = s.bytes.items

-- how many more bytes it has room for
abbrev pub left_of : MemSink → ℕ
left_of s = s.left

-- the calls so far, and those that are to fail
abbrev pub sink_calls : MemSink → Calls
sink_calls s = s.calls
