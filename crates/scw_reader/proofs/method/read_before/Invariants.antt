use Rattle.std.proofs.Common.{◌≡◌, ◌-◌, map}
use Rattle.scw_reader.specs.ReadingSource.{before_at, before_from}
use Rattle.scw_reader.specs.View.{method_of}
use Rattle.scw_reader.proofs.method.read_before.Given as goal

abbrev pub invariant-loop-turn : goal.invariant-loop-turn
invariant-loop-turn l = before_at l.fn.tokens.rest.now ≡ before_from (l._turn-end - l._turn) (map method_of l.found.items) l.tokens.rest.now
