use Rattle.std.proofs.Common.{◌≡◌, ◌+◌, length, drop, map}
use Rattle.scw_step.specs.TextStep as step
use Rattle.scw_step.specs.TextStep.{text_in}
use Rattle.scw_step.proofs.text.put_dotted.Given as goal

abbrev pub invariant-loop-unit : goal.invariant-loop-unit
invariant-loop-unit l = record {
  place : l.place ≡ l.at + l.unit-index;
  units : step.putting l.r l.place (drop l.unit-index (map step.dotted l.units)) l.heap ≡ step.putting l.r l.at (map step.dotted l.units) l.initial.heap;
  room : length (text_in l.r l.heap) ≡ length (text_in l.r l.initial.heap);
}
