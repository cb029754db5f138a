use Rattle.std.proofs.Common.{◌≡◌, ◌+◌, length, ◌-◌, drop}
use Rattle.scw_step.specs.TextStep as step
use Rattle.scw_step.specs.TextStep.{text_in}
use Rattle.scw_step.proofs.text.put_part.Given as goal

abbrev pub invariant-loop-i : goal.invariant-loop-i
invariant-loop-i l = record {
  place : l.place ≡ l.at + (l.i - l.from);
  units : step.putting l.r l.place (drop (l.i - l.from) (step.part l.from l.to (text_in l.other l.initial.heap))) l.heap ≡ step.putting l.r l.at (step.part l.from l.to (text_in l.other l.initial.heap)) l.initial.heap;
  room : length (text_in l.r l.heap) ≡ length (text_in l.r l.initial.heap);
  other : text_in l.other l.heap ≡ text_in l.other l.initial.heap;
}
