use Rattle.std.proofs.Common.{◌≡◌, ◌+◌, length, drop}
use Rattle.scw_step.specs.TextStep as step
use Rattle.scw_step.specs.TextStep.{text_in}
use Rattle.scw_step.proofs.text.put_bytes.Given as goal

abbrev pub invariant-loop-byte : goal.invariant-loop-byte
invariant-loop-byte l = record {
  place : l.place ≡ l.at + l.byte-index;
  units : step.putting l.r l.place (drop l.byte-index l.bytes) l.heap ≡ step.putting l.r l.at l.bytes l.initial.heap;
  room : length (text_in l.r l.heap) ≡ length (text_in l.r l.initial.heap);
}
