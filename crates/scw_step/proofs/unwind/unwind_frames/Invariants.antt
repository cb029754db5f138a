use Rattle.std.proofs.Common.{◌≡◌, length}
use Rattle.scw_step.specs.UnwindStep as step
use Rattle.scw_step.proofs.unwind.unwind_frames.Given as goal

abbrev pub invariant-loop-at : goal.invariant-loop-at
invariant-loop-at l = record {
  same : step.unwound l.program l.class l.frames.current l.frames.callers ≡ step.unwound l.program l.class l.fn.frames.current l.fn.frames.callers;
  most_frames : l.frames.most_frames ≡ l.fn.frames.most_frames;
  most_words : l.frames.most_words ≡ l.fn.frames.most_words;
}

abbrev pub decreases-loop-at : goal.decreases-loop-at
decreases-loop-at l = length l.frames.callers
