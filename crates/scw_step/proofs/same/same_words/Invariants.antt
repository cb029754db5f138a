use Rattle.std.proofs.Common.{◌≡◌, drop}
use Rattle.scw_heap.specs.Heap.{words_at}
use Rattle.scw_step.specs.BoxStep.{same_words}
use Rattle.scw_step.proofs.same.same_words.Given as goal

abbrev pub invariant-loop-i : goal.invariant-loop-i
invariant-loop-i l =
    same_words (words_at l.heap.objects l.a) (words_at l.heap.objects l.b) ≡ same_words (drop l.i (words_at l.heap.objects l.a)) (drop l.i (words_at l.heap.objects l.b))
