use Rattle.std.proofs.Common.{◌≡◌, ℕ, ◌-◌, ◌≤◌, List, [], ◌++◌, length, drop}
use Rattle.scw_heap.specs.Heap.{words_at}
use Rattle.scw_value.specs.Text.{utf8}
use Rattle.scw_machine.specs.Output.{IsParted}
use Rattle.scw_machine.proofs.tell.put_text.Given as goal

-- some bytes of the text are put, and the others are those of the units from i on
abbrev pub invariant-loop-i : goal.invariant-loop-i
invariant-loop-i g l = record {
  within : l.i ≤ length (words_at l.heap.objects l.text.0);
  later : g.O.Sink.fault_count l.fn.out ≤ g.O.Sink.fault_count l.out;
  added : (done : List ℕ)
      × IsParted (g.O.Sink.taken l.fn.out) (g.O.Sink.taken l.out) (g.O.Sink.room l.fn.out) (g.O.Sink.room l.out) done []
      × (done ++ utf8 (drop l.i (words_at l.heap.objects l.text.0)) ≡ utf8 (words_at l.heap.objects l.text.0));
}

abbrev pub decreases-loop-i : goal.decreases-loop-i
decreases-loop-i g l = l.length - l.i
