use Rattle.std.proofs.Common.{◌≡◌, ℕ, ◌-◌, ◌≤◌, List, [], ◌++◌, length, map, drop}
use Rattle.scw_step.specs.TextStep.{dotted}
use Rattle.scw_value.specs.Text.{utf8}
use Rattle.scw_machine.specs.Output.{IsParted}
use Rattle.scw_machine.proofs.tell.put_name.Given as goal

-- some bytes of the name are put, and the others are those of the units from i on
abbrev pub invariant-loop-i : goal.invariant-loop-i
invariant-loop-i g l = record {
  within : l.i ≤ length l.name;
  later : g.O.Sink.fault_count l.fn.out ≤ g.O.Sink.fault_count l.out;
  added : (done : List ℕ)
      × IsParted (g.O.Sink.taken l.fn.out) (g.O.Sink.taken l.out) (g.O.Sink.room l.fn.out) (g.O.Sink.room l.out) done []
      × (done ++ utf8 (drop l.i (map dotted l.name)) ≡ utf8 (map dotted l.name));
}

abbrev pub decreases-loop-i : goal.decreases-loop-i
decreases-loop-i g l = length l.name - l.i
