use Rattle.std.proofs.Common.{◌≤◌}
use Rattle.scw_machine.specs.Row.{Gathers}
use Rattle.scw_machine.proofs.machine.run_rows.Given as goal

-- so many rows are done, and the sink has failed in none of them
abbrev pub invariant-loop-i : goal.invariant-loop-i
invariant-loop-i g l = record {
  gathers : Gathers l.i l.program l.fn.state l.state (g.O.Sink.taken l.fn.out) (g.O.Sink.taken l.out) (g.O.Sink.room l.fn.out) (g.O.Sink.room l.out) l.output;
  later : g.O.Sink.fault_count l.fn.out ≤ g.O.Sink.fault_count l.out;
}
