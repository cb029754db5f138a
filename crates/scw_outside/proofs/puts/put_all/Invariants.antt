use Rattle.std.proofs.Common.{◌≡◌, ◌≤◌, ◌-◌, length, take}
use Rattle.std.proofs.Common.{Some}
use Rattle.std.specs.Prelude.{IfSome}
use Rattle.std.specs.Io.KnownBytes.{append_known}
use Rattle.scw_outside.proofs.puts.put_all.Given as goal

abbrev pub invariant-loop-count : goal.invariant-loop-count
invariant-loop-count g l = record {
  within : l.count ≤ length l.bytes;
  taken : g.O.Sink.taken l.out ≡ append_known (g.O.Sink.taken l.fn.out) (take l.count l.bytes);
  room : IfSome (g.O.Sink.room l.fn.out) (λ r. g.O.Sink.room l.out ≡ Some (r - l.count));
  later : g.O.Sink.fault_count l.fn.out ≤ g.O.Sink.fault_count l.out;
}

abbrev pub decreases-loop-count : goal.decreases-loop-count
decreases-loop-count g l = length l.bytes - l.count
