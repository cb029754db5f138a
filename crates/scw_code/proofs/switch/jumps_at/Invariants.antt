use Rattle.std.proofs.Common.{◌≡◌, ◌-◌}
use Rattle.scw_code.specs.Instr.{jumps}
use Rattle.scw_code.proofs.ReadLemmas.{joined}
use Rattle.scw_code.proofs.switch.jumps_at.Given as goal

abbrev pub invariant-loop : goal.invariant-loop
invariant-loop l = joined l.jumps ((jumps (l.count - l.counter)).read l.site l.rest) ≡ (jumps l.count).read l.site l.bytes
