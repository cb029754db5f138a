use Rattle.std.proofs.Common.{◌≡◌, ◌-◌, None}
use Rattle.scw_code.specs.Codec.{read_listed}
use Rattle.scw_code.specs.Instr.{rises, pair}
use Rattle.scw_code.proofs.ReadLemmas.{joined}
use Rattle.scw_code.proofs.switch.pairs_at.Given as goal

abbrev pub invariant-loop : goal.invariant-loop
invariant-loop l = joined l.pairs (read_listed rises pair l.before (l.count - l.counter) l.site l.rest) ≡ read_listed rises pair None l.count l.site l.bytes
