use Rattle.std.proofs.Common.{◌≡◌, ◌-◌}
use Rattle.scw_code.specs.Codec.{read_zeros}
use Rattle.scw_code.specs.Instr.{padding}
use Rattle.scw_code.proofs.switch.skip_padding.Given as goal

abbrev pub invariant-loop : goal.invariant-loop
invariant-loop l = read_zeros l.site (padding l.site.at - l.counter) l.rest ≡ read_zeros l.site (padding l.site.at) l.bytes
