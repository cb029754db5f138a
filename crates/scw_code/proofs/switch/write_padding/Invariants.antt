use Rattle.std.proofs.Common.{◌≡◌, ◌++◌, replicate}
use Rattle.scw_code.proofs.switch.write_padding.Given as goal

abbrev pub invariant-loop : goal.invariant-loop
invariant-loop l = l.out.items ≡ l.fn.out.items ++ replicate l.counter 0
