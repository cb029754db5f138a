use Rattle.std.proofs.Common.{◌≡◌, ◌++◌, replicate, false}
use Rattle.scw_code.proofs.jump.push_unset.Given as goal

abbrev pub invariant-loop : goal.invariant-loop
invariant-loop l = l.starts.items ≡ l.fn.starts.items ++ replicate l.counter false
