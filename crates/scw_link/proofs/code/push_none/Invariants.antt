use Rattle.std.proofs.Common.{◌≡◌, ◌++◌, replicate}
use Rattle.scw_link.specs.Code.{no_instruction}
use Rattle.scw_link.proofs.code.push_none.Given as goal

abbrev pub invariant-loop : goal.invariant-loop
invariant-loop l = l.code ≡ l.fn.code ++ replicate l.counter no_instruction
