use Rattle.std.proofs.Common.{◌≡◌, ◌+◌, length}
use Rattle.scw_lex.specs.Name.{operator_len}
use Rattle.scw_lex.proofs.name.operator_len.Given as goal

abbrev pub invariant-loop-rest : goal.invariant-loop-rest
invariant-loop-rest l = (l.len + operator_len l.rest ≡ operator_len l.text) × (l.len + length l.rest ≡ length l.text)

abbrev pub decreases-loop-rest : goal.decreases-loop-rest
decreases-loop-rest l = length l.rest
