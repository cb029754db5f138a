use Rattle.std.proofs.Common.{◌≡◌, ◌+◌, ◌≤◌, false, [], length}
use Rattle.scw_lex.specs.Literal.{escaped_units}
use Rattle.scw_lex.proofs.literal.escaped_units.Given as goal

abbrev pub invariant-loop-rest : goal.invariant-loop-rest
invariant-loop-rest l = (escaped_units l.skipped l.at l.units.items l.rest ≡ escaped_units 0 0 [] l.text) × (l.at + length l.rest ≡ length l.text)

abbrev pub decreases-loop-rest : goal.decreases-loop-rest
decreases-loop-rest l = length l.rest
