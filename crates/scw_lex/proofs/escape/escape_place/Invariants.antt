use Rattle.std.proofs.Common.{◌≡◌, ◌+◌, ◌≤◌, false, [], length}
use Rattle.scw_lex.specs.Escape.{escape_place}
use Rattle.scw_lex.proofs.escape.escape_place.Given as goal

abbrev pub invariant-loop-rest : goal.invariant-loop-rest
invariant-loop-rest l = (escape_place l.place l.rest ≡ escape_place 0 l.text) × (l.place + length l.rest ≡ length l.text)

abbrev pub decreases-loop-rest : goal.decreases-loop-rest
decreases-loop-rest l = length l.rest
