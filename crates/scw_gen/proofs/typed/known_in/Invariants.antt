use Rattle.std.proofs.Common.{◌≡◌, drop, map}
use Rattle.scw_gen.specs.Typed.{known, known_of}
use Rattle.scw_gen.proofs.typed.known_in.Given as goal

abbrev pub invariant-loop-y : goal.invariant-loop-y
invariant-loop-y l = known (map known_of (drop l.y-index l.known)) l.x ≡ known (map known_of l.known) l.x
