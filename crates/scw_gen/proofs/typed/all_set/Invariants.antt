use Rattle.std.proofs.Common.{◌≡◌, ◌++◌, drop, map}
use Rattle.scw_gen.specs.Typed.{all_set, known_of}
use Rattle.scw_gen.proofs.typed.all_set.Given as goal

abbrev pub invariant-loop-y : goal.invariant-loop-y
invariant-loop-y l = map known_of l.all.items ++ all_set (map known_of (drop l.y-index l.known)) ≡ all_set (map known_of l.known)
