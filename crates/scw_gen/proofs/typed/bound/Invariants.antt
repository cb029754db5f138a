use Rattle.std.proofs.Common.{◌≡◌, drop, map}
use Rattle.scw_gen.specs.Around.{around_of}
use Rattle.scw_gen.specs.Typed.{bound, known_of}
use Rattle.scw_gen.proofs.typed.bound.Given as goal

abbrev pub invariant-loop-x : goal.invariant-loop-x
invariant-loop-x l = bound (around_of l.g) (drop l.x-index l.locals) (map known_of l.inner.items) ≡ bound (around_of l.g) l.locals (map known_of l.outer)
