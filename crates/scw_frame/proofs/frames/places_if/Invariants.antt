use Rattle.std.proofs.Common.{◌≡◌, ◌+◌, drop}
use Rattle.scw_frame.specs.Frame.{are_of, places}
use Rattle.scw_frame.proofs.frames.places_if.Given as goal

abbrev pub invariant-loop-i : goal.invariant-loop-i
invariant-loop-i l =
    (are_of l.kinds l.values ≡ are_of (drop l.i l.kinds) (drop l.i l.values)) × (places l.values ≡ l.places + places (drop l.i l.values))
