use Rattle.std.proofs.Common.{◌≡◌, drop}
use Rattle.scw_step.specs.StringStep.{difference}
use Rattle.scw_step.specs.TextStep.{text_in}
use Rattle.scw_step.proofs.string_method.difference.Given as goal

abbrev pub invariant-loop-i : goal.invariant-loop-i
invariant-loop-i l =
    difference (text_in l.a l.heap) (text_in l.b l.heap) ≡ difference (drop l.i (text_in l.a l.heap)) (drop l.i (text_in l.b l.heap))
