use Rattle.std.proofs.Common.{◌≡◌, take, map}
use Rattle.scw_link.specs.Code.{case_of}
use Rattle.scw_link.proofs.code.cases_of.Given as goal

abbrev pub invariant-loop-pair : goal.invariant-loop-pair
invariant-loop-pair l = l.cases ≡ map (case_of l.place) (take l.pair-index l.pairs)
