use Rattle.std.proofs.Common.{◌≡◌, take, true}
use Rattle.std.specs.List.{list_all}
use Rattle.scw_code.specs.Jump.{target_is}
use Rattle.scw_code.proofs.jump.pair_targets_are.Given as goal

abbrev pub invariant-loop-pair : goal.invariant-loop-pair
invariant-loop-pair l = list_all (λ p. target_is l.starts l.at p.1) (take l.pair-index l.pairs) ≡ true
