use Rattle.std.proofs.Common.{◌≡◌, drop}
use Rattle.std.specs.List.{list_any}
use Rattle.scw_link.specs.AncestorRows.{bit}
use Rattle.scw_link.proofs.ancestors.any_bit.Given as goal

abbrev pub invariant-loop-class : goal.invariant-loop-class
invariant-loop-class l = list_any (λ s. bit l.rows s l.d) l.supers ≡ list_any (λ s. bit l.rows s l.d) (drop l.class-index l.supers)
