use Rattle.std.proofs.Common.{◌≡◌, take, map}
use Rattle.scw_link.specs.Linked.{selected}
use Rattle.scw_link.specs.SiteView.{selector_view}
use Rattle.scw_link.proofs.linking.targets_of.Given as goal

abbrev pub invariant-loop-selector : goal.invariant-loop-selector
invariant-loop-selector l = l.targets ≡ map (selected l.files l.line) (map selector_view (take l.selector-index l.selectors))
