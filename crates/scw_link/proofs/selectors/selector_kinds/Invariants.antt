use Rattle.std.proofs.Common.{◌≡◌, take, map}
use Rattle.scw_link.specs.Selectors.{selector_kinds}
use Rattle.scw_link.specs.SiteView.{selector_view}
use Rattle.scw_link.proofs.selectors.selector_kinds.Given as goal

abbrev pub invariant-loop-selector : goal.invariant-loop-selector
invariant-loop-selector l = l.kinds ≡ selector_kinds (map selector_view (take l.selector-index l.selectors))
