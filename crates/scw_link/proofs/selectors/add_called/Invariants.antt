use Rattle.std.proofs.Common.{◌≡◌, drop, map}
use Rattle.std.specs.List.{fold, filter_map}
use Rattle.scw_link.specs.Selectors.{called_by, with_selector}
use Rattle.scw_link.specs.SiteView.{selector_view}
use Rattle.scw_link.proofs.selectors.add_called.Given as goal

abbrev pub invariant-loop-entry : goal.invariant-loop-entry
invariant-loop-entry l = fold with_selector (map selector_view l.fn.selectors.items) (filter_map (called_by l.pool) l.pool) ≡ fold with_selector (map selector_view l.selectors.items) (filter_map (called_by l.pool) (drop l.entry-index l.pool))
