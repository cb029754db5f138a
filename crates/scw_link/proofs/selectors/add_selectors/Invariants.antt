use Rattle.std.proofs.Common.{◌≡◌, drop, map}
use Rattle.std.specs.List.{fold, flat_map}
use Rattle.scw_link.specs.Selectors.{called_in, with_selector}
use Rattle.scw_link.specs.SiteView.{selector_view}
use Rattle.scw_link.proofs.selectors.add_selectors.Given as goal

abbrev pub invariant-loop-file : goal.invariant-loop-file
invariant-loop-file l = fold with_selector (map selector_view l.fn.selectors.items) (flat_map (λ c. called_in c.pool) l.files) ≡ fold with_selector (map selector_view l.selectors.items) (flat_map (λ c. called_in c.pool) (drop l.file-index l.files))
