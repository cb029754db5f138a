use Rattle.std.proofs.Common.{sym, ◌∙◌}
use Rattle.scw_link.specs.Resolve.{is_selector, selector_number}
use Rattle.scw_link.specs.SiteView.{selector_view}
use Rattle.scw_link.proofs.ListLemmas.{position-map}
use Rattle.scw_link.proofs.calls.selector_number.Goals as goal

pub returns : goal.returns
unfolding selector_number
returns c = c.first_selector.ensures ∙ sym (position-map (is_selector c.args.name.now c.args.descriptor.now) selector_view c.args.selectors.now)
