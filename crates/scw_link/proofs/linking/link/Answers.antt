use Rattle.std.proofs.Common.{ap, map, ◌∙◌}
use Rattle.scw_link.proofs.LinkLemmas.{program_same, selectors_same}
use Rattle.scw_link.specs.SiteView.{selector_view}
use Rattle.scw_link.proofs.linking.link.Goals as goal

pub returns : goal.returns
returns c =
    let first = selectors_same c.args.files.now c.in_ok-name.name c.in_ok-descriptor.descriptor _ _ (map selector_view c.in_ok-selectors.selectors.items) c.in_ok-name.ensures c.in_ok-descriptor.ensures c.in_ok-selectors.ensures in
    program_same c.args.files.now c.as_slice.result.now _ (map selector_view c.as_slice-2.result.now) _ c.args.main.now c.program_with.result
    (c.as_slice.ensures ∙ c.in_ok-parents.ensures) (ap (λ ss. map selector_view ss) c.as_slice-2.ensures.value ∙ first) c.program_with.ensures
