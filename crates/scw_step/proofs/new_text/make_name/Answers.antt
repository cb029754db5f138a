use Rattle.std.proofs.lemmas.List.{length-map}
use Rattle.scw_step.specs.TextStep.{dotted}
use Rattle.std.proofs.Common.{ap, sym}
use Rattle.scw_step.proofs.TextLemmas.{making_text-put}
use Rattle.scw_step.proofs.new_text.make_name.Goals as goal

pub returns : goal.returns
returns c =
    making_text-put _ _ c.in_ok-r.r c.args.state.now c.begin.new.state _ c.in_ok-r.ensures.gives (sym (length-map c.args.name.now dotted)) (ap (λ h. record c.begin.new.state { heap = h }) c.put_dotted.ensures.units)
