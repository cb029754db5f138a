use Rattle.std.proofs.Common.{ap}
use Rattle.scw_step.proofs.TextLemmas.{making_text-put}
use Rattle.scw_step.proofs.new_text.make_decimal.Goals as goal

pub returns : goal.returns
returns c =
    making_text-put c.args.number.now _ c.in_ok-r.r c.args.state.now c.begin.new.state _ c.in_ok-r.ensures.gives c.len.ensures.value (ap (λ h. record c.begin.new.state { heap = h }) c.put_decimal.ensures.units)
