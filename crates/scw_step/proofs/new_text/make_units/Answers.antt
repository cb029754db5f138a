use Rattle.std.proofs.Common.{refl, ap}
use Rattle.scw_step.proofs.TextLemmas.{making_text-put}
use Rattle.scw_step.proofs.new_text.make_units.Goals as goal

pub returns : goal.returns
returns c =
    making_text-put c.args.units.now _ c.in_ok-r.r c.args.state.now c.begin.new.state _ c.in_ok-r.ensures.gives refl (ap (λ h. record c.begin.new.state { heap = h }) c.put_units.ensures.units)
