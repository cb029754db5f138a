use Rattle.std.proofs.Common.{[], ◌∷◌, refl, ap}
use Rattle.scw_step.specs.TextStep.{putting}
use Rattle.scw_step.proofs.TextLemmas.{making_text-put}
use Rattle.scw_step.proofs.new_text.make_unit.Goals as goal

pub returns : goal.returns
unfolding putting
returns c =
    making_text-put (c.args.unit ∷ []) _ c.in_ok-r.r c.args.state.now c.begin.new.state _ c.in_ok-r.ensures.gives refl (ap (λ h. record c.begin.new.state { heap = h }) c.put.ensures.units)
