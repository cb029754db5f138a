use Rattle.std.proofs.Common.{◌≡◌, ℕ, List, length, ap, sym, ◌∙◌, arith}
use Rattle.scw_step.specs.TextStep.{part, putting, text_in}
use Rattle.scw_step.proofs.TextLemmas.{making_text-put, length-part, other-begun, text_in-begun}
use Rattle.scw_step.proofs.new_text.make_part.Goals as goal

pub put_part-requires-clause-within : goal.put_part-requires-clause-within
put_part-requires-clause-within c =
    omega (arith, ap length (text_in-begun _ c.in_ok-r.r c.args.other c.args.state.now c.begin.new.state c.in_ok-r.ensures.gives c.requires.there))

pub put_part-requires-clause-other : goal.put_part-requires-clause-other
put_part-requires-clause-other c = other-begun _ c.in_ok-r.r c.args.other c.args.state.now c.begin.new.state c.in_ok-r.ensures.gives (λ _. c.requires.there)

pub returns : goal.returns
returns c =
    let m = c.begin.new.state in
    let t : List ℕ = text_in c.args.other c.args.state.now.heap in
    let same : text_in c.args.other m.heap ≡ t = text_in-begun _ c.in_ok-r.r c.args.other c.args.state.now m c.in_ok-r.ensures.gives c.requires.there in
    let e = c.put_part.ensures.units ∙ ap (λ x. putting c.in_ok-r.r 0 (part c.args.from c.args.to x) m.heap) same in
    making_text-put (part c.args.from c.args.to t) _ c.in_ok-r.r c.args.state.now m _ c.in_ok-r.ensures.gives (sym (length-part c.args.from c.args.to t c.requires.ordered c.requires.within)) (ap (λ h. record m { heap = h }) e)
