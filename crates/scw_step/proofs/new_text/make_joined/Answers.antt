use Rattle.std.proofs.Common.{◌≢◌, ℕ, List, ◌++◌, length, ap, sym, ◌∙◌, arith, length-append}
use Rattle.scw_step.specs.TextStep.{putting, shown_in, making_joined}
use Rattle.scw_step.proofs.TextLemmas.{making_text-put, putting-then, other-begun, shown_in-begun, shown_in-putting_other}
use Rattle.scw_step.proofs.new_text.make_joined.Goals as goal

pub put_shown-place-requires-clause-units : goal.put_shown-place-requires-clause-units
put_shown-place-requires-clause-units c =
    ap length (shown_in-begun _ c.in_ok-r.r c.args.a c.args.state.now c.begin.new.state c.in_ok-r.ensures.gives c.in_ok-first.ensures.there) ∙ c.in_ok-first.ensures.value

pub put_shown-place-requires-clause-other : goal.put_shown-place-requires-clause-other
put_shown-place-requires-clause-other c = other-begun _ c.in_ok-r.r c.args.a c.args.state.now c.begin.new.state c.in_ok-r.ensures.gives c.in_ok-first.ensures.there

pub put_shown-requires-clause-units : goal.put_shown-requires-clause-units
put_shown-requires-clause-units c =
    let r : ℕ = c.in_ok-r.r in
    let other : c.args.b ≢ r = other-begun _ r c.args.b c.args.state.now c.begin.new.state c.in_ok-r.ensures.gives c.in_ok-second.ensures.there in
    ap (λ h. length (shown_in c.args.b h)) c.put_shown-place.ensures.units ∙
    (ap length (shown_in-putting_other (shown_in c.args.a c.begin.new.state.heap) c.begin.new.state.heap r 0 c.args.b other) ∙
    (ap length (shown_in-begun _ r c.args.b c.args.state.now c.begin.new.state c.in_ok-r.ensures.gives c.in_ok-second.ensures.there) ∙ c.in_ok-second.ensures.value))

pub put_shown-requires-clause-other : goal.put_shown-requires-clause-other
put_shown-requires-clause-other c = other-begun _ c.in_ok-r.r c.args.b c.args.state.now c.begin.new.state c.in_ok-r.ensures.gives c.in_ok-second.ensures.there

pub returns : goal.returns
unfolding making_joined
returns c =
    let s = c.args.state.now in
    let m = c.begin.new.state in
    let r : ℕ = c.in_ok-r.r in
    let x : List ℕ = shown_in c.args.a s.heap in
    let y : List ℕ = shown_in c.args.b s.heap in
    let other : c.args.b ≢ r = other-begun _ r c.args.b s m c.in_ok-r.ensures.gives c.in_ok-second.ensures.there in
    let p = shown_in-begun _ r c.args.a s m c.in_ok-r.ensures.gives c.in_ok-first.ensures.there in
    let q = ap (shown_in c.args.b) c.put_shown-place.ensures.units ∙
    (shown_in-putting_other (shown_in c.args.a m.heap) m.heap r 0 c.args.b other ∙
    shown_in-begun _ r c.args.b s m c.in_ok-r.ensures.gives c.in_ok-second.ensures.there) in
    let e = c.put_shown-place.ensures.units ∙ ap (λ t. putting r 0 t m.heap) p in
    let f = c.put_shown.ensures.units ∙ ap (λ t. putting r c.put_shown-place.result t c.put_shown-place.new.heap) q in
    let g = putting-then x y m.heap c.put_shown-place.new.heap c.put_shown.new.heap r 0 c.put_shown-place.result e (omega (arith, c.in_ok-first.ensures.value)) f in
    let n = sym (length-append x y ∙ omega (arith, c.in_ok-first.ensures.value, c.in_ok-second.ensures.value)) in
    rw (c.in_ok-first.ensures.ok, c.in_ok-second.ensures.ok) (making_text-put (x ++ y) _ r s m _ c.in_ok-r.ensures.gives n (ap (λ h. record m { heap = h }) g))
