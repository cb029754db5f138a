use Rattle.std.proofs.Common.{◌≡◌, ◌≢◌, ℕ, ◌+◌, List, ◌++◌, length, map, codes, ap, sym, ◌∙◌, arith, length-append}
use Rattle.std.proofs.lemmas.List.{length-map}
use Rattle.scw_step.specs.TextStep.{dotted, part, putting, text_in, making_described}
use Rattle.scw_step.proofs.TextLemmas.{making_text-put, putting-then, part-all, other-begun, text_in-begun, text_in-putting_other}
use Rattle.scw_step.proofs.new_text.make_described.Goals as goal

pub put_part-requires-clause-within : goal.put_part-requires-clause-within
put_part-requires-clause-within c =
    let m = c.begin.new.state in
    let r : ℕ = c.in_ok-r.r in
    let message : ℕ = c.args.message in
    let other : message ≢ r = other-begun _ r message c.args.state.now m c.in_ok-r.ensures.gives (λ _. c.in_ok-units.ensures.there) in
    let e : text_in message c.put_bytes-place.new.heap ≡ text_in message c.args.state.now.heap =
    ap (text_in message) c.put_bytes-place.ensures.units ∙
    (text_in-putting_other (codes ": ") c.put_dotted-place.new.heap r c.put_dotted-place.result message other ∙
    (ap (text_in message) c.put_dotted-place.ensures.units ∙
    (text_in-putting_other (map dotted c.args.name.now) m.heap r 0 message other ∙
    text_in-begun _ r message c.args.state.now m c.in_ok-r.ensures.gives c.in_ok-units.ensures.there))) in
    omega (arith, ap length e, c.in_ok-units.ensures.value)

pub put_part-requires-clause-other : goal.put_part-requires-clause-other
put_part-requires-clause-other c = other-begun _ c.in_ok-r.r c.args.message c.args.state.now c.begin.new.state c.in_ok-r.ensures.gives (λ _. c.in_ok-units.ensures.there)

pub returns : goal.returns
unfolding making_described
returns c =
    let s = c.args.state.now in
    let m = c.begin.new.state in
    let r : ℕ = c.in_ok-r.r in
    let message : ℕ = c.args.message in
    let name : List ℕ = map dotted c.args.name.now in
    let text : List ℕ = text_in message s.heap in
    let other : message ≢ r = other-begun _ r message s m c.in_ok-r.ensures.gives (λ _. c.in_ok-units.ensures.there) in
    let l : length name ≡ length c.args.name.now = length-map c.args.name.now dotted in
    let u : length (name ++ codes ": ") ≡ length name + 2 = length-append name (codes ": ") in
    let e = putting-then name (codes ": ") m.heap c.put_dotted-place.new.heap c.put_bytes-place.new.heap r 0 c.put_dotted-place.result c.put_dotted-place.ensures.units (omega arith) c.put_bytes-place.ensures.units in
    let same : text_in message c.put_bytes-place.new.heap ≡ text =
    ap (text_in message) e ∙ (text_in-putting_other (name ++ codes ": ") m.heap r 0 message other ∙ text_in-begun _ r message s m c.in_ok-r.ensures.gives c.in_ok-units.ensures.there) in
    let f = c.put_part.ensures.units ∙ ap (λ x. putting r c.put_bytes-place.result x c.put_bytes-place.new.heap) (ap (part 0 c.in_ok-units.units) same ∙ part-all text c.in_ok-units.units c.in_ok-units.ensures.value) in
    let g = putting-then (name ++ codes ": ") text m.heap c.put_bytes-place.new.heap c.put_part.new.heap r 0 c.put_bytes-place.result e (omega arith) f in
    let n : length c.args.name.now + 2 + c.in_ok-units.units ≡ length (name ++ codes ": " ++ text) =
    sym (length-append (name ++ codes ": ") text ∙ omega (arith, c.in_ok-units.ensures.value)) in
    rw c.in_ok-units.ensures.ok (making_text-put (name ++ codes ": " ++ text) _ r s m _ c.in_ok-r.ensures.gives n (ap (λ h. record m { heap = h }) g))
