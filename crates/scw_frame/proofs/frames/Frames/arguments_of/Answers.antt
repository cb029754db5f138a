use Rattle.std.proofs.Common.{◌≡◌, ℕ, ◌-◌, List, reverse, take, drop, length, nat_le, true, sym, ◌∙◌, ap, arith}
use Rattle.std.proofs.lemmas.List.{length-take-le}
use Rattle.std.proofs.lemmas.Bool.{le-leb}
use Rattle.scw_frame.specs.declared.value.Value.{Value}
use Rattle.scw_frame.specs.Frame.{places}
use Rattle.scw_frame.proofs.FrameLemmas.{arguments-top, arguments-within}
use Rattle.scw_frame.proofs.frames.Frames.arguments_of.Goals as goal

pub places_if-requires-clause-within : goal.places_if-requires-clause-within
places_if-requires-clause-within c =
    let count : ℕ = length c.args.kinds.now in
    let xs : List Value = c.self.inside.operands.items in
    let same : places c.last.result.now ≡ places (drop (length xs - count) xs) =
    ap places (c.last.ensures ∙ ap (λ vs. drop (length vs - count) vs) c.as_slice.ensures.value) in
    omega (arith, arguments-within c.self.inside.current count xs c.self.inside.locals.items c.if-kinds-current.false c.self.invariant.fit.0)

pub returns : goal.returns
returns c =
    let n : ℕ = c.self.inside.current.operands in
    let count : ℕ = length c.args.kinds.now in
    let xs : List Value = c.self.inside.operands.items in
    let top : reverse (take count (take n (reverse xs))) ≡ c.last.result.now =
    arguments-top n count xs c.if-kinds-current.false c.self.invariant.fit.0.operands_there ∙ sym (c.last.ensures ∙ ap (λ vs. drop (length vs - count) vs) c.as_slice.ensures.value) in
    let there : nat_le count (length (take n (reverse xs))) ≡ true =
    le-leb count (length (take n (reverse xs))) (omega (arith, length-take-le n (reverse xs) c.self.invariant.fit.0.operands_there)) in
    rw (← c.self.view_is) (rw (there, top) c.places_if.ensures)
