use Rattle.std.proofs.Common.{◌≡◌, ◌-◌, ◌<◌, [], ◌∷◌, reverse, sym, ◌∙◌, ap, arith}
use Rattle.std.proofs.lemmas.List.{reverse-append}
use Rattle.scw_frame.specs.Frame.{Calls}
use Rattle.scw_frame.proofs.FrameLemmas.{Fits-popped, top-le-depth, calls_of-popped, drop-popped}
use Rattle.scw_frame.proofs.frames.Frames.pop.Goals as goal

pub overflow_sub-self : goal.overflow_sub-self
overflow_sub-self c =
    let some : 0 < c.self.inside.current.operands = omega arith in
    let e : reverse c.self.inside.operands.items ≡ c.in_ok-value.value ∷ reverse c.pop.new.self.items =
    ap reverse c.in_ok-value.ensures.items ∙ reverse-append c.pop.new.self.items (c.in_ok-value.value ∷ []) in
    let h = rw e at c.self.invariant.fit.0 in
    omega (arith, top-le-depth _ _ _ _ some h, c.places.ensures.value)

pub invariant_of-self-2 : goal.invariant_of-self-2
invariant_of-self-2 c =
    let some : 0 < c.self.inside.current.operands = omega arith in
    let e : reverse c.self.inside.operands.items ≡ c.in_ok-value.value ∷ reverse c.pop.new.self.items =
    ap reverse c.in_ok-value.ensures.items ∙ reverse-append c.pop.new.self.items (c.in_ok-value.value ∷ []) in
    let first = rw e at c.self.invariant.fit.0 in
    let others = rw (e, drop-popped c.self.inside.current.operands c.in_ok-value.value (reverse c.pop.new.self.items) some) at c.self.invariant.fit.1 in
    record {
      fit = (rw c.places.ensures.value (Fits-popped _ _ _ _ some first), others);
      in_use_is = c.self.invariant.in_use_is;
      words_within = c.self.invariant.words_within;
      frames_within = c.self.invariant.frames_within;
      operands_reserved = omega (arith, c.self.invariant.operands_reserved, c.pop.ensures.capacity);
      locals_reserved = c.self.invariant.locals_reserved;
      callers_reserved = c.self.invariant.callers_reserved;
    }

pub returns : goal.returns
returns c =
    let some : 0 < c.self.inside.current.operands = omega arith in
    let e : reverse c.self.inside.operands.items ≡ c.in_ok-value.value ∷ reverse c.pop.new.self.items =
    ap reverse c.in_ok-value.ensures.items ∙ reverse-append c.pop.new.self.items (c.in_ok-value.value ∷ []) in
    let old : Calls = c.args.self.now in
    sym c.self.view_is ∙ rw e (calls_of-popped c.self.inside.current (c.self.inside.current.depth - c.places.result) (reverse c.self.inside.callers.items) c.in_ok-value.value _ c.self.inside.locals.items _ _ some)
