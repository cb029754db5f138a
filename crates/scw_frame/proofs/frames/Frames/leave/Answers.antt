use Rattle.std.proofs.Common.{◌≡◌, ◌+◌, ◌-◌, [], ◌∷◌, reverse, take, drop, length, ◌∙◌, ap, refl, arith}
use Rattle.std.proofs.lemmas.List.{reverse-append, length-append}
use Rattle.scw_frame.proofs.FrameLemmas.{reverse-below}
use Rattle.scw_frame.proofs.frames.Frames.leave.Goals as goal

pub invariant_of-self-2 : goal.invariant_of-self-2
invariant_of-self-2 c =
    let r : reverse c.self.inside.callers.items ≡ c.in-Some.caller ∷ reverse c.pop.new.self.items =
    ap reverse c.in-Some.ensures.items ∙ reverse-append c.pop.new.self.items (c.in-Some.caller ∷ []) in
    let size : length c.self.inside.callers.items ≡ length c.pop.new.self.items + 1 =
    ap length c.in-Some.ensures.items ∙ length-append c.pop.new.self.items (c.in-Some.caller ∷ []) in
    let e : reverse c.truncate.new.self.items ≡ drop c.self.inside.current.operands (reverse c.self.inside.operands.items) =
    reverse-below c.self.inside.current.operands c.self.inside.operands.items c.truncate.new.self.items c.self.invariant.fit.0.operands_there (c.truncate.ensures.items ∙ ap (λ k. take (k - c.self.inside.current.operands) c.self.inside.operands.items) (omega arith)) in
    let l : c.truncate-2.new.self.items ≡ take (length c.self.inside.locals.items - c.self.inside.current.locals) c.self.inside.locals.items =
    c.truncate-2.ensures.items ∙ ap (λ k. take (k - c.self.inside.current.locals) c.self.inside.locals.items) (omega arith) in
    let others = rw r at c.self.invariant.fit.1 in
    let used = rw r at c.self.invariant.in_use_is in
    record {
      fit = rw (e, l) others;
      in_use_is = omega (arith, used);
      words_within = omega (arith, c.self.invariant.words_within);
      frames_within = omega (arith, c.self.invariant.frames_within);
      operands_reserved = omega (arith, c.self.invariant.operands_reserved, c.truncate.ensures.capacity);
      locals_reserved = omega (arith, c.self.invariant.locals_reserved, c.truncate-2.ensures.capacity);
      callers_reserved = omega (arith, c.self.invariant.callers_reserved, c.pop.ensures.capacity);
    }

pub returns : goal.returns
returns c =
    let r : reverse c.self.inside.callers.items ≡ c.in-Some.caller ∷ reverse c.pop.new.self.items =
    ap reverse c.in-Some.ensures.items ∙ reverse-append c.pop.new.self.items (c.in-Some.caller ∷ []) in
    let e : reverse c.truncate.new.self.items ≡ drop c.self.inside.current.operands (reverse c.self.inside.operands.items) =
    reverse-below c.self.inside.current.operands c.self.inside.operands.items c.truncate.new.self.items c.self.invariant.fit.0.operands_there (c.truncate.ensures.items ∙ ap (λ k. take (k - c.self.inside.current.operands) c.self.inside.operands.items) (omega arith)) in
    let l : c.truncate-2.new.self.items ≡ take (length c.self.inside.locals.items - c.self.inside.current.locals) c.self.inside.locals.items =
    c.truncate-2.ensures.items ∙ ap (λ k. take (k - c.self.inside.current.locals) c.self.inside.locals.items) (omega arith) in
    rw (e, l, ← c.self.view_is, r) refl
