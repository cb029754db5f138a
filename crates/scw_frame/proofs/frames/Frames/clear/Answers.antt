use Rattle.std.proofs.Common.{◌≡◌, ◌-◌, reverse, take, drop, ◌∙◌, ap, refl, arith}
use Rattle.scw_frame.proofs.FrameLemmas.{reverse-below}
use Rattle.scw_frame.proofs.frames.Frames.clear.Goals as goal

pub invariant_of-self : goal.invariant_of-self
invariant_of-self c =
    let e : reverse c.truncate.new.self.items ≡ drop c.self.inside.current.operands (reverse c.self.inside.operands.items) =
    reverse-below c.self.inside.current.operands c.self.inside.operands.items c.truncate.new.self.items c.self.invariant.fit.0.operands_there (c.truncate.ensures.items ∙ ap (λ k. take (k - c.self.inside.current.operands) c.self.inside.operands.items) (omega arith)) in
    record {
      fit = (record { operands_there = omega arith; locals_there = c.self.invariant.fit.0.locals_there; depth = refl; within = omega arith }, rw e c.self.invariant.fit.1);
      in_use_is = c.self.invariant.in_use_is;
      words_within = c.self.invariant.words_within;
      frames_within = c.self.invariant.frames_within;
      operands_reserved = omega (arith, c.self.invariant.operands_reserved, c.truncate.ensures.capacity);
      locals_reserved = c.self.invariant.locals_reserved;
      callers_reserved = c.self.invariant.callers_reserved;
    }

pub returns : goal.returns
returns c =
    let e : reverse c.truncate.new.self.items ≡ drop c.self.inside.current.operands (reverse c.self.inside.operands.items) =
    reverse-below c.self.inside.current.operands c.self.inside.operands.items c.truncate.new.self.items c.self.invariant.fit.0.operands_there (c.truncate.ensures.items ∙ ap (λ k. take (k - c.self.inside.current.operands) c.self.inside.operands.items) (omega arith)) in
    rw (e, ← c.self.view_is) refl
