use Rattle.std.proofs.Common.{◌≡◌, length, sym, ◌∙◌, ap, refl, [], ◌∷◌, arith}
use Rattle.scw_step.proofs.UnwindLemmas.{Left, Left-from, none-left, unwound-caught, unwound-first, unwound-passed}
use Rattle.scw_step.proofs.unwind.unwind_frames.Goals as goal

pub loop-at-init : goal.loop-at-init
loop-at-init c = record { same = refl; most_frames = refl; most_words = refl }

pub returns-in-Some-clause-value : goal.returns-in-Some-clause-value
returns-in-Some-clause-value c =
    let e = unwound-caught c.args.program.now c.args.class c.loop-at.frames.current c.loop-at.frames.callers c.in-Some.at (sym c.handler.ensures ∙ c.in-Some.is) in
    rw (← c.loop-at.invariant.same, e) refl

pub returns-in-Some-clause-frames : goal.returns-in-Some-clause-frames
returns-in-Some-clause-frames c =
    let e = unwound-caught c.args.program.now c.args.class c.loop-at.frames.current c.loop-at.frames.callers c.in-Some.at (sym c.handler.ensures ∙ c.in-Some.is) in
    rw (← c.loop-at.invariant.same, e) (rw (← c.loop-at.invariant.most_frames, ← c.loop-at.invariant.most_words) refl)

pub loop-at-smaller : goal.loop-at-smaller
loop-at-smaller c =
    let h : Left c.loop-at.frames c.leave.new.frames = Left-from c.loop-at.frames.callers _ _ refl c.in_ok-leave-in-None.ensures.does in
    let n : length c.loop-at.frames.callers ≡ length (c.leave.new.frames.current ∷ c.leave.new.frames.callers) = ap length h.callers in
    omega (arith, n)

pub loop-at-preserved : goal.loop-at-preserved
loop-at-preserved c =
    let h : Left c.loop-at.frames c.leave.new.frames = Left-from c.loop-at.frames.callers _ _ refl c.in_ok-leave-in-None.ensures.does in
    let e = unwound-passed c.args.program.now c.args.class c.loop-at.frames.current c.leave.new.frames.current c.leave.new.frames.callers (sym c.handler.ensures ∙ c.in-None.is) in
    record {
      same = sym e ∙ rw (← h.callers) c.loop-at.invariant.same;
      most_frames = sym h.frames ∙ c.loop-at.invariant.most_frames;
      most_words = sym h.words ∙ c.loop-at.invariant.most_words;
    }

pub returns-in_err-leave-in-None-clause-value : goal.returns-in_err-leave-in-None-clause-value
returns-in_err-leave-in-None-clause-value c =
    let none : c.loop-at.frames.callers ≡ [] = none-left c.loop-at.frames.callers c.loop-at.frames refl c.in_err-leave-in-None.ensures.does in
    let e = unwound-first c.args.program.now c.args.class c.loop-at.frames.current (sym c.handler.ensures ∙ c.in-None.is) in
    rw (c.from_residual.ensures, ← c.loop-at.invariant.same, none, e) refl

pub returns-in_err-leave-in-None-clause-frames : goal.returns-in_err-leave-in-None-clause-frames
returns-in_err-leave-in-None-clause-frames c =
    let none : c.loop-at.frames.callers ≡ [] = none-left c.loop-at.frames.callers c.loop-at.frames refl c.in_err-leave-in-None.ensures.does in
    let e = unwound-first c.args.program.now c.args.class c.loop-at.frames.current (sym c.handler.ensures ∙ c.in-None.is) in
    rw (c.in_err-leave-in-None.ensures.none, ← c.loop-at.invariant.same, none, e) (rw (← c.loop-at.invariant.most_frames, ← c.loop-at.invariant.most_words, ← none) refl)
