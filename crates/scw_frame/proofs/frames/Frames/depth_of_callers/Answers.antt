use Rattle.std.proofs.Common.{◌≡◌, reverse, length, sym, ◌∙◌, ap, arith}
use Rattle.std.proofs.lemmas.List.{length-reverse}
use Rattle.scw_frame.specs.Frame.{Calls}
use Rattle.scw_frame.specs.FrameLayout.{operands_below, locals_below}
use Rattle.scw_frame.proofs.FrameLemmas.{length-frames_of}
use Rattle.scw_frame.proofs.frames.Frames.depth_of_callers.Goals as goal

pub returns : goal.returns
returns c =
    let waiting : length c.args.self.now.callers ≡ length (reverse c.self.inside.callers.items) =
    ap (λ (s : Calls). length s.callers) (sym c.self.view_is)
    ∙ length-frames_of (reverse c.self.inside.callers.items) (operands_below c.self.inside.current (reverse c.self.inside.operands.items)) (locals_below c.self.inside.current c.self.inside.locals.items) in
    omega (arith, length-reverse c.self.inside.callers.items)
