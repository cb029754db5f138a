use Rattle.std.proofs.Common.{◌≡◌, ◌++◌, length, sym, refl, ap, ◌∙◌}
use Rattle.scw_code.specs.Code.{size_at}
use Rattle.scw_code.specs.Jump.{marks}
use Rattle.scw_code.proofs.JumpLemmas.{starts_more, marks_pushed, starts_whole}
use Rattle.scw_code.proofs.jump.starts.Goals as goal

pub loop-instr-preserved : goal.loop-instr-preserved
loop-instr-preserved c =
    let l = c.loop-instr in
    let i = c.instr-item.result in
    let front = l.starts.items in
    let size : c.size-size.result ≡ size_at (length front) i = rw (c.size-size.ensures, c.len.ensures, l.starts.ok.0) refl in
    let pushed = marks_pushed front c.size-size.result c.saturating_sub.result c.saturating_sub.ensures in
    let more = starts_more c.args.instrs.now l.instr-index i front c.loop-instr-test.true c.instr-item.is l.invariant in
    rw (c.in_ok-push_unset.ensures, c.in_ok-push.ensures.items) (pushed ∙ ap (λ n. front ++ marks n) size ∙ sym more)

pub returns : goal.returns
returns c = starts_whole c.args.instrs.now c.loop-instr.instr-index c.loop-instr.starts.items c.loop-instr-test.false c.loop-instr.invariant
