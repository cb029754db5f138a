use Rattle.std.proofs.Common.{◌∙◌, Some, sym, ap, arith}
use Rattle.std.specs.Option.{option_map}
use Rattle.scw_classfile.specs.Codec.{fault_in}
use Rattle.scw_classfile.proofs.CodeFlawLemmas.{starts_all, flaw_all, marks_more, flaw_here, no_flaw_here, no_flaw_left}
use Rattle.scw_classfile.proofs.code_array.instrs_fault.Goals as goal

pub loop-instr-init : goal.loop-instr-init
loop-instr-init c =
    (flaw_all c.args.context.major c.args.context.kinds.now c.args.instrs.now c.args.marks.now, omega (arith, starts_all c.args.instrs.now, c.requires))

pub returns-in-Some : goal.returns-in-Some
returns-in-Some c =
    let k = c.args.context in
    let flaw = c.in-Some.flaw in
    let here = flaw_here c.args.instrs.now c.loop-instr.instr-index c.loop-instr.at c.instr-item.result c.loop-instr-test.true c.instr-item.is k.major k.kinds.now c.args.marks.now c.args.left flaw (sym c.instr_flaw.ensures ∙ c.in-Some.is) in
    ap (λ f. Some f) (c.in_part.ensures ∙ ap (λ n. fault_in n flaw) c.saturating_sub.ensures) ∙ sym here ∙ sym (ap (option_map (fault_in c.args.left)) c.loop-instr.invariant.0)

pub loop-instr-preserved : goal.loop-instr-preserved
loop-instr-preserved c =
    let k = c.args.context in
    let past = no_flaw_here c.args.instrs.now c.loop-instr.instr-index c.loop-instr.at c.instr-item.result c.loop-instr-test.true c.instr-item.is k.major k.kinds.now c.args.marks.now (sym c.instr_flaw.ensures ∙ c.in-None.is) in
    let more = marks_more c.args.instrs.now c.loop-instr.instr-index c.loop-instr.at c.instr-item.result c.loop-instr-test.true c.instr-item.is in
    rw c.size-at.ensures (c.loop-instr.invariant.0 ∙ past, omega (arith, more, c.loop-instr.invariant.1))

pub returns : goal.returns
returns c =
    let k = c.args.context in
    sym (ap (option_map (fault_in c.args.left)) (c.loop-instr.invariant.0 ∙ no_flaw_left k.major k.kinds.now c.args.marks.now c.loop-instr.at c.loop-instr.instr-index c.args.instrs.now c.loop-instr-test.false))
