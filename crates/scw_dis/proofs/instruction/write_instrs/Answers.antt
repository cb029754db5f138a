use Rattle.std.proofs.Common.{◌∙◌, refl, arith}
use Rattle.scw_classfile.proofs.CodeFlawLemmas.{starts_all, marks_more}
use Rattle.scw_dis.proofs.InstructionLemmas.{line_more}
use Rattle.scw_dis.proofs.instruction.write_instrs.Goals as goal

pub loop-instr-init : goal.loop-instr-init
loop-instr-init c = record { text = refl; room = omega (arith, starts_all c.args.instrs.now, c.requires.size) }

pub loop-instr-preserved : goal.loop-instr-preserved
loop-instr-preserved c =
    let l = c.loop-instr in
    let lines = line_more c.args.pool.now c.args.instrs.now l.instr-index l.at c.instr-item.result l.out.items c.loop-instr-test.true c.instr-item.is in
    let more = marks_more c.args.instrs.now l.instr-index l.at c.instr-item.result c.loop-instr-test.true c.instr-item.is in
    rw c.size-at.ensures (record { text = rw c.in_ok-write_instr_line.ensures (lines ∙ l.invariant.text); room = omega (arith, more, l.invariant.room) })
