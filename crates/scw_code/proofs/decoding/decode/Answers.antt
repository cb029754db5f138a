use Rattle.std.proofs.Common.{length, sym, ◌∙◌}
use Rattle.scw_code.specs.Code.{decoded}
use Rattle.scw_code.proofs.DecodeLemmas.{begins, goes_on, stops, at_end, is_done}
use Rattle.scw_code.proofs.decoding.decode.Goals as goal

pub loop-init : goal.loop-init
loop-init c = rw c.new-instrs.ensures.items (begins c.args.bytes.now)

pub returns-then-is_empty : goal.returns-then-is_empty
returns-then-is_empty c =
    let bytes = c.args.bytes.now in
    c.finish.ensures ∙ at_end c.loop.instrs.items (length bytes) c.loop.counter (length bytes) c.loop.rest.now (decoded bytes) c.loop.invariant (sym c.if-is_empty.ensures)

pub returns-in-Err-Broken : goal.returns-in-Err-Broken
returns-in-Err-Broken c =
    let bytes = c.args.bytes.now in
    let read = rw c.in-Err-Broken.field-0-is at c.in-Err-Broken.ensures in
    let whole = rw c.in-Err-Broken.field-0-is at c.finish-in-Err-Broken.ensures in
    whole ∙ stops c.loop.instrs.items (length bytes) c.loop.counter (length bytes) c.loop.rest.now (decoded bytes) c.loop.invariant c.in-Err-Broken.fault c.loop-test.true (sym c.if-is_empty.ensures) read

pub loop-preserved : goal.loop-preserved
loop-preserved c =
    let bytes = c.args.bytes.now in
    rw c.in_ok-push-in-Ok.ensures (goes_on c.loop.instrs.items (length bytes) c.loop.counter (length bytes) c.loop.rest.now (decoded bytes) c.loop.invariant c.in-Ok.instr c.in-Ok.more.now c.loop-test.true (sym c.if-is_empty.ensures) c.in-Ok.ensures)

pub returns : goal.returns
returns c =
    let bytes = c.args.bytes.now in
    c.finish-2.ensures ∙ is_done c.loop.instrs.items (length bytes) c.loop.counter (length bytes) c.loop.rest.now (decoded bytes) c.loop.invariant c.loop-test.false
