use Rattle.std.proofs.lemmas.Result.{err_from_is_err_and}
use Rattle.scw_classfile.specs.Codec.{read_all}
use Rattle.scw_classfile.proofs.ReadLemmas.{goes_on, ends, is_done}
use Rattle.scw_classfile.proofs.field.read_times.Goals as goal

pub returns-in_err-item : goal.returns-in_err-item
returns-in_err-item g c =
    let p = err_from_is_err_and c.from_residual.result c.from_residual.ensures.1 in
    let r = (g.T.Field.codec c.args.context.major c.args.context.kinds.now c.args.context.starts.now).read in
    rw (p.1, p.2) (ends r c.loop.items c.args.count c.loop.counter c.loop.rest.now (read_all r c.args.count c.args.bytes.now) c.in_err-item.field-0.0 c.loop-test.true c.in_err-item.ensures c.loop.invariant)

pub loop-preserved : goal.loop-preserved
loop-preserved g c =
    let r = (g.T.Field.codec c.args.context.major c.args.context.kinds.now c.args.context.starts.now).read in
    rw c.in_ok-push.ensures.ok (goes_on r c.loop.items c.args.count c.loop.counter c.loop.rest.now (read_all r c.args.count c.args.bytes.now) c.in_ok-item.item c.in_ok-item.after.now c.loop-test.true c.in_ok-item.ensures c.loop.invariant)

pub returns : goal.returns
returns g c =
    let r = (g.T.Field.codec c.args.context.major c.args.context.kinds.now c.args.context.starts.now).read in
    is_done r c.loop.items c.args.count c.loop.counter c.loop.rest.now (read_all r c.args.count c.args.bytes.now) c.loop-test.false c.loop.invariant
