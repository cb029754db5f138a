use Rattle.std.proofs.Common.{false}
use Rattle.std.proofs.lemmas.Result.{err_from_is_err_and}
use Rattle.scw_classfile.specs.Codec.{read_flagged}
use Rattle.scw_classfile.specs.Format.{own_item, own_seen}
use Rattle.scw_classfile.proofs.ReadLemmas.{flagged_goes_on, flagged_ends, flagged_is_done}
use Rattle.scw_classfile.proofs.attribute.own_times.Goals as goal

pub returns-in_err-attribute : goal.returns-in_err-attribute
returns-in_err-attribute c =
    let k = c.args.context in
    let p = err_from_is_err_and c.from_residual.result c.from_residual.ensures.1 in
    rw (p.1, p.2) (flagged_ends (own_item k.major k.kinds.now) (own_seen k.kinds.now) c.loop.attributes c.loop.seen c.args.count c.loop.counter c.loop.rest.now (read_flagged (own_item k.major k.kinds.now) (own_seen k.kinds.now) false c.args.count c.args.bytes.now) c.in_err-attribute.field-0.0 c.loop-test.true c.in_err-attribute.ensures c.loop.invariant)

pub loop-preserved : goal.loop-preserved
loop-preserved c =
    let k = c.args.context in
    rw (c.in_ok-push.ensures.ok, c.is_seen-seen.ensures) (flagged_goes_on (own_item k.major k.kinds.now) (own_seen k.kinds.now) c.loop.attributes c.loop.seen c.args.count c.loop.counter c.loop.rest.now (read_flagged (own_item k.major k.kinds.now) (own_seen k.kinds.now) false c.args.count c.args.bytes.now) c.in_ok-attribute.attribute c.in_ok-attribute.after.now c.loop-test.true c.in_ok-attribute.ensures c.loop.invariant)

pub returns : goal.returns
returns c =
    let k = c.args.context in
    flagged_is_done (own_item k.major k.kinds.now) (own_seen k.kinds.now) c.loop.attributes c.loop.seen c.args.count c.loop.counter c.loop.rest.now (read_flagged (own_item k.major k.kinds.now) (own_seen k.kinds.now) false c.args.count c.args.bytes.now) c.loop-test.false c.loop.invariant
