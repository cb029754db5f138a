use Rattle.std.proofs.Common.{false}
use Rattle.std.proofs.lemmas.Result.{err_from_is_err_and}
use Rattle.scw_classfile.specs.Codec.{read_flagged}
use Rattle.scw_classfile.specs.Pool.{place, takes_two}
use Rattle.scw_classfile.proofs.ReadLemmas.{flagged_goes_on, flagged_ends, flagged_is_done}
use Rattle.scw_classfile.proofs.pool.places_at.Goals as goal

pub returns-in_err-entry : goal.returns-in_err-entry
returns-in_err-entry c =
    let p = err_from_is_err_and c.from_residual.result c.from_residual.ensures.1 in
    rw (p.1, p.2) (flagged_ends place takes_two c.loop-i.entries c.loop-i.second c.args.count c.loop-i.i c.loop-i.rest.now (read_flagged place takes_two false c.args.count c.args.bytes.now) c.in_err-entry.field-0.0 c.loop-i-test.true c.in_err-entry.ensures c.loop-i.invariant)

pub loop-i-preserved : goal.loop-i-preserved
loop-i-preserved c =
    rw (c.in_ok-push.ensures.ok, c.is_wide-second.ensures) (flagged_goes_on place takes_two c.loop-i.entries c.loop-i.second c.args.count c.loop-i.i c.loop-i.rest.now (read_flagged place takes_two false c.args.count c.args.bytes.now) c.in_ok-entry.entry c.in_ok-entry.after.now c.loop-i-test.true c.in_ok-entry.ensures c.loop-i.invariant)

pub returns : goal.returns
returns c =
    flagged_is_done place takes_two c.loop-i.entries c.loop-i.second c.args.count c.loop-i.i c.loop-i.rest.now (read_flagged place takes_two false c.args.count c.args.bytes.now) c.loop-i-test.false c.loop-i.invariant
