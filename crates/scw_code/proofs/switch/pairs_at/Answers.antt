use Rattle.std.proofs.Common.{None, sym}
use Rattle.std.proofs.lemmas.Result.{err_from_is_err_and}
use Rattle.scw_code.specs.Codec.{read_listed}
use Rattle.scw_code.specs.Instr.{rises, pair}
use Rattle.scw_code.proofs.ReadLemmas.{goes_on, ends, refused, is_done}
use Rattle.scw_code.proofs.switch.pairs_at.Goals as goal

pub returns-in_err-pair : goal.returns-in_err-pair
returns-in_err-pair c =
    let p = err_from_is_err_and c.from_residual.result c.from_residual.ensures.1 in
    rw (p.1, p.2) (ends rises pair c.args.site c.loop.pairs c.loop.before c.args.count c.loop.counter c.loop.rest.now (read_listed rises pair None c.args.count c.args.site c.args.bytes.now) c.in_err-pair.field-0.0 c.loop-test.true c.in_err-pair.ensures c.loop.invariant)

pub returns-then-not-rises : goal.returns-then-not-rises
returns-then-not-rises c =
    rw c.bad_switch.ensures (refused rises pair c.args.site c.loop.pairs c.loop.before c.args.count c.loop.counter c.loop.rest.now (read_listed rises pair None c.args.count c.args.site c.args.bytes.now) c.in_ok-pair.pair c.in_ok-pair.more.now c.loop-test.true c.in_ok-pair.ensures (sym c.if-not-rises.ensures) c.loop.invariant)

pub loop-preserved : goal.loop-preserved
loop-preserved c =
    rw c.in_ok-push.ensures.ok (goes_on rises pair c.args.site c.loop.pairs c.loop.before c.args.count c.loop.counter c.loop.rest.now (read_listed rises pair None c.args.count c.args.site c.args.bytes.now) c.in_ok-pair.pair c.in_ok-pair.more.now c.loop-test.true c.in_ok-pair.ensures (sym c.if-not-rises.ensures) c.loop.invariant)

pub returns : goal.returns
returns c = is_done rises pair c.args.site c.loop.pairs c.loop.before c.args.count c.loop.counter c.loop.rest.now (read_listed rises pair None c.args.count c.args.site c.args.bytes.now) c.loop-test.false c.loop.invariant
