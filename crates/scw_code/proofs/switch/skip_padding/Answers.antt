use Rattle.std.proofs.Common.{◌<◌, ◌≤◌}
use Rattle.std.proofs.lemmas.Result.{err_from_is_err_and}
use Rattle.scw_code.specs.Codec.{read_zeros}
use Rattle.scw_code.specs.Instr.{padding}
use Rattle.scw_code.proofs.ReadLemmas.{zero_more, not_zero, no_zero, zeros_done}
use Rattle.scw_code.proofs.switch.skip_padding.Goals as goal

pub returns-in_err-byte : goal.returns-in_err-byte
returns-in_err-byte c =
    let p = err_from_is_err_and c.from_residual.result c.from_residual.ensures.1 in
    let site = c.args.site in
    let lt : c.loop.counter < padding site.at = rw c.padding-end.ensures at c.loop-test.true in
    rw (p.1, p.2) (no_zero site (padding site.at) c.loop.counter c.loop.rest.now (read_zeros site (padding site.at) c.args.bytes.now) c.loop.invariant c.in_err-byte.field-0.0 lt c.in_err-byte.ensures)

pub returns-then-byte-ne0 : goal.returns-then-byte-ne0
returns-then-byte-ne0 c =
    let site = c.args.site in
    let lt : c.loop.counter < padding site.at = rw c.padding-end.ensures at c.loop-test.true in
    rw c.bad_switch.ensures (not_zero site (padding site.at) c.loop.counter c.loop.rest.now (read_zeros site (padding site.at) c.args.bytes.now) c.loop.invariant c.in_ok-byte.byte c.in_ok-byte.more.now lt c.in_ok-byte.ensures c.if-byte-ne0.true)

pub loop-preserved : goal.loop-preserved
loop-preserved c =
    let site = c.args.site in
    let lt : c.loop.counter < padding site.at = rw c.padding-end.ensures at c.loop-test.true in
    zero_more site (padding site.at) c.loop.counter c.loop.rest.now (read_zeros site (padding site.at) c.args.bytes.now) c.loop.invariant c.in_ok-byte.byte c.in_ok-byte.more.now lt c.in_ok-byte.ensures c.if-byte-ne0.false

pub returns : goal.returns
returns c =
    let site = c.args.site in
    let le : padding site.at ≤ c.loop.counter = rw c.padding-end.ensures at c.loop-test.false in
    zeros_done site (padding site.at) c.loop.counter c.loop.rest.now (read_zeros site (padding site.at) c.args.bytes.now) c.loop.invariant le
