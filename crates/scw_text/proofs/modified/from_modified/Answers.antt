use Rattle.std.proofs.Common.{length, sym, ◌∙◌, arith}
use Rattle.scw_text.proofs.ReadModifiedLemmas.{goes_on, is_done, is_fault_at, no_text, reported_at, same_text, stops_at, unit_at-fewer, unit_at-within}
use Rattle.scw_text.proofs.ModifiedLemmas.{units_of_written}
use Rattle.scw_text.proofs.modified.from_modified.Goals as goal

pub loop-rest-smaller : goal.loop-rest-smaller
loop-rest-smaller c = unit_at-fewer c.loop-rest.rest.now c.in-Ok.unit c.in-Ok.after.now (sym c.in-Ok.ensures)

pub loop-rest-preserved : goal.loop-rest-preserved
loop-rest-preserved c =
    let less = unit_at-fewer c.loop-rest.rest.now c.in-Ok.unit c.in-Ok.after.now (sym c.in-Ok.ensures) in
    let more = goes_on c.loop-rest.units (length c.args.bytes.now) c.loop-rest.rest.now c.in-Ok.unit c.in-Ok.after.now c.loop-rest.invariant.fits (sym c.in-Ok.ensures) in
    record { fits = omega arith; read = rw c.in_ok-push-in-Ok.ensures.ok (more ∙ c.loop-rest.invariant.read) }

pub overflow_add-place : goal.overflow_add-place
overflow_add-place c =
    let within = unit_at-within c.loop-rest.rest.now c.in-Err.begun (sym c.in-Err.ensures) in
    omega arith

pub returns-in-Err-clause-read : goal.returns-in-Err-clause-read
returns-in-Err-clause-read c =
    let stopped = stops_at c.loop-rest.units _ c.loop-rest.rest.now c.in-Err.begun c.args.bytes.now c.loop-rest-test.ensures (sym c.in-Err.ensures) c.loop-rest.invariant.read in
    reported_at c.args.bytes.now _ _ stopped c.min.ensures

pub returns-in-Err-clause-again : goal.returns-in-Err-clause-again
returns-in-Err-clause-again c =
    let stopped = stops_at c.loop-rest.units _ c.loop-rest.rest.now c.in-Err.begun c.args.bytes.now c.loop-rest-test.ensures (sym c.in-Err.ensures) c.loop-rest.invariant.read in
    λ units h is. no_text c.args.bytes.now units _ stopped h is

pub returns-in-Err-clause-bad : goal.returns-in-Err-clause-bad
returns-in-Err-clause-bad c =
    let stopped = stops_at c.loop-rest.units _ c.loop-rest.rest.now c.in-Err.begun c.args.bytes.now c.loop-rest-test.ensures (sym c.in-Err.ensures) c.loop-rest.invariant.read in
    is_fault_at c.args.bytes.now _ _ stopped c.min.ensures

pub returns-clause-read : goal.returns-clause-read
returns-clause-read c = is_done c.loop-rest.units _ c.loop-rest.rest.now c.args.bytes.now c.loop-rest-test.ensures c.loop-rest.invariant.read

pub returns-clause-ok : goal.returns-clause-ok
returns-clause-ok c =
    let done = is_done c.loop-rest.units _ c.loop-rest.rest.now c.args.bytes.now c.loop-rest-test.ensures c.loop-rest.invariant.read in
    let read = units_of_written c.args.bytes.now c.loop-rest.units done in
    (read.1, read.0)

pub returns-clause-again : goal.returns-clause-again
returns-clause-again c =
    let done = is_done c.loop-rest.units _ c.loop-rest.rest.now c.args.bytes.now c.loop-rest-test.ensures c.loop-rest.invariant.read in
    λ units h is. same_text c.args.bytes.now c.loop-rest.units units done h is
