use Rattle.std.proofs.Common.{◌≡◌, arith}
use Rattle.scw_machine.proofs.RunLemmas.{gathers-none, gathers-more, breaks-row, came-over, came-steps}
use Rattle.scw_machine.proofs.machine.run_rows.Goals as goal

pub loop-i-init : goal.loop-i-init
loop-i-init g c = record { gathers = gathers-none _ _ _ _ _ c.requires; later = omega arith }

pub returns-in-Ok-Some-clause-came : goal.returns-in-Ok-Some-clause-came
returns-in-Ok-Some-clause-came g c =
    rw (c.close.ensures.rows, c.rows_of.ensures.value)
    (came-over c.in-Ok-Some.end _ _ _ _ _ _ _ _ _ _ _ _ _ _ _ _ _ _ _ c.loop-i-test.true c.loop-i.invariant.gathers (rw c.in-Ok-Some.field-0-is at c.in-Ok-Some.ensures.turned) c.close.ensures.closed)

pub returns-in-Err-clause-came : goal.returns-in-Err-clause-came
returns-in-Err-clause-came g c = breaks-row _ _ _ _ _ _ _ _ _ _ _ _ c.loop-i-test.true c.loop-i.invariant.gathers c.in-Err.ensures.turned

pub loop-i-preserved : goal.loop-i-preserved
loop-i-preserved g c = record {
  gathers = gathers-more _ _ _ _ _ _ _ _ _ _ _ _ _ c.loop-i.invariant.gathers (rw c.in-Ok-None.field-0-is at c.in-Ok-None.ensures.turned);
  later = omega (arith, c.loop-i.invariant.later, c.in-Ok-None.ensures.cause.later);
}

pub returns-clause-came : goal.returns-clause-came
returns-clause-came g c =
    let all : c.loop-i.i ≡ c.args.steps = omega arith in
    rw c.close-2.ensures.rows (came-steps _ _ _ _ _ _ _ _ _ _ _ _ _ _ (rw all at c.loop-i.invariant.gathers) c.close-2.ensures.closed)
