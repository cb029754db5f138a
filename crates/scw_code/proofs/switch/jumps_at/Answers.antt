use Rattle.std.proofs.Common.{true, Some, None, ◌-◌, ◌+◌, refl, rules, w32}
use Rattle.std.proofs.lemmas.Int.{to_z-of_z}
use mir.Val.{SFits}
use Rattle.std.proofs.lemmas.Result.{err_from_is_err_and}
use Rattle.scw_code.specs.Codec.{s4}
use Rattle.scw_code.specs.Instr.{jumps}
use Rattle.scw_code.proofs.ReadLemmas.{goes_on, ends, is_done, before_any}
use Rattle.scw_code.proofs.switch.jumps_at.Goals as goal

pub returns-in_err-jump : goal.returns-in_err-jump
returns-in_err-jump c =
    let p = err_from_is_err_and c.from_residual.result c.from_residual.ensures.1 in
    rw (p.1, p.2) (ends (λ _ _. true) s4 c.args.site c.loop.jumps None c.args.count c.loop.counter c.loop.rest.now ((jumps c.args.count).read c.args.site c.args.bytes.now) c.in_err-jump.field-0.0 c.loop-test.true c.in_err-jump.ensures c.loop.invariant)

pub loop-preserved : goal.loop-preserved
loop-preserved c =
    let n = c.args.count - (c.loop.counter + 1) in
    let on = goes_on (λ _ _. true) s4 c.args.site c.loop.jumps None c.args.count c.loop.counter c.loop.rest.now ((jumps c.args.count).read c.args.site c.args.bytes.now) c.in_ok-jump.jump c.in_ok-jump.more.now c.loop-test.true c.in_ok-jump.ensures refl c.loop.invariant in
    let fits : SFits w32 c.in_ok-jump.jump = search rules in
    let pushed = simp (to_z-of_z w32 c.in_ok-jump.jump fits) at c.in_ok-push.ensures.ok in
    rw (pushed, before_any s4 c.args.site None (Some c.in_ok-jump.jump) n c.in_ok-jump.more.now) on

pub returns : goal.returns
returns c = is_done (λ _ _. true) s4 c.args.site c.loop.jumps None c.args.count c.loop.counter c.loop.rest.now ((jumps c.args.count).read c.args.site c.args.bytes.now) c.loop-test.false c.loop.invariant
