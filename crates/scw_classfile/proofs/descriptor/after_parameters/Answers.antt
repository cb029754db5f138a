use Rattle.std.proofs.Common.{sym}
use Rattle.scw_classfile.proofs.DescriptorLemmas.{after_field-fewer, after_parameters-end, after_parameters-next, after_parameters-nil, after_parameters-none}
use Rattle.scw_classfile.proofs.descriptor.after_parameters.Goals as goal

pub returns-then-c-eq-CLOSE : goal.returns-then-c-eq-CLOSE
returns-then-c-eq-CLOSE c = after_parameters-end c.loop-rest.rest.now _ c.loop-rest.invariant c.in-len1-up.len_at_least c.if-c-eq-CLOSE.true

pub returns-in_err-rest : goal.returns-in_err-rest
returns-in_err-rest c = rw c.from_residual.ensures (after_parameters-none c.loop-rest.rest.now _ c.loop-rest.invariant c.in-len1-up.len_at_least c.if-c-eq-CLOSE.false c.in_err-rest.ensures)

pub loop-rest-smaller : goal.loop-rest-smaller
loop-rest-smaller c = after_field-fewer c.loop-rest.rest.now c.in_ok-rest.rest.now (sym c.in_ok-rest.ensures)

pub loop-rest-preserved : goal.loop-rest-preserved
loop-rest-preserved c = after_parameters-next c.loop-rest.rest.now c.in_ok-rest.rest.now _ c.loop-rest.invariant c.in-len1-up.len_at_least c.if-c-eq-CLOSE.false c.in_ok-rest.ensures

pub returns : goal.returns
returns c = after_parameters-nil c.loop-rest.rest.now _ c.loop-rest.invariant c.in_default.len_below
