use Rattle.std.proofs.Common.{◌≡◌, ◌∙◌, None, sym, rules}
use Rattle.scw_classfile.specs.Code.{after_attributes}
use Rattle.scw_classfile.proofs.ReadLemmas.{passed_more, not_passed, all_passed}
use Rattle.scw_classfile.proofs.code.after_attributes.Goals as goal

pub returns-in_err-rest : goal.returns-in_err-rest
returns-in_err-rest c =
    let none : after_attributes c.args.count c.args.bytes.now ≡ None = sym c.loop.invariant ∙ not_passed c.args.count c.loop.counter c.loop.rest.now c.loop-test.true (sym c.in_err-rest.ensures) in
    rw none (search rules)

pub loop-preserved : goal.loop-preserved
loop-preserved c = sym (passed_more c.args.count c.loop.counter c.loop.rest.now c.in_ok-rest.rest.now c.loop-test.true (sym c.in_ok-rest.ensures)) ∙ c.loop.invariant

pub returns : goal.returns
returns c = sym (all_passed c.args.count c.loop.counter c.loop.rest.now c.loop-test.false) ∙ c.loop.invariant
