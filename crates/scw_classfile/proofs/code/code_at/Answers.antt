use Rattle.std.proofs.Common.{◌≡◌, ◌∙◌, Ok, Bool, List, subst, rules}
use Rattle.scw_classfile.specs.Format.{code, code_tail}
use Rattle.scw_classfile.specs.Gives.{Fails}
use Rattle.scw_classfile.proofs.code.code_at.Goals as goal

pub returns-in_err-handlers : goal.returns-in_err-handlers
unfolding code
returns-in_err-handlers c =
    let k = c.args.context in
    let T : List Bool → Type 0 = λ m. Fails c.in_err-handlers.field-0.0 ((code_tail k.major k.kinds.now m).read c.in_ok-code.rest.now) in
    let h = subst T (c.deref.ensures.value ∙ c.in_ok-code.ensures.starts) c.in_err-handlers.ensures in
    search (rules, h)

pub returns : goal.returns
unfolding code
returns c =
    let k = c.args.context in
    let T : List Bool → Type 0 = λ m. (code_tail k.major k.kinds.now m).read c.in_ok-code.rest.now ≡ Ok ((c.in_ok-handlers.handlers, c.in_ok-handlers.attributes), c.in_ok-handlers.rest.now) in
    let h = subst T (c.deref.ensures.value ∙ c.in_ok-code.ensures.starts) c.in_ok-handlers.ensures in
    search (rules, h)
