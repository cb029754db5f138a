use Rattle.scw_outside.proofs.CallsLemmas.{is_listed-none_after, none_after-more}
use Rattle.scw_outside.proofs.calls.Calls.begin.Goals as goal

pub returns-clause-over : goal.returns-clause-over
returns-clause-over c = none_after-more c.args.self.now.made c.args.self.now.listed

pub returns-clause-sure : goal.returns-clause-sure
returns-clause-sure c = λ h. let e = is_listed-none_after c.args.self.now.made c.args.self.now.listed h in rw (c.contains.ensures.value, c.as_slice.ensures) e
