use Rattle.std.proofs.Common.{rules}
use Rattle.scw_machine.proofs.UnlimitedLemmas.{ran-free}
use Rattle.scw_machine.proofs.machine.Machine.run.Goals as goal

pub returns-clause-unlimited : goal.returns-clause-unlimited
returns-clause-unlimited g c = ran-free _ _ _ _ _ _ _ (search rules)
