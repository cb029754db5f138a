use Rattle.scw_run.proofs.RunLemmas.{shows}
use Rattle.scw_run.proofs.laws.runs_do_the_same.Goals as goal

pub returns : goal.returns
returns c = shows
