-- The job that a value of the program stands for.
use Rattle.std.specs.Prelude.{ℕ, List}
use Rattle.scw_tool.specs.declared.words.Job.{Job}
use Rattle.scw_tool.specs.declared.words.Mode.{Mode}

abbrev pub seen_job : Job → Mode × List ℕ
seen_job j = (j.mode, j.file.now)
