use Rattle.std.proofs.Common.{◌∙◌, subst}
use Rattle.scw_core.specs.ProgramOf.{program_of}
use Rattle.scw_run.specs.Load.{Refuses}
use Rattle.scw_run.specs.declared.loading.RunFault.{RunFault}
use Rattle.scw_tool.proofs.RunLemmas.{name_told, not_nothing, not_without, ran_so}
use Rattle.scw_tool.proofs.running.run_program.Goals as goal

pub returns-in-Ok-clause-went : goal.returns-in-Ok-clause-went
returns-in-Ok-clause-went g c = (
  ran_so (program_of c.args.program.now) c.requires.main.0 c.requires.main.1 c.in_ok-main.main (c.in_ok-main.ensures ∙ name_told) c.runs_do_the_same.ensures c.in-Ok.loaded c.in-Ok.ensures.ok c.run-end.result c.run-end.new.self _ _ _ c.run-end.ensures.ran c.run-end.ensures.unlimited,
  c.run-end.ensures.cause,
)

pub unreachable-requires-in-Err-NoMain : goal.unreachable-requires-in-Err-NoMain
unreachable-requires-in-Err-NoMain g c =
    not_without (program_of c.args.program.now) c.requires.main.0 c.requires.main.1 c.in_ok-main.main (c.in_ok-main.ensures ∙ name_told)
    (subst (λ (f : RunFault). Refuses f (program_of c.args.program.now) c.in_ok-main.main) c.in-Err-NoMain.field-0-is c.in-Err-NoMain.ensures.err)

pub unreachable-requires : goal.unreachable-requires
unreachable-requires g c =
    not_nothing (program_of c.args.program.now) c.requires.built (subst (λ (f : RunFault). Refuses f (program_of c.args.program.now) c.in_ok-main.main) c.in-Err-NotBuilt.field-0-is c.in-Err-NotBuilt.ensures.err)
