use Rattle.std.proofs.Common.{subst}
use Rattle.scw_core.specs.ProgramOf.{program_of}
use Rattle.scw_machine.specs.Load as machine
use Rattle.scw_machine.specs.declared.loading.LoadFault.{LoadFault}
use Rattle.scw_run.proofs.LoadLemmas.{not_bad, without_main}
use Rattle.scw_run.proofs.loading.load_program.Goals as goal

pub returns-in-Err-NoMain-clause-err : goal.returns-in-Err-NoMain-clause-err
returns-in-Err-NoMain-clause-err c =
    without_main (program_of c.args.program.now) c.in-Ok.file c.in-Ok.ensures.writable c.bytes_tell_the_class.ensures.alone c.in-Ok-written.files c.in-Ok-written.ensures c.args.main.now c.in-Ok.ensures.same
    (subst (λ (f : LoadFault). machine.Refuses f c.in-Ok-written.files c.args.main.now) c.in-Err-NoMain.field-0-is c.in-Err-NoMain.ensures.err)

pub unreachable-requires : goal.unreachable-requires
unreachable-requires c =
    not_bad (program_of c.args.program.now) c.in-Ok.file c.in-Ok.ensures.writable c.bytes_tell_the_class.ensures.alone c.in-Ok-written.files c.in-Ok-written.ensures c.args.main.now c.in-Err-Bad.field-0-0 c.in-Err-Bad.field-0-1
    (subst (λ (f : LoadFault). machine.Refuses f c.in-Ok-written.files c.args.main.now) c.in-Err-Bad.field-0-is c.in-Err-Bad.ensures.err)
