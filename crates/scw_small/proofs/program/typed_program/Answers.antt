use Rattle.scw_core.specs.ProgramOf.{program_of}
use Rattle.scw_reader.specs.View.{source_of}
use Rattle.scw_small.proofs.MainLemmas.{typed_main}
use Rattle.scw_small.proofs.program.typed_program.Goals as goal

pub returns-in-Ok-clause-main : goal.returns-in-Ok-clause-main
returns-in-Ok-clause-main c = typed_main (source_of c.args.source.now) (program_of c.in-Ok.program) (c.in-Ok.ensures)
