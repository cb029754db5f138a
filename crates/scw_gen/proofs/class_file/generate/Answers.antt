use Rattle.scw_core.specs.ProgramOf.{program_of}
use Rattle.scw_gen.proofs.Writable.{all_writable}
use Rattle.scw_gen.proofs.class_file.generate.Goals as goal

pub returns-clause-writable : goal.returns-clause-writable
returns-clause-writable c = all_writable (program_of c.args.program.now) c.args.class.now c.answered.result c.answered.ensures
