-- Each class file that is answered can be written.
use Rattle.std.proofs.Common.{Result, Ok, Err}
use Rattle.std.specs.Prelude.{IfOk}
use Rattle.scw_classfile.specs.ReadClass.{IsWritable}
use Rattle.scw_classfile.specs.declared.class_file.ClassFile.{ClassFile}
use Rattle.scw_core.specs.Program.{Program}
use Rattle.scw_core.specs.declared.class.CoreClass.{CoreClass}
use Rattle.scw_gen.specs.Generate.{Answers, file_of}
use Rattle.scw_gen.specs.declared.fault.GenFault.{GenFault}
use Rattle.scw_gen.proofs.FileWritable.{writable}

pub all_writable : (p : Program) (k : CoreClass) (r : Result ClassFile GenFault) → Answers r (file_of p k) → IfOk r (λ c. IsWritable c)
all_writable p k (Ok c) h = writable p k c h
all_writable p k (Err f) h = tt
