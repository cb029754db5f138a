-- Each program of the small language has a class file, or is too large for one.
use Rattle.std.proofs.Common.{◌≡◌, ap, ◌∙◌, ℕ, List, Some, None, Result}
use Rattle.std.proofs.lemmas.Bool.{cond-true}
use Rattle.scw_classfile.specs.declared.class_file.ClassFile.{ClassFile}
use Rattle.scw_core.specs.Program.{Program}
use Rattle.scw_gen.specs.Generate.{file_of}
use Rattle.scw_gen.specs.declared.fault.Large.{Large}
use Rattle.scw_small.specs.Says.{SaysProgram}
use Rattle.scw_back.specs.Back.{can_begin, file_of_classes, file_of_program}
use Rattle.scw_built.proofs.BuiltFile.{built_has_file}
use Rattle.scw_built.proofs.SmallBuilt.{small_is_built}

pub source-built : (bytes : List ℕ) (p : Program) → SaysProgram bytes p → (r : Result ClassFile Large) × (file_of_program p ≡ Some r)
unfolding file_of_program
source-built bytes p says =
    let b = small_is_built bytes p says in
    let f = built_has_file p b.class b.built b.sound b.methods in
    (f.0, ap (file_of_classes p) b.only ∙ cond-true (can_begin p b.class) (file_of p b.class) None b.begins ∙ f.1)
