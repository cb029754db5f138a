use Rattle.std.proofs.Common.{take}
use Rattle.scw_machine.specs.Load as spec
use Rattle.scw_machine.proofs.loading.classes_of.Given as goal

abbrev pub invariant-loop-i : goal.invariant-loop-i
invariant-loop-i l = spec.AreFilesOf l.classes (take l.i l.files)
