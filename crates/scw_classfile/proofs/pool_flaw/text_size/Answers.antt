use Rattle.std.proofs.Common.{arith}
use Rattle.std.proofs.lemmas.List.Folds.{length-flat_map-take}
use Rattle.scw_text.specs.Modified.{unit_bytes}
use Rattle.scw_classfile.proofs.pool_flaw.text_size.Goals as goal

pub overflow_add-size : goal.overflow_add-size
overflow_add-size c = omega (arith, length-flat_map-take unit_bytes c.args.units.now c.loop-unit.unit-index 0 c.loop-unit-test.true, c.unit_size-size.ensures, c.requires)
