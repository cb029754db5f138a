use Rattle.std.proofs.Common.{length, ap, arith}
use Rattle.std.proofs.lemmas.List.Folds.{length-flat_map-take}
use Rattle.scw_classfile.specs.Pool.{entry_bytes}
use Rattle.scw_classfile.proofs.pool_flaw.entries_size.Goals as goal

pub entry_size-size-requires : goal.entry_size-size-requires
entry_size-size-requires c = omega (arith, length-flat_map-take entry_bytes c.args.entries.now c.loop-entry.entry-index c.entry-item.result c.loop-entry-test.true, ap (λ e. length (entry_bytes e)) c.entry-item.is, c.requires)

pub overflow_add-size : goal.overflow_add-size
overflow_add-size c = omega (arith, length-flat_map-take entry_bytes c.args.entries.now c.loop-entry.entry-index c.entry-item.result c.loop-entry-test.true, ap (λ e. length (entry_bytes e)) c.entry-item.is, c.entry_size-size.ensures, c.requires)
