use Rattle.std.proofs.Common.{◌≡◌, ◌++◌, take}
use Rattle.scw_text.specs.Modified.{modified}
use Rattle.scw_text.proofs.modified.write_modified.Given as goal

abbrev pub invariant-loop-unit : goal.invariant-loop-unit
invariant-loop-unit l = l.out.items ≡ l.fn.out.items ++ modified (take l.unit-index l.units)
