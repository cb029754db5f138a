use Rattle.std.proofs.Common.{◌≡◌, drop}
use Rattle.scw_gen.specs.Excess.{text_excess}
use Rattle.scw_gen.proofs.excess.text_excess.Given as goal

abbrev pub invariant-loop-entry : goal.invariant-loop-entry
invariant-loop-entry l = text_excess (drop l.entry-index l.pool) ≡ text_excess l.pool
