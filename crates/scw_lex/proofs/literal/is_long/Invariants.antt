use Rattle.std.proofs.Common.{◌≡◌, ◌+◌, ◌≤◌, length, drop}
use Rattle.scw_text.specs.Modified.{modified}
use Rattle.scw_lex.specs.declared.literal.TheConstants.{MAX_TEXT_BYTES}
use Rattle.scw_lex.proofs.literal.is_long.Given as goal

abbrev pub invariant-loop-unit : goal.invariant-loop-unit
invariant-loop-unit l = (l.len + length (modified (drop l.unit-index l.units)) ≡ length (modified l.units)) × (l.len ≤ MAX_TEXT_BYTES)
