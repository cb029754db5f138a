use Rattle.std.proofs.Common.{◌≡◌, take}
use Rattle.scw_lex.specs.Literal.{plain_units}
use Rattle.scw_lex.proofs.literal.plain_units.Given as goal

abbrev pub invariant-loop-c : goal.invariant-loop-c
invariant-loop-c l = l.units.items ≡ plain_units (take l.c-index l.text)
