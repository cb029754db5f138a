use Rattle.std.proofs.Common.{◌≡◌, length}
use Rattle.scw_lex.specs.Escape.{unit_in}
use Rattle.scw_lex.proofs.escape.unit_in.Given as goal

abbrev pub invariant-loop-table : goal.invariant-loop-table
invariant-loop-table l = unit_in l.table l.c ≡ unit_in l.initial.table l.c

abbrev pub decreases-loop-table : goal.decreases-loop-table
decreases-loop-table l = length l.table
