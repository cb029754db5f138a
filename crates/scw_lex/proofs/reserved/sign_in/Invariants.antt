use Rattle.std.proofs.Common.{◌≡◌, length}
use Rattle.scw_lex.specs.Reserved.{sign_in}
use Rattle.scw_lex.proofs.reserved.sign_in.Given as goal

abbrev pub invariant-loop-table : goal.invariant-loop-table
invariant-loop-table l = sign_in l.table l.c ≡ sign_in l.initial.table l.c

abbrev pub decreases-loop-table : goal.decreases-loop-table
decreases-loop-table l = length l.table
