use Rattle.std.proofs.Common.{◌≡◌, length, map}
use Rattle.scw_reader.specs.Lexing.{lookup}
use Rattle.scw_reader.proofs.lexing.lookup.Given as goal

abbrev pub invariant-loop-table : goal.invariant-loop-table
invariant-loop-table g l = lookup (map (λ e. (e.0.now, e.1)) l.table) l.text ≡ lookup (map (λ e. (e.0.now, e.1)) l.initial.table) l.text

abbrev pub decreases-loop-table : goal.decreases-loop-table
decreases-loop-table g l = length l.table
