use Rattle.std.proofs.Common.{◌≡◌, drop}
use Rattle.scw_core.specs.ProgramOf.{table_of}
use Rattle.scw_gen.specs.Scope.{from, placed, scope_of}
use Rattle.scw_gen.proofs.scope.placed.Given as goal

abbrev pub invariant-loop-x : goal.invariant-loop-x
invariant-loop-x l = placed (table_of l.table) l.own (from l.fn.next) l.locals ≡ placed (table_of l.table) l.own (scope_of l.scope) (drop l.x-index l.locals)
