use Rattle.std.proofs.Common.{◌≡◌, ◌++◌, take, map}
use Rattle.scw_link.specs.Types.{type_or_none}
use Rattle.scw_link.proofs.pools.push_types.Given as goal

abbrev pub invariant-loop-entry : goal.invariant-loop-entry
invariant-loop-entry l = l.types ≡ l.fn.types ++ map (type_or_none l.files l.pool) (take l.entry-index l.pool)
