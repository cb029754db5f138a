use Rattle.std.proofs.Common.{◌≡◌, drop}
use Rattle.scw_gen.specs.Pool.{index_from, is_entry}
use Rattle.scw_gen.proofs.pool.index_of.Given as goal

abbrev pub invariant-loop-found : goal.invariant-loop-found
invariant-loop-found l = index_from (is_entry l.entry) 1 l.pool ≡ index_from (is_entry l.entry) l.index (drop l.found-index l.pool)
