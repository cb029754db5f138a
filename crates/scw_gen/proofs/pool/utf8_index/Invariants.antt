use Rattle.std.proofs.Common.{◌≡◌, drop}
use Rattle.scw_gen.specs.Pool.{index_from, is_utf8}
use Rattle.scw_gen.proofs.pool.utf8_index.Given as goal

abbrev pub invariant-loop-found : goal.invariant-loop-found
invariant-loop-found l = index_from (is_utf8 l.text) 1 l.pool ≡ index_from (is_utf8 l.text) l.index (drop l.found-index l.pool)
