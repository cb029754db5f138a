use Rattle.std.proofs.Common.{◌≡◌, ◌++◌, take, map}
use Rattle.scw_link.specs.Types.{text_of}
use Rattle.scw_link.proofs.pools.push_texts.Given as goal

abbrev pub invariant-loop-entry : goal.invariant-loop-entry
invariant-loop-entry l = l.texts ≡ l.fn.texts ++ map (text_of l.pool) (take l.entry-index l.pool)
