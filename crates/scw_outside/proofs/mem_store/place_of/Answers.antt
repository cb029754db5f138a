use Rattle.scw_outside.proofs.EntriesLemmas.{found_here}
use Rattle.scw_outside.proofs.mem_store.place_of.Goals as goal

pub returns-then-eq-clause-found : goal.returns-then-eq-clause-found
returns-then-eq-clause-found c =
    (c.loop-i-test.true, λ b. found_here c.args.entries.now c.loop-i.i c.index-entries-i.result c.args.name.now b c.loop-i-test.true c.index-entries-i.is (cc) (c.loop-i.invariant b))
