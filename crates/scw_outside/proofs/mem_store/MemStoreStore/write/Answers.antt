use Rattle.std.proofs.Common.{◌≡◌, ap, ◌∙◌}
use Rattle.scw_outside.specs.Entries.{held, with_entry}
use Rattle.scw_outside.proofs.EntriesLemmas.{held-with_entry}
use Rattle.scw_outside.proofs.mem_store.MemStoreStore.write.Goals as goal

pub returns-clause-written : goal.returns-clause-written
returns-clause-written c =
    let here : c.put_entry.new.entries ≡ with_entry c.args.name.now c.args.bytes.now c.args.self.now.entries = rw (c.in_ok-name.ensures, c.as_slice.ensures, c.in_ok-bytes.ensures, c.as_slice-2.ensures) at c.in_ok-put_entry.ensures.ok in
    ap held here ∙ (λ i n. held-with_entry c.args.name.now c.args.bytes.now c.args.self.now.entries n i)
