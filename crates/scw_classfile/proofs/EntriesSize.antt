-- How many bytes the entries of a pool that was read take.
use Rattle.std.proofs.Common.{◌≡◌, ℕ, ◌≤◌, List, ◌++◌, length, Ok, ap, length-append, arith}
use Rattle.std.specs.List.{flat_map}
use Rattle.scw_text.proofs.ByteLemmas.{AreBytes}
use Rattle.scw_classfile.specs.declared.pool_entry.PoolEntry.{PoolEntry}
use Rattle.scw_classfile.specs.Pool.{entries, entry_bytes, pool_count}
use Rattle.scw_classfile.proofs.PoolLemmas.{lawful_entries}

-- they take no more than the file
pub entries_within : (bytes : List ℕ) (x : List PoolEntry × List ℕ) → AreBytes bytes → entries.read bytes ≡ Ok x → length (flat_map entry_bytes x.0) ≤ length bytes
entries_within bytes x h e =
    let s = lawful_entries.back bytes x h e in
    omega (arith, ap length s.is, length-append (pool_count.spell (length x.0) ++ flat_map entry_bytes x.0) x.1, length-append (pool_count.spell (length x.0)) (flat_map entry_bytes x.0))
