use Rattle.std.proofs.Common.{◌<◌, ◌^◌, length, arith}
use Rattle.std.specs.List.{flat_map}
use Rattle.scw_classfile.specs.Pool.{entry_bytes}
use Rattle.scw_classfile.proofs.EntriesSize.{entries_within}
use Rattle.scw_classfile.proofs.pool.pool_at.Goals as goal

pub entries_fault-requires : goal.entries_fault-requires
entries_fault-requires c =
    let within = entries_within c.args.bytes.now (c.in_ok-entries.entries, c.in_ok-entries.rest.now) (record { each = λ i. (c.type_inv.bytes i).fits }) c.in_ok-entries.ensures in
    let small : length (flat_map entry_bytes c.in_ok-entries.entries) < 2 ^ 64 = omega (arith, within) in
    rw c.as_slice-2.ensures small
