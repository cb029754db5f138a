use Rattle.std.proofs.Common.{◌≡◌, ◌-◌, false}
use Rattle.scw_classfile.specs.Codec.{read_flagged, with_front}
use Rattle.scw_classfile.specs.Format.{own_item, own_seen}
use Rattle.scw_classfile.proofs.attribute.own_times.Given as goal

abbrev pub invariant-loop : goal.invariant-loop
invariant-loop l =
    with_front l.attributes (read_flagged (own_item l.context.major l.context.kinds.now) (own_seen l.context.kinds.now) l.seen (l.count - l.counter) l.rest)
    ≡ read_flagged (own_item l.context.major l.context.kinds.now) (own_seen l.context.kinds.now) false l.count l.bytes
