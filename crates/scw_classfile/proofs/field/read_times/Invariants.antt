use Rattle.std.proofs.Common.{◌≡◌, ◌-◌}
use Rattle.scw_classfile.specs.Codec.{read_all, with_front}
use Rattle.scw_classfile.proofs.field.read_times.Given as goal

abbrev pub invariant-loop : goal.invariant-loop
invariant-loop g l = with_front l.items (read_all (g.T.Field.codec l.context.major l.context.kinds.now l.context.starts.now).read (l.count - l.counter) l.rest) ≡ read_all (g.T.Field.codec l.context.major l.context.kinds.now l.context.starts.now).read l.count l.bytes
