use Rattle.std.proofs.Common.{◌≡◌, ◌-◌, false}
use Rattle.scw_classfile.specs.Codec.{read_flagged, with_front}
use Rattle.scw_classfile.specs.Pool.{place, takes_two}
use Rattle.scw_classfile.proofs.pool.places_at.Given as goal

abbrev pub invariant-loop-i : goal.invariant-loop-i
invariant-loop-i l = with_front l.entries (read_flagged place takes_two l.second (l.count - l.i) l.rest) ≡ read_flagged place takes_two false l.count l.bytes
