use Rattle.std.proofs.Common.{◌≡◌, drop}
use Rattle.scw_gen.specs.Typed.{same_kinds}
use Rattle.scw_gen.proofs.typed_op.same_kinds.Given as goal

abbrev pub invariant-loop-k : goal.invariant-loop-k
invariant-loop-k l = same_kinds (drop l.k-index l.a) l.rest ≡ same_kinds l.a l.b
