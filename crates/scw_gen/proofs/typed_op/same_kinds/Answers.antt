use Rattle.std.proofs.Common.{◌≡◌, ◌∙◌, refl, ◌<◌, false, List, [], ◌∷◌, length, drop, length-drop, arith}
use Rattle.scw_gen.specs.Typed.{same_kinds}
use Rattle.scw_gen.specs.declared.kind.Kind.{Kind}
use Rattle.scw_gen.proofs.typed_op.same_kinds.Goals as goal

-- of two lists one ends before the other
ended : (a b : List Kind) → 0 < length a → length b < 1 → false ≡ same_kinds a b
ended [] b h e = absurd (omega arith)
ended (k ∷ ks) [] h e = refl
ended (k ∷ ks) (l ∷ ls) h e = absurd (omega arith)

pub returns-in-empty : goal.returns-in-empty
returns-in-empty c = ended (drop c.loop-k.k-index c.args.a.now) c.loop-k.rest.now (omega (arith, length-drop c.loop-k.k-index c.args.a.now)) c.in-empty.len_below ∙ c.loop-k.invariant
