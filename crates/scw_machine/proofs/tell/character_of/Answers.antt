use Rattle.std.proofs.Common.{ℕ, ◌<◌, List, length, map, ◌∙◌, arith}
use Rattle.std.proofs.lemmas.List.{length-map}
use Rattle.scw_step.specs.TextStep.{dotted}
use Rattle.scw_machine.proofs.TellLemmas.{dotted-index, encoded-bytes, encoded-end, encoded-some}
use Rattle.scw_machine.proofs.tell.character_of.Goals as goal

within_is : (name : List ℕ) (i : ℕ) → i < length name → i < length (map dotted name)
within_is name i h = omega (arith, length-map name dotted)

pub returns-clause-bytes : goal.returns-clause-bytes
returns-clause-bytes c =
    encoded-bytes (map dotted c.args.name.now) _ c.args.i _ _ _ (within_is c.args.name.now c.args.i c.requires.within)
    (c.dotted-first.ensures ∙ dotted-index c.args.name.now c.args.i c.requires.within) c.unit_at.ensures c.encode.ensures.units c.encode.ensures.bytes

pub returns-clause-end : goal.returns-clause-end
returns-clause-end c =
    let all = encoded-end (map dotted c.args.name.now) c.args.i _ _ _ (within_is c.args.name.now c.args.i c.requires.within)
    (c.dotted-first.ensures ∙ dotted-index c.args.name.now c.args.i c.requires.within) c.unit_at.ensures c.encode.ensures.units in
    omega (arith, all, length-map c.args.name.now dotted)

pub returns-clause-some : goal.returns-clause-some
returns-clause-some c = encoded-some c.dotted-first.result c.encode.result.units c.unit_at.result c.encode.ensures.units
