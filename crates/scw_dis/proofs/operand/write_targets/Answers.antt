use Rattle.std.proofs.Common.{◌∙◌, ◌++◌, ap, List, ℕ, ℤ, pos, get_or, take, w32, rules}
use Rattle.std.proofs.lemmas.Int.{to_z-of_z}
use Rattle.std.proofs.lemmas.List.{take_more, flat_map_more}
use mir.Val.{SFits}
use Rattle.scw_dis.specs.Instruction.{target_text}
use Rattle.scw_dis.proofs.operand.write_targets.Goals as goal

pub loop-distance-preserved : goal.loop-distance-preserved
loop-distance-preserved c =
    let l = c.loop-distance in
    let xs = c.args.distances.now in
    let distance : ℤ = get_or xs l.distance-index (pos 0) in
    let fits : SFits w32 distance = search rules in
    let wrote = simp (to_z-of_z w32 distance fits) at c.in_ok-write_target.ensures in
    rw (take_more xs l.distance-index (pos 0) c.loop-distance-test.true)
    (wrote ∙ ap (λ (o : List ℕ). o ++ target_text c.args.at distance) l.invariant ∙ flat_map_more (target_text c.args.at) c.args.out.now.items (take l.distance-index xs) distance)
