use Rattle.std.proofs.Common.{append_assoc, rules, w32}
use Rattle.std.proofs.lemmas.Int.{to_z-of_z}
use Rattle.std.proofs.lemmas.Result.{IfOk-equal}
use mir.Val.{SFits}
use Rattle.scw_code.specs.Codec.{s4}
use Rattle.scw_code.specs.Instr.{ranged}
use Rattle.scw_code.proofs.switch.write_table.Goals as goal

pub returns : goal.returns
returns c =
    let t = c.args.t.now in
    let fits : SFits w32 t.default = search rules in
    let wrote = simp (to_z-of_z w32 t.default fits) at c.in_ok-write_s4.ensures in
    IfOk-equal c.write_ranged.result _ _ _ c.write_ranged.ensures (rw wrote (append_assoc c.args.out.now.items (s4.spell t.default) (ranged.spell (t.low, (t.high, t.jumps)))))
