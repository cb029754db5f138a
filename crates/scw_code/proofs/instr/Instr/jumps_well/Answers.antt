use Rattle.std.proofs.Common.{rules, w32}
use Rattle.std.proofs.lemmas.Int.{to_z-of_z}
use mir.Val.{SFits}
use Rattle.scw_code.proofs.JumpLemmas.{lookup_targets}
use Rattle.scw_code.proofs.instr.Instr.jumps_well.Goals as goal

pub returns-then-target_is-2 : goal.returns-then-target_is-2
returns-then-target_is-2 c =
    let t = c.in-Lookup.lookup in
    let fits : SFits w32 t.default = search rules in
    let first = simp (c.get-lookup.ensures, to_z-of_z w32 t.default fits) at c.if-target_is-2.ensures in
    let rest = rw (c.as_slice-then-target_is-2.ensures, c.get-lookup.ensures) at c.pair_targets_are.ensures in
    lookup_targets c.args.starts.now c.args.at c.args.self.now t c.pair_targets_are.result c.in-Lookup.is first rest
