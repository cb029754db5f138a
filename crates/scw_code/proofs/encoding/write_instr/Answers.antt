use Rattle.std.proofs.Common.{[], ◌∷◌, ◌++◌, List, ℕ, ap, ◌∙◌, append_assoc}
use Rattle.std.proofs.lemmas.Result.{IfOk-equal}
use Rattle.scw_code.specs.Instr.{args_of}
use Rattle.scw_code.specs.Layout.{shape_at}
use Rattle.scw_code.proofs.EncodeLemmas.{args_fit, opcode_first}
use Rattle.scw_code.proofs.encoding.write_instr.Goals as goal

pub write_args-requires : goal.write_args-requires
write_args-requires c = args_fit c.args.at c.args.instr.now c.requires

pub returns : goal.returns
returns c =
    let i = c.args.instr.now in
    let out = c.args.out.now.items in
    let bytes = append_assoc out (i.op ∷ []) ((args_of c.args.at i.op (shape_at i.op)).spell i.args) ∙ ap (λ (l : List ℕ). out ++ l) (opcode_first c.args.at i) in
    IfOk-equal c.write_args.result _ _ _ c.write_args.ensures (rw c.in_ok-push.ensures.items bytes)
