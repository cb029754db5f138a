use Rattle.std.proofs.Common.{◌++◌, replicate, List, ℕ, ap, ◌∙◌, append_assoc, IsTrue}
use Rattle.std.proofs.lemmas.Result.{IfOk-equal}
use Rattle.scw_code.specs.Instr.{args_of, padding, table}
use Rattle.scw_code.specs.Layout.{shape_at}
use Rattle.scw_code.specs.declared.instr.InstrArgs.TheVariants as args
use Rattle.scw_code.proofs.EncodeLemmas.{table_bytes}
use Rattle.scw_code.proofs.encoding.write_args.Goals as goal

pub returns-in_ok-write_padding-in-Table : goal.returns-in_ok-write_padding-in-Table
returns-in_ok-write_padding-in-Table c =
    let a = c.args in
    let t = c.in-Table.table in
    let out = a.out.now.items in
    let fits : IsTrue ((args_of a.at a.op (shape_at a.op)).fits (args.Table t)) = rw c.in-Table.is at c.requires in
    let bytes = append_assoc out (replicate (padding a.at) 0) (table.spell t) ∙ ap (λ (l : List ℕ). out ++ l) (table_bytes a.at a.op (shape_at a.op) t fits) in
    IfOk-equal c.write_table.result _ _ _ c.write_table.ensures (rw (c.in_ok-write_padding-in-Table.ensures, c.get.ensures, c.padding.ensures, c.in-Table.is) bytes)
