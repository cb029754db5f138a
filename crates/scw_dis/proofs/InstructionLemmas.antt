-- The lines of instructions, one by one.
use Rattle.std.proofs.Common.{◌≡◌, ◌∙◌, ◌+◌, ◌<◌, ◌++◌, ℕ, List, ◌∷◌, length, drop, get_or, ap, sym, append_assoc}
use Rattle.std.proofs.lemmas.List.{drop_more}
use Rattle.scw_code.specs.declared.instr.Instr.{Instr}
use Rattle.scw_code.specs.Code.{size_at}
use Rattle.scw_classfile.specs.declared.pool_entry.PoolEntry.{PoolEntry}
use Rattle.scw_dis.specs.Instruction.{instr_line, instr_lines}

-- a line that is put is the first of those that are left
pub line_more : (pool : List PoolEntry) (is : List Instr) (k at : ℕ) (i : Instr) (put : List ℕ) → k < length is → i ≡ get_or is k i →
    (put ++ instr_line pool at i) ++ instr_lines pool (at + size_at at i) (drop (k + 1) is) ≡ put ++ instr_lines pool at (drop k is)
line_more pool is k at i put lt same =
    let next : drop k is ≡ i ∷ drop (k + 1) is = drop_more is k i lt ∙ ap (λ (x : Instr). x ∷ drop (k + 1) is) (sym same) in
    append_assoc put (instr_line pool at i) (instr_lines pool (at + size_at at i) (drop (k + 1) is)) ∙ sym (ap (λ (l : List Instr). put ++ instr_lines pool at l) next)
