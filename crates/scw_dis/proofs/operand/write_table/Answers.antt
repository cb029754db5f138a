use Rattle.std.proofs.Common.{ℕ, append_assoc, arith}
use Rattle.scw_dis.proofs.operand.write_table.Goals as goal

pub returns : goal.returns
returns c = grind (arith, append_assoc {A = ℕ})
