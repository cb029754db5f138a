use Rattle.std.proofs.Common.{ℕ, append_assoc, arith}
use Rattle.scw_dis.proofs.operand.write_numbers.Goals as goal

pub returns-in_ok-write_operand-in-Three : goal.returns-in_ok-write_operand-in-Three
returns-in_ok-write_operand-in-Three c = grind (arith, append_assoc {A = ℕ})
