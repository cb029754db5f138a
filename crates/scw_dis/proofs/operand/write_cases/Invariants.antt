use Rattle.std.proofs.Common.{◌≡◌, ◌++◌, take}
use Rattle.std.specs.List.{flat_map}
use Rattle.scw_dis.specs.Instruction.{case_text}
use Rattle.scw_dis.proofs.operand.write_cases.Given as goal

abbrev pub invariant-loop-pair : goal.invariant-loop-pair
invariant-loop-pair l = l.out.items ≡ l.fn.out.items ++ flat_map (case_text l.at) (take l.pair-index l.pairs)
