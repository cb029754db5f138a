use Rattle.std.proofs.Common.{◌≡◌, ◌++◌, length}
use Rattle.scw_dis.specs.Character.{characters}
use Rattle.scw_dis.proofs.characters.write_units.Given as goal

abbrev pub invariant-loop-rest : goal.invariant-loop-rest
invariant-loop-rest l = l.out.items ++ characters l.rest ≡ l.fn.out.items ++ characters l.fn.units

abbrev pub decreases-loop-rest : goal.decreases-loop-rest
decreases-loop-rest l = length l.rest
