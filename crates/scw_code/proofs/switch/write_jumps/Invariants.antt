use Rattle.std.proofs.Common.{◌≡◌, ◌++◌, take}
use Rattle.std.specs.List.{flat_map}
use Rattle.scw_code.specs.Codec.{s4}
use Rattle.scw_code.proofs.switch.write_jumps.Given as goal

abbrev pub invariant-loop-jump : goal.invariant-loop-jump
invariant-loop-jump l = l.out.items ≡ l.fn.out.items ++ flat_map s4.spell (take l.jump-index l.jumps)
