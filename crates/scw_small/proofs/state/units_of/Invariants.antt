use Rattle.std.proofs.Common.{◌≡◌, take}
use Rattle.scw_small.proofs.state.units_of.Given as goal

abbrev pub invariant-loop-character : goal.invariant-loop-character
invariant-loop-character l = l.units ≡ take l.character-index l.characters
