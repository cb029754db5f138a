use Rattle.std.proofs.Common.{length}
use Rattle.scw_link.proofs.sizes.+code_place.Given as goal

abbrev pub decreases-code_place : goal.decreases-code_place
decreases-code_place l = length l.attributes.now
