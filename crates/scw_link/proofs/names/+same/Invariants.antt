use Rattle.std.proofs.Common.{length}
use Rattle.scw_link.proofs.names.+same.Given as goal

abbrev pub decreases-same : goal.decreases-same
decreases-same l = length l.units.now
