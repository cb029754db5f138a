use Rattle.std.proofs.Common.{◌≡◌, ◌-◌, ◌≤◌, length}
use Rattle.scw_text.specs.Modified.{units_of}
use Rattle.scw_text.proofs.ReadModifiedLemmas.{with_front}
use Rattle.scw_text.proofs.modified.from_modified.Given as goal

abbrev pub invariant-loop-rest : goal.invariant-loop-rest
invariant-loop-rest l = record {
  fits : length l.rest ≤ length l.bytes;
  read : with_front l.units (length l.bytes - length l.rest) (units_of l.rest) ≡ units_of l.bytes;
}

abbrev pub decreases-loop-rest : goal.decreases-loop-rest
decreases-loop-rest l = length l.rest
