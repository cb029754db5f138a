use Rattle.std.proofs.Common.{◌≡◌}
use Rattle.scw_text.specs.Place.{column_of, line_of}
use Rattle.scw_text.proofs.source.Source.place.Given as goal

abbrev pub invariant-loop-before : goal.invariant-loop-before
invariant-loop-before l = record {
  line : l.place.line ≡ line_of l.bytes l.before;
  column : l.place.column ≡ column_of l.bytes l.before;
}
