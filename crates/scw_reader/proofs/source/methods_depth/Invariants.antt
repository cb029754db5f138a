use Rattle.std.proofs.Common.{◌≡◌, ◌≤◌, max, drop, map}
use Rattle.scw_reader.specs.View.{method_of}
use Rattle.scw_reader.specs.Limits.{methods_depth}
use Rattle.scw_reader.specs.Capped.{capped}
use Rattle.scw_reader.proofs.source.methods_depth.Given as goal

abbrev pub invariant-loop-method : goal.invariant-loop-method
invariant-loop-method l = record {
  small : l.depth ≤ 203;
  whole : capped (max l.depth (methods_depth (map method_of (drop l.method-index l.methods)))) ≡ capped (methods_depth (map method_of l.methods));
}
