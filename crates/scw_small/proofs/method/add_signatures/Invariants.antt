use Rattle.std.proofs.Common.{◌≡◌, drop, map}
use Rattle.scw_reader.specs.View.{method_of}
use Rattle.scw_small.specs.NameView.{names_of}
use Rattle.scw_small.specs.Whole.{add_signatures}
use Rattle.scw_small.specs.View.{state_of}
use Rattle.scw_small.proofs.method.add_signatures.Given as goal

abbrev pub invariant-loop-method : goal.invariant-loop-method
invariant-loop-method l =
    add_signatures (names_of l.table) (map method_of (drop l.method-index l.methods)) (state_of l.state)
    ≡ add_signatures (names_of l.fn.table) (map method_of l.methods) (state_of l.fn.state)
