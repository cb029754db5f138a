use Rattle.std.proofs.Common.{◌≡◌, drop, map}
use Rattle.scw_reader.specs.View.{method_of}
use Rattle.scw_small.specs.NameView.{names_of}
use Rattle.scw_small.specs.Whole.{all_methods}
use Rattle.scw_small.specs.View.{made_of, state_of}
use Rattle.scw_small.proofs.typing.Typer.methods.Given as goal

abbrev pub invariant-loop-method : goal.invariant-loop-method
invariant-loop-method l =
    all_methods (names_of l.self.methods.now) (made_of l.made) (map method_of (drop l.method-index l.methods)) (state_of l.state)
    ≡ all_methods (names_of l.self.methods.now) (made_of l.fn.made) (map method_of l.methods) (state_of l.fn.state)
