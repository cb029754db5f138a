use Rattle.std.proofs.Common.{◌≡◌, drop, []}
use Rattle.scw_small.specs.NameView.{names_of}
use Rattle.scw_small.specs.Whole.{parameters}
use Rattle.scw_small.specs.View.{state_of}
use Rattle.scw_small.proofs.typing.Typer.parameters.Given as goal

abbrev pub invariant-loop-x : goal.invariant-loop-x
invariant-loop-x l =
    parameters (names_of l.self.methods.now) l.found (drop l.x-index l.written) (state_of l.state)
    ≡ parameters (names_of l.self.methods.now) [] l.written (state_of l.fn.state)
