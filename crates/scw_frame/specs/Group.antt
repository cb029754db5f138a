-- Groups of values, as the code has them.
use Rattle.std.specs.Prelude.{◌≡◌, List, [], ◌∷◌, Option, Some, None}
use Rattle.scw_frame.specs.declared.value.Value.{Value}
use Rattle.scw_frame.specs.declared.stack.Group.{Group}
use Rattle.scw_frame.specs.Frame.{Calls}

abbrev pub values_with : Value → Option Value → List Value
values_with top None = top ∷ []
values_with top (Some below) = top ∷ below ∷ []

abbrev pub values : Group → List Value
values g = values_with g.top g.below

abbrev pub TakesGroup : Option Group → Calls → Option (List Value × Calls) → Type 0
TakesGroup None now wanted = wanted ≡ None
TakesGroup (Some g) now wanted = wanted ≡ Some (values g, now)
