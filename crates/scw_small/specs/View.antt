-- What the values of the program stand for.
use Rattle.std.specs.Prelude.{map}
use Rattle.scw_core.specs.TreeOf.{tree_of}
use Rattle.scw_core.specs.TypesOf.{core_type_of}
use Rattle.scw_small.specs.declared.state.State.{State}
use Rattle.scw_small.specs.declared.typed.Typed.{Typed}
use Rattle.scw_small.specs.declared.typed.Body.{Body}
use Rattle.scw_small.specs.NameView.{names_of}
use Rattle.scw_small.specs.Step as step
use Rattle.scw_small.specs.Typed as typed
use Rattle.scw_small.specs.Typing as typing
use Rattle.scw_small.specs.Whole as whole
use Rattle.scw_core.specs.ProgramOf.{body_of as member_body_of}
use Rattle.scw_small.specs.declared.method.Bound.{Bound}
use Rattle.scw_small.specs.declared.method.Made.{Made}
use Rattle.scw_small.specs.declared.typing.Operands.{Operands}

abbrev pub typed_of : Typed → typed.Typed
typed_of t = record { kind = t.kind; tree = tree_of t.tree }

abbrev pub body_of : Body → typed.Body
body_of b = record { locals = b.locals.items; trees = map tree_of b.trees.items }

abbrev pub operands_of : Operands → typing.Operands
operands_of o = record { kinds = o.kinds; trees = map tree_of o.trees.items }

abbrev pub state_of : State → step.State
state_of s = record {
  next = s.next;
  types = map core_type_of s.types;
  texts = s.texts;
  names = names_of s.names;
  scope = names_of s.scope;
}

abbrev pub bound_of : Bound → whole.Bound
bound_of b = record { parameters = b.parameters; tree = tree_of b.tree }

abbrev pub made_of : Made → whole.Made
made_of m = record { members = m.members; bodies = map member_body_of m.bodies }
