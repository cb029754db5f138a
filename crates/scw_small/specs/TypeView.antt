-- The parameters of method types that values of the program stand for.
use Rattle.scw_core.specs.Types as core
use Rattle.scw_core.specs.TypesOf.{SeenParameter, plain_step, parameter_step}
use Rattle.scw_core.specs.declared.plain.PlainParameter.{PlainParameter}
use Rattle.scw_core.specs.declared.plain.Plain.TheFolds.{fold-PlainParameter}

abbrev pub parameter_of : PlainParameter → SeenParameter
parameter_of = fold-PlainParameter core.Plain SeenParameter plain_step parameter_step
