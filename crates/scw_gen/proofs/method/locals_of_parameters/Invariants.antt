use Rattle.std.proofs.Common.{◌≡◌, map, take}
use Rattle.scw_gen.specs.Method.{local_of}
use Rattle.scw_gen.proofs.method.locals_of_parameters.Given as goal

abbrev pub invariant-loop-x : goal.invariant-loop-x
invariant-loop-x l = l.locals.items ≡ map local_of (take l.x-index l.parameters)
