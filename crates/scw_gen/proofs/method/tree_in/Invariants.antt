use Rattle.std.proofs.Common.{◌≡◌, drop, map}
use Rattle.scw_core.specs.Program.{look}
use Rattle.scw_core.specs.ProgramOf.{body_of}
use Rattle.scw_gen.proofs.method.tree_in.Given as goal

abbrev pub invariant-loop-body : goal.invariant-loop-body
invariant-loop-body l = look (map body_of (drop l.body-index l.bodies)) l.m ≡ look (map body_of l.bodies) l.m
