use Rattle.std.proofs.Common.{◌≡◌, ◌++◌, ◌-◌, length}
use Rattle.scw_link.specs.Classes.{line}
use Rattle.scw_link.proofs.classes.superclasses.Given as goal

abbrev pub invariant-loop : goal.invariant-loop
invariant-loop l = line l.parents (length l.parents) l.class ≡ l.line ++ line l.parents (length l.parents - l.counter) l.next
