use Rattle.std.proofs.Common.{◌≡◌, max, drop}
use Rattle.scw_core.specs.TreeOf.{trees_view}
use Rattle.scw_gen.specs.Around.{around_of}
use Rattle.scw_gen.specs.Room.{locals_of_all}
use Rattle.scw_gen.proofs.room.+locals.Given as goal

abbrev pub invariant-locals_of_all-loop-tree : goal.invariant-locals_of_all-loop-tree
invariant-locals_of_all-loop-tree l =
    max l.most (locals_of_all (around_of l.g) l.next (trees_view (drop l.tree-index l.trees)))
    ≡ locals_of_all (around_of l.g) l.next (trees_view l.trees)
