use Rattle.std.proofs.Common.{◌≡◌, ◌+◌, ◌*◌, ◌++◌, max, option_map, drop, map}
use Rattle.scw_core.specs.declared.tree.Tree.{size-Tree}
use Rattle.scw_core.specs.TreeOf.{trees_view}
use Rattle.scw_gen.specs.Around.{around_of}
use Rattle.scw_gen.specs.Typed.{kind_at_end, kind_of_statements, kinds_of_trees, known_of}
use Rattle.scw_gen.proofs.typed.+kinds.Given as goal

abbrev pub invariant-kinds_of_trees-loop-tree : goal.invariant-kinds_of_trees-loop-tree
invariant-kinds_of_trees-loop-tree l =
    option_map (λ ks. l.kinds.items ++ ks) (kinds_of_trees (around_of l.g) (map known_of l.known) (trees_view (drop l.tree-index l.trees)))
    ≡ kinds_of_trees (around_of l.g) (map known_of l.known) (trees_view l.trees)

abbrev pub invariant-kind_of_statements-loop-statement : goal.invariant-kind_of_statements-loop-statement
invariant-kind_of_statements-loop-statement l =
    kind_at_end (trees_view (drop l.statement-index l.statements)) (kind_of_statements (around_of l.g) (map known_of l.known.items) (trees_view (drop l.statement-index l.statements))) l.last
    ≡ kind_of_statements (around_of l.g) (map known_of l.initial.known.items) (trees_view l.statements)

abbrev pub decreases-kind_of_tree : goal.decreases-kind_of_tree
decreases-kind_of_tree l = 8 * size-Tree l.tree.now

abbrev pub decreases-kinds_of_trees : goal.decreases-kinds_of_trees
decreases-kinds_of_trees l = 8 * goal.size-kinds_of_trees l + 1

abbrev pub decreases-kind_of_statements : goal.decreases-kind_of_statements
decreases-kind_of_statements l = 8 * goal.size-kind_of_statements l + 1

abbrev pub decreases-kind_of_if : goal.decreases-kind_of_if
decreases-kind_of_if l = 8 * max (size-Tree l.a.now) (max (size-Tree l.b.now) (size-Tree l.c.now)) + 1

abbrev pub decreases-kind_of_while : goal.decreases-kind_of_while
decreases-kind_of_while l = 8 * max (size-Tree l.a.now) (size-Tree l.b.now) + 1
