use Rattle.std.proofs.Common.{◌≡◌, ◌+◌, ◌*◌, max, drop}
use Rattle.scw_core.specs.declared.tree.Tree.{size-Tree}
use Rattle.scw_core.specs.TreeOf.{trees_view}
use Rattle.scw_gen.specs.Around.{around_of}
use Rattle.scw_gen.specs.Room.{stack_of_effects, stack_of_operands}
use Rattle.scw_gen.proofs.room.+stack.Given as goal

abbrev pub invariant-stack_of_operands-loop-operand : goal.invariant-stack_of_operands-loop-operand
invariant-stack_of_operands-loop-operand l =
    max l.most (stack_of_operands (around_of l.g) l.form l.depth (trees_view (drop l.operand-index l.operands)))
    ≡ stack_of_operands (around_of l.g) l.form 0 (trees_view l.operands)

abbrev pub invariant-stack_of_effects-loop-statement : goal.invariant-stack_of_effects-loop-statement
invariant-stack_of_effects-loop-statement l =
    max l.most (stack_of_effects (around_of l.g) (trees_view (drop l.statement-index l.statements)))
    ≡ stack_of_effects (around_of l.g) (trees_view l.statements)

abbrev pub decreases-stack_of : goal.decreases-stack_of
decreases-stack_of l = 8 * size-Tree l.tree.now

abbrev pub decreases-stack_of_operands : goal.decreases-stack_of_operands
decreases-stack_of_operands l = 8 * goal.size-stack_of_operands l + 1

abbrev pub decreases-stack_of_effects : goal.decreases-stack_of_effects
decreases-stack_of_effects l = 8 * goal.size-stack_of_effects l + 1

abbrev pub decreases-stack_of_statements : goal.decreases-stack_of_statements
decreases-stack_of_statements l = 8 * goal.size-stack_of_statements l + 2
