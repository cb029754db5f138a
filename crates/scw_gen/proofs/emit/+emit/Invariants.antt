use Rattle.std.proofs.Common.{◌≡◌, ◌+◌, ◌*◌, max, Some, drop}
use Rattle.scw_core.specs.declared.tree.Tree.{size-Tree}
use Rattle.scw_core.specs.TreeOf.{trees_view}
use Rattle.scw_gen.specs.Around.{around_of}
use Rattle.scw_gen.specs.Code.{joined, operands}
use Rattle.scw_gen.specs.Scope.{scope_of}
use Rattle.scw_gen.proofs.emit.+emit.Given as goal

abbrev pub invariant-emit_operands-loop-operand : goal.invariant-emit_operands-loop-operand
invariant-emit_operands-loop-operand l =
    joined (Some l.instrs.items) (operands (around_of l.g) (scope_of l.scope) l.form (trees_view (drop l.operand-index l.operands)))
    ≡ operands (around_of l.g) (scope_of l.scope) l.form (trees_view l.operands)

abbrev pub decreases-emit : goal.decreases-emit
decreases-emit l = 8 * size-Tree l.tree.now

abbrev pub decreases-emit_operands : goal.decreases-emit_operands
decreases-emit_operands l = 8 * goal.size-emit_operands l + 2

abbrev pub decreases-emit_operand : goal.decreases-emit_operand
decreases-emit_operand l = 8 * size-Tree l.operand.now + 1

abbrev pub decreases-emit_block : goal.decreases-emit_block
decreases-emit_block l = 8 * goal.size-emit_block l + 4

abbrev pub decreases-emit_statements : goal.decreases-emit_statements
decreases-emit_statements l = 8 * goal.size-emit_statements l + 3

abbrev pub decreases-emit_if : goal.decreases-emit_if
decreases-emit_if l = 8 * max (size-Tree l.a.now) (max (size-Tree l.b.now) (size-Tree l.c.now)) + 3

abbrev pub decreases-emit_choice : goal.decreases-emit_choice
decreases-emit_choice l = 8 * max (size-Tree l.b.now) (size-Tree l.c.now) + 2

abbrev pub decreases-emit_test_choice : goal.decreases-emit_test_choice
decreases-emit_test_choice l = 8 * max (size-Tree l.b.now) (size-Tree l.c.now) + 1

abbrev pub decreases-emit_while : goal.decreases-emit_while
decreases-emit_while l = 8 * max (size-Tree l.a.now) (size-Tree l.b.now) + 1
