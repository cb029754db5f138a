use Rattle.std.proofs.Common.{◌≡◌, ◌-◌, length, rules, arith}
use Rattle.std.proofs.lemmas.Grind.{common_steps}
use Rattle.scw_core.specs.Tree.{if_else}
use Rattle.scw_core.specs.TreeOf.{tree_of}
use Rattle.scw_core.specs.declared.tree.Tree.{the_lemmas}
use Rattle.scw_gen.specs.Around.{around_of}
use Rattle.scw_gen.specs.Code.{code}
use Rattle.scw_gen.specs.Scope.{scope_of}
use Rattle.scw_gen.proofs.CodeLemmas.{statements_split}
use Rattle.scw_gen.proofs.emit.+emit.Goals as goal

pub emit-returns-in-If : goal.emit-returns-in-If
unfolding code
emit-returns-in-If t c =
    let e : tree_of c.args.tree.now ≡ if_else c.in-If.field-0 (tree_of c.in-If.a.value) (tree_of c.in-If.b.value) (tree_of c.in-If.c.value) = first_of (search rules, search (rules, the_lemmas)) in
    rw (e, ← c.deref-in-If.ensures, ← c.deref-in-If-2.ensures, ← c.deref-in-If-3.ensures) c.emit_if.ensures

pub emit_statements-returns-in_err-first-in-len1-up : goal.emit_statements-returns-in_err-first-in-len1-up
emit_statements-returns-in_err-first-in-len1-up t c =
    let e = statements_split (around_of c.args.g.now) (scope_of c.args.scope.now) c.args.mode c.last-item.result c.args.statements.now (length c.args.statements.now - 1) (omega (arith, c.in-len1-up.len_at_least)) in
    rw e (first_of (search rules, grind (arith, common_steps)))

pub emit_statements-returns-in_err-end-in-len1-up : goal.emit_statements-returns-in_err-end-in-len1-up
emit_statements-returns-in_err-end-in-len1-up t c =
    let e = statements_split (around_of c.args.g.now) (scope_of c.args.scope.now) c.args.mode c.last-item.result c.args.statements.now (length c.args.statements.now - 1) (omega (arith, c.in-len1-up.len_at_least)) in
    rw e (first_of (search rules, grind (arith, common_steps)))

pub emit_statements-returns-in_ok-join-in-len1-up : goal.emit_statements-returns-in_ok-join-in-len1-up
emit_statements-returns-in_ok-join-in-len1-up t c =
    let e = statements_split (around_of c.args.g.now) (scope_of c.args.scope.now) c.args.mode c.last-item.result c.args.statements.now (length c.args.statements.now - 1) (omega (arith, c.in-len1-up.len_at_least)) in
    rw e (first_of (search rules, grind (arith, common_steps)))
