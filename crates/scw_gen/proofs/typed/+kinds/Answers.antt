use Rattle.std.proofs.Common.{◌≡◌, rules}
use Rattle.scw_core.specs.Tree.{while_do}
use Rattle.scw_core.specs.TreeOf.{tree_of}
use Rattle.scw_core.specs.declared.tree.Tree.{the_lemmas}
use Rattle.scw_gen.specs.Typed.{kind_of_tree}
use Rattle.scw_gen.proofs.typed.+kinds.Goals as goal

pub kind_of_tree-returns-in-While : goal.kind_of_tree-returns-in-While
unfolding kind_of_tree
kind_of_tree-returns-in-While t c =
    let e : tree_of c.args.tree.now ≡ while_do c.in-While.i (tree_of c.in-While.a.value) (tree_of c.in-While.b.value) = first_of (search rules, search (rules, the_lemmas)) in
    rw (e, ← c.deref-in-While.ensures, ← c.deref-in-While-2.ensures) c.kind_of_while.ensures
