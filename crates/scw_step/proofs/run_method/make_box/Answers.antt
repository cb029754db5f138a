use Rattle.std.proofs.Common.{◌≡◌, Some, length, ap, arith}
use Rattle.scw_heap.specs.Heap.{object_at, words_in, zeroed}
use Rattle.scw_heap.specs.declared.kind.Kind.TheVariants.{Object}
use Rattle.scw_step.proofs.TextLemmas.{making-made, object_at-IsMade}
use Rattle.scw_step.proofs.run_method.make_box.Goals as goal

pub set-requires-clause-within : goal.set-requires-clause-within
set-requires-clause-within c =
    let e : object_at c.make.new.state.heap.objects c.in_ok-r.r ≡ Some (zeroed (Object c.box_class.result) 1) =
    object_at-IsMade _ 1 c.in_ok-r.r c.args.state.now c.make.new.state (making-made _ 1 c.in_ok-r.r c.args.state.now c.make.new.state c.in_ok-r.ensures.gives) in
    omega (arith, ap (λ x. length (words_in x)) e)

pub set-requires-clause-narrow : goal.set-requires-clause-narrow
set-requires-clause-narrow c =
    let e : object_at c.make.new.state.heap.objects c.in_ok-r.r ≡ Some (zeroed (Object c.box_class.result) 1) =
    object_at-IsMade _ 1 c.in_ok-r.r c.args.state.now c.make.new.state (making-made _ 1 c.in_ok-r.r c.args.state.now c.make.new.state c.in_ok-r.ensures.gives) in
    rw e (omega arith)
