use Rattle.std.proofs.Common.{◌≡◌, ◌*◌, ℕ, List, length, arith}
use Rattle.scw_heap.specs.Heap.{used}
use Rattle.scw_heap.specs.Layout.{objects_of}
use Rattle.scw_heap.proofs.LayoutLemmas.{length-laid_out}
use Rattle.scw_heap.proofs.heap.Heap.used.Goals as goal

pub overflow_cast-result : goal.overflow_cast-result
overflow_cast-result c = omega (arith, c.self.invariant.0.within)

pub returns-clause-value : goal.returns-clause-value
returns-clause-value c =
    let ws : List ℕ = c.self.inside.words.items in
    let e : length ws ≡ 2 * used (objects_of ws) = length-laid_out (objects_of ws) ws c.self.invariant.0.laid_out in
    rw (← c.self.view_is) (omega arith)
