use Rattle.std.proofs.Common.{refl}
use Rattle.scw_heap.proofs.heap.Heap.can_have.Goals as goal

pub returns-clause-value : goal.returns-clause-value
returns-clause-value c = rw (← c.self.view_is) refl
