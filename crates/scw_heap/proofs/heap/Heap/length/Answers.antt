use Rattle.std.proofs.Common.{◌∙◌}
use Rattle.scw_heap.proofs.FoundLemmas.{found, object_found}
use Rattle.scw_heap.proofs.heap.Heap.length.Goals as goal

pub read-requires : goal.read-requires
read-requires c =
    let f = object_found c.args.self.now _ c.as_slice.result.now _ _ _ c.self.invariant.0 c.self.view_is c.as_slice.ensures.value c.requires in
    (f.0, f.2)

pub returns : goal.returns
returns c =
    let f = object_found c.args.self.now _ c.as_slice.result.now _ _ _ c.self.invariant.0 c.self.view_is c.as_slice.ensures.value c.requires in
    rw f.1 (c.read.ensures.length ∙ (found f.0 _ _ f.2).count)
