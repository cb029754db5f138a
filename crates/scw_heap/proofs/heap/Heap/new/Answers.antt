use Rattle.std.proofs.Common.{◌≡◌, [], length, ap, refl, arith}
use Rattle.scw_heap.specs.Layout.{objects_of}
use Rattle.scw_heap.proofs.LayoutLemmas.{objects_of-laid_out}
use Rattle.scw_heap.proofs.heap.Heap.new.Goals as goal

pub invariant_of-result : goal.invariant_of-result
invariant_of-result c =
    let e = c.in_ok-words.ensures.items in
    let o : objects_of c.in_ok-words.words.items ≡ [] = objects_of-laid_out [] c.in_ok-words.words.items e in
    let n : length c.in_ok-words.words.items ≡ 0 = ap length e in (
      record {
        laid_out = rw o e;
        within = omega arith;
        reserved = let x = c.in_ok-words.ensures.exact in omega arith;
        small = omega arith;
      },
      record {
        flags = rw o c.in_ok-starts.ensures.items;
        reserved = let x = c.in_ok-starts.ensures.exact in omega arith;
      },
    )

pub returns : goal.returns
returns c = rw (objects_of-laid_out [] c.in_ok-words.words.items c.in_ok-words.ensures.items) refl
