use Rattle.std.proofs.Common.{◌≡◌, ◌<◌, ◌≤◌, false, is_some, sym, ◌∙◌, arith}
use Rattle.std.proofs.lemmas.Bool.{leb-true, leb-false}
use Rattle.scw_heap.specs.Heap.{object_at}
use Rattle.scw_heap.proofs.HeapLemmas.{is_some-there}
use Rattle.scw_heap.proofs.StartLemmas.{no_start, start_read}
use Rattle.scw_heap.proofs.heap.Heap.has.Goals as goal
use Rattle.scw_heap.proofs.heap.Heap.has.Goals.{then-number-gt0, else-number-gt0}

pub returns-then-number-len-clause-value : goal.returns-then-number-len-clause-value
returns-then-number-len-clause-value c =
    elim c.if-number-gt0.branch [
      | then-number-gt0 w ↦
          let l : c.args.number ≤ w.len.result = leb-true _ _ (sym w.value-is ∙ c.if-number-len.true) in
          start_read c.args.self.now _ _ _ _ c.args.number c.index.result.now c.self.invariant.1 c.self.view_is w.if-number-gt0.true (omega arith) c.index.ensures
      | else-number-gt0 w ↦ absurd (omega arith)
    ]

pub returns-then-number-len-clause-there : goal.returns-then-number-len-clause-there
returns-then-number-len-clause-there c = is_some-there _ _ (returns-then-number-len-clause-value c)

pub returns-else-number-len-clause-value : goal.returns-else-number-len-clause-value
returns-else-number-len-clause-value c =
    let n : is_some (object_at c.args.self.now.objects c.args.number) ≡ false =
    no_start c.args.self.now _ _ _ _ c.args.number c.self.invariant.1 c.self.view_is
    (λ some. elim c.if-number-gt0.branch [
      | then-number-gt0 w ↦
          let l : w.len.result < c.args.number = leb-false _ _ (sym w.value-is ∙ c.if-number-len.false) in omega arith
      | else-number-gt0 w ↦ absurd (omega arith)
    ]) in
    c.if-number-len.false ∙ sym n

pub returns-else-number-len-clause-there : goal.returns-else-number-len-clause-there
returns-else-number-len-clause-there c = is_some-there _ _ (returns-else-number-len-clause-value c)
