use Rattle.std.proofs.Common.{length-set, set, refl, arith}
use Rattle.scw_heap.specs.Heap.{with_word}
use Rattle.scw_heap.specs.Layout.{AreLaidOut}
use Rattle.scw_heap.proofs.FoundLemmas.{found, word_found}
use Rattle.scw_heap.proofs.LayoutLemmas.{objects_of-laid_out}
use Rattle.scw_heap.proofs.ChangeLemmas.{IsSound-laid_out, used_in, narrow_at, laid_out-set}
use Rattle.scw_heap.proofs.StartLemmas.{marked-set}
use Rattle.scw_heap.proofs.heap.Heap.set.Goals as goal

pub locate-cell-requires : goal.locate-cell-requires
locate-cell-requires c =
    let f = word_found c.args.self.now _ c.as_slice.result.now _ _ _ _ c.self.invariant.0 c.self.view_is c.as_slice.ensures.value c.requires.within in
    (f.0, f.2, f.3)

pub with_field-word-requires-clause-narrow : goal.with_field-word-requires-clause-narrow
with_field-word-requires-clause-narrow c =
    let f = word_found c.args.self.now _ c.as_slice.result.now _ _ _ _ c.self.invariant.0 c.self.view_is c.as_slice.ensures.value c.requires.within in
    rw (c.locate-cell.ensures.width, (found f.0 _ _ f.2).kind) (narrow_at _ c.args.v f.0 c.requires.narrow f.1)

pub invariant_of-self : goal.invariant_of-self
invariant_of-self c =
    let h : AreLaidOut (with_word c.args.self.now.objects c.args.r.0 c.args.i c.args.v) (set c.self.inside.words.items c.locate-cell.result.word c.with_field-word.result) =
    laid_out-set c.args.self.now _ c.as_slice.result.now _ _ c.args.r.0 c.args.i c.args.v _ _ _ _ _ c.self.invariant.0 c.self.view_is c.as_slice.ensures.value c.requires.within c.requires.narrow c.locate-cell.ensures.word c.locate-cell.ensures.shift c.locate-cell.ensures.width c.locate-cell.ensures.within c.index.ensures c.with_field-word.ensures in (
      IsSound-laid_out _ _ _ _ h (omega (arith, length-set c.self.inside.words.items c.locate-cell.result.word c.with_field-word.result, c.self.invariant.0.within)) c.self.invariant.0.reserved c.self.invariant.0.small,
      marked-set c.args.self.now _ _ _ _ _ c.args.r.0 c.args.i c.args.v c.self.invariant.1 c.self.view_is h,
    )

pub returns : goal.returns
returns c =
    let h : AreLaidOut (with_word c.args.self.now.objects c.args.r.0 c.args.i c.args.v) (set c.self.inside.words.items c.locate-cell.result.word c.with_field-word.result) =
    laid_out-set c.args.self.now _ c.as_slice.result.now _ _ c.args.r.0 c.args.i c.args.v _ _ _ _ _ c.self.invariant.0 c.self.view_is c.as_slice.ensures.value c.requires.within c.requires.narrow c.locate-cell.ensures.word c.locate-cell.ensures.shift c.locate-cell.ensures.width c.locate-cell.ensures.within c.index.ensures c.with_field-word.ensures in
    rw (objects_of-laid_out _ _ h, (used_in _ _ _ _ c.self.invariant.0 c.self.view_is).1) refl
