use Rattle.std.proofs.Common.{◌≡◌, ℕ, ◌^◌, ◌<◌, Option, Some, IfSome, ap, sym, ◌∙◌}
use Rattle.scw_heap.specs.Heap.{Entity, limit_of, words_in}
use Rattle.scw_heap.specs.Layout.{width_of}
use Rattle.scw_heap.proofs.FieldLemmas.{field-lt}
use Rattle.scw_heap.proofs.FoundLemmas.{found, word_found}
use Rattle.scw_heap.proofs.heap.Heap.get.Goals as goal

pub locate-cell-requires : goal.locate-cell-requires
locate-cell-requires c =
    let f = word_found c.args.self.now _ c.as_slice-words.result.now _ _ _ _ c.self.invariant.0 c.self.view_is c.as_slice-words.ensures.value c.requires in
    (f.0, f.2, f.3)

pub returns-clause-value : goal.returns-clause-value
returns-clause-value c =
    let f = word_found c.args.self.now _ c.as_slice-words.result.now _ _ _ _ c.self.invariant.0 c.self.view_is c.as_slice-words.ensures.value c.requires in
    cc (c.field.ensures, c.locate-cell.ensures.word, c.locate-cell.ensures.shift, c.locate-cell.ensures.width, (found f.0 _ _ f.2).word c.args.i f.3, ap words_in f.1)

below : (object : Entity) (found : Option Entity) (n width : ℕ) → found ≡ Some object → width ≡ width_of object.kind → n < 2 ^ width → IfSome found (λ o. n < limit_of o.kind)
below object found n width is wide less = rw is (rw (sym wide) less)

pub returns-clause-within : goal.returns-clause-within
returns-clause-within c =
    let f = word_found c.args.self.now _ c.as_slice-words.result.now _ _ _ _ c.self.invariant.0 c.self.view_is c.as_slice-words.ensures.value c.requires in
    below f.0 _ c.field.result c.locate-cell.result.width f.1 (c.locate-cell.ensures.width ∙ ap width_of (found f.0 _ _ f.2).kind) (rw c.field.ensures (field-lt _ _ c.locate-cell.result.width))
