use Rattle.std.proofs.Common.{◌≡◌, ℕ, ◌+◌, List, Some, sym, ◌∙◌, ap, arith}
use Rattle.std.specs.Prelude.{slice_get, slice_index}
use Rattle.std.proofs.lemmas.Option.{slice_get-get_or, slice_get_past}
use Rattle.scw_heap.specs.Heap.{words_at}
use Rattle.scw_value.specs.Text.{units_at}
use Rattle.scw_value.proofs.EncodedLemmas.{utf8-drop, units_at-within, units_at-some}
use Rattle.scw_machine.proofs.OutputLemmas.{length_at}
use Rattle.scw_machine.proofs.output.character_at.Goals as goal
use Rattle.scw_machine.proofs.output.character_at.Goals.{then-i-length, else-i-length}

pub overflow_add-i : goal.overflow_add-i
overflow_add-i c = let e = length_at _ _ c.requires.text c.length-length.ensures in omega arith

-- the unit behind the first
behind_is : (c : goal.After-encode) → c.if-i-length.behind ≡ slice_get (words_at c.args.heap.now.objects c.args.text.0) (c.args.i + 1)
behind_is c =
    let us : List ℕ = words_at c.args.heap.now.objects c.args.text.0 in
    let e = length_at _ _ c.requires.text c.length-length.ensures in
    elim c.if-i-length.branch [
      | then-i-length w ↦ w.behind-is ∙ ap (λ (u : ℕ). Some u) w.unit_at.ensures ∙ sym (slice_get-get_or us (c.args.i + 1) 0 (omega (arith, w.if-i-length.true)))
      | else-i-length w ↦ w.behind-is ∙ sym (slice_get_past us (c.args.i + 1) (omega (arith, w.if-i-length.false)))
    ]

-- how many units the character takes
units_are : (c : goal.After-encode) → c.encode.result.units ≡ units_at (slice_index (words_at c.args.heap.now.objects c.args.text.0) c.args.i) (slice_get (words_at c.args.heap.now.objects c.args.text.0) (c.args.i + 1))
units_are c = rw (← behind_is c, ← c.unit_at-2.ensures) c.encode.ensures.units

pub returns-clause-bytes : goal.returns-clause-bytes
returns-clause-bytes c =
    rw (units_are c, c.encode.ensures.bytes, c.unit_at-2.ensures, behind_is c) (utf8-drop (words_at c.args.heap.now.objects c.args.text.0) c.args.i c.requires.within)

pub returns-clause-some : goal.returns-clause-some
returns-clause-some c =
    let us : List ℕ = words_at c.args.heap.now.objects c.args.text.0 in
    rw (units_are c) (units_at-some (slice_index us c.args.i) (slice_get us (c.args.i + 1)))

pub returns-clause-end : goal.returns-clause-end
returns-clause-end c = rw (units_are c) (units_at-within _ c.args.i c.requires.within)
