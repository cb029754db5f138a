use Rattle.std.proofs.Common.{◌≡◌, ℕ, ◌+◌, ◌-◌, ◌*◌, ◌/◌, ◌++◌, ◌∷◌, [], replicate, List, length, length-append, refl, ◌∙◌, ap, arith}
use Rattle.std.proofs.lemmas.List.{length-replicate}
use Rattle.std.proofs.lemmas.Bool.{leb-false, lt-leb}
use Rattle.scw_heap.specs.Heap.{units_of, used, zeroed}
use Rattle.scw_heap.specs.Layout.{code_of, AreLaidOut}
use Rattle.scw_heap.proofs.LayoutLemmas.{objects_of-laid_out}
use Rattle.scw_heap.proofs.ChangeLemmas.{IsSound-laid_out, used_in, laid_out-made}
use Rattle.scw_heap.proofs.HeapLemmas.{object_at-made}
use Rattle.scw_heap.proofs.StartLemmas.{length-marked, marked-made}
use Rattle.scw_heap.proofs.heap.Heap.make.Goals as goal

pub returns-then-self-used-clause-full : goal.returns-then-self-used-clause-full
returns-then-self-used-clause-full c =
    let u = used_in _ _ _ _ c.self.invariant.0 c.self.view_is in
    (λ _. rw (← u.1) (lt-leb _ _ (omega (arith, c.if-self-used.true))), λ _. refl)

pub append-requires : goal.append-requires
append-requires c =
    let u = used_in _ _ _ _ c.self.invariant.0 c.self.view_is in
    omega (arith, c.self.invariant.0.reserved)

pub mark-requires-clause-within : goal.mark-requires-clause-within
mark-requires-clause-within c =
    let u = used_in _ _ _ _ c.self.invariant.0 c.self.view_is in
    omega (arith, length-marked c.args.self.now _ _ _ _ c.self.invariant.1 c.self.view_is, c.self.invariant.1.reserved)

pub invariant_of-self : goal.invariant_of-self
invariant_of-self c =
    let u = used_in _ _ _ _ c.self.invariant.0 c.self.view_is in
    let ws : List ℕ = c.self.inside.words.items in
    let h : AreLaidOut (c.args.self.now.objects ++ zeroed c.args.kind c.args.fields ∷ []) c.append.new.words.items =
    laid_out-made c.args.self.now ws _ _ _ c.args.kind c.args.fields c.self.invariant.0 c.self.view_is c.ranges.fields.fits c.append.ensures.narrow c.append.ensures.items in
    let zs : List ℕ = replicate (2 * units_of c.args.kind c.args.fields - 2) 0 in
    let l : length c.append.new.words.items ≡ length ws + (2 + length zs) =
    ap length c.append.ensures.items ∙ length-append ws (code_of c.args.kind ∷ c.args.fields ∷ zs) ∙ omega arith in (
      IsSound-laid_out _ _ _ _ h (omega (arith, length-replicate {A = ℕ} (2 * units_of c.args.kind c.args.fields - 2) 0)) (omega (arith, c.self.invariant.0.reserved, c.append.ensures.capacity)) c.self.invariant.0.small,
      marked-made c.args.self.now _ _ _ _ _ _ _ c.args.kind c.args.fields c.self.invariant.1 c.self.view_is h (rw c.units_of-2.ensures at c.mark.ensures.items) c.mark.ensures.capacity,
    )

pub returns-clause-ok : goal.returns-clause-ok
returns-clause-ok c =
    let u = used_in _ _ _ _ c.self.invariant.0 c.self.view_is in
    let ws : List ℕ = c.self.inside.words.items in
    let h : AreLaidOut (c.args.self.now.objects ++ zeroed c.args.kind c.args.fields ∷ []) c.append.new.words.items =
    laid_out-made c.args.self.now ws _ _ _ c.args.kind c.args.fields c.self.invariant.0 c.self.view_is c.ranges.fields.fits c.append.ensures.narrow c.append.ensures.items in
    rw (objects_of-laid_out _ _ h, u.1) refl

pub returns-clause-made : goal.returns-clause-made
returns-clause-made c =
    let u = used_in _ _ _ _ c.self.invariant.0 c.self.view_is in
    let ws : List ℕ = c.self.inside.words.items in
    let h : AreLaidOut (c.args.self.now.objects ++ zeroed c.args.kind c.args.fields ∷ []) c.append.new.words.items =
    laid_out-made c.args.self.now ws _ _ _ c.args.kind c.args.fields c.self.invariant.0 c.self.view_is c.ranges.fields.fits c.append.ensures.narrow c.append.ensures.items in
    let k : 1 + c.len.result / 2 ≡ 1 + used c.args.self.now.objects = omega arith in
    rw (objects_of-laid_out _ _ h, k) (object_at-made c.args.self.now.objects c.args.kind c.args.fields)

pub returns-clause-number : goal.returns-clause-number
returns-clause-number c =
    let u = used_in _ _ _ _ c.self.invariant.0 c.self.view_is in
    omega (arith)

pub returns-clause-full : goal.returns-clause-full
returns-clause-full c =
    let u = used_in _ _ _ _ c.self.invariant.0 c.self.view_is in
    (λ e. absurd (cc), λ l. absurd (omega (arith, leb-false _ _ (rw (← u.1) at l))))
