-- A run, row after row: what a row adds to the bytes that wait, and what was put in the end.
use Rattle.std.proofs.Common.{◌≡◌, inl, inr, ℕ, ◌+◌, ◌-◌, ◌≤◌, ◌<◌, true, false, List, [], ◌++◌, length, Option, Some, None, IfSome, Ok, Err, refl, sym, ap, ◌∙◌, subst, arith, add-one, append-nil, length-append, length-drop}
use Rattle.std.specs.Io.KnownBytes.{append_known}
use Rattle.scw_outside.specs.Puts.{TookPart}
use Rattle.scw_frame.specs.declared.program.Program.{Program}
use Rattle.scw_step.specs.declared.event.Event.TheVariants as event
use Rattle.scw_step.specs.declared.state.State.{State}
use Rattle.scw_step.specs.declared.stop.Stop.TheVariants as stop
use Rattle.scw_step.specs.Step.{stepping}
use Rattle.scw_step.specs.declared.stop.Stop.{Stop}
use Rattle.scw_machine.specs.declared.end.Place.{Place}
use Rattle.scw_machine.specs.declared.end.End.{End}
use Rattle.scw_machine.specs.declared.end.End.TheVariants as why
use Rattle.scw_machine.specs.Course.{Halt, returned, uncaught, stuck, full, crowded, going, after_step, after_stop, advance, course, output_of}
use Rattle.scw_machine.specs.Output.{IsParted, said_by}
use Rattle.scw_machine.specs.Run.{Halts, Stops, Breaks, Came, place_of}
use Rattle.scw_machine.specs.Row.{Goes, Ends, HaltsBy, More, Over, Fails, Gathers, Closed, end_by, rows_of}
use Rattle.scw_machine.proofs.OutputLemmas.{append_known-none, parted-none, parted-front, parted-more, part-more, parted-whole}

-- ---- one row

course-next : (p : Program) (s t : State) (n : ℕ) (out : List ℕ) → course p s n ≡ going t out → course p s (n + 1) ≡ advance p (going t out)
unfolding course
course-next p s t n out e = rw add-one (ap (advance p) e)

pub goes-on : (p : Program) (s t : State) → stepping p s ≡ Ok (event.On, t) → Goes p s t []
unfolding advance
goes-on p s t e = record { goes = λ out. ap (after_step s out) e ∙ ap (λ (l : List ℕ). going t l) (sym (append-nil out)) }

pub goes-says : (p : Program) (s t : State) (r : ℕ) → stepping p s ≡ Ok (event.Says r, t) → Goes p s t (said_by t.heap.objects r)
unfolding advance
goes-says p s t r e = record { goes = λ out. ap (after_step s out) e }

pub ends-returned : (p : Program) (s t : State) → stepping p s ≡ Ok (event.Ended, t) → Ends returned p s t
unfolding advance
ends-returned p s t e = record { ends = λ out. ap (after_step s out) e }

pub ends-uncaught : (p : Program) (s t : State) (r : ℕ) → stepping p s ≡ Ok (event.Thrown r, t) → Ends (uncaught r) p s t
unfolding advance
ends-uncaught p s t r e = record { ends = λ out. ap (after_step s out) e }

-- a step that stopped ends the run
stopped : (p : Program) (s : State) (e : Stop) → stepping p s ≡ Err e → (out : List ℕ) → advance p (going s out) ≡ after_stop e s out
unfolding advance
stopped p s e h out = ap (after_step s out) h

pub halts-by : (p : Program) (s t : State) (e : Stop) (place : Place) → stepping p s ≡ Err e → place ≡ place_of p s.frames → HaltsBy (end_by e place) p s t
halts-by p s t stop.Undefined place h at = (record { ends = stopped p s stop.Undefined h }, at)
halts-by p s t (stop.Throws f) place h at = (record { ends = stopped p s (stop.Throws f) h }, at)
halts-by p s t (stop.ThrowsObject r) place h at = (record { ends = stopped p s (stop.ThrowsObject r) h }, at)
halts-by p s t (stop.HeapFull need) place h at = record { ends = stopped p s (stop.HeapFull need) h }
halts-by p s t stop.TooManyFrames place h at = record { ends = stopped p s stop.TooManyFrames h }

-- ---- bytes that wait

-- no more bytes follow
parted-next : (old mid new : Option (List ℕ)) (before between after : Option ℕ) (bytes waiting now : List ℕ)
    → IsParted old mid before between bytes waiting → IsParted mid new between after waiting now → IsParted old new before after bytes now
parted-next old mid new before between after bytes waiting now a b =
    subst (λ (l : List ℕ). IsParted old new before after l now) (append-nil bytes)
    (parted-more old mid new before between after bytes waiting [] now a
    (subst (λ (l : List ℕ). IsParted mid new between after l now) (sym (append-nil waiting)) b))

-- all that waited was put
pub parted-all : (old new : Option (List ℕ)) (before after : Option ℕ) (waiting : List ℕ)
    → new ≡ append_known old waiting → IfSome before (λ r. after ≡ Some (r - length waiting)) → IsParted old new before after waiting []
parted-all old new before after waiting is left =
    subst (λ (l : List ℕ). IsParted old new before after l []) (append-nil waiting) (parted-front old new before after waiting [] is left)

pub put-whole : (old mid new : Option (List ℕ)) (before between : Option ℕ) (bytes waiting : List ℕ)
    → IsParted old mid before between bytes waiting → new ≡ append_known mid waiting → new ≡ append_known old bytes
put-whole old mid new before between bytes waiting a is =
    is ∙ parted-whole old mid before between [] bytes waiting a ∙ ap (λ known. append_known known bytes) (sym (append_known-none old))

part-whole : (old mid new : Option (List ℕ)) (before between : Option ℕ) (bytes waiting : List ℕ)
    → IsParted old mid before between bytes waiting → TookPart mid new waiting → TookPart old new bytes
part-whole old mid new before between bytes waiting a b =
    subst (TookPart old new) (append-nil bytes)
    (part-more old mid new before between bytes waiting [] a (subst (TookPart mid new) (sym (append-nil waiting)) b))

-- a call failed that was sure to succeed with more room
pub short-of : (room : Option ℕ) (n : ℕ) → IfSome room (λ r. n ≤ r → false ≡ true) → IfSome room (λ r. r < n)
short-of None n h = tt
short-of (Some r) n h = let never : n ≤ r → 1 ≤ 0 = (λ fits. let no = h fits in absurd (cc)) in grind (arith, never)

short-more : (old mid : Option (List ℕ)) (before between : Option ℕ) (bytes waiting more : List ℕ)
    → IsParted old mid before between bytes waiting → IfSome between (λ r. r < length (waiting ++ more)) → IfSome before (λ r. r < length (bytes ++ more))
short-more old mid None between bytes waiting more a h = tt
short-more old mid (Some r) between bytes waiting more a h =
    let left : between ≡ Some (r - a.count) = a.left in
    let now : r - a.count < length (waiting ++ more) = subst (λ room. IfSome room (λ n. n < length (waiting ++ more))) left h in
    let w = a.within in
    omega (arith, length-append waiting more, length-append bytes more, ap length a.rest, length-drop a.count bytes)

short-whole : (old mid : Option (List ℕ)) (before between : Option ℕ) (bytes waiting : List ℕ)
    → IsParted old mid before between bytes waiting → IfSome between (λ r. r < length waiting) → IfSome before (λ r. r < length bytes)
short-whole old mid before between bytes waiting a h =
    subst (λ (l : List ℕ). IfSome before (λ r. r < length l)) (append-nil bytes)
    (short-more old mid before between bytes waiting [] a (subst (λ (l : List ℕ). IfSome between (λ r. r < length l)) (sym (append-nil waiting)) h))

-- ---- many rows

pub gathers-none : (p : Program) (s : State) (told : Option (List ℕ)) (room : Option ℕ) (waiting : List ℕ) → waiting ≡ [] → Gathers 0 p s s told told room room waiting
unfolding course
gathers-none p s told room waiting none = rw none (record { out = []; run = refl; parted = parted-none told room [] })

pub gathers-more : (i : ℕ) (p : Program) (s t u : State) (old mid new : Option (List ℕ)) (before between after : Option ℕ) (waiting behind : List ℕ)
    → Gathers i p s t old mid before between waiting → More p t u mid new between after waiting behind → Gathers (i + 1) p s u old new before after behind
gathers-more i p s t u old mid new before between after waiting behind g m = record {
  out = g.out ++ m.said;
  run = course-next p s t i g.out g.run ∙ m.goes.goes g.out;
  parted = parted-more old mid new before between after g.out waiting m.said behind g.parted m.parted;
}

-- all that waited is put behind a row
pub more-put : (p : Program) (s t : State) (old mid new : Option (List ℕ)) (before between after : Option ℕ) (waiting behind gone : List ℕ)
    → More p s t old mid before between waiting behind → new ≡ append_known mid behind → IfSome between (λ r. after ≡ Some (r - length behind)) → gone ≡ []
    → More p s t old new before after waiting gone
more-put p s t old mid new before between after waiting behind gone m is left none = rw none (record {
  said = m.said;
  goes = m.goes;
  parted = parted-next old mid new before between after (waiting ++ m.said) behind [] m.parted (parted-all mid new between after behind is left);
})

-- the sink failed there
pub fails-put : (p : Program) (s t : State) (old mid new : Option (List ℕ)) (before between : Option ℕ) (waiting behind : List ℕ)
    → More p s t old mid before between waiting behind → TookPart mid new behind → IfSome between (λ r. r < length behind) → Fails p s t old new before waiting
fails-put p s t old mid new before between waiting behind m part short = record {
  said = m.said;
  goes = m.goes;
  part = part-whole old mid new before between (waiting ++ m.said) behind m.parted part;
  short = short-whole old mid before between (waiting ++ m.said) behind m.parted short;
}

-- the sink failed at bytes that waited
breaks-at : (steps rows earlier : ℕ) (p : Program) (s t : State) (said : List ℕ) (old mid new : Option (List ℕ)) (before between : Option ℕ) (out waiting : List ℕ)
    → rows ≤ steps → rows ≤ earlier + 1 → course p s earlier ≡ going t said → output_of (course p s rows) ≡ out → IsParted old mid before between out waiting → TookPart mid new waiting → IfSome between (λ r. r < length waiting)
    → Breaks steps rows p s old new before
breaks-at steps rows earlier p s t said old mid new before between out waiting within count run is a part short = record {
  within = within;
  earlier = earlier;
  count = count;
  last = t;
  out = said;
  run = run;
  part = subst (TookPart old new) (sym is) (part-whole old mid new before between out waiting a part);
  short = subst (λ (l : List ℕ). IfSome before (λ r. r < length l)) (sym is) (short-whole old mid before between out waiting a short);
}

breaks-put : (steps i : ℕ) (p : Program) (s t : State) (old mid new : Option (List ℕ)) (before between : Option ℕ) (waiting : List ℕ)
    → i ≤ steps → Gathers i p s t old mid before between waiting → TookPart mid new waiting → IfSome between (λ r. r < length waiting) → Breaks steps i p s old new before
breaks-put steps i p s t old mid new before between waiting within g part short =
    breaks-at steps i i p s t g.out old mid new before between g.out waiting within (omega arith) g.run (ap output_of g.run) g.parted part short

-- the sink failed in a row
pub breaks-row : (steps i : ℕ) (p : Program) (s t u : State) (old mid new : Option (List ℕ)) (before between : Option ℕ) (waiting : List ℕ)
    → i < steps → Gathers i p s t old mid before between waiting → Fails p t u mid new between waiting → Breaks steps (i + 1) p s old new before
breaks-row steps i p s t u old mid new before between waiting within g f =
    let is : output_of (course p s (i + 1)) ≡ g.out ++ f.said = ap output_of (course-next p s t i g.out g.run ∙ f.goes.goes g.out) in
    record {
      within = omega arith;
      earlier = i;
      count = omega arith;
      last = t;
      out = g.out;
      run = g.run;
      part = subst (TookPart old new) (sym is) (part-more old mid new before between g.out waiting f.said g.parted f.part);
      short = subst (λ (l : List ℕ). IfSome before (λ r. r < length l)) (sym is) (short-more old mid before between g.out waiting f.said g.parted f.short);
    }

-- ---- the end

plus-none : (i : ℕ) → i + 0 ≡ i
plus-none i = omega arith

-- the row that ends a run says nothing
output-over : (end : End) (i : ℕ) (p : Program) (s t u : State) (out : List ℕ) → course p s i ≡ going t out → HaltsBy end p t u → output_of (course p s (i + rows_of end)) ≡ out
output-over why.Ended i p s t u out run h = ap output_of (course-next p s t i out run ∙ h.ends out)
output-over (why.Thrown r) i p s t u out run h = ap output_of (course-next p s t i out run ∙ h.ends out)
output-over why.Steps i p s t u out run h = absurd h
output-over (why.HeapFull need) i p s t u out run h = rw (plus-none i) (ap output_of run)
output-over why.Frames i p s t u out run h = rw (plus-none i) (ap output_of run)
output-over why.SinkFault i p s t u out run h = absurd h
output-over (why.Stuck place) i p s t u out run h = rw (plus-none i) (ap output_of run)

halts : (halt : Halt) (steps i : ℕ) (p : Program) (s t u : State) (out : List ℕ) (old new : Option (List ℕ))
    → i < steps → course p s i ≡ going t out → Ends halt p t u → new ≡ append_known old out → Halts halt steps (i + 1) p s u old new
halts halt steps i p s t u out old new within run h taken = record {
  earlier = i;
  count = refl;
  within = within;
  last = t;
  out = out;
  run = run;
  over = course-next p s t i out run ∙ h.ends out;
  taken = taken;
}

abbrev stops : (halt : Halt) (steps i : ℕ) (p : Program) (s t : State) (out : List ℕ) (old new : Option (List ℕ))
    → i < steps → course p s i ≡ going t out → Ends halt p t t → new ≡ append_known old out → Stops halt steps i p s old new
stops halt steps i p s t out old new within run h taken = record {
  within = within;
  last = t;
  out = out;
  run = run;
  over = course-next p s t i out run ∙ h.ends out;
  taken = taken;
}

-- a row ended the run, and all that was put was taken
settled : (end : End) (steps i : ℕ) (p : Program) (s t u : State) (out : List ℕ) (old new : Option (List ℕ)) (room : Option ℕ)
    → i < steps → course p s i ≡ going t out → HaltsBy end p t u → new ≡ append_known old out → Came end steps (i + rows_of end) p s u old new room
settled why.Ended steps i p s t u out old new room within run h taken = halts returned steps i p s t u out old new within run h taken
settled (why.Thrown r) steps i p s t u out old new room within run h taken = halts (uncaught r.0) steps i p s t u out old new within run h taken
settled why.Steps steps i p s t u out old new room within run h taken = absurd h
settled (why.HeapFull need) steps i p s t u out old new room within run h taken = rw (plus-none i) (stops (full need) steps i p s t out old new within run h taken)
settled why.Frames steps i p s t u out old new room within run h taken = rw (plus-none i) (stops crowded steps i p s t out old new within run h taken)
settled why.SinkFault steps i p s t u out old new room within run h taken = absurd h
settled (why.Stuck place) steps i p s t u out old new room within run h taken =
    rw (plus-none i) (record { stops = stops stuck steps i p s t out old new within run h.0 taken; at = h.1 })

rows_of-within : (end : End) (i steps : ℕ) → i < steps → i + rows_of end ≤ steps
rows_of-within why.Ended i steps h = omega arith
rows_of-within (why.Thrown r) i steps h = omega arith
rows_of-within why.Steps i steps h = omega arith
rows_of-within (why.HeapFull need) i steps h = omega arith
rows_of-within why.Frames i steps h = omega arith
rows_of-within why.SinkFault i steps h = omega arith
rows_of-within (why.Stuck place) i steps h = omega arith

-- a row ended the run, and all that waited was put, or the sink failed
pub came-over : (wanted end : End) (steps i : ℕ) (p : Program) (s t u : State) (old mid last new : Option (List ℕ)) (before between after : Option ℕ) (faults more : ℕ) (waiting behind gone : List ℕ)
    → i < steps → Gathers i p s t old mid before between waiting → Over wanted p t u mid last between after waiting behind → Closed wanted end last new after faults more behind gone
    → Came end steps (i + rows_of wanted) p s u old new before
came-over wanted end steps i p s t u old mid last new before between after faults more waiting behind gone within g o (inl c) =
    let a = parted-next old mid last before between after g.out waiting behind g.parted o.parted in
    subst (λ e. Came e steps (i + rows_of wanted) p s u old new before) (sym c.same)
    (settled wanted steps i p s t u g.out old new before within g.run o.halts (put-whole old last new before after g.out behind a c.taken))
came-over wanted end steps i p s t u old mid last new before between after faults more waiting behind gone within g o (inr l) =
    let a = parted-next old mid last before between after g.out waiting behind g.parted o.parted in
    subst (λ e. Came e steps (i + rows_of wanted) p s u old new before) (sym l.fault)
    (breaks-at steps (i + rows_of wanted) i p s t g.out old last new before after g.out behind (rows_of-within wanted i steps within) (rows_of-within wanted i (i + 1) (omega arith)) g.run (output-over wanted i p s t u g.out g.run o.halts) a l.part l.short)

-- all rows were done, and all that waited was put, or the sink failed
pub came-steps : (end : End) (steps : ℕ) (p : Program) (s t : State) (old mid new : Option (List ℕ)) (before between : Option ℕ) (faults more : ℕ) (waiting gone : List ℕ)
    → Gathers steps p s t old mid before between waiting → Closed why.Steps end mid new between faults more waiting gone
    → Came end steps steps p s t old new before
came-steps end steps p s t old mid new before between faults more waiting gone g (inl c) =
    subst (λ e. Came e steps steps p s t old new before) (sym c.same)
    (refl, record { out = g.out; run = g.run; taken = put-whole old mid new before between g.out waiting g.parted c.taken })
came-steps end steps p s t old mid new before between faults more waiting gone g (inr l) =
    subst (λ e. Came e steps steps p s t old new before) (sym l.fault)
    (breaks-put steps steps p s t old mid new before between waiting (omega arith) g l.part l.short)
