-- The run within limits and the run without, row after row.
use Rattle.std.proofs.Common.{◌≡◌, ℕ, ◌+◌, ◌<◌, zero, suc, true, false, List, [], ◌++◌, length, Option, Some, None, IfSome, Result, Ok, Err, refl, sym, ap, ◌∙◌, subst, arith, append-nil, append_assoc, length-append}
use Rattle.scw_outside.specs.Puts.{TookPart}
use Rattle.scw_frame.specs.declared.program.Program.{Program}
use Rattle.scw_step.specs.declared.event.Event.{Event}
use Rattle.scw_step.specs.declared.event.Event.TheVariants as event
use Rattle.scw_step.specs.declared.state.State.{State}
use Rattle.scw_step.specs.declared.stop.Stop.{Stop}
use Rattle.scw_step.specs.declared.stop.Stop.TheVariants as stop
use Rattle.scw_step.specs.Step.{stepping}
use Rattle.scw_step.specs.Unlimited.{unlimited}
use Rattle.scw_step.proofs.FollowLemmas.{Follows, Free, goes as continues, ends, free-of, beside, done, stops, full, crowded}
use Rattle.scw_step.proofs.PlainLemmas.{IsFree}
use Rattle.scw_step.proofs.StepFollowLemmas.{stepping-follows}
use Rattle.scw_machine.specs.declared.end.End.{End}
use Rattle.scw_machine.specs.declared.end.End.TheVariants as why
use Rattle.scw_machine.specs.declared.end.Place.{Place}
use Rattle.scw_machine.specs.Course as limit
use Rattle.scw_machine.specs.Course.{Course, Halt, returned, uncaught, stuck, going, halted, after_event, after_stop, after_step, advance, course, output_of}
use Rattle.scw_machine.specs.Output.{said_by}
use Rattle.scw_machine.specs.Run.{Breaks, Came, Halts, Ran, Running, Sticks, Stops}
use Rattle.scw_machine.specs.Unlimited.{CameUnlimited, Passes, RanUnlimited, is_limit, is_limited}
use Rattle.scw_machine.proofs.OutputLemmas.{part-front}

-- ---- what is put only grows

pub record Grows (old new : List ℕ) : Type 0 where
  pub more : List ℕ
  pub is : new ≡ old ++ more

grows-none : (out : List ℕ) → Grows out out
grows-none out = record { more = []; is = sym (append-nil out) }

grows-again : (out mid now : List ℕ) → Grows out mid → Grows mid now → Grows out now
grows-again out mid now a b = record {
  more = a.more ++ b.more;
  is = b.is ∙ ap (λ l. l ++ b.more) a.is ∙ append_assoc out a.more b.more;
}

after_event-grows : (e : Event) (t : State) (out : List ℕ) → Grows out (output_of (after_event e t out))
after_event-grows event.On t out = grows-none out
after_event-grows (event.Says r) t out = record { more = said_by t.heap.objects r; is = refl }
after_event-grows event.Ended t out = grows-none out
after_event-grows (event.Thrown r) t out = grows-none out

after_stop-grows : (e : Stop) (s : State) (out : List ℕ) → Grows out (output_of (after_stop e s out))
after_stop-grows stop.Undefined s out = grows-none out
after_stop-grows (stop.Throws f) s out = grows-none out
after_stop-grows (stop.ThrowsObject r) s out = grows-none out
after_stop-grows (stop.HeapFull n) s out = grows-none out
after_stop-grows stop.TooManyFrames s out = grows-none out

after_step-grows : (s : State) (out : List ℕ) (r : Result (Event × State) Stop) → Grows out (output_of (after_step s out r))
after_step-grows s out (Ok x) = after_event-grows x.0 x.1 out
after_step-grows s out (Err e) = after_stop-grows e s out

advance-grows : (p : Program) (c : Course) → Grows (output_of c) (output_of (advance p c))
unfolding advance
advance-grows p (going s out) = after_step-grows s out (stepping p s)
advance-grows p (halted h s out) = grows-none out

-- ---- both runs

-- the second course is the first one without limits; or a limit ended the first one alone
pub data Alongside : Course → Course → Type 0 where
  goes : (s : State) (out : List ℕ) → Alongside (going s out) (going (unlimited s) out)
  over : (h : Halt) (s : State) (out : List ℕ) → Alongside (halted h s out) (halted h (unlimited s) out)
  fills : (n : ℕ) (s : State) (out : List ℕ) (c : Course) → Grows out (output_of c) → Alongside (halted (limit.full n) s out) c
  crowds : (s : State) (out : List ℕ) (c : Course) → Grows out (output_of c) → Alongside (halted limit.crowded s out) c

after_event-alongside : (e : Event) (t : State) (out : List ℕ) → Alongside (after_event e t out) (after_event e (unlimited t) out)
after_event-alongside event.On t out = goes t out
after_event-alongside (event.Says r) t out = goes t (out ++ said_by t.heap.objects r)
after_event-alongside event.Ended t out = over returned t out
after_event-alongside (event.Thrown r) t out = over (uncaught r) t out

after_stop-alongside : (e : Stop) (s : State) (out : List ℕ) → IsFree e → Alongside (after_stop e s out) (after_stop e (unlimited s) out)
after_stop-alongside stop.Undefined s out h = over stuck s out
after_stop-alongside (stop.Throws f) s out h = over stuck s out
after_stop-alongside (stop.ThrowsObject r) s out h = over stuck s out
after_stop-alongside (stop.HeapFull n) s out h = absurd h
after_stop-alongside stop.TooManyFrames s out h = absurd h

after_step-alongside : (s : State) (out : List ℕ) (r q : Result (Event × State) Stop) → Follows beside r q → Alongside (after_step s out r) (after_step (unlimited s) out q)
after_step-alongside s out r q (done x) = after_event-alongside x.0 x.1 out
after_step-alongside s out r q (stops e h) = after_stop-alongside e s out h
after_step-alongside s out r q (full n x h) = fills n s out (after_step (unlimited s) out x) (after_step-grows (unlimited s) out x)
after_step-alongside s out r q (crowded x h) = crowds s out (after_step (unlimited s) out x) (after_step-grows (unlimited s) out x)

advance-alongside : (p : Program) (c d : Course) → Alongside c d → Alongside (advance p c) (advance p d)
unfolding advance
advance-alongside p c d (goes s out) = after_step-alongside s out _ _ (stepping-follows p s)
advance-alongside p c d (over h s out) = over h s out
advance-alongside p c d (fills n s out e g) = fills n s out (advance p e) (grows-again out (output_of e) (output_of (advance p e)) g (advance-grows p e))
advance-alongside p c d (crowds s out e g) = crowds s out (advance p e) (grows-again out (output_of e) (output_of (advance p e)) g (advance-grows p e))

pub course-alongside : (p : Program) (s : State) (n : ℕ) → Alongside (course p s n) (course p (unlimited s) n)
unfolding course
course-alongside p s zero = goes s []
course-alongside p s (suc n) = advance-alongside p (course p s n) (course p (unlimited s) n) (course-alongside p s n)

-- ---- no limit is met without limits

data Unmet : Course → Type 0 where
  on : (s : State) (out : List ℕ) → Unmet (going (unlimited s) out)
  ended : (h : Halt) (s : State) (out : List ℕ) → is_limit h ≡ false → Unmet (halted h s out)

after_event-unmet : (e : Event) (t : State) (out : List ℕ) → Unmet (after_event e (unlimited t) out)
after_event-unmet event.On t out = on t out
after_event-unmet (event.Says r) t out = on t (out ++ said_by t.heap.objects r)
after_event-unmet event.Ended t out = ended returned (unlimited t) out refl
after_event-unmet (event.Thrown r) t out = ended (uncaught r) (unlimited t) out refl

after_stop-unmet : (e : Stop) (s : State) (out : List ℕ) → IsFree e → Unmet (after_stop e s out)
after_stop-unmet stop.Undefined s out h = ended stuck s out refl
after_stop-unmet (stop.Throws f) s out h = ended stuck s out refl
after_stop-unmet (stop.ThrowsObject r) s out h = ended stuck s out refl
after_stop-unmet (stop.HeapFull n) s out h = absurd h
after_stop-unmet stop.TooManyFrames s out h = absurd h

after_step-unmet : (s : State) (out : List ℕ) (r : Result (Event × State) Stop) → Free beside r → Unmet (after_step s out r)
after_step-unmet s out r (continues x) = after_event-unmet x.0 x.1 out
after_step-unmet s out r (ends e h) = after_stop-unmet e s out h

advance-unmet : (p : Program) (c : Course) → Unmet c → Unmet (advance p c)
unfolding advance
advance-unmet p c (on s out) = after_step-unmet (unlimited s) out (stepping p (unlimited s)) (free-of (stepping-follows p s))
advance-unmet p c (ended h s out e) = ended h s out e

course-unmet : (p : Program) (s : State) (n : ℕ) → Unmet (course p (unlimited s) n)
unfolding course
course-unmet p s zero = on s []
course-unmet p s (suc n) = advance-unmet p (course p (unlimited s) n) (course-unmet p s n)

unmet-free : (c : Course) → Unmet c → is_limited c ≡ false
unmet-free c (on s out) = refl
unmet-free c (ended h s out e) = e

-- ---- what follows of a run that is known

abbrev without : Course → Course
without (going s out) = going (unlimited s) out
without (halted h s out) = halted h (unlimited s) out

-- no limit was met
alongside-free : (c d : Course) → Alongside c d → is_limited c ≡ false → d ≡ without c
alongside-free c d (goes s out) e = refl
alongside-free c d (over h s out) e = refl
alongside-free c d (fills n s out x g) e = absurd (cc)
alongside-free c d (crowds s out x g) e = absurd (cc)

alongside-grows : (c d : Course) → Alongside c d → Grows (output_of c) (output_of d)
alongside-grows c d (goes s out) = grows-none out
alongside-grows c d (over h s out) = grows-none out
alongside-grows c d (fills n s out x g) = g
alongside-grows c d (crowds s out x g) = g

-- what the run has come to without a limit, it has come to in the run without limits
pub course-free : (p : Program) (s : State) (n : ℕ) (c : Course) → course p s n ≡ c → is_limited c ≡ false → course p (unlimited s) n ≡ without c
course-free p s n c e free =
    alongside-free (course p s n) (course p (unlimited s) n) (course-alongside p s n) (ap is_limited e ∙ free) ∙ ap without e

-- ---- where a limit ends a run

-- the rows before, after which both runs go on and have put the same
pub record Before (p : Program) (s : State) (n : ℕ) (t : State) (out : List ℕ) : Type 0 where
  pub rows : ℕ
  pub fewer : rows < n
  pub limited : course p s rows ≡ going t out
  pub run : course p (unlimited s) rows ≡ going (unlimited t) out

before-last : (p : Program) (s : State) (n : ℕ) (t : State) (out : List ℕ) → course p s n ≡ going t out → Before p s (suc n) t out
before-last p s n t out e = record { rows = n; fewer = omega arith; limited = e; run = course-free p s n (going t out) e refl }

before-more : (p : Program) (s : State) (n : ℕ) (t : State) (out : List ℕ) → Before p s n t out → Before p s (suc n) t out
before-more p s n t out b = record { rows = b.rows; fewer = omega (arith, b.fewer); limited = b.limited; run = b.run }

-- a limit leaves the state as it was
after_event-limit : (e : Event) (u : State) (o : List ℕ) (h : Halt) (t : State) (out : List ℕ) → after_event e u o ≡ halted h t out → is_limit h ≡ true → ⊥
after_event-limit event.On u o h t out e l = absurd (cc)
after_event-limit (event.Says r) u o h t out e l = absurd (cc)
after_event-limit event.Ended u o h t out e l = let same : returned ≡ h = cc in let no = ap is_limit same ∙ l in absurd (cc)
after_event-limit (event.Thrown r) u o h t out e l = let same : uncaught r ≡ h = cc in let no = ap is_limit same ∙ l in absurd (cc)

after_stop-limit : (e : Stop) (u : State) (o : List ℕ) (h : Halt) (t : State) (out : List ℕ) → after_stop e u o ≡ halted h t out → going u o ≡ going t out
after_stop-limit stop.Undefined u o h t out e = cc
after_stop-limit (stop.Throws f) u o h t out e = cc
after_stop-limit (stop.ThrowsObject r) u o h t out e = cc
after_stop-limit (stop.HeapFull n) u o h t out e = cc
after_stop-limit stop.TooManyFrames u o h t out e = cc

after_step-limit : (u : State) (o : List ℕ) (r : Result (Event × State) Stop) (h : Halt) (t : State) (out : List ℕ) → after_step u o r ≡ halted h t out → is_limit h ≡ true → going u o ≡ going t out
after_step-limit u o (Ok x) h t out e l = absurd (after_event-limit x.0 x.1 o h t out e l)
after_step-limit u o (Err q) h t out e l = after_stop-limit q u o h t out e

before-next : (p : Program) (s : State) (n : ℕ) (c : Course) (h : Halt) (t : State) (out : List ℕ)
    → (course p s n ≡ halted h t out → Before p s n t out) → course p s n ≡ c → advance p c ≡ halted h t out → is_limit h ≡ true → Before p s (suc n) t out
unfolding advance
before-next p s n (going u o) h t out earlier is e l = before-last p s n t out (is ∙ after_step-limit u o (stepping p u) h t out e l)
before-next p s n (halted j u o) h t out earlier is e l = before-more p s n t out (earlier (is ∙ e))

pub limited-before : (p : Program) (s : State) (n : ℕ) (h : Halt) (t : State) (out : List ℕ) → course p s n ≡ halted h t out → is_limit h ≡ true → Before p s n t out
unfolding course
limited-before p s zero h t out e l = absurd (cc)
limited-before p s (suc n) h t out e l = before-next p s n (course p s n) h t out (λ f. limited-before p s n h t out f l) refl e l

-- ---- what an answer says

halts-free : (halt : Halt) (steps rows : ℕ) (p : Program) (s t : State) (before now : Option (List ℕ))
    → is_limit halt ≡ false → Halts halt steps rows p s t before now → Halts halt steps rows p (unlimited s) (unlimited t) before now
halts-free halt steps rows p s t before now free h = record {
  earlier = h.earlier;
  count = h.count;
  within = h.within;
  last = unlimited h.last;
  out = h.out;
  run = course-free p s h.earlier (going h.last h.out) h.run refl;
  over = course-free p s (h.earlier + 1) (halted halt t h.out) h.over free;
  taken = h.taken;
}

sticks-free : (place : Place) (steps rows : ℕ) (p : Program) (s : State) (before now : Option (List ℕ))
    → Sticks place steps rows p s before now → Sticks place steps rows p (unlimited s) before now
sticks-free place steps rows p s before now h = record {
  stops = record {
    within = h.stops.within;
    last = unlimited h.stops.last;
    out = h.stops.out;
    run = course-free p s rows (going h.stops.last h.stops.out) h.stops.run refl;
    over = course-free p s (rows + 1) (halted stuck h.stops.last h.stops.out) h.stops.over refl;
    taken = h.stops.taken;
  };
  at = h.at;
}

passes : (halt : Halt) (steps rows : ℕ) (p : Program) (s : State) (before now : Option (List ℕ))
    → Stops halt steps rows p s before now → Passes steps rows p s before now
passes halt steps rows p s before now h = record {
  within = h.within;
  last = h.last;
  out = h.out;
  limited = h.run;
  run = course-free p s rows (going h.last h.out) h.run refl;
  next = unmet-free (course p (unlimited s) (rows + 1)) (course-unmet p s (rows + 1));
  taken = h.taken;
}

short-grown : (room : Option ℕ) (out now : List ℕ) → Grows out now → IfSome room (λ r. r < length out) → IfSome room (λ r. r < length now)
short-grown None out now g h = tt
short-grown (Some r) out now g h = omega (arith, ap length g.is, length-append out g.more)

-- a front that the sink took is a front of what the run without limits puts
breaks-free : (steps rows : ℕ) (p : Program) (s : State) (before now : Option (List ℕ)) (room : Option ℕ)
    → Breaks steps rows p s before now room → Breaks steps rows p (unlimited s) before now room
breaks-free steps rows p s before now room h =
    let g : Grows (output_of (course p s rows)) (output_of (course p (unlimited s) rows)) =
    alongside-grows (course p s rows) (course p (unlimited s) rows) (course-alongside p s rows) in
    record {
      within = h.within;
      earlier = h.earlier;
      count = h.count;
      last = unlimited h.last;
      out = h.out;
      run = course-free p s h.earlier (going h.last h.out) h.run refl;
      part = subst (TookPart before now) (sym g.is) (part-front before now (output_of (course p s rows)) g.more h.part);
      short = short-grown room (output_of (course p s rows)) (output_of (course p (unlimited s) rows)) g h.short;
    }

came-free : (end : End) (steps rows : ℕ) (p : Program) (s t : State) (before now : Option (List ℕ)) (room : Option ℕ)
    → Came end steps rows p s t before now room → CameUnlimited end steps rows p s t before now room
came-free why.Ended steps rows p s t before now room h = halts-free returned steps rows p s t before now refl h
came-free (why.Thrown r) steps rows p s t before now room h = halts-free (uncaught r.0) steps rows p s t before now refl h
came-free why.Steps steps rows p s t before now room h =
    (h.0, record { out = h.1.out; run = course-free p s rows (going t h.1.out) h.1.run refl; taken = h.1.taken })
came-free (why.HeapFull need) steps rows p s t before now room h = passes (limit.full need) steps rows p s before now h
came-free why.Frames steps rows p s t before now room h = passes limit.crowded steps rows p s before now h
came-free why.SinkFault steps rows p s t before now room h = breaks-free steps rows p s before now room h
came-free (why.Stuck place) steps rows p s t before now room h = sticks-free place steps rows p s before now h

-- a machine that ran has done rows of the run without limits
pub ran-free : (end : End) (steps : ℕ) (old new : Running) (before now : Option (List ℕ)) (room : Option ℕ)
    → Ran end steps old new before now room → RanUnlimited end steps old new before now room
ran-free end steps old new before now room h = record {
  rows = h.rows;
  done = h.done;
  came = came-free end steps h.rows old.program old.state new.state before now room h.came;
}
