-- Laws of a course: rows add up, what is put only grows, and what has halted stays so.
use Rattle.std.proofs.Common.{◌≡◌, ℕ, zero, suc, ◌+◌, ◌-◌, ◌≤◌, ◌<◌, List, [], length, length-append, refl, sym, ap, ◌∙◌, subst, arith}
use Rattle.std.specs.Prelude.{Result, Ok, Err}
use Rattle.scw_frame.specs.declared.program.Program.{Program}
use Rattle.scw_step.specs.declared.event.Event.{Event}
use Rattle.scw_step.specs.declared.event.Event.TheVariants as event
use Rattle.scw_step.specs.declared.state.State.{State}
use Rattle.scw_step.specs.declared.stop.Stop.{Stop}
use Rattle.scw_step.specs.declared.stop.Stop.TheVariants as stop
use Rattle.scw_step.specs.Step.{stepping}
use Rattle.scw_machine.specs.Course.{Halt, Course, going, halted, after_step, advance, course, output_of}
use Rattle.scw_core.specs.Seen.{IsPrefix}
use Rattle.scw_core.proofs.SeenLemmas.{prefix_itself}

-- so many rows more
unfoldable pub advances : Program → ℕ → Course → Course
advances p zero c = c
advances p (suc n) c = advances p n (advance p c)

module _ (p : Program) where
  pub advances_add : (m n : ℕ) (c : Course) → advances p (m + n) c ≡ advances p n (advances p m c)
  unfolding advances
  advances_add zero n c = let e : zero + n ≡ n = omega arith in ap (λ k. advances p k c) e
  advances_add (suc m) n c = let e : suc m + n ≡ suc (m + n) = omega arith in ap (λ k. advances p k c) e ∙ advances_add m n (advance p c)

  advances_suc : (n : ℕ) (c : Course) → advances p (suc n) c ≡ advance p (advances p n c)
  unfolding advances
  advances_suc zero c = refl
  advances_suc (suc n) c = advances_suc n (advance p c)

  -- a course is that of its rows
  pub course_is : (s : State) (n : ℕ) → course p s n ≡ advances p n (going s [])
  unfolding course advances
  course_is s zero = refl
  course_is s (suc n) = ap (advance p) (course_is s n) ∙ sym (advances_suc n (going s []))

  -- ---- what has halted

  stays : (n : ℕ) (h : Halt) (t : State) (out : List ℕ) → advances p n (halted h t out) ≡ halted h t out
  unfolding advances advance
  stays zero h t out = refl
  stays (suc n) h t out = stays n h t out

  pub halted_later : (s : State) (m n : ℕ) (h : Halt) (t : State) (out : List ℕ) → course p s m ≡ halted h t out → course p s (m + n) ≡ halted h t out
  halted_later s m n h t out e =
      course_is s (m + n) ∙ advances_add m n (going s []) ∙ ap (advances p n) (sym (course_is s m) ∙ e) ∙ stays n h t out

  same_halt : (h k : Halt) (t u : State) (a b : List ℕ) → ◌≡◌ {A = Course} (halted h t a) (halted k u b) → (h ≡ k) × (t ≡ u) × (a ≡ b)
  same_halt h k t u a b e = (cc, cc, cc)

  -- a course halts once
  pub halts_once : (s : State) (m n : ℕ) (h k : Halt) (t u : State) (a b : List ℕ) → course p s m ≡ halted h t a → course p s n ≡ halted k u b → (h ≡ k) × (t ≡ u) × (a ≡ b)
  halts_once s m n h k t u a b e f =
      let swap : n + m ≡ m + n = omega arith in
      same_halt h k t u a b (sym (halted_later s m n h t a e) ∙ ap (course p s) (sym swap) ∙ halted_later s n m k u b f)

  not_both : (h : Halt) (t u : State) (a b : List ℕ) → ◌≡◌ {A = Course} (halted h t a) (going u b) → ⊥
  not_both h t u a b e = cc

  -- where a course goes on it hasn't halted
  pub not_before : (s : State) (m n : ℕ) (h : Halt) (t u : State) (a b : List ℕ) → course p s m ≡ halted h t a → course p s n ≡ going u b → n < m
  not_before s m n h t u a b e f =
      let never : m ≤ n → ⊥ = (λ le.
      let k : m + (n - m) ≡ n = omega (arith, le) in
      not_both h t u a b (sym (halted_later s m (n - m) h t a e) ∙ ap (course p s) k ∙ f)) in
      grind (arith, never)

  -- before a course goes on it went on
  pub record Goes (s : State) (k : ℕ) : Type 0 where
    pub state : State
    pub out : List ℕ
    pub is : course p s k ≡ going state out

  goes_by : (s : State) (k : ℕ) (c : Course) → course p s k ≡ c → ((h : Halt) (t : State) (a : List ℕ) → c ≡ halted h t a → ⊥) → Goes s k
  goes_by s k (going t out) e never = record { state = t; out = out; is = e }
  goes_by s k (halted h t out) e never = absurd (never h t out refl)

  pub went_on : (s : State) (n k : ℕ) (u : State) (b : List ℕ) → course p s n ≡ going u b → k ≤ n → Goes s k
  went_on s n k u b f le = goes_by s k (course p s k) refl (λ h t a e. let lt = not_before s k n h t u a b e f in omega (arith, lt, le))

  -- ---- what is put only grows

  more_event : (e : Event) (s t : State) (out : List ℕ) → IsPrefix out (output_of (after_step s out (Ok (e, t))))
  more_event event.On s t out = prefix_itself out
  more_event (event.Says r) s t out = (_, refl)
  more_event event.Ended s t out = prefix_itself out
  more_event (event.Thrown r) s t out = prefix_itself out

  more_stop : (e : Stop) (s : State) (out : List ℕ) → IsPrefix out (output_of (after_step s out (Err e)))
  more_stop stop.Undefined s out = prefix_itself out
  more_stop (stop.Throws f) s out = prefix_itself out
  more_stop (stop.ThrowsObject r) s out = prefix_itself out
  more_stop (stop.HeapFull n) s out = prefix_itself out
  more_stop stop.TooManyFrames s out = prefix_itself out

  more_result : (r : Result (Event × State) Stop) (s : State) (out : List ℕ) → IsPrefix out (output_of (after_step s out r))
  more_result (Ok x) s out = more_event x.0 s x.1 out
  more_result (Err e) s out = more_stop e s out

  more_row : (c : Course) → IsPrefix (output_of c) (output_of (advance p c))
  unfolding advance
  more_row (going s out) = more_result (stepping p s) s out
  more_row (halted h s out) = prefix_itself out

  longer_row : (c : Course) → length (output_of c) ≤ length (output_of (advance p c))
  longer_row c = let m = more_row c in omega (arith, ap length m.1, length-append (output_of c) m.0)

  longer_rows : (n : ℕ) (c : Course) → length (output_of c) ≤ length (output_of (advances p n c))
  unfolding advances
  longer_rows zero c = omega arith
  longer_rows (suc n) c = let a = longer_row c in let b = longer_rows n (advance p c) in omega (arith, a, b)

  -- after more rows no less was put
  longer : (s : State) (m n : ℕ) → length (output_of (course p s m)) ≤ length (output_of (course p s (m + n)))
  longer s m n =
      subst (λ (c : Course). length (output_of (course p s m)) ≤ length (output_of c)) (sym (course_is s (m + n) ∙ advances_add m n (going s []) ∙ ap (advances p n) (sym (course_is s m)))) (longer_rows n (course p s m))

  -- nor more than was put in the end
  pub at_most : (s : State) (m n : ℕ) (h : Halt) (t : State) (out : List ℕ) → course p s m ≡ halted h t out → length (output_of (course p s n)) ≤ length out
  at_most s m n h t out e =
      let swap : n + m ≡ m + n = omega arith in
      let end : output_of (course p s (n + m)) ≡ out = ap (λ k. output_of (course p s k)) swap ∙ ap output_of (halted_later s m n h t out e) in
      let a = longer s n m in
      omega (arith, a, ap length end)
