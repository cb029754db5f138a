-- An exception goes through all frames, of the program and of the machine.
use Rattle.std.proofs.Common.{◌≡◌, refl, ap, ◌∙◌, ℕ, ◌+◌, arith, false, cond, List, [], ◌∷◌, ◌++◌, length, Some, None, Result, Ok, Err}
use Rattle.std.specs.Prelude.{codes, find, slice_get, slice_index}
use Rattle.scw_value.specs.declared.division.Division.{Division}
use Rattle.scw_classfile.specs.declared.pool_entry.PoolEntry.{PoolEntry}
use Rattle.scw_core.specs.BuiltIn.{built_in_name}
use Rattle.scw_core.specs.Frame.{Frames, Note, throws}
use Rattle.scw_core.specs.Object.{with_more}
use Rattle.scw_core.specs.Program as core
use Rattle.scw_core.specs.Program.{class_of, look}
use Rattle.scw_core.specs.React.{react}
use Rattle.scw_core.specs.Run.{land, land_act, over, resume}
use Rattle.scw_core.specs.Seen.{thrown, thrown_end, thrown_thing}
use Rattle.scw_core.specs.State.{Env, Slots, State, Thing, Value, instance, ref_v, string_v}
use Rattle.scw_core.specs.Text.{binary_name, message_in, name_in}
use Rattle.scw_core.specs.Types.{same_symbol}
use Rattle.scw_core.specs.declared.class.CoreClass.{CoreClass}
use Rattle.scw_core.specs.declared.symbol.TheConstants.{ARITHMETIC_EXCEPTION, GET_MESSAGE}
use Rattle.scw_gen.specs.declared.kind.Kind.{Kind}
use Rattle.scw_gen.specs.Scope.{Scope}
use Rattle.scw_gen.specs.Typed.{Known}
use Rattle.scw_heap.specs.Heap.{Entity, object_at, used, words_in, zeroed}
use Rattle.scw_heap.specs.declared.kind.Kind.TheVariants as made_of
use Rattle.scw_heap.proofs.HeapLemmas.{object_at-append, object_at-behind}
use Rattle.scw_frame.specs.declared.operation.Operation.{Operation}
use Rattle.scw_frame.specs.declared.operation.Operation.TheVariants as op
use Rattle.scw_frame.specs.declared.program.Class.{Class}
use Rattle.scw_frame.specs.declared.program.Guard.{Guard}
use Rattle.scw_frame.specs.declared.program.Method.{Method}
use Rattle.scw_frame.specs.declared.program.Program.{Program}
use Rattle.scw_frame.specs.declared.value.Value.TheVariants.{Int, Long}
use Rattle.scw_frame.specs.Frame as machine_frame
use Rattle.scw_frame.specs.FrameStep.{taken, taken_int, taken_long}
use Rattle.scw_step.specs.declared.event.Event.TheVariants as event
use Rattle.scw_step.specs.declared.object.Shape.{Shape}
use Rattle.scw_step.specs.declared.stop.Fault.TheVariants as fault
use Rattle.scw_step.specs.declared.stop.Stop.{Stop}
use Rattle.scw_step.specs.declared.stop.Stop.TheVariants.{Throws}
use Rattle.scw_step.specs.CallStep.{fetched}
use Rattle.scw_step.specs.CallStep as call
use Rattle.scw_step.specs.RaiseStep.{exception, exception_by, raising, with_message}
use Rattle.scw_step.specs.StateStep.{and_next, making, or_undefined}
use Rattle.scw_step.specs.Step.{executing, operating, settled, stepping}
use Rattle.scw_step.specs.TextStep.{beginning, making_text}
use Rattle.scw_step.specs.UnwindStep.{by_handler, handler, handler_in, handler_of, unwinding, unwinding_from, unwound}
use Rattle.scw_step.proofs.TextLemmas.{with_word-last}
use Rattle.scw_machine.specs.Course.{advance, after_step, going, halted, uncaught}
use Rattle.scw_machine.specs.Tell.{class_in, message_at, name_at}
use Rattle.scw_machine.specs.Tell as tell
use Rattle.scw_machine.proofs.RowLemmas.{shape-there}
use Rattle.scw_back.specs.MachineSeen.{characters_of, exception_at, text_in}
use Rattle.scw_back.proofs.Goals.{Goal}
use Rattle.scw_back.proofs.Maps.{get-last}
use Rattle.scw_back.proofs.Rows.{frame_at, on, state}
use Rattle.scw_back.proofs.Stands.{Awaits, Callers, MachineState, Runs, Word, s_launch, s_more, w_block, w_body, w_if, w_if_same, w_join, w_operand, w_return, w_return_unit, w_test, w_within}

module _ (p : core.Program) (K : CoreClass) (pool : List PoolEntry) (L : Program) where
  -- ---- the frames of the program

  pub falls : (m : Method) (h : List Entity) (store : List Thing) (result : Kind) (ys : List Known) (s : Scope) (env : Env) (t : Kind) (goal : Goal) (k : Frames) (st : List Word) (cr : ℕ) (k' : Frames) (v : Value) (S : State) (log : List Note)
      → Awaits p K pool L m h store result ys s env t goal k st cr k' → resume p k (throws v) S log ≡ resume p k' (throws v) S log
  unfolding resume react land land_act
  falls m h store result ys s env t goal k st cr k' v S log (w_return some) = refl
  falls m h store result ys s env t goal k st cr k' v S log (w_return_unit e a le) = refl
  falls m h store result ys s env t goal k st cr k' v S log (w_join j aw le) = falls m h store result _ _ _ _ _ _ _ _ _ v S log aw
  falls m h store result ys s env t goal k st cr k' v S log (w_within w aw) = falls m h store result _ _ _ _ _ _ _ _ _ v S log aw
  falls m h store result ys s env t goal k st cr k' v S log (w_operand r kept prepared args o is room fits aw le) = falls m h store result _ _ _ _ _ _ _ _ _ v S log aw
  falls m h store result ys s env t goal k st cr k' v S log (w_block c room aw le) = falls m h store result _ _ _ _ _ _ _ _ _ v S log aw
  falls m h store result ys s env t goal k st cr k' v S log (w_if b j c l room aw le) = falls m h store result _ _ _ _ _ _ _ _ _ v S log aw
  falls m h store result ys s env t goal k st cr k' v S log (w_if_same b c room aw le) = falls m h store result _ _ _ _ _ _ _ _ _ v S log aw
  falls m h store result ys s env t goal k st cr k' v S log (w_test a b j u room aw le) = falls m h store result _ _ _ _ _ _ _ _ _ v S log aw
  falls m h store result ys s env t goal k st cr k' v S log (w_body a b j u room aw le) = falls m h store result _ _ _ _ _ _ _ _ _ v S log aw

  pub falls-all : (h : List Entity) (store : List Thing) (t : Kind) (k : Frames) (fs : List machine_frame.Frame) (slots : Slots) (cr : ℕ) (v : Value) (S : State) (log : List Note) → Callers p K pool L h store t k fs slots cr → resume p k (throws v) S log ≡ over (throws v) S log
  unfolding resume
  falls-all h store t k fs slots cr v S log (s_launch runs a b le) = refl
  falls-all h store t k fs slots cr v S log (s_more runs a b aw room held ex wide narrow callers le) = falls _ h store _ _ _ _ _ _ _ _ _ _ v S log aw ∙ falls-all h store _ _ _ _ _ v S log callers

  -- ---- the frames of the machine

  no-handler : (number pc class : ℕ) (m : Method) (ws st : List Word) → Runs p K pool L number m → handler L class (frame_at number m pc ws st) ≡ None
  no-handler number pc class m ws st runs = ap (λ o. handler_of L o pc class) runs.there ∙ ap (λ (g : List Guard). handler_in L g pc class) runs.guards

  pub unwound-all : (class : ℕ) (h : List Entity) (store : List Thing) (t : Kind) (k : Frames) (fs : List machine_frame.Frame) (slots : Slots) (cr number pc : ℕ) (m : Method) (ws st : List Word) → Runs p K pool L number m → Callers p K pool L h store t k fs slots cr
      → (last : machine_frame.Frame) × (unwound L class (frame_at number m pc ws st) fs ≡ (None, (last, [])))
  unfolding unwound
  unwound-all class h store t k fs slots cr number pc m ws st runs (s_launch {m = m2} {ws = ws2} {pc = pc2} runs2 a b le) = (
    frame_at 0 m2 pc2 ws2 [],
    ap (λ o. by_handler o (frame_at number m pc ws st) (frame_at 0 m2 pc2 ws2 [] ∷ []) (λ all. unwound L class (frame_at 0 m2 pc2 ws2 []) [])) (no-handler number pc class m ws st runs)
        ∙ ap (λ o. by_handler o (frame_at 0 m2 pc2 ws2 []) [] (λ none. (None, (frame_at 0 m2 pc2 ws2 [], [])))) (no-handler 0 pc2 class m2 ws2 [] runs2),
  )
  unwound-all class h store t k fs slots cr number pc m ws st runs (s_more {m = m2} {number = n2} {ws = ws2} {st = st2} {fs = gs} {pc = pc2} runs2 a b aw room held ex wide narrow callers le) =
      let up = unwound-all class h store _ _ _ _ _ n2 pc2 m2 ws2 st2 runs2 callers in (
        up.0,
        ap (λ o. by_handler o (frame_at number m pc ws st) (frame_at n2 m2 pc2 ws2 st2 ∷ gs) (λ all. unwound L class (frame_at n2 m2 pc2 ws2 st2) gs)) (no-handler number pc class m ws st runs)
            ∙ up.1,
      )

-- ---- the exception of a division by zero

abbrev pub zero_text : List ℕ
zero_text = codes "/ by zero"

module _ (L : Program) (number : ℕ) (m : Method) (there : slice_get L.methods number ≡ Some m) (fs : List machine_frame.Frame) (z : List Word) where
  abbrev text : Entity
  text = record { kind = made_of.Text; words = zero_text }

  abbrev pub with_exception : List Entity → List Entity
  with_exception h = (h ++ text ∷ []) ++ record { kind = made_of.Object 11; words = (1 + used h) ∷ [] } ∷ []

  abbrev pub exception_number : List Entity → ℕ
  exception_number h = 1 + used (h ++ text ∷ [])

  excepted : (f : machine_frame.Frame) (h : List Entity) (u : ℕ) → exception fault.DividedByZero (state f fs h z u) ≡ Ok (exception_number h, state f fs (with_exception h) z u)
  unfolding exception exception_by with_message making_text beginning making
  excepted f h u = ap (λ (os : List Entity). Ok (exception_number h, state f fs os z u)) (with_word-last (h ++ text ∷ []) (zeroed (made_of.Object 11) 1) 0 (1 + used h))

  raised : (pc : ℕ) (ws : List Word) (h : List Entity) (u : ℕ) (last : machine_frame.Frame) → unwound L 11 (frame_at number m pc ws []) fs ≡ (None, (last, [])) → raising L fault.DividedByZero (on L number m there fs z pc ws [] h u) ≡ Ok (event.Thrown (exception_number h), state last [] (with_exception h) z u)
  unfolding raising unwinding
  raised pc ws h u last e =
      let f : machine_frame.Frame = frame_at number m pc ws [] in
      let r : ℕ = exception_number h in
      let s : MachineState = state f fs (with_exception h) z u in
      ap (λ (x : Result (ℕ × MachineState) Stop). and_next x (λ e. unwinding L e.0 e.1)) (excepted f h u)
      ∙ ap (λ (x : Result Shape Stop). and_next x (λ x. unwinding_from r (unwound L (call.class_of x.kind) f fs) s))
      (shape-there r (record { objects = with_exception h; units = None }) (record { kind = made_of.Object 11; words = (1 + used h) ∷ [] }) (λ q. omega (arith, q)) (object_at-behind (h ++ text ∷ []) [] (record { kind = made_of.Object 11; words = (1 + used h) ∷ [] })))
      ∙ ap (λ x. unwinding_from r x s) e

  fetched-there : (pc q : ℕ) (o : Operation) (ws st : List Word) (h : List Entity) (u : ℕ) → slice_get m.code pc ≡ Some (record { operation = o; next = q }) → fetched L (on L number m there fs z pc ws st h u).frames ≡ Some (record { operation = o; next = q })
  unfolding fetched
  fetched-there pc q o ws st h u e = ap (λ x. call.code_of x pc) there ∙ e

  divides-int : (pc q a : ℕ) (o : Division) (ws st : List Word) (h : List Entity) (u : ℕ) → executing L (op.IntDivision o) q (on L number m there fs z pc ws (Int 0 ∷ Int a ∷ st) h u) ≡ Err (Throws fault.DividedByZero)
  unfolding executing operating taken_int taken
  divides-int pc q a o ws st h u = refl

  divides-long : (pc q a : ℕ) (o : Division) (ws st : List Word) (h : List Entity) (u : ℕ) → executing L (op.LongDivision o) q (on L number m there fs z pc ws (Long 0 ∷ Long a ∷ st) h u) ≡ Err (Throws fault.DividedByZero)
  unfolding executing operating taken_long taken
  divides-long pc q a o ws st h u = refl

  throws-row : (pc q : ℕ) (o : Operation) (ws st : List Word) (h : List Entity) (u : ℕ) (last : machine_frame.Frame) → slice_get m.code pc ≡ Some (record { operation = o; next = q }) → executing L o q (on L number m there fs z pc ws st h u) ≡ Err (Throws fault.DividedByZero)
      → unwound L 11 (frame_at number m pc ws []) fs ≡ (None, (last, [])) → stepping L (on L number m there fs z pc ws st h u) ≡ Ok (event.Thrown (exception_number h), state last [] (with_exception h) z u)
  unfolding stepping
  throws-row pc q o ws st h u last at e un =
      let s : MachineState = on L number m there fs z pc ws st h u in
      ap (λ x. and_next (or_undefined x) (λ i. settled L s (executing L i.operation i.next s))) (fetched-there pc q o ws st h u at) ∙ ap (settled L s) e ∙ raised pc ws h u last un

  halts : (pc : ℕ) (ws st : List Word) (h : List Entity) (u : ℕ) (out : List ℕ) (last : machine_frame.Frame) → stepping L (on L number m there fs z pc ws st h u) ≡ Ok (event.Thrown (exception_number h), state last [] (with_exception h) z u)
      → advance L (going (on L number m there fs z pc ws st h u) out) ≡ halted (uncaught (exception_number h)) (state last [] (with_exception h) z u) out
  unfolding advance
  halts pc ws st h u out last e = ap (after_step (on L number m there fs z pc ws st h u) out) e

  pub halts-int : (pc q a : ℕ) (o : Division) (ws st : List Word) (h : List Entity) (u : ℕ) (out : List ℕ) (last : machine_frame.Frame) → slice_get m.code pc ≡ Some (record { operation = op.IntDivision o; next = q }) → unwound L 11 (frame_at number m pc ws []) fs ≡ (None, (last, []))
      → advance L (going (on L number m there fs z pc ws (Int 0 ∷ Int a ∷ st) h u) out) ≡ halted (uncaught (exception_number h)) (state last [] (with_exception h) z u) out
  halts-int pc q a o ws st h u out last at un = halts pc ws (Int 0 ∷ Int a ∷ st) h u out last (throws-row pc q (op.IntDivision o) ws (Int 0 ∷ Int a ∷ st) h u last at (divides-int pc q a o ws st h u) un)

  pub halts-long : (pc q a : ℕ) (o : Division) (ws st : List Word) (h : List Entity) (u : ℕ) (out : List ℕ) (last : machine_frame.Frame) → slice_get m.code pc ≡ Some (record { operation = op.LongDivision o; next = q }) → unwound L 11 (frame_at number m pc ws []) fs ≡ (None, (last, []))
      → advance L (going (on L number m there fs z pc ws (Long 0 ∷ Long a ∷ st) h u) out) ≡ halted (uncaught (exception_number h)) (state last [] (with_exception h) z u) out
  halts-long pc q a o ws st h u out last at un = halts pc ws (Long 0 ∷ Long a ∷ st) h u out last (throws-row pc q (op.LongDivision o) ws (Long 0 ∷ Long a ∷ st) h u last at (divides-long pc q a o ws st h u) un)

  -- ---- what is seen of it

  abbrev pub class_name : List ℕ
  class_name = codes "java/lang/ArithmeticException"

  characters : characters_of class_name ≡ class_name
  unfolding characters_of
  characters = refl

  pub machine-shows : (class : Class) (h : List Entity) → slice_get L.classes 11 ≡ Some class → class.name ≡ class_name → exception_at L (with_exception h) (exception_number h) ≡ thrown class_name (Some zero_text)
  machine-shows class h there11 named =
      let e : Entity = record { kind = made_of.Object 11; words = (1 + used h) ∷ [] } in
      let os : List Entity = with_exception h in
      let at_r : object_at os (exception_number h) ≡ Some e = object_at-behind (h ++ text ∷ []) [] e in
      let at_m : object_at os (1 + used h) ≡ Some text = object_at-append (h ++ text ∷ []) (e ∷ []) (1 + used h) text (object_at-behind h [] text) in
      let name : characters_of (name_at L os (exception_number h)) ≡ class_name = ap (λ o. characters_of (tell.name_in (class_in L o))) at_r ∙ ap (λ o. characters_of (tell.name_in o)) there11 ∙ ap characters_of named ∙ characters in
      let message : text_in (object_at os (message_at os (exception_number h))) ≡ Some zero_text = ap (λ o. text_in (object_at os (slice_index (words_in o) 0))) at_r ∙ ap text_in at_m in
      ap (λ n. thrown n (text_in (object_at os (message_at os (exception_number h))))) name ∙ ap (λ t. thrown class_name t) message

pub program-shows : (p : core.Program) (K : CoreClass) (S : State) → p.table.classes ≡ K ∷ [] → same_symbol K.symbol ARITHMETIC_EXCEPTION ≡ false
    → thrown_end p.table (ref_v (length S.store)) (with_more (instance ARITHMETIC_EXCEPTION ((GET_MESSAGE, string_v zero_text) ∷ []) []) S) ≡ thrown (codes "java/lang/ArithmeticException") (Some zero_text)
unfolding class_of binary_name message_in look built_in_name
program-shows p K S one other =
    ap (λ t. thrown_thing p.table t) (get-last S.store (instance ARITHMETIC_EXCEPTION ((GET_MESSAGE, string_v zero_text) ∷ []) []))
    ∙ ap (λ (cs : List CoreClass). thrown (name_in (find (λ (k : CoreClass). same_symbol k.symbol ARITHMETIC_EXCEPTION) cs) ARITHMETIC_EXCEPTION) (Some zero_text)) one
    ∙ ap (λ b. thrown (name_in (cond b (Some K) None) ARITHMETIC_EXCEPTION) (Some zero_text)) other
