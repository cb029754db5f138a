-- What an operator does, and what its code does: literals, locals, primitives and output.
use Rattle.std.proofs.Common.{◌≡◌, refl, sym, ap, ◌∙◌, subst, ℕ, ◌+◌, ◌*◌, ◌^◌, ◌≤◌, ◌<◌, arith, Bool, true, false, not, List, [], ◌∷◌, ◌++◌, length, Some, None, Ok, append_assoc, append-nil}
use Rattle.std.specs.Prelude.{codes, nat_eq, slice_get, slice_set}
use Rattle.std.specs.Int.{w32, w64}
use Rattle.std.specs.List.{list_all}
use Rattle.std.specs.Option.{option_and_then, option_map}
use Rattle.std.proofs.lemmas.Bool.{eq-eqb, eqb-true}
use Rattle.scw_text.specs.Modified.{is_unit}
use Rattle.scw_text.specs.declared.number.SymId.{SymId}
use Rattle.scw_value.specs.Number as numbers
use Rattle.scw_value.specs.Text.{utf8}
use Rattle.scw_value.specs.declared.arithmetic.Arithmetic.{Arithmetic}
use Rattle.scw_value.specs.declared.comparison.Comparison.{Comparison}
use Rattle.scw_value.specs.declared.comparison.Comparison.TheVariants.{Equal, NotEqual}
use Rattle.scw_value.specs.declared.division.Division.{Division}
use Rattle.scw_classfile.specs.declared.pool_entry.PoolEntry.{PoolEntry}
use Rattle.scw_core.specs.Act.{act, concat_act, concat_second, joined, literal_act, primitive_act, text_act, text_or_ask}
use Rattle.scw_core.specs.Frame.{Act, Frames, Note, by_bool, give, gives, made, or_no_rule, text_first, text_second, throws, wrote}
use Rattle.scw_core.specs.Number.{plain_text}
use Rattle.scw_core.specs.Object.{make, object_units, text_units, throw_new, with_more}
use Rattle.scw_core.specs.Program as core
use Rattle.scw_core.specs.Program.{look, text_at}
use Rattle.scw_core.specs.Run.{Config, land_act, over, resume}
use Rattle.scw_core.specs.Seen.{note_bytes, written_by}
use Rattle.scw_core.specs.State.{Env, Slots, State, Value, boolean_v, instance, int_v, long_v, put, read_slot, ref_v, same_boolean, string_v, unit_v, values_of, write_slot}
use Rattle.scw_core.specs.Types.{same_symbol}
use Rattle.scw_core.specs.declared.class.CoreClass.{CoreClass}
use Rattle.scw_core.specs.declared.operator.Literal.TheVariants as literal
use Rattle.scw_core.specs.declared.operator.Logic.TheVariants as logic
use Rattle.scw_core.specs.declared.operator.Op.TheVariants as op
use Rattle.scw_core.specs.declared.operator.Primitive.{Primitive}
use Rattle.scw_core.specs.declared.operator.Primitive.TheVariants as primitive
use Rattle.scw_core.specs.declared.operator.RunMethod.{RunMethod}
use Rattle.scw_core.specs.declared.operator.RunMethod.TheVariants as run_method
use Rattle.scw_core.specs.declared.operator.TextId.{TextId}
use Rattle.scw_core.specs.declared.operator.Width.{Width}
use Rattle.scw_core.specs.declared.operator.Width.TheVariants as width
use Rattle.scw_core.specs.declared.symbol.TheConstants.{ARITHMETIC_EXCEPTION, GET_MESSAGE}
use Rattle.scw_gen.specs.declared.kind.Kind.{Kind}
use Rattle.scw_gen.specs.declared.kind.Kind.TheVariants as kind
use Rattle.scw_gen.specs.declared.mode.Mode.TheVariants.{Effect}
use Rattle.scw_gen.specs.declared.operator.Form.TheVariants.{Values, Effects, Texts}
use Rattle.scw_gen.specs.declared.scope.Slot.{Slot}
use Rattle.scw_gen.specs.Kind.{width_of}
use Rattle.scw_gen.specs.Mode.{bit}
use Rattle.scw_gen.specs.Operator.{form_of, kind_of_width}
use Rattle.scw_gen.specs.Scope.{Scope, slot_of}
use Rattle.scw_gen.specs.Typed.{Known, kind_of_primitive, known, marked}
use Rattle.scw_heap.specs.Heap.{Entity, used}
use Rattle.scw_frame.specs.declared.operation.BuiltIn.TheVariants as built
use Rattle.scw_frame.specs.declared.operation.Operation.TheVariants as operation
use Rattle.scw_frame.specs.declared.program.Method.{Method}
use Rattle.scw_frame.specs.declared.program.Program.{Program}
use Rattle.scw_frame.specs.declared.program.Target.TheVariants as target
use Rattle.scw_frame.specs.declared.value.Value.TheVariants.{Int, Long, Reference}
use Rattle.scw_frame.specs.Frame.{is_of, places, places_of}
use Rattle.scw_frame.specs.Frame as machine_frame
use Rattle.scw_frame.specs.FrameStep as frame_step
use Rattle.scw_step.specs.Step.{stepping}
use Rattle.scw_step.specs.declared.event.Event.TheVariants as event
use Rattle.scw_machine.specs.Course.{Course, going}
use Rattle.scw_machine.proofs.RowLemmas.{IsText, said-text}
use Rattle.scw_back.proofs.Falls.{falls, falls-all, halts-int, halts-long, machine-shows, program-shows, unwound-all}
use Rattle.scw_back.proofs.Goals.{ComparedAt, Gives, Goal, Leads, PutAt, TruthAt, UnitAt, drop}
use Rattle.scw_back.proofs.Grown.{alike-of, grows-by, grows-further, grows-itself, held-grown, holds-last}
use Rattle.scw_back.proofs.Idle.{idles}
use Rattle.scw_back.proofs.Loaded.{IsClass}
use Rattle.scw_back.proofs.Locals.{alike-places, extends-set, held-set, put-length}
use Rattle.scw_back.proofs.NumberBounds.{computed-int, computed-long, divided-int, divided-long, narrow-units, units-append}
use Rattle.scw_back.proofs.NumberLaws.{bits-differ, bits-equal}
use Rattle.scw_back.proofs.Placed.{At, LoadsText, arithmetic_of, division_of, value_of_kind}
use Rattle.scw_back.proofs.Puts.{alike-kind, compared-then, put-then, unit-grown}
use Rattle.scw_back.proofs.Reach.{Arrived, Comes, Then, after-halt, after-row, after-said, gives as given, lead, left_in_all, more-time, r_drop, truth-then, unit-then}
use Rattle.scw_back.proofs.Rows.{on, row-arithmetic-int, row-arithmetic-long, row-concat, row-division-int, row-division-long, row-load, row-print, row-push, row-store, row-text}
use Rattle.scw_back.proofs.Stands.{Alike, Awaits, Callers, Extends, Grows, Held, Holds, Kept, MachineState, Runs, UnitThere, Word, e_effect, e_none, e_text, e_value, i_int, i_long, i_string, k_boolean, k_int, k_long, k_string, onto, st_thrown, text_object}
use Rattle.scw_back.proofs.Waiting.{callers-grown}

-- what a note more adds to what is written
pub written-behind : (log : List Note) (n : Note) → written_by (log ++ n ∷ []) ≡ written_by log ++ note_bytes n
unfolding written_by
written-behind [] n = append-nil (note_bytes n)
written-behind (a ∷ log) n = ap (λ l. note_bytes a ++ l) (written-behind log n) ∙ sym (append_assoc (note_bytes a) (written_by log) (note_bytes n))

pub written-made : (log : List Note) (n : ℕ) → written_by (log ++ made n ∷ []) ≡ written_by log
written-made log n = written-behind log (made n) ∙ append-nil (written_by log)

-- a string of the machine, as its rows want it
pub is-text : (h : List Entity) (r : ℕ) (us : List ℕ) → list_all is_unit us ≡ true → Holds h r (text_object us) → IsText (record { objects = h; units = None }) r us
is-text h r us narrow x = record { some = x.some; there = x.there; narrow = narrow-units us narrow }

module _ (p : core.Program) (K : CoreClass) (pool : List PoolEntry) (L : Program) (z : List Word) (one : p.table.classes ≡ K ∷ []) (other : same_symbol K.symbol ARITHMETIC_EXCEPTION ≡ false) (arithmetic : IsClass p K pool L 11 (codes "java/lang/ArithmeticException") 1) where
  module _ (number : ℕ) (m : Method) (runs : Runs p K pool L number m) (fs : List machine_frame.Frame) (result : Kind) (k' : Frames) (floor : Slots) (cr' : ℕ) (S : State) (base : List Entity) where
    abbrev On : ℕ → List Word → List Word → List Entity → ℕ → MachineState
    On pc ws st h u = on L number m runs.there fs z pc ws st h u

    abbrev Come : Course → Config → ℕ → ℕ → Type 0
    Come x d b lim = Comes p K pool L z x d b lim

    -- what always holds while the body runs
    pub record Facts (ys : List Known) (s : Scope) (env : Env) (slots : Slots) (ws : List Word) (h : List Entity) (u : ℕ) (log : List Note) (out : List ℕ) : Type 0 where
      pub grown : Grows base h
      pub unit : UnitThere h u
      pub held : Held h S.store K.symbol ys s env slots floor ws
      pub extends : Extends floor slots
      pub wide : length ws ≡ m.locals
      pub written : out ≡ written_by log
      pub callers : Callers p K pool L h S.store result k' fs floor cr'

    pub facts-grown : (ys : List Known) (s : Scope) (env : Env) (slots : Slots) (ws : List Word) (h h' : List Entity) (u u' : ℕ) (log log' : List Note) (out out' : List ℕ) → Facts ys s env slots ws h u log out → Grows h h' → UnitThere h' u' → out' ≡ written_by log' → Facts ys s env slots ws h' u' log' out'
    facts-grown ys s env slots ws h h' u u' log log' out out' f g unit e = record {
      grown = grows-further base h h' f.grown g;
      unit = unit;
      held = held-grown h h' S.store K.symbol ys s env slots floor ws g f.held;
      extends = f.extends;
      wide = f.wide;
      written = e;
      callers = callers-grown p K pool L h h' S.store result k' fs floor cr' g f.callers;
    }

    -- where the machine comes with a value for the frames, it comes to what they come to
    abbrev pub Up : List Known → Scope → Env → Kind → Goal → Frames → List Word → ℕ → Type 0
    Up ys s env k goal frames st cr = (v : Value) (slots : Slots) (log : List Note) (out : List ℕ) (ws : List Word) (h : List Entity) (u : ℕ) (x : MachineState) → Facts ys s env slots ws h u log out → Arrived p K pool L z number m runs.there fs S.store ws st h u goal k v x
        → Comes p K pool L z (going x out) (resume p frames (gives v) (record S { slots = slots }) log) (cr + cr' + 32) (1 + left_in_all frames)

    module _ (ys : List Known) (s : Scope) (env : Env) (frames : Frames) (st : List Word) (cr d : ℕ) (slots : Slots) (log : List Note) (out : List ℕ) (ws : List Word) (h : List Entity) (u : ℕ) (f : Facts ys s env slots ws h u log out) (room : places st + d ≤ m.stack) where
      abbrev S1 : State
      S1 = record S { slots = slots }

      abbrev b : ℕ
      b = cr + cr' + 32

      abbrev lim : ℕ
      lim = 1 + left_in_all frames

      -- the configuration to which an action leads
      abbrev Landed : Act → Config
      Landed a = land_act a frames log (resume p frames)

      abbrev Acts : ℕ → List Word → Act → Type 0
      Acts pc words a = Comes p K pool L z (going (On pc ws words h u) out) (Landed a) (cr + cr' + 44) lim

      abbrev Ends : Value → List Note → Config
      Ends v log' = resume p frames (gives v) S1 log'

      sooner : (x : Course) (e : Config) (n : ℕ) → n ≤ 12 → Come x e (n + b) lim → Come x e (cr + cr' + 44) lim
      sooner x e n le c = more-time p K pool L z x e (n + b) (cr + cr' + 44) lim lim c (omega (arith, le)) (omega arith)

      up-then : (k : Kind) (v : Value) (goal : Goal) (log' : List Note) → written_by log' ≡ written_by log → Up ys s env k goal frames st cr → Then p K pool L z number m runs.there fs S.store ws st h u out goal k v (Ends v log') b lim
      up-then k v goal log' e up h' u' g unit x a = up v slots log' out ws h' u' x (facts-grown ys s env slots ws h h' u u' log log' out out f g unit (f.written ∙ sym e)) a

      -- ---- literals

      pub unit-acts : (goal : Goal) (pc : ℕ) → UnitAt p K pool L m d goal pc → Up ys s env kind.Unit goal frames st cr → Acts pc st (act p (op.Literal literal.Unit) [] env S1)
      unfolding act land_act
      unit-acts goal pc c up = sooner _ _ 3 (omega arith) (unit-then p K pool L z number m runs.there fs S.store ws st out (Ends unit_v log) b lim goal pc d h u c room f.unit (up-then kind.Unit unit_v goal log refl up))

      pub boolean-acts : (t : Bool) (goal : Goal) (pc : ℕ) → TruthAt p K pool L m d t goal pc → Up ys s env kind.Boolean goal frames st cr → Acts pc st (act p (op.Literal (literal.Boolean t)) [] env S1)
      unfolding act land_act
      boolean-acts t goal pc c up = sooner _ _ 3 (omega arith) (truth-then p K pool L z number m runs.there fs S.store ws st out (Ends (boolean_v t) log) b lim goal t pc d h u c room f.unit (up-then kind.Boolean (boolean_v t) goal log refl up))

      pub int-acts : (n : ℕ) (goal : Goal) (pc : ℕ) → n < 2 ^ 32 → PutAt p K pool L m d (operation.Push (Int n)) kind.Int goal pc → Up ys s env kind.Int goal frames st cr → Acts pc st (act p (op.Literal (literal.Int n)) [] env S1)
      unfolding act land_act
      int-acts n goal pc lt c up = sooner _ _ 3 (omega arith)
          (put-then p K pool L z number m runs.there fs S.store ws st out (Ends (int_v n) log) b lim goal kind.Int (int_v n) _ pc d h u c room f.unit (i_int n lt)
          (λ r at fits. record { word = Int n; heap = h; grown = grows-itself h; alike = k_int n lt; room = fits; row = row-push L number m runs.there fs z pc r (Int n) ws st h u at fits }) (up-then kind.Int (int_v n) goal log refl up))

      pub long-acts : (n : ℕ) (goal : Goal) (pc : ℕ) → n < 2 ^ 64 → PutAt p K pool L m d (operation.Push (Long n)) kind.Long goal pc → Up ys s env kind.Long goal frames st cr → Acts pc st (act p (op.Literal (literal.Long n)) [] env S1)
      unfolding act land_act
      long-acts n goal pc lt c up = sooner _ _ 3 (omega arith)
          (put-then p K pool L z number m runs.there fs S.store ws st out (Ends (long_v n) log) b lim goal kind.Long (long_v n) _ pc d h u c room f.unit (i_long n lt)
          (λ r at fits. record { word = Long n; heap = h; grown = grows-itself h; alike = k_long n lt; room = fits; row = row-push L number m runs.there fs z pc r (Long n) ws st h u at fits }) (up-then kind.Long (long_v n) goal log refl up))

      text-lands : (t : TextId) (us : List ℕ) → text_at p.table t ≡ Some us → Landed (act p (op.Literal (literal.String t)) [] env S1) ≡ Ends (string_v us) (log ++ made (text_units us) ∷ [])
      unfolding act land_act
      text-lands t us e = ap (λ o. Landed (literal_act (option_map string_v o) S1)) e

      pub text-acts : (t : TextId) (x : ℕ) (goal : Goal) (pc : ℕ) → LoadsText p.table K L t x → PutAt p K pool L m d (operation.PushText (record { 0 = x })) kind.String goal pc → Up ys s env kind.String goal frames st cr → Acts pc st (act p (op.Literal (literal.String t)) [] env S1)
      text-acts t x goal pc l c up =
          let note : Note = made (text_units l.text) in
          let last = holds-last h (text_object l.text) in
          subst (λ e. Come (going (On pc ws st h u) out) e (cr + cr' + 44) lim) (sym (text-lands t l.text l.text_is))
          (sooner _ _ 3 (omega arith)
          (put-then p K pool L z number m runs.there fs S.store ws st out (Ends (string_v l.text) (log ++ note ∷ [])) b lim goal kind.String (string_v l.text) _ pc d h u c room f.unit (i_string l.text)
          (λ r at fits. record { word = Reference (1 + used h); heap = h ++ text_object l.text ∷ []; grown = grows-by h (text_object l.text ∷ []); alike = k_string l.text (1 + used h) l.units last; room = fits; row = row-text L number m runs.there fs z pc r x l.text ws st h u at l.there fits })
          (up-then kind.String (string_v l.text) goal (log ++ note ∷ []) (written-made log (text_units l.text)) up)))

      pub no_text-acts : (t : TextId) (us : List ℕ) (pc q : ℕ) → text_at p.table t ≡ Some us → Leads p K pool L m pc q → Up ys s env kind.String (drop q) frames st cr → Acts pc st (act p (op.Literal (literal.String t)) [] env S1)
      no_text-acts t us pc q e l up =
          let note : Note = made (text_units us) in
          subst (λ e. Come (going (On pc ws st h u) out) e (cr + cr' + 44) lim) (sym (text-lands t us e))
          (sooner _ _ 1 (omega arith) (lead p K pool L z number m runs.there fs S.store ws st out (Ends (string_v us) (log ++ note ∷ [])) b lim pc q st h u l
          (up-then kind.String (string_v us) (drop q) (log ++ note ∷ []) (written-made log (text_units us)) up h u (grows-itself h) f.unit _ (r_drop (i_string us)))))

      -- ---- locals

      local-lands : (x : SymId) (y : Known) (e : known ys x ≡ Some y) → Landed (act p (op.Local x) [] env S1) ≡ Ends (f.held.at x y e).value log
      unfolding act land_act read_slot
      local-lands x y e =
          let q = f.held.at x y e in
          ap (λ o. Landed (or_no_rule (option_and_then (λ k. slice_get (values_of slots x) k) o) (λ v. give v S1))) q.bound ∙ ap (λ o. Landed (or_no_rule o (λ v. give v S1))) q.there

      pub local-acts : (x : SymId) (y : Known) (slot : Slot) (goal : Goal) (pc : ℕ) → known ys x ≡ Some y → y.is_set ≡ true → slot_of s x ≡ Some slot → PutAt p K pool L m d (operation.Load (value_of_kind y.kind) slot.place) y.kind goal pc → Up ys s env y.kind goal frames st cr → Acts pc st (act p (op.Local x) [] env S1)
      local-acts x y slot goal pc e set there c up =
          let q = f.held.at x y e in
          let w = q.held set in
          let same : Some q.slot ≡ Some slot = sym q.slot_is ∙ there in
          let is : q.slot ≡ slot = cc in
          let lies : slice_get ws slot.place ≡ Some w.0 = ap (λ (a : Slot). slice_get ws a.place) (sym is) ∙ w.1 in
          let size = alike-places h S.store K.symbol y.kind q.value w.0 w.2 in
          let fit : width_of y.kind + places st ≤ m.stack → places (w.0 ∷ st) ≤ m.stack = (λ le. omega (arith, le, size)) in
          subst (λ e. Come (going (On pc ws st h u) out) e (cr + cr' + 44) lim) (sym (local-lands x y e))
          (sooner _ _ 3 (omega arith)
          (put-then p K pool L z number m runs.there fs S.store ws st out (Ends q.value log) b lim goal y.kind q.value _ pc d h u c room f.unit (alike-of h S.store K.symbol y.kind q.value w.0 w.2)
          (λ r at fits. record { word = w.0; heap = h; grown = grows-itself h; alike = w.2; room = fit fits; row = row-load L number m runs.there fs z pc r slot.place (value_of_kind y.kind) w.0 ws st h u at lies (alike-kind h S.store K.symbol y.kind q.value w.0 w.2) (fit fits) })
          (up-then y.kind q.value goal log refl up)))

      set-lands : (x : SymId) (y : Known) (e : known ys x ≡ Some y) (v : Value) → Landed (act p (op.SetLocal x) (v ∷ []) env S1) ≡ resume p frames (gives unit_v) (record S { slots = put slots x (slice_set (values_of slots x) (f.held.at x y e).binding v) }) log
      unfolding act land_act write_slot
      set-lands x y e v = ap (λ o. Landed (or_no_rule (option_map (λ k. put slots x (slice_set (values_of slots x) k v)) o) (λ sl. give unit_v (record S1 { slots = sl })))) (f.held.at x y e).bound

      pub set-acts : (x : SymId) (y : Known) (slot : Slot) (goal : Goal) (pc r : ℕ) (v : Value) (w : Word) → known ys x ≡ Some y → slot_of s x ≡ Some slot → At p.table K L m pc (operation.Store (value_of_kind y.kind) slot.place) r → UnitAt p K pool L m d goal r → Alike h S.store K.symbol y.kind v w
          → Up (marked x ys) s env kind.Unit goal frames st cr → Acts pc (w ∷ st) (act p (op.SetLocal x) (v ∷ []) env S1)
      set-acts x y slot goal pc r v w e there at c a up =
          let q = f.held.at x y e in
          let same : Some q.slot ≡ Some slot = sym q.slot_is ∙ there in
          let is : q.slot ≡ slot = cc in
          let i : ℕ = q.slot.place in
          let at' : At p.table K L m pc (operation.Store (value_of_kind y.kind) i) r = subst (λ (o : Slot). At p.table K L m pc (operation.Store (value_of_kind y.kind) o.place) r) (sym is) at in
          let size = alike-places h S.store K.symbol y.kind v w a in
          let in_scope : i + width_of q.slot.kind ≤ s.next = q.within in
          let kinds : width_of q.slot.kind ≡ width_of y.kind = ap width_of q.kind_is in
          let wide = f.held.wide in
          let fits : i + places_of w ≤ length ws = omega (arith, size, in_scope, kinds, wide) in
          let ws' : List Word = frame_step.put w (frame_step.unset_before ws i) i in
          let slots' : Slots = put slots x (slice_set (values_of slots x) q.binding v) in
          let held' = held-set h S.store K.symbol ys s env slots floor ws f.held x y e v w a in
          let extends' = extends-set h S.store K.symbol ys s env slots floor ws f.held x y e v w a f.extends in
          let then : Then p K pool L z number m runs.there fs S.store ws' st h u out goal kind.Unit unit_v (resume p frames (gives unit_v) (record S { slots = slots' }) log) b lim = (
          λ h' u' g unit y' arrived. up unit_v slots' log out ws' h' u' y' (record {
            grown = grows-further base h h' f.grown g;
            unit = unit;
            held = held-grown h h' S.store K.symbol (marked x ys) s env slots' floor ws' g held';
            extends = extends';
            wide = put-length w ws i ∙ f.wide;
            written = f.written;
            callers = callers-grown p K pool L h h' S.store result k' fs floor cr' g f.callers;
          }) arrived) in
          subst (λ e. Come (going (On pc ws (w ∷ st) h u) out) e (cr + cr' + 44) lim) (sym (set-lands x y e v))
          (sooner _ _ 4 (omega arith)
          (after-row p K pool L z (On pc ws (w ∷ st) h u) (On r ws' st h u) out _ (3 + b) (4 + b) lim lim (row-store L number m runs.there fs z pc r i (value_of_kind y.kind) w ws st h u at' (alike-kind h S.store K.symbol y.kind v w a) fits) (omega arith)
          (unit-then p K pool L z number m runs.there fs S.store ws' st out _ b lim goal r d h u c room f.unit then)))

      -- ---- numbers

      -- a row puts the value of an operator in the place of its operands
      pub row-acts : (k : Kind) (v : Value) (w : Word) (goal : Goal) (pc r : ℕ) (words : List Word) → Alike h S.store K.symbol k v w → places (w ∷ st) ≤ m.stack → stepping L (On pc ws words h u) ≡ Ok (event.On, On r ws (w ∷ st) h u) → Gives p K pool L m goal k r
          → Up ys s env k goal frames st cr → Come (going (On pc ws words h u) out) (Ends v log) (cr + cr' + 44) lim
      row-acts k v w goal pc r words a fits row g up =
          sooner _ _ 3 (omega arith)
          (after-row p K pool L z (On pc ws words h u) (On r ws (w ∷ st) h u) out (Ends v log) (2 + b) (3 + b) lim lim row (omega arith)
          (given p K pool L z number m runs.there fs S.store ws st out (Ends v log) b lim goal k v w r h u g a fits (λ x arrived. up-then k v goal log refl up h u (grows-itself h) f.unit x arrived)))

      pub arithmetic-acts : (w : Width) (o : Arithmetic) (goal : Goal) (pc r : ℕ) (vs : List Value) (words : List Word) → Kept h S.store K.symbol Values (kind_of_width w ∷ kind_of_width w ∷ []) vs words → 2 * width_of (kind_of_width w) ≤ d → At p.table K L m pc (arithmetic_of w o) r → Gives p K pool L m goal (kind_of_width w) r
          → Up ys s env (kind_of_width w) goal frames st cr → Acts pc (onto words st) (act p (op.Primitive (primitive.Arithmetic w o)) vs env S1)
      unfolding act primitive_act land_act
      arithmetic-acts width.Int o goal pc r vs words (e_value (k_int x lx) (e_value (k_int y ly) e_none)) deep at g up =
          row-acts kind.Int (int_v (numbers.computed w32 o x y)) (Int (numbers.computed w32 o x y)) goal pc r (Int y ∷ Int x ∷ st) (k_int _ (computed-int o x y lx ly)) (omega (arith, deep, room)) (row-arithmetic-int L number m runs.there fs z pc r x y o ws st h u at (omega (arith, deep, room))) g up
      arithmetic-acts width.Long o goal pc r vs words (e_value (k_long x lx) (e_value (k_long y ly) e_none)) deep at g up =
          row-acts kind.Long (long_v (numbers.computed w64 o x y)) (Long (numbers.computed w64 o x y)) goal pc r (Long y ∷ Long x ∷ st) (k_long _ (computed-long o x y lx ly)) (omega (arith, deep, room)) (row-arithmetic-long L number m runs.there fs z pc r x y o ws st h u at (omega (arith, deep, room))) g up

      -- a divisor of 0: the exception goes through all frames
      abbrev Threw : Config
      Threw = land_act (throw_new p.table ARITHMETIC_EXCEPTION (string_v (codes "/ by zero")) S1) frames log (resume p frames)

      throws-over : (goal : Goal) (k : Kind) → Awaits p K pool L m base S.store result ys s env k goal frames st cr k' → Threw ≡ over (throws (ref_v (length S.store))) (with_more (instance ARITHMETIC_EXCEPTION ((GET_MESSAGE, string_v (codes "/ by zero")) ∷ []) []) S1) (log ++ made (object_units p.table ARITHMETIC_EXCEPTION) ∷ [])
      unfolding throw_new make land_act
      throws-over goal k aw = falls p K pool L m base S.store result ys s env k goal frames st cr k' _ _ _ aw ∙ falls-all p K pool L h S.store result k' fs floor cr' _ _ _ f.callers

      threw-int : (goal : Goal) (pc q x : ℕ) (o : Division) → Awaits p K pool L m base S.store result ys s env kind.Int goal frames st cr k' → At p.table K L m pc (operation.IntDivision o) q → Come (going (On pc ws (Int 0 ∷ Int x ∷ st) h u) out) Threw (cr + cr' + 44) lim
      threw-int goal pc q x o aw at =
          let un = unwound-all p K pool L 11 h S.store result k' fs floor cr' number pc m ws [] runs f.callers in
          let note = written-made log (object_units p.table ARITHMETIC_EXCEPTION) in
          subst (λ e. Come (going (On pc ws (Int 0 ∷ Int x ∷ st) h u) out) e (cr + cr' + 44) lim) (sym (throws-over goal kind.Int aw))
          (more-time p K pool L z _ _ 1 (cr + cr' + 44) lim lim
          (after-halt p K pool L z _ _ _ 0 lim (halts-int L number m runs.there fs z pc q x o ws st h u out un.0 at un.1)
          (st_thrown (f.written ∙ sym note) (machine-shows L number m runs.there fs z arithmetic.class h arithmetic.there arithmetic.name_is ∙ sym (program-shows p K S1 one other)))) (omega arith) (omega arith))

      threw-long : (goal : Goal) (pc q x : ℕ) (o : Division) → Awaits p K pool L m base S.store result ys s env kind.Long goal frames st cr k' → At p.table K L m pc (operation.LongDivision o) q → Come (going (On pc ws (Long 0 ∷ Long x ∷ st) h u) out) Threw (cr + cr' + 44) lim
      threw-long goal pc q x o aw at =
          let un = unwound-all p K pool L 11 h S.store result k' fs floor cr' number pc m ws [] runs f.callers in
          let note = written-made log (object_units p.table ARITHMETIC_EXCEPTION) in
          subst (λ e. Come (going (On pc ws (Long 0 ∷ Long x ∷ st) h u) out) e (cr + cr' + 44) lim) (sym (throws-over goal kind.Long aw))
          (more-time p K pool L z _ _ 1 (cr + cr' + 44) lim lim
          (after-halt p K pool L z _ _ _ 0 lim (halts-long L number m runs.there fs z pc q x o ws st h u out un.0 at un.1)
          (st_thrown (f.written ∙ sym note) (machine-shows L number m runs.there fs z arithmetic.class h arithmetic.there arithmetic.name_is ∙ sym (program-shows p K S1 one other)))) (omega arith) (omega arith))

      int-quotient : (goal : Goal) (pc r x y : ℕ) (o : Division) → x < 2 ^ 32 → 2 ≤ d → At p.table K L m pc (operation.IntDivision o) r → Gives p K pool L m goal kind.Int r → Awaits p K pool L m base S.store result ys s env kind.Int goal frames st cr k' → Up ys s env kind.Int goal frames st cr
          → (t : Bool) → nat_eq y 0 ≡ t → Come (going (On pc ws (Int y ∷ Int x ∷ st) h u) out) (Landed (by_bool t (throw_new p.table ARITHMETIC_EXCEPTION (string_v (codes "/ by zero")) S1) (give (int_v (numbers.divided w32 o x y)) S1))) (cr + cr' + 44) lim
      unfolding land_act
      int-quotient goal pc r x y o lx deep at g aw up true t = subst (λ n. Come (going (On pc ws (Int n ∷ Int x ∷ st) h u) out) Threw (cr + cr' + 44) lim) (sym (eqb-true y 0 t)) (threw-int goal pc r x o aw at)
      int-quotient goal pc r x y o lx deep at g aw up false t =
          let some : y ≡ 0 → ⊥ = λ e. (let f : nat_eq y 0 ≡ true = eq-eqb y 0 e in absurd (cc)) in
          row-acts kind.Int (int_v (numbers.divided w32 o x y)) (Int (numbers.divided w32 o x y)) goal pc r (Int y ∷ Int x ∷ st) (k_int _ (divided-int o x y lx)) (omega (arith, deep, room)) (row-division-int L number m runs.there fs z pc r x y o ws st h u at some (omega (arith, deep, room))) g up

      long-quotient : (goal : Goal) (pc r x y : ℕ) (o : Division) → x < 2 ^ 64 → 4 ≤ d → At p.table K L m pc (operation.LongDivision o) r → Gives p K pool L m goal kind.Long r → Awaits p K pool L m base S.store result ys s env kind.Long goal frames st cr k' → Up ys s env kind.Long goal frames st cr
          → (t : Bool) → nat_eq y 0 ≡ t → Come (going (On pc ws (Long y ∷ Long x ∷ st) h u) out) (Landed (by_bool t (throw_new p.table ARITHMETIC_EXCEPTION (string_v (codes "/ by zero")) S1) (give (long_v (numbers.divided w64 o x y)) S1))) (cr + cr' + 44) lim
      unfolding land_act
      long-quotient goal pc r x y o lx deep at g aw up true t = subst (λ n. Come (going (On pc ws (Long n ∷ Long x ∷ st) h u) out) Threw (cr + cr' + 44) lim) (sym (eqb-true y 0 t)) (threw-long goal pc r x o aw at)
      long-quotient goal pc r x y o lx deep at g aw up false t =
          let some : y ≡ 0 → ⊥ = λ e. (let f : nat_eq y 0 ≡ true = eq-eqb y 0 e in absurd (cc)) in
          row-acts kind.Long (long_v (numbers.divided w64 o x y)) (Long (numbers.divided w64 o x y)) goal pc r (Long y ∷ Long x ∷ st) (k_long _ (divided-long o x y lx)) (omega (arith, deep, room)) (row-division-long L number m runs.there fs z pc r x y o ws st h u at some (omega (arith, deep, room))) g up

      pub division-acts : (w : Width) (o : Division) (goal : Goal) (pc r : ℕ) (vs : List Value) (words : List Word) → Kept h S.store K.symbol Values (kind_of_width w ∷ kind_of_width w ∷ []) vs words → 2 * width_of (kind_of_width w) ≤ d → At p.table K L m pc (division_of w o) r → Gives p K pool L m goal (kind_of_width w) r
          → Awaits p K pool L m base S.store result ys s env (kind_of_width w) goal frames st cr k' → Up ys s env (kind_of_width w) goal frames st cr → Acts pc (onto words st) (act p (op.Primitive (primitive.Division w o)) vs env S1)
      unfolding act primitive_act
      division-acts width.Int o goal pc r vs words (e_value (k_int x lx) (e_value (k_int y ly) e_none)) deep at g aw up = int-quotient goal pc r x y o lx deep at g aw up (nat_eq y 0) refl
      division-acts width.Long o goal pc r vs words (e_value (k_long x lx) (e_value (k_long y ly) e_none)) deep at g aw up = long-quotient goal pc r x y o lx deep at g aw up (nat_eq y 0) refl

      -- ---- comparisons

      pub comparison-acts : (w : Width) (c : Comparison) (goal : Goal) (pc : ℕ) (vs : List Value) (words : List Word) → Kept h S.store K.symbol Values (kind_of_width w ∷ kind_of_width w ∷ []) vs words → 2 * width_of (kind_of_width w) ≤ d → ComparedAt p K pool L m w c goal pc
          → Up ys s env kind.Boolean goal frames st cr → Acts pc (onto words st) (act p (op.Primitive (primitive.Comparison w c)) vs env S1)
      unfolding act primitive_act land_act
      comparison-acts width.Int c goal pc vs words (e_value (k_int x lx) (e_value (k_int y ly) e_none)) deep at up =
          sooner _ _ 7 (omega arith) (compared-then p K pool L z number m runs.there fs S.store ws st out _ b lim width.Int c goal pc x y (numbers.compared w32 c x y) h u at (omega (arith, deep, room)) f.unit refl (up-then kind.Boolean _ goal log refl up))
      comparison-acts width.Long c goal pc vs words (e_value (k_long x lx) (e_value (k_long y ly) e_none)) deep at up =
          sooner _ _ 7 (omega arith) (compared-then p K pool L z number m runs.there fs S.store ws st out _ b lim width.Long c goal pc x y (numbers.compared w64 c x y) h u at (omega (arith, deep, room)) f.unit refl (up-then kind.Boolean _ goal log refl up))

      pub equal-acts : (goal : Goal) (pc : ℕ) (vs : List Value) (words : List Word) → Kept h S.store K.symbol Values (kind.Boolean ∷ kind.Boolean ∷ []) vs words → 2 ≤ d → ComparedAt p K pool L m width.Int Equal goal pc → Up ys s env kind.Boolean goal frames st cr
          → Acts pc (onto words st) (act p (op.Primitive (primitive.Logic logic.Equal)) vs env S1)
      unfolding act primitive_act land_act
      equal-acts goal pc vs words (e_value (k_boolean x) (e_value (k_boolean y) e_none)) deep at up =
          sooner _ _ 7 (omega arith) (compared-then p K pool L z number m runs.there fs S.store ws st out _ b lim width.Int Equal goal pc (bit x) (bit y) (same_boolean x y) h u at (omega (arith, deep, room)) f.unit (bits-equal x y) (up-then kind.Boolean _ goal log refl up))

      pub differ-acts : (goal : Goal) (pc : ℕ) (vs : List Value) (words : List Word) → Kept h S.store K.symbol Values (kind.Boolean ∷ kind.Boolean ∷ []) vs words → 2 ≤ d → ComparedAt p K pool L m width.Int NotEqual goal pc → Up ys s env kind.Boolean goal frames st cr
          → Acts pc (onto words st) (act p (op.Primitive (primitive.Logic logic.NotEqual)) vs env S1)
      unfolding act primitive_act land_act
      differ-acts goal pc vs words (e_value (k_boolean x) (e_value (k_boolean y) e_none)) deep at up =
          sooner _ _ 7 (omega arith) (compared-then p K pool L z number m runs.there fs S.store ws st out _ b lim width.Int NotEqual goal pc (bit x) (bit y) (not (same_boolean x y)) h u at (omega (arith, deep, room)) f.unit (bits-differ x y) (up-then kind.Boolean _ goal log refl up))

      landed : (pc : ℕ) (v : Value) → Come (going (On pc ws st h u) out) (Ends v log) (1 + b) lim → Acts pc st (give v S1)
      unfolding land_act
      landed pc v c = sooner _ _ 1 (omega arith) c

      -- operands that are dropped have no words
      effects-none : (ks : List Kind) (vs : List Value) (words : List Word) → Kept h S.store K.symbol Effects ks vs words → words ≡ []
      effects-none ks vs words e_none = refl
      effects-none ks vs words (e_effect i rest) = effects-none _ _ words rest

      -- an operator whose value is dropped
      pub idle-acts : (o : Primitive) (ks : List Kind) (k : Kind) (pc q : ℕ) (vs : List Value) (words : List Word) → form_of Effect (op.Primitive o) ≡ Effects → kind_of_primitive o ks ≡ Some k → Kept h S.store K.symbol Effects ks vs words → Leads p K pool L m pc q
          → Up ys s env k (drop q) frames st cr → Acts pc (onto words st) (act p (op.Primitive o) vs env S1)
      unfolding act
      idle-acts o ks k pc q vs words form e kept l up =
          let i = idles p h S.store K.symbol S1 o ks k vs words form e kept in
          let none = effects-none ks vs words kept in
          subst (λ a. Acts pc (onto words st) a) (sym i.acts) (subst (λ w. Acts pc (onto w st) (give i.value S1)) (sym none) (landed pc i.value (lead p K pool L z number m runs.there fs S.store ws st out (Ends i.value log) b lim pc q st h u l (up-then k i.value (drop q) log refl up h u (grows-itself h) f.unit _ (r_drop i.is)))))

      -- ---- texts and output

      concat-lands : (v w : Value) (us ts : List ℕ) → plain_text v ≡ Some us → plain_text w ≡ Some ts → Landed (act p (op.Primitive primitive.Concatenate) (v ∷ w ∷ []) env S1) ≡ Ends (string_v (us ++ ts)) (log ++ made (text_units (us ++ ts)) ∷ [])
      unfolding act primitive_act concat_act concat_second text_act land_act
      concat-lands v w us ts e f2 = ap (λ o. Landed (text_or_ask p v S1 (text_first w) (concat_second p w) o)) e ∙ ap (λ o. Landed (text_or_ask p w S1 (text_second us) (joined us) o)) f2

      pub concat-acts : (k l : Kind) (goal : Goal) (pc r : ℕ) (vs : List Value) (words : List Word) → Kept h S.store K.symbol Texts (k ∷ l ∷ []) vs words → 2 ≤ d → At p.table K L m pc (operation.CallStatic (target.BuiltIn built.Concat)) r → Gives p K pool L m goal kind.String r
          → Up ys s env kind.String goal frames st cr → Acts pc (onto words st) (act p (op.Primitive primitive.Concatenate) vs env S1)
      concat-acts k l goal pc r vs words (e_text {v = v} {us = us} {r = q} e narrow x (e_text {v = w} {us = ts} {r = q2} e2 narrow2 x2 e_none)) deep at g up =
          let note : Note = made (text_units (us ++ ts)) in
          let all = units-append us ts narrow narrow2 in
          let h' : List Entity = h ++ text_object (us ++ ts) ∷ [] in
          let last = holds-last h (text_object (us ++ ts)) in
          let grown = grows-by h (text_object (us ++ ts) ∷ []) in
          subst (λ c. Come (going (On pc ws (Reference q2 ∷ Reference q ∷ st) h u) out) c (cr + cr' + 44) lim) (sym (concat-lands v w us ts e e2))
          (sooner _ _ 3 (omega arith)
          (after-row p K pool L z (On pc ws (Reference q2 ∷ Reference q ∷ st) h u) (On r ws (Reference (1 + used h) ∷ st) h' u) out _ (2 + b) (3 + b) lim lim
          (row-concat L number m runs.there fs z pc r q q2 us ts ws st h u at (is-text h q us narrow x) (is-text h q2 ts narrow2 x2) (omega (arith, deep, room))) (omega arith)
          (given p K pool L z number m runs.there fs S.store ws st out _ b lim goal kind.String (string_v (us ++ ts)) (Reference (1 + used h)) r h' u g (k_string (us ++ ts) (1 + used h) all last) (omega (arith, deep, room))
          (λ y arrived. up-then kind.String (string_v (us ++ ts)) goal (log ++ note ∷ []) (written-made log (text_units (us ++ ts))) up h' u grown (unit-grown h h' u grown f.unit) y arrived))))

      pub print-acts : (o : RunMethod) (goal : Goal) (pc r : ℕ) (vs : List Value) (words : List Word) → Kept h S.store K.symbol Values (kind.String ∷ []) vs words → At p.table K L m pc (operation.CallStatic (target.BuiltIn built.Print)) r → UnitAt p K pool L m d goal r
          → Up ys s env kind.Unit goal frames st cr → Acts pc (onto words st) (act p (op.Run o) vs env S1)
      unfolding act land_act
      print-acts run_method.Print goal pc r vs words (e_value (k_string us q narrow x) e_none) at c up =
          let t = is-text h q us narrow x in
          let note : Note = wrote (utf8 us) in
          let out' : List ℕ = out ++ utf8 us in
          let written : out' ≡ written_by (log ++ note ∷ []) = ap (λ l. l ++ utf8 us) f.written ∙ sym (written-behind log note) in
          sooner _ _ 4 (omega arith)
          (after-said p K pool L z (On pc ws (Reference q ∷ st) h u) (On r ws st h u) q (utf8 us) out _ (3 + b) (4 + b) lim lim (row-print L number m runs.there fs z pc r q us ws st h u at t) (said-text (record { objects = h; units = None }) q us t) (omega arith)
          (unit-then p K pool L z number m runs.there fs S.store ws st out' _ b lim goal r d h u c room f.unit
          (λ h' u' g unit y arrived. up unit_v slots (log ++ note ∷ []) out' ws h' u' y (facts-grown ys s env slots ws h h' u u' log (log ++ note ∷ []) out out' f g unit written) arrived)))
