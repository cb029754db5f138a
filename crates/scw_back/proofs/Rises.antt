-- A value comes to the frames that wait for it, and the machine comes with it.
use Rattle.std.proofs.Common.{◌≡◌, refl, sym, subst, ℕ, ◌+◌, ◌≤◌, ◌<◌, arith, true, false, List, [], ◌∷◌, ◌++◌, inr, append_assoc, append-nil}
use Rattle.std.specs.Prelude.{codes}
use Rattle.scw_classfile.specs.declared.pool_entry.PoolEntry.{PoolEntry}
use Rattle.scw_core.proofs.Systems.{iterate}
use Rattle.scw_core.specs.Act.{act}
use Rattle.scw_core.specs.Begin.{go_block, go_operands}
use Rattle.scw_core.specs.Frame.{Frames, Note, gives, in_block, operands, tree_task, while_body, while_test}
use Rattle.scw_core.specs.Program as core
use Rattle.scw_core.specs.React.{give_back, give_to, react}
use Rattle.scw_core.specs.Run as run
use Rattle.scw_core.specs.Run.{Config, land, land_act, resume}
use Rattle.scw_core.specs.Seen.{written_by}
use Rattle.scw_core.specs.State.{Env, Slots, State, Value, unit_v}
use Rattle.scw_core.specs.Tree.{Tree, Trees, none, more}
use Rattle.scw_core.specs.Types.{same_symbol}
use Rattle.scw_core.specs.declared.class.CoreClass.{CoreClass}
use Rattle.scw_core.specs.declared.operator.Op.{Op}
use Rattle.scw_core.specs.declared.symbol.TheConstants.{ARITHMETIC_EXCEPTION}
use Rattle.scw_gen.specs.declared.kind.Kind.{Kind}
use Rattle.scw_gen.specs.declared.kind.Kind.TheVariants as kind
use Rattle.scw_gen.specs.declared.operator.Form.{Form}
use Rattle.scw_gen.specs.declared.operator.Form.TheVariants.{Values, Effects, Texts}
use Rattle.scw_gen.specs.Scope.{Scope}
use Rattle.scw_gen.specs.Typed.{Known, behind, behind_op, rank}
use Rattle.scw_heap.specs.Heap.{Entity}
use Rattle.scw_frame.specs.declared.operation.Operation.TheVariants as operation
use Rattle.scw_frame.specs.declared.program.Method.{Method}
use Rattle.scw_frame.specs.declared.program.Program.{Program}
use Rattle.scw_frame.specs.declared.value.Value.TheVariants.{Reference}
use Rattle.scw_frame.specs.Frame.{places}
use Rattle.scw_frame.specs.Frame as machine_frame
use Rattle.scw_machine.specs.Course.{Course, going}
use Rattle.scw_back.proofs.Acts.{Facts, Up, arithmetic-acts, boolean-acts, comparison-acts, concat-acts, differ-acts, division-acts, equal-acts, facts-grown, idle-acts, int-acts, local-acts, long-acts, no_text-acts, print-acts, set-acts, text-acts, unit-acts}
use Rattle.scw_back.proofs.Bodies.{Bodies, Calls}
use Rattle.scw_back.proofs.Enter.{call-acts}
use Rattle.scw_back.proofs.Goals.{ArgsAt, CodeAt, Goal, OpAt, StatementsAt, TextAt, a_effect, a_none, a_text, a_value, drop, j_drop, j_leave, j_push, j_test, leave, o_arithmetic, o_boolean, o_call, o_comparison, o_concatenate, o_division, o_equal, o_idle, o_int, o_local, o_long, o_no_text, o_not_equal, o_print, o_set, o_text, o_unit, push, s_last, s_more, s_none, test}
use Rattle.scw_back.proofs.Grown.{kept-grown}
use Rattle.scw_back.proofs.Loaded.{IsClass}
use Rattle.scw_back.proofs.Locals.{alike-places, held-within, more-behind, within-more, width-some}
use Rattle.scw_back.proofs.Placed.{At, value_of_kind}
use Rattle.scw_back.proofs.Puts.{text-then, unit-grown}
use Rattle.scw_back.proofs.Reach.{Arrived, Comes, after-row, lead, left_in_all, more-time, r_drop, r_leave, r_push, r_test, size_of, sizes_of, unit-then}
use Rattle.scw_back.proofs.Rows.{on, row-jump}
use Rattle.scw_back.proofs.Stands.{Alike, Awaits, Callers, Extends, Grows, Held, IsOf, Kept, MachineState, Prepared, Runs, Stands, UnitThere, Within, Word, behind_all, e_none, i_boolean, i_unit, left_by, onto, operand_goal, s_launch, st_at, st_over, w_block, w_body, w_if, w_if_same, w_join, w_operand, w_return, w_return_unit, w_test, w_within}
use Rattle.scw_back.proofs.Stands as stands
use Rattle.scw_back.proofs.Waiting.{awaits-grown, kept-effect, kept-places, kept-text, kept-value, left-behind, onto-behind}

module _ (p : core.Program) (K : CoreClass) (pool : List PoolEntry) (L : Program) (z : List Word) (one : p.table.classes ≡ K ∷ []) (other : same_symbol K.symbol ARITHMETIC_EXCEPTION ≡ false) (arithmetic : IsClass p K pool L 11 (codes "java/lang/ArithmeticException") 1) (bodies : Bodies p K pool L) (calls : Calls p K pool L) where
  module _ (number : ℕ) (m : Method) (runs : Runs p K pool L number m) (fs : List machine_frame.Frame) (result : Kind) (k' : Frames) (floor : Slots) (cr' : ℕ) (S : State) (base : List Entity) (narrow : m.locals ≤ 65535) where
    abbrev On : ℕ → List Word → List Word → List Entity → ℕ → MachineState
    On pc ws st h u = on L number m runs.there fs z pc ws st h u

    abbrev Come : Course → Config → ℕ → ℕ → Type 0
    Come x d b lim = Comes p K pool L z x d b lim

    abbrev Fact : List Known → Scope → Env → Slots → List Word → List Entity → ℕ → List Note → List ℕ → Type 0
    Fact ys s env slots ws h u log out = Facts p K pool L z one other arithmetic number m runs fs result k' floor cr' S base ys s env slots ws h u log out

    abbrev Ups : List Known → Scope → Env → Kind → Goal → Frames → List Word → ℕ → Type 0
    Ups ys s env k goal frames st cr = Up p K pool L z one other arithmetic number m runs fs result k' floor cr' S base ys s env k goal frames st cr

    abbrev Waits : List Known → Scope → Env → Kind → Goal → Frames → List Word → ℕ → Type 0
    Waits ys s env k goal frames st cr = Awaits p K pool L m base S.store result ys s env k goal frames st cr k'

    -- the same, of the heap as it is now
    abbrev WaitsNow : List Entity → List Known → Scope → Env → Kind → Goal → Frames → List Word → ℕ → Type 0
    WaitsNow h ys s env k goal frames st cr = Awaits p K pool L m h S.store result ys s env k goal frames st cr k'

    -- ---- a tree begins

    pub begins-at : (ys : List Known) (s : Scope) (env : Env) (k : Kind) (goal : Goal) (frames : Frames) (st : List Word) (cr d pc lim : ℕ) (t : Tree) (slots : Slots) (log : List Note) (out : List ℕ) (ws : List Word) (h : List Entity) (u : ℕ) → Fact ys s env slots ws h u log out → places st + d ≤ m.stack
        → CodeAt p K pool L m ys s k goal d pc t → WaitsNow h (behind t ys) s env k goal frames st cr → size_of t + left_in_all frames < lim → Come (going (On pc ws st h u) out) (run.at (tree_task t env) frames (record S { slots = slots }) log) (cr + cr' + 16) lim
    unfolding iterate
    begins-at ys s env k goal frames st cr d pc lim t slots log out ws h u f room code aw less =
        (0, cr + cr' + 16, st_at {cr = cr} {cr' = cr'} runs code aw f.held f.extends f.wide narrow room f.callers f.unit (omega arith) f.written, omega arith, inr less)

    -- what waits for a tree knows no more than is known before it
    pub weaker : (t : Tree) (ys : List Known) (s : Scope) (env : Env) (k : Kind) (goal : Goal) (frames : Frames) (st : List Word) (cr : ℕ) (slots : Slots) (log : List Note) (out : List ℕ) (ws : List Word) (h : List Entity) (u : ℕ) → Fact ys s env slots ws h u log out → WaitsNow h ys s env k goal frames st cr → WaitsNow h (behind t ys) s env k goal frames st cr
    weaker t ys s env k goal frames st cr slots log out ws h u f aw = w_within (within-more h S.store K.symbol (behind t ys) ys s env slots floor ws (more-behind t ys) f.held) aw

    -- ---- operators

    abbrev Acts : Op → List Value → Env → Slots → Frames → List Note → Config
    Acts o vs env slots frames log = land_act (act p o vs env (record S { slots = slots })) frames log (resume p frames)

    acts : (ys : List Known) (s : Scope) (env : Env) (k : Kind) (goal : Goal) (frames : Frames) (st : List Word) (cr d pc : ℕ) (f : Form) (o : Op) (ks : List Kind) (vs : List Value) (words : List Word) (slots : Slots) (log : List Note) (out : List ℕ) (ws : List Word) (h : List Entity) (u : ℕ)
        → Fact ys s env slots ws h u log out → places st + d ≤ m.stack → OpAt p K pool L m ys s d f o ks k goal pc → Kept h S.store K.symbol f ks vs words → left_by f ks ≤ d → Waits (behind_op o ys) s env k goal frames st cr → Ups (behind_op o ys) s env k goal frames st cr
        → Come (going (On pc ws (onto words st) h u) out) (Acts o vs env slots frames log) (cr + cr' + 44) (1 + left_in_all frames)
    acts ys s env k goal frames st cr d pc f o ks vs words slots log out ws h u facts room (o_unit c) e_none deep aw up = unit-acts p K pool L z one other arithmetic number m runs fs result k' floor cr' S base ys s env frames st cr d slots log out ws h u facts room goal pc c up
    acts ys s env k goal frames st cr d pc f o ks vs words slots log out ws h u facts room (o_boolean {b = t} c) e_none deep aw up = boolean-acts p K pool L z one other arithmetic number m runs fs result k' floor cr' S base ys s env frames st cr d slots log out ws h u facts room t goal pc c up
    acts ys s env k goal frames st cr d pc f o ks vs words slots log out ws h u facts room (o_int {n = n} lt c) e_none deep aw up = int-acts p K pool L z one other arithmetic number m runs fs result k' floor cr' S base ys s env frames st cr d slots log out ws h u facts room n goal pc lt c up
    acts ys s env k goal frames st cr d pc f o ks vs words slots log out ws h u facts room (o_long {n = n} lt c) e_none deep aw up = long-acts p K pool L z one other arithmetic number m runs fs result k' floor cr' S base ys s env frames st cr d slots log out ws h u facts room n goal pc lt c up
    acts ys s env k goal frames st cr d pc f o ks vs words slots log out ws h u facts room (o_text {x = x} {t = t} l c) e_none deep aw up = text-acts p K pool L z one other arithmetic number m runs fs result k' floor cr' S base ys s env frames st cr d slots log out ws h u facts room t x goal pc l c up
    acts ys s env k goal frames st cr d pc f o ks vs words slots log out ws h u facts room (o_no_text {q = q} {t = t} {text = us} e l) e_none deep aw up = no_text-acts p K pool L z one other arithmetic number m runs fs result k' floor cr' S base ys s env frames st cr d slots log out ws h u facts room t us pc q e l up
    acts ys s env k goal frames st cr d pc f o ks vs words slots log out ws h u facts room (o_local {x = x} {y = y} {slot = slot} e set there same c) e_none deep aw up =
        local-acts p K pool L z one other arithmetic number m runs fs result k' floor cr' S base ys s env frames st cr d slots log out ws h u facts room x y slot goal pc e set there c up
    acts ys s env k goal frames st cr d pc f o ks vs words slots log out ws h u facts room (o_set {r = r} {x = x} {y = y} {slot = slot} e there same at c) (stands.e_value {v = v} {w = w} a e_none) deep aw up =
        set-acts p K pool L z one other arithmetic number m runs fs result k' floor cr' S base ys s env frames st cr d slots log out ws h u facts room x y slot goal pc r v w e there at c a up
    acts ys s env k goal frames st cr d pc f o ks vs words slots log out ws h u facts room (o_call {r = r} {selector = selector} {x = x} {member = member} {ks = ks'} there kinds kind_is sel at behind) kept deep aw up =
        call-acts p K pool L z one other arithmetic bodies calls number m runs fs result k' floor cr' S base ys s env frames st cr d slots log out ws h u facts room narrow x member ks' k selector goal pc r vs words there kinds kind_is sel at behind kept aw
    acts ys s env k goal frames st cr d pc f o ks vs words slots log out ws h u facts room (o_idle {q = q} {o = prim} form e l) kept deep aw up =
        idle-acts p K pool L z one other arithmetic number m runs fs result k' floor cr' S base ys s env frames st cr d slots log out ws h u facts room prim ks k pc q vs words form e kept l up
    acts ys s env k goal frames st cr d pc f o ks vs words slots log out ws h u facts room (o_arithmetic {r = r} {w = w} {o = a} at g) kept deep aw up =
        arithmetic-acts p K pool L z one other arithmetic number m runs fs result k' floor cr' S base ys s env frames st cr d slots log out ws h u facts room w a goal pc r vs words kept (omega (arith, deep)) at g up
    acts ys s env k goal frames st cr d pc f o ks vs words slots log out ws h u facts room (o_division {r = r} {w = w} {o = a} at g) kept deep aw up =
        division-acts p K pool L z one other arithmetic number m runs fs result k' floor cr' S base ys s env frames st cr d slots log out ws h u facts room w a goal pc r vs words kept (omega (arith, deep)) at g aw up
    acts ys s env k goal frames st cr d pc f o ks vs words slots log out ws h u facts room (o_comparison {w = w} {c = c} x) kept deep aw up =
        comparison-acts p K pool L z one other arithmetic number m runs fs result k' floor cr' S base ys s env frames st cr d slots log out ws h u facts room w c goal pc vs words kept (omega (arith, deep)) x up
    acts ys s env k goal frames st cr d pc f o ks vs words slots log out ws h u facts room (o_equal x) kept deep aw up =
        equal-acts p K pool L z one other arithmetic number m runs fs result k' floor cr' S base ys s env frames st cr d slots log out ws h u facts room goal pc vs words kept (omega (arith, deep)) x up
    acts ys s env k goal frames st cr d pc f o ks vs words slots log out ws h u facts room (o_not_equal x) kept deep aw up =
        differ-acts p K pool L z one other arithmetic number m runs fs result k' floor cr' S base ys s env frames st cr d slots log out ws h u facts room goal pc vs words kept (omega (arith, deep)) x up
    acts ys s env k goal frames st cr d pc f o ks vs words slots log out ws h u facts room (o_concatenate {r = r} {k = a} {l = b} at g) kept deep aw up =
        concat-acts p K pool L z one other arithmetic number m runs fs result k' floor cr' S base ys s env frames st cr d slots log out ws h u facts room a b goal pc r vs words kept (omega (arith, deep)) at g up
    acts ys s env k goal frames st cr d pc f o ks vs words slots log out ws h u facts room (o_print {r = r} {o = run_method} at c) kept deep aw up =
        print-acts p K pool L z one other arithmetic number m runs fs result k' floor cr' S base ys s env frames st cr d slots log out ws h u facts room run_method goal pc r vs words kept at c up

    -- ---- the next operand, or the operator

    -- what follows operands that are there
    pub operands-next : (ys : List Known) (s : Scope) (env : Env) (k : Kind) (goal : Goal) (frames : Frames) (st : List Word) (cr d d' pc q : ℕ) (f : Form) (o : Op) (ts us : List Kind) (rest : Trees) (vs : List Value) (words : List Word) (slots : Slots) (log : List Note) (out : List ℕ) (ws : List Word) (h : List Entity) (u : ℕ)
        → Fact ys s env slots ws h u log out → places st + d ≤ m.stack → Kept h S.store K.symbol f ts vs words → ArgsAt p K pool L m ys s f d' pc rest us q → OpAt p K pool L m ys s d f o (ts ++ us) k goal q → left_by f ts + d' ≤ d
        → Waits (behind_op o ys) s env k goal frames st cr → Ups (behind_op o ys) s env k goal frames st cr
        → Come (going (On pc ws (onto words st) h u) out) (land (go_operands p o vs rest env (record S { slots = slots })) frames log (resume p frames)) (cr + cr' + 44) (1 + (sizes_of rest + left_in_all frames))
    unfolding land size_of sizes_of
    operands-next ys s env k goal frames st cr d d' pc q f o ts us rest vs words slots log out ws h u facts room kept a_none op fits aw up =
        let deep = left-behind f ts [] in
        more-time p K pool L z _ _ (cr + cr' + 44) (cr + cr' + 44) (1 + left_in_all frames) _
        (acts ys s env k goal frames st cr d pc f o (ts ++ []) vs words slots log out ws h u facts room op (subst (λ l. Kept h S.store K.symbol f l vs words) (sym (append-nil ts)) kept) (omega (arith, deep, fits)) aw up) (omega arith) (omega arith)
    operands-next ys s env k goal frames st cr d d' pc q f o ts us rest vs words slots log out ws h u facts room kept (a_value {d' = d2} {r = r} {t = t} {ts = ts'} {k = k1} {ks = ks1} code le args) op fits aw up =
        let size = kept-places h S.store K.symbol Values ts vs words st kept in
        let deep = left-behind Values ts (k1 ∷ []) in
        let outer = awaits-grown p K pool L m base h S.store result (behind_op o ys) s env k goal frames st cr k' facts.grown aw in
        let waiting = w_operand r {cr' = cr + 16} kept refl args op refl room (omega (arith, deep, fits, le)) outer (omega arith) in
        more-time p K pool L z _ _ (cr + 16 + cr' + 16) (cr + cr' + 44) _ _
        (begins-at ys s env k1 (push r) (operands o vs ts' env ∷ frames) (onto words st) (cr + 16) d' pc (1 + (sizes_of (more t ts') + left_in_all frames)) t slots log out ws h u facts (omega (arith, size, fits, room)) code
        (weaker t ys s env k1 (push r) (operands o vs ts' env ∷ frames) (onto words st) (cr + 16) slots log out ws h u facts waiting) (omega arith)) (omega arith) (omega arith)
    operands-next ys s env k goal frames st cr d d' pc q f o ts us rest vs words slots log out ws h u facts room kept (a_effect {r = r} {t = t} {ts = ts'} {k = k1} {ks = ks1} code args) op fits aw up =
        let size = kept-places h S.store K.symbol Effects ts vs words st kept in
        let deep = left-behind Effects ts (k1 ∷ []) in
        let outer = awaits-grown p K pool L m base h S.store result (behind_op o ys) s env k goal frames st cr k' facts.grown aw in
        let waiting = w_operand r {cr' = cr + 16} kept refl args op refl room (omega (arith, deep, fits)) outer (omega arith) in
        more-time p K pool L z _ _ (cr + 16 + cr' + 16) (cr + cr' + 44) _ _
        (begins-at ys s env k1 (drop r) (operands o vs ts' env ∷ frames) (onto words st) (cr + 16) d' pc (1 + (sizes_of (more t ts') + left_in_all frames)) t slots log out ws h u facts (omega (arith, size, fits, room)) code
        (weaker t ys s env k1 (drop r) (operands o vs ts' env ∷ frames) (onto words st) (cr + 16) slots log out ws h u facts waiting) (omega arith)) (omega arith) (omega arith)
    operands-next ys s env k goal frames st cr d d' pc q f o ts us rest vs words slots log out ws h u facts room kept (a_text {d' = d2} {r = r} {r' = r'} {t = t} {ts = ts'} {k = k1} {ks = ks1} code wide text le args) op fits aw up =
        let size = kept-places h S.store K.symbol Texts ts vs words st kept in
        let deep = left-behind Texts ts (k1 ∷ []) in
        let outer = awaits-grown p K pool L m base h S.store result (behind_op o ys) s env k goal frames st cr k' facts.grown aw in
        let waiting = w_operand r {cr' = cr + 16} kept text args op refl room (omega (arith, deep, fits, le)) outer (omega arith) in
        more-time p K pool L z _ _ (cr + 16 + cr' + 16) (cr + cr' + 44) _ _
        (begins-at ys s env k1 (push r) (operands o vs ts' env ∷ frames) (onto words st) (cr + 16) d' pc (1 + (sizes_of (more t ts') + left_in_all frames)) t slots log out ws h u facts (omega (arith, size, fits, room)) code
        (weaker t ys s env k1 (push r) (operands o vs ts' env ∷ frames) (onto words st) (cr + 16) slots log out ws h u facts waiting) (omega arith)) (omega arith) (omega arith)

    -- ---- an operand's value

    abbrev Next : Op → List Value → Trees → Env → Slots → Frames → List Note → Config
    Next o vs rest env slots frames log = land (go_operands p o vs rest env (record S { slots = slots })) frames log (resume p frames)

    module _ (ys : List Known) (s : Scope) (env : Env) (k t : Kind) (goal : Goal) (frames : Frames) (st : List Word) (cr d d' r r' q : ℕ) (o : Op) (ts us : List Kind) (rest : Trees) (vs : List Value) (words : List Word) (slots : Slots) (log : List Note) (out : List ℕ) (ws : List Word) (h : List Entity) (u : ℕ)
        (f : Fact ys s env slots ws h u log out) (room : places st + d ≤ m.stack) (aw : Waits (behind_op o ys) s env t goal frames st cr) (up : Ups (behind_op o ys) s env t goal frames st cr) where
      abbrev lim : ℕ
      lim = 1 + (sizes_of rest + left_in_all frames)

      regrouped : (form : Form) → OpAt p K pool L m ys s d form o (ts ++ k ∷ us) t goal q → OpAt p K pool L m ys s d form o ((ts ++ k ∷ []) ++ us) t goal q
      regrouped form op = subst (λ l. OpAt p K pool L m ys s d form o l t goal q) (sym (append_assoc ts (k ∷ []) us)) op

      value-comes : (v : Value) (x : MachineState) → Kept base S.store K.symbol Values ts vs words → r ≡ r' → ArgsAt p K pool L m ys s Values d' r' rest us q → OpAt p K pool L m ys s d Values o (ts ++ k ∷ us) t goal q → left_by Values (ts ++ k ∷ []) + d' ≤ d
          → Arrived p K pool L z number m runs.there fs S.store ws (onto words st) h u (push r) k v x → Come (going x out) (Next o (vs ++ v ∷ []) rest env slots frames log) (cr + cr' + 44) lim
      value-comes v x kept same args op fits (r_push {w = w} a deep) =
          let next = operands-next ys s env t goal frames st cr d d' r' q Values o (ts ++ k ∷ []) us rest (vs ++ v ∷ []) (words ++ w ∷ []) slots log out ws h u f room (kept-value h S.store K.symbol ts vs words k v w (kept-grown base h S.store K.symbol Values ts vs words f.grown kept) a) args (regrouped Values op) fits aw up in
          subst (λ pc. Come (going (On pc ws (w ∷ onto words st) h u) out) (Next o (vs ++ v ∷ []) rest env slots frames log) (cr + cr' + 44) lim) (sym same)
          (subst (λ l. Come (going (On r' ws l h u) out) (Next o (vs ++ v ∷ []) rest env slots frames log) (cr + cr' + 44) lim) (onto-behind words w st) next)

      effect-comes : (v : Value) (x : MachineState) → Kept base S.store K.symbol Effects ts vs words → r ≡ r' → ArgsAt p K pool L m ys s Effects d' r' rest us q → OpAt p K pool L m ys s d Effects o (ts ++ k ∷ us) t goal q → left_by Effects (ts ++ k ∷ []) + d' ≤ d
          → Arrived p K pool L z number m runs.there fs S.store ws (onto words st) h u (drop r) k v x → Come (going x out) (Next o (vs ++ v ∷ []) rest env slots frames log) (cr + cr' + 44) lim
      effect-comes v x kept same args op fits (r_drop i) =
          subst (λ pc. Come (going (On pc ws (onto words st) h u) out) (Next o (vs ++ v ∷ []) rest env slots frames log) (cr + cr' + 44) lim) (sym same)
          (operands-next ys s env t goal frames st cr d d' r' q Effects o (ts ++ k ∷ []) us rest (vs ++ v ∷ []) words slots log out ws h u f room (kept-effect h S.store K.symbol ts vs words k v (kept-grown base h S.store K.symbol Effects ts vs words f.grown kept) i) args (regrouped Effects op) fits aw up)

      text-comes : (v : Value) (x : MachineState) → Kept base S.store K.symbol Texts ts vs words → TextAt p K pool L m k r r' → ArgsAt p K pool L m ys s Texts d' r' rest us q → OpAt p K pool L m ys s d Texts o (ts ++ k ∷ us) t goal q → left_by Texts (ts ++ k ∷ []) + d' ≤ d
          → Arrived p K pool L z number m runs.there fs S.store ws (onto words st) h u (push r) k v x → Come (going x out) (Next o (vs ++ v ∷ []) rest env slots frames log) (2 + (cr + cr' + 44)) lim
      text-comes v x kept text args op fits (r_push {w = w} a deep) =
          let size = alike-places h S.store K.symbol k v w a in
          let some = width-some k in
          text-then p K pool L z number m runs.there fs S.store ws (onto words st) out _ (cr + cr' + 44) lim k v w r r' h u text a (omega (arith, deep, size, some))
          (λ y.
          let f2 = facts-grown p K pool L z one other arithmetic number m runs fs result k' floor cr' S base ys s env slots ws h y.heap u u log log out out f y.grown (unit-grown h y.heap u y.grown f.unit) f.written in
          let kept2 = kept-text y.heap S.store K.symbol ts vs words k v y.units y.reference (kept-grown base y.heap S.store K.symbol Texts ts vs words f2.grown kept) y.text_is y.narrow y.holds in
          subst (λ l. Come (going (On r' ws l y.heap u) out) (Next o (vs ++ v ∷ []) rest env slots frames log) (cr + cr' + 44) lim) (onto-behind words (Reference y.reference) st)
          (operands-next ys s env t goal frames st cr d d' r' q Texts o (ts ++ k ∷ []) us rest (vs ++ v ∷ []) (words ++ Reference y.reference ∷ []) slots log out ws y.heap u f2 room kept2 args (regrouped Texts op) fits aw up))

    -- ---- the next statement, or the end of a block

    pub statements-next : (ys : List Known) (s : Scope) (env : Env) (k : Kind) (goal : Goal) (frames : Frames) (st : List Word) (cr d pc : ℕ) (ts : Trees) (slots : Slots) (log : List Note) (out : List ℕ) (ws : List Word) (h : List Entity) (u : ℕ)
        → Fact ys s env slots ws h u log out → places st + d ≤ m.stack → StatementsAt p K pool L m ys s k goal d pc ts → Waits (behind_all ys ts) s env k goal frames st cr → Ups (behind_all ys ts) s env k goal frames st cr
        → Come (going (On pc ws st h u) out) (land (go_block ts env (record S { slots = slots })) frames log (resume p frames)) (cr + cr' + 44) (1 + (sizes_of ts + left_in_all frames))
    unfolding land land_act size_of sizes_of
    statements-next ys s env k goal frames st cr d pc ts slots log out ws h u facts room (s_none c) aw up =
        more-time p K pool L z _ _ (3 + (cr + cr' + 32)) (cr + cr' + 44) (1 + left_in_all frames) _
        (unit-then p K pool L z number m runs.there fs S.store ws st out _ (cr + cr' + 32) (1 + left_in_all frames) goal pc d h u c room facts.unit
        (λ h' u' g unit x a. up unit_v slots log out ws h' u' x (facts-grown p K pool L z one other arithmetic number m runs fs result k' floor cr' S base ys s env slots ws h h' u u' log log out out facts g unit facts.written) a)) (omega arith) (omega arith)
    statements-next ys s env k goal frames st cr d pc ts slots log out ws h u facts room (s_last {t = t} code) aw up =
        let outer = awaits-grown p K pool L m base h S.store result (behind t ys) s env k goal frames st cr k' facts.grown aw in
        more-time p K pool L z _ _ (cr + cr' + 16) (cr + cr' + 44) _ _ (begins-at ys s env k goal frames st cr d pc (1 + (sizes_of (more t none) + left_in_all frames)) t slots log out ws h u facts room code outer (omega arith)) (omega arith) (omega arith)
    statements-next ys s env k goal frames st cr d pc ts slots log out ws h u facts room (s_more {l = l} {r = r} {t = t} {u = t2} {ts = ts'} code rest) aw up =
        let outer = awaits-grown p K pool L m base h S.store result (behind_all (behind t ys) (more t2 ts')) s env k goal frames st cr k' facts.grown aw in
        let waiting = w_block {cr' = cr + 16} rest room outer (omega arith) in
        more-time p K pool L z _ _ (cr + 16 + cr' + 16) (cr + cr' + 44) _ _
        (begins-at ys s env l (drop r) (in_block (more t2 ts') env ∷ frames) st (cr + 16) d pc (1 + (sizes_of (more t (more t2 ts')) + left_in_all frames)) t slots log out ws h u facts room code waiting (omega arith)) (omega arith) (omega arith)

    -- ---- the body's value

    -- the machine is about to return
    pub data Left (h : List Entity) (pc : ℕ) : Value → List Word → Type 0 where
      l_value : {v : Value} {w : Word} {st : List Word} {r : ℕ} → 0 < rank result → Alike h S.store K.symbol result v w → At p.table K L m pc (operation.ReturnValue (value_of_kind result)) r → Left h pc v (w ∷ st)
      l_unit : {st : List Word} {r : ℕ} → result ≡ kind.Unit → At p.table K L m pc operation.Return r → Left h pc unit_v st

    abbrev pub Back : Type 0
    Back = (v : Value) (slots : Slots) (log : List Note) (out : List ℕ) (ws st : List Word) (h : List Entity) (u pc : ℕ) → Grows base h → UnitThere h u → Extends floor slots → out ≡ written_by log → Left h pc v st
        → Comes p K pool L z (going (on L number m runs.there fs z pc ws st h u) out) (resume p k' (gives v) (record S { slots = slots }) log) (cr' + 32) (1 + left_in_all k')

    -- ---- all frames of a body

    -- a frame in which a test's value decides
    abbrev Frames_end : Frames → Value → Slots → List Note → Config
    Frames_end frames v slots log = resume p frames (gives v) (record S { slots = slots }) log

    module _ (back : Back) where
      pub rises : (ys : List Known) (s : Scope) (env : Env) (k : Kind) (goal : Goal) (frames : Frames) (st : List Word) (cr : ℕ) → Waits ys s env k goal frames st cr → Ups ys s env k goal frames st cr
      unfolding resume react give_to give_back land land_act size_of sizes_of
      rises ys s env k goal frames st cr (w_return some) v slots log out ws h u x f (r_leave {pc = pc} {w = w} a at) =
          more-time p K pool L z _ _ (cr' + 32) (cr + cr' + 32) (1 + left_in_all k') _ (back v slots log out ws (w ∷ st) h u pc f.grown f.unit f.extends f.written (l_value some a at)) (omega arith) (omega arith)
      rises ys s env k goal frames st cr (w_return_unit {q = q} e at le) v slots log out ws h u x f (r_drop i_unit) =
          more-time p K pool L z _ _ (cr' + 32) (cr + cr' + 32) (1 + left_in_all k') _ (back unit_v slots log out ws st h u q f.grown f.unit f.extends f.written (l_unit e at)) (omega arith) (omega arith)
      rises ys s env k goal frames st cr (w_join {cr = c0} (j_push {p = p0} {q = q} l) aw le) v slots log out ws h u x f (r_push {w = w} a room) =
          more-time p K pool L z _ _ (1 + (c0 + cr' + 32)) (cr + cr' + 32) (1 + left_in_all frames) _ (lead p K pool L z number m runs.there fs S.store ws st out _ (c0 + cr' + 32) (1 + left_in_all frames) p0 q (w ∷ st) h u l (rises ys s env k (push q) frames st c0 aw v slots log out ws h u _ f (r_push a room))) (omega (arith, le)) (omega arith)
      rises ys s env k goal frames st cr (w_join {cr = c0} (j_drop {p = p0} {q = q} l) aw le) v slots log out ws h u x f (r_drop i) =
          more-time p K pool L z _ _ (1 + (c0 + cr' + 32)) (cr + cr' + 32) (1 + left_in_all frames) _ (lead p K pool L z number m runs.there fs S.store ws st out _ (c0 + cr' + 32) (1 + left_in_all frames) p0 q st h u l (rises ys s env k (drop q) frames st c0 aw v slots log out ws h u _ f (r_drop i))) (omega (arith, le)) (omega arith)
      rises ys s env k goal frames st cr (w_join {cr = c0} (j_test {y = y0} {n = n0} {yes = y1} {no = n1} ly ln) aw le) v slots log out ws h u x f (r_test {b = true}) =
          more-time p K pool L z _ _ (1 + (c0 + cr' + 32)) (cr + cr' + 32) (1 + left_in_all frames) _ (lead p K pool L z number m runs.there fs S.store ws st out _ (c0 + cr' + 32) (1 + left_in_all frames) y0 y1 st h u ly (rises ys s env k (test y1 n1) frames st c0 aw v slots log out ws h u _ f (r_test {b = true}))) (omega (arith, le)) (omega arith)
      rises ys s env k goal frames st cr (w_join {cr = c0} (j_test {y = y0} {n = n0} {yes = y1} {no = n1} ly ln) aw le) v slots log out ws h u x f (r_test {b = false}) =
          more-time p K pool L z _ _ (1 + (c0 + cr' + 32)) (cr + cr' + 32) (1 + left_in_all frames) _ (lead p K pool L z number m runs.there fs S.store ws st out _ (c0 + cr' + 32) (1 + left_in_all frames) n0 n1 st h u ln (rises ys s env k (test y1 n1) frames st c0 aw v slots log out ws h u _ f (r_test {b = false}))) (omega (arith, le)) (omega arith)
      rises ys s env k goal frames st cr (w_join {cr = c0} j_leave aw le) v slots log out ws h u x f arrived =
          more-time p K pool L z _ _ (c0 + cr' + 32) (cr + cr' + 32) (1 + left_in_all frames) _ (rises ys s env k leave frames st c0 aw v slots log out ws h u x f arrived) (omega (arith, le)) (omega arith)
      rises ys s env k goal frames st cr (w_within {ys' = ys'} {s' = s'} {env' = env'} w aw) v slots log out ws h u x f arrived =
          rises ys' s' env' k goal frames st cr aw v slots log out ws h u x (record { grown = f.grown; unit = f.unit; held = held-within h S.store K.symbol ys ys' s s' env env' slots floor ws w f.held; extends = f.extends; wide = f.wide; written = f.written; callers = f.callers }) arrived
      rises ys s env k goal frames st cr (w_operand {t = t} {ts = ts} {us = us} {f = Values} {o = o} {goal = goal2} {vs = vs} {ws = words} {rest = rest} {k = frames2} {st = st2} r {r' = r'} {q = q} {d = d} {d' = d'} {cr = c0} kept same args op is room fits aw le) v slots log out ws h u x f arrived =
          more-time p K pool L z _ _ (2 + (c0 + cr' + 44)) (cr + cr' + 32) (1 + (sizes_of rest + left_in_all frames2)) _
          (more-time p K pool L z _ _ (c0 + cr' + 44) (2 + (c0 + cr' + 44)) (1 + (sizes_of rest + left_in_all frames2)) (1 + (sizes_of rest + left_in_all frames2))
          (value-comes ys s env k t goal2 frames2 st2 c0 d d' r r' q o ts us rest vs words slots log out ws h u f room aw (rises (behind_op o ys) s env t goal2 frames2 st2 c0 aw) v x kept same args op fits
          (subst (λ l. Arrived p K pool L z number m runs.there fs S.store ws l h u (push r) k v x) is arrived)) (omega arith) (omega arith)) (omega (arith, le)) (omega arith)
      rises ys s env k goal frames st cr (w_operand {t = t} {ts = ts} {us = us} {f = Effects} {o = o} {goal = goal2} {vs = vs} {ws = words} {rest = rest} {k = frames2} {st = st2} r {r' = r'} {q = q} {d = d} {d' = d'} {cr = c0} kept same args op is room fits aw le) v slots log out ws h u x f arrived =
          more-time p K pool L z _ _ (2 + (c0 + cr' + 44)) (cr + cr' + 32) (1 + (sizes_of rest + left_in_all frames2)) _
          (more-time p K pool L z _ _ (c0 + cr' + 44) (2 + (c0 + cr' + 44)) (1 + (sizes_of rest + left_in_all frames2)) (1 + (sizes_of rest + left_in_all frames2))
          (effect-comes ys s env k t goal2 frames2 st2 c0 d d' r r' q o ts us rest vs words slots log out ws h u f room aw (rises (behind_op o ys) s env t goal2 frames2 st2 c0 aw) v x kept same args op fits
          (subst (λ l. Arrived p K pool L z number m runs.there fs S.store ws l h u (drop r) k v x) is arrived)) (omega arith) (omega arith)) (omega (arith, le)) (omega arith)
      rises ys s env k goal frames st cr (w_operand {t = t} {ts = ts} {us = us} {f = Texts} {o = o} {goal = goal2} {vs = vs} {ws = words} {rest = rest} {k = frames2} {st = st2} r {r' = r'} {q = q} {d = d} {d' = d'} {cr = c0} kept same args op is room fits aw le) v slots log out ws h u x f arrived =
          more-time p K pool L z _ _ (2 + (c0 + cr' + 44)) (cr + cr' + 32) (1 + (sizes_of rest + left_in_all frames2)) _
          (more-time p K pool L z _ _ (2 + (c0 + cr' + 44)) (2 + (c0 + cr' + 44)) (1 + (sizes_of rest + left_in_all frames2)) (1 + (sizes_of rest + left_in_all frames2))
          (text-comes ys s env k t goal2 frames2 st2 c0 d d' r r' q o ts us rest vs words slots log out ws h u f room aw (rises (behind_op o ys) s env t goal2 frames2 st2 c0 aw) v x kept same args op fits
          (subst (λ l. Arrived p K pool L z number m runs.there fs S.store ws l h u (push r) k v x) is arrived)) (omega arith) (omega arith)) (omega (arith, le)) (omega arith)
      rises ys s env k goal frames st cr (w_block {t = t} {goal = goal2} {t' = t'} {ts = ts} {k = frames2} {r = r} {d = d} {cr = c0} code room aw le) v slots log out ws h u x f (r_drop i) =
          more-time p K pool L z _ _ (c0 + cr' + 44) (cr + cr' + 32) (1 + (sizes_of (more t' ts) + left_in_all frames2)) _
          (statements-next ys s env t goal2 frames2 st c0 d r (more t' ts) slots log out ws h u f room code aw (rises (behind_all ys (more t' ts)) s env t goal2 frames2 st c0 aw)) (omega (arith, le)) (omega arith)
      rises ys s env k goal frames st cr (w_if {t = t} {goal = goal2} {first = g1} {second = g2} {b = tb} {c = tc} {k = frames2} {y = y0} {n = n0} {d = d} {cr = c0} b j1 c j2 room aw le) v slots log out ws h u x f (r_test {b = true}) =
          let outer = w_join {cr' = c0 + 1} j1 (awaits-grown p K pool L m base h S.store result ys s env t goal2 frames2 st c0 k' f.grown aw) (omega arith) in
          more-time p K pool L z _ _ (c0 + 1 + cr' + 16) (cr + cr' + 32) _ _
          (begins-at ys s env t g1 frames2 st (c0 + 1) d y0 (1 + (size_of tb + size_of tc + left_in_all frames2)) tb slots log out ws h u f room b (weaker tb ys s env t g1 frames2 st (c0 + 1) slots log out ws h u f outer) (omega arith)) (omega (arith, le)) (omega arith)
      rises ys s env k goal frames st cr (w_if {t = t} {goal = goal2} {first = g1} {second = g2} {b = tb} {c = tc} {k = frames2} {y = y0} {n = n0} {d = d} {cr = c0} b j1 c j2 room aw le) v slots log out ws h u x f (r_test {b = false}) =
          let outer = w_join {cr' = c0 + 1} j2 (awaits-grown p K pool L m base h S.store result ys s env t goal2 frames2 st c0 k' f.grown aw) (omega arith) in
          more-time p K pool L z _ _ (c0 + 1 + cr' + 16) (cr + cr' + 32) _ _
          (begins-at ys s env t g2 frames2 st (c0 + 1) d n0 (1 + (size_of tb + size_of tc + left_in_all frames2)) tc slots log out ws h u f room c (weaker tc ys s env t g2 frames2 st (c0 + 1) slots log out ws h u f outer) (omega arith)) (omega (arith, le)) (omega arith)
      rises ys s env k goal frames st cr (w_if_same {t = t} {goal = goal2} {b = tb} {c = tc} {k = frames2} {r = r} {d = d} {cr = c0} b c room aw le) v slots log out ws h u x f (r_drop (i_boolean true)) =
          let outer = awaits-grown p K pool L m base h S.store result ys s env t goal2 frames2 st c0 k' f.grown aw in
          more-time p K pool L z _ _ (c0 + cr' + 16) (cr + cr' + 32) _ _
          (begins-at ys s env t goal2 frames2 st c0 d r (1 + (size_of tb + size_of tc + left_in_all frames2)) tb slots log out ws h u f room b (weaker tb ys s env t goal2 frames2 st c0 slots log out ws h u f outer) (omega arith)) (omega (arith, le)) (omega arith)
      rises ys s env k goal frames st cr (w_if_same {t = t} {goal = goal2} {b = tb} {c = tc} {k = frames2} {r = r} {d = d} {cr = c0} b c room aw le) v slots log out ws h u x f (r_drop (i_boolean false)) =
          let outer = awaits-grown p K pool L m base h S.store result ys s env t goal2 frames2 st c0 k' f.grown aw in
          more-time p K pool L z _ _ (c0 + cr' + 16) (cr + cr' + 32) _ _
          (begins-at ys s env t goal2 frames2 st c0 d r (1 + (size_of tb + size_of tc + left_in_all frames2)) tc slots log out ws h u f room c (weaker tc ys s env t goal2 frames2 st c0 slots log out ws h u f outer) (omega arith)) (omega (arith, le)) (omega arith)
      rises ys s env k goal frames st cr (w_test {t = t} {goal = goal2} {a = ta} {b = tb} {k = frames2} {pc = pc} {y = y0} {n = n0} {r = r} {d = d} {cr = c0} a b jump c room aw le) v slots log out ws h u x f (r_test {b = true}) =
          let outer = awaits-grown p K pool L m base h S.store result ys s env kind.Unit goal2 frames2 st c0 k' f.grown aw in
          let waiting = w_body {cr' = c0 + 16} a b jump c room outer (omega arith) in
          more-time p K pool L z _ _ (c0 + 16 + cr' + 16) (cr + cr' + 32) _ _
          (begins-at ys s env t (drop r) (while_body ta tb env ∷ frames2) st (c0 + 16) d y0 (1 + (1 + size_of tb + left_in_all frames2)) tb slots log out ws h u f room b (weaker tb ys s env t (drop r) (while_body ta tb env ∷ frames2) st (c0 + 16) slots log out ws h u f waiting) (omega arith)) (omega (arith, le)) (omega arith)
      rises ys s env k goal frames st cr (w_test {t = t} {goal = goal2} {a = ta} {b = tb} {k = frames2} {pc = pc} {y = y0} {n = n0} {r = r} {d = d} {cr = c0} a b jump c room aw le) v slots log out ws h u x f (r_test {b = false}) =
          more-time p K pool L z _ _ (3 + (c0 + cr' + 32)) (cr + cr' + 32) (1 + left_in_all frames2) _
          (unit-then p K pool L z number m runs.there fs S.store ws st out _ (c0 + cr' + 32) (1 + left_in_all frames2) goal2 n0 d h u c room f.unit
          (λ h' u' g unit x2 a2. rises ys s env kind.Unit goal2 frames2 st c0 aw unit_v slots log out ws h' u' x2 (facts-grown p K pool L z one other arithmetic number m runs fs result k' floor cr' S base ys s env slots ws h h' u u' log log out out f g unit f.written) a2)) (omega (arith, le)) (omega arith)
      rises ys s env k goal frames st cr (w_body {t = t} {goal = goal2} {a = ta} {b = tb} {k = frames2} {pc = pc} {y = y0} {n = n0} {r = r} {r' = r'} {d = d} {cr = c0} a b jump c room aw le) v slots log out ws h u x f (r_drop i) =
          let outer = awaits-grown p K pool L m base h S.store result ys s env kind.Unit goal2 frames2 st c0 k' f.grown aw in
          let waiting = w_test {cr' = c0 + 16} a b jump c room outer (omega arith) in
          let lim : ℕ = 1 + (size_of ta + (1 + size_of tb + left_in_all frames2)) in
          more-time p K pool L z _ _ (1 + (c0 + 16 + cr' + 16)) (cr + cr' + 32) (1 + left_in_all frames2) _
          (after-row p K pool L z (On r ws st h u) (On pc ws st h u) out _ (c0 + 16 + cr' + 16) (1 + (c0 + 16 + cr' + 16)) lim (1 + left_in_all frames2) (row-jump L number m runs.there fs z r r' pc ws st h u jump) (omega arith)
          (begins-at ys s env kind.Boolean (test y0 n0) (while_test ta tb env ∷ frames2) st (c0 + 16) d pc lim ta slots log out ws h u f room a (weaker ta ys s env kind.Boolean (test y0 n0) (while_test ta tb env ∷ frames2) st (c0 + 16) slots log out ws h u f waiting) (omega arith))) (omega (arith, le)) (omega arith)
