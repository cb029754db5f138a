-- A call: the program begins the body of the method, and the machine its code.
use Rattle.std.proofs.Common.{◌≡◌, refl, sym, ap, ◌∙◌, subst, ℕ, suc, ◌+◌, ◌-◌, ◌≤◌, arith, true, false, List, [], ◌∷◌, ◌++◌, map, length, Some, None, Ok, inr, append_assoc, append-nil, eqb, length-append, reverse, take, drop}
use Rattle.std.specs.Prelude.{◌&&◌, codes, replicate, slice_get}
use Rattle.std.proofs.Math.Seq.{drop-append_seam, take-append_seam}
use Rattle.std.proofs.lemmas.Bool.{cond-false, le-leb, ne_eqb}
use Rattle.std.proofs.lemmas.List.{length-map, length-replicate, length-reverse, reverse-append, reverse-reverse}
use Rattle.scw_text.specs.declared.number.SymId.{SymId}
use Rattle.scw_classfile.specs.declared.pool_entry.PoolEntry.{PoolEntry}
use Rattle.scw_core.proofs.Systems.{iterate}
use Rattle.scw_core.specs.Act.{act}
use Rattle.scw_core.specs.Call.{enter}
use Rattle.scw_core.specs.Frame.{Act, Frames, Note, called, returning, tree_task, waits}
use Rattle.scw_core.specs.Program as core
use Rattle.scw_core.specs.Program.{in_members, look}
use Rattle.scw_core.specs.Run as run
use Rattle.scw_core.specs.Run.{Config, land_act, resume}
use Rattle.scw_core.specs.Seen.{written_by}
use Rattle.scw_core.specs.State.{Env, Slots, State, Thing, Value, bind, bind_all, put, ref_v, values_of}
use Rattle.scw_core.specs.Types.{same_symbol}
use Rattle.scw_core.specs.declared.class.CoreClass.{CoreClass}
use Rattle.scw_core.specs.declared.class.Member.{Member}
use Rattle.scw_core.specs.declared.operator.Op.TheVariants as op
use Rattle.scw_core.specs.declared.symbol.TheConstants.{ARITHMETIC_EXCEPTION}
use Rattle.scw_gen.specs.declared.kind.Kind.{Kind}
use Rattle.scw_gen.specs.declared.kind.Kind.TheVariants as kind
use Rattle.scw_gen.specs.declared.operator.Form.TheVariants.{Values}
use Rattle.scw_gen.specs.Around.{Around, kind_in}
use Rattle.scw_gen.specs.Method.{outermost}
use Rattle.scw_gen.specs.Scope.{Scope, from, inside, slot_of}
use Rattle.scw_gen.specs.Typed.{Known, all_set, kinds_of_parameters, known, this_known}
use Rattle.scw_heap.specs.Heap.{Entity}
use Rattle.scw_frame.specs.declared.operation.Operation.TheVariants as operation
use Rattle.scw_frame.specs.declared.program.Method.{Method}
use Rattle.scw_frame.specs.declared.program.Program.{Program}
use Rattle.scw_frame.specs.declared.value.Value.TheVariants.{Unset, Reference}
use Rattle.scw_frame.specs.declared.value.ValueKind.TheVariants as value
use Rattle.scw_frame.specs.Frame.{are_arguments, are_of, is_of, locals_of, places, places_of, spread, spread_one}
use Rattle.scw_frame.specs.Frame as machine_frame
use Rattle.scw_frame.specs.FrameStep.{and_then, reference_in}
use Rattle.scw_frame.specs.declared.value.ValueKind.{ValueKind}
use Rattle.scw_step.specs.CallStep.{receiver}
use Rattle.scw_step.specs.Step.{stepping}
use Rattle.scw_step.specs.declared.event.Event.TheVariants as event
use Rattle.scw_machine.specs.Course.{Course, going}
use Rattle.scw_back.proofs.Acts.{Facts, written-behind}
use Rattle.scw_back.proofs.Bind.{Covered, extends-bind, held-bind, parameters-bound}
use Rattle.scw_back.proofs.Bodies.{Bodies, BodyCode, BodyStands, Calls, G, unit_body, value_body}
use Rattle.scw_back.proofs.Goals.{Behind, Goal}
use Rattle.scw_back.proofs.Grown.{extends-further, extends-itself}
use Rattle.scw_back.proofs.Loaded.{IsClass}
use Rattle.scw_back.proofs.Meanings.{kinds-anywhere}
use Rattle.scw_back.proofs.Placed.{At, Selects, value_of_kind}
use Rattle.scw_back.proofs.Puts.{alike-kind}
use Rattle.scw_back.proofs.Reach.{Comes, after-row, left_in_all, measure}
use Rattle.scw_back.proofs.Rows.{frame_at, on, row-call, state}
use Rattle.scw_back.proofs.Stands.{Alike, Awaits, Callers, Extends, Held, IsOf, Kept, MachineState, Runs, Stands, Word, e_none, e_value, i_this, k_boolean, k_int, k_long, k_string, k_strings, k_this, k_unit, left_by, onto, s_more, st_at, w_return, w_return_unit}
use Rattle.scw_back.proofs.Waiting.{awaits-grown}

-- ---- arguments on the stack

onto-reverse : (ws st : List Word) → onto ws st ≡ reverse ws ++ st
onto-reverse [] st = refl
onto-reverse (w ∷ ws) st = onto-reverse ws (w ∷ st) ∙ sym (append_assoc (reverse ws) (w ∷ []) st) ∙ ap (λ l. l ++ st) (sym (reverse-append (w ∷ []) ws))

-- the arguments, in order
pub taken-back : (ws st : List Word) (n : ℕ) → n ≡ length ws → reverse (take n (onto ws st)) ≡ ws
taken-back ws st n e =
    let count : n ≡ length (reverse ws) = e ∙ sym (length-reverse ws) in
    ap (λ k. reverse (take k (onto ws st))) count ∙ ap (λ l. reverse (take (length (reverse ws)) l)) (onto-reverse ws st) ∙ ap reverse (take-append_seam (reverse ws) st) ∙ reverse-reverse ws

-- and what is left
pub dropped-back : (ws st : List Word) (n : ℕ) → n ≡ length ws → drop n (onto ws st) ≡ st
dropped-back ws st n e =
    let count : n ≡ length (reverse ws) = e ∙ sym (length-reverse ws) in
    ap (λ k. drop k (onto ws st)) count ∙ ap (drop (length (reverse ws))) (onto-reverse ws st) ∙ drop-append_seam (reverse ws) st

-- the deepest
below : (ws st : List Word) (i : ℕ) → slice_get (onto ws st) (length ws + i) ≡ slice_get st i
below [] st i = let e : 0 + i ≡ i = omega arith in ap (slice_get st) e
below (a ∷ ws) st i = let e : length (a ∷ ws) + i ≡ length ws + suc i = omega arith in ap (slice_get (onto ws (a ∷ st))) e ∙ below ws (a ∷ st) (suc i)

pub deepest : (ws st : List Word) (w : Word) → slice_get (onto ws (w ∷ st)) (length ws) ≡ Some w
deepest ws st w = let e : length ws ≡ length ws + 0 = omega arith in ap (slice_get (onto ws (w ∷ st))) e ∙ below ws (w ∷ st) 0

onto-length : (ws st : List Word) → length (onto ws st) ≡ length ws + length st
onto-length [] st = omega arith
onto-length (w ∷ ws) st = let r = onto-length ws (w ∷ st) in omega (arith, r)

-- the object that is called
received : (c : machine_frame.Calls) (ws st : List Word) (r n : ℕ) → c.current.stack ≡ onto (Reference r ∷ ws) st → n ≡ suc (length ws) → receiver n c ≡ Some r
unfolding receiver
received c ws st r n e count =
    let less : n - 1 ≡ length ws = omega (arith, count) in
    cond-false (eqb n 0) None (and_then (slice_get c.current.stack (n - 1)) reference_in) (ne_eqb n 0 (λ q. omega (arith, q, count)))
    ∙ ap (λ k. and_then (slice_get c.current.stack k) reference_in) less ∙ ap (λ l. and_then (slice_get l (length ws)) reference_in) e ∙ ap (λ o. and_then o reference_in) (deepest ws st (Reference r))

module _ (h : List Entity) (store : List Thing) (own : SymId) where
  kept-length : (ks : List Kind) (vs : List Value) (ws : List Word) → Kept h store own Values ks vs ws → length ws ≡ length ks
  kept-length ks vs ws e_none = refl
  kept-length ks vs ws (e_value a rest) = let r = kept-length _ _ _ rest in omega (arith, r)

  pub kept-kinds : (ks : List Kind) (vs : List Value) (ws : List Word) → Kept h store own Values ks vs ws → are_of (map value_of_kind ks) ws ≡ true
  kept-kinds ks vs ws e_none = refl
  kept-kinds ks vs ws (e_value {k = k} {ks = ks'} {v = v} {w = w} {ws = ws'} a rest) = ap (λ t. t && are_of (map value_of_kind ks') ws') (alike-kind h store own k v w a) ∙ kept-kinds _ _ _ rest

  pub kept-room : (ks : List Kind) (vs : List Value) (ws : List Word) → Kept h store own Values ks vs ws → (places ws ≡ left_by Values ks) × (length (spread ws) ≡ left_by Values ks)
  kept-room ks vs ws e_none = (refl, refl)
  kept-room ks vs ws (e_value {ws = ws'} (k_unit r x) rest) = let q = kept-room _ _ _ rest in (omega (arith, q.0), omega (arith, q.1))
  kept-room ks vs ws (e_value {ws = ws'} (k_boolean t) rest) = let q = kept-room _ _ _ rest in (omega (arith, q.0), omega (arith, q.1))
  kept-room ks vs ws (e_value {ws = ws'} (k_int n lt) rest) = let q = kept-room _ _ _ rest in (omega (arith, q.0), omega (arith, q.1))
  kept-room ks vs ws (e_value {ws = ws'} (k_long n lt) rest) = let q = kept-room _ _ _ rest in (omega (arith, q.0), omega (arith, q.1))
  kept-room ks vs ws (e_value {ws = ws'} (k_string us r t x) rest) = let q = kept-room _ _ _ rest in (omega (arith, q.0), omega (arith, q.1))
  kept-room ks vs ws (e_value {ws = ws'} (k_strings v2 r) rest) = let q = kept-room _ _ _ rest in (omega (arith, q.0), omega (arith, q.1))
  kept-room ks vs ws (e_value {ws = ws'} (k_this q2 r w i x) rest) = let q = kept-room _ _ _ rest in (omega (arith, q.0), omega (arith, q.1))

  none-known : (x : SymId) → known [] x ≡ None
  unfolding known
  none-known x = refl

  no-slot : (n : ℕ) (x : SymId) → slot_of (from n) x ≡ None
  unfolding slot_of
  no-slot n x = refl

  -- nothing is known yet
  nothing-held : (env : Env) (slots floor : Slots) (ws : List Word) → Held h store own [] (inside (from 0) (record { slots = []; next = 0 })) env slots floor ws
  unfolding known
  nothing-held env slots floor ws = record { at = λ x y e. absurd (cc); apart = λ x x' y y' a b e. absurd (cc); wide = omega arith }

  -- ---- the locals of a body as it begins

  module _ (p : core.Program) (K : CoreClass) (pool : List PoolEntry) (L : Program) (x : SymId) (number : ℕ) (b : BodyStands p K pool L x number) where
    abbrev near : Around
    near = G p K pool L

    abbrev symbols : List SymId
    symbols = core.locals_of b.member.parameters

    pub record Begun (q r : ℕ) (vs : List Value) (ws : List Word) (slots : Slots) : Type 0 where
      pub held : Held h store own (all_set b.inner) (inside b.added (outermost near)) (bind_all (K.this ∷ symbols) (ref_v q ∷ vs) [] slots).env (bind_all (K.this ∷ symbols) (ref_v q ∷ vs) [] slots).slots slots (locals_of b.method.locals (Reference r ∷ ws))
      pub extends : Extends slots (bind_all (K.this ∷ symbols) (ref_v q ∷ vs) [] slots).slots
      pub wide : length (locals_of b.method.locals (Reference r ∷ ws)) ≡ b.method.locals

    covered-this : Covered (all_set (this_known near ∷ [])) (from 1)
    covered-this y e = no-slot 1 y

    pub begun : (q r : ℕ) (vs : List Value) (ws : List Word) (slots : Slots) → Alike h store own kind.This (ref_v q) (Reference r) → Kept h store own Values b.kinds vs ws → Begun q r vs ws slots
    unfolding bind_all bind
    begun q r vs ws slots a kept =
        let rest : List Word = replicate (b.method.locals - length (spread (Reference r ∷ ws))) Unset in
        let all : List Word = locals_of b.method.locals (Reference r ∷ ws) in
        let room = kept-room b.kinds vs ws kept in
        let fits = b.fits in
        let narrow = b.narrow in
        let size : length all ≡ length (spread (Reference r ∷ ws)) + length rest = length-append (spread (Reference r ∷ ws)) rest in
        let left : length rest ≡ b.method.locals - length (spread (Reference r ∷ ws)) = length-replicate (b.method.locals - length (spread (Reference r ∷ ws))) Unset in
        let wide : length all ≡ b.method.locals = omega (arith, size, left, room.1, fits) in
        let none : List Known = [] in
        let env1 : Env = (K.this, length (values_of slots K.this)) ∷ [] in
        let slots1 : Slots = put slots K.this (values_of slots K.this ++ ref_v q ∷ []) in
        let empty : Scope = record { slots = []; next = 0 } in
        let this = held-bind h store own none (from 0) empty [] slots slots all K.this kind.This true (ref_v q) (nothing-held [] slots slots all) (extends-itself slots) (none-known K.this) (no-slot 0 K.this) (omega arith) (omega (arith, wide, fits)) (λ t. (Reference r, refl, a)) in
        let more = extends-bind slots K.this (ref_v q) in
        let bound = parameters-bound h store own near slots all (outermost near) b.member.parameters b.kinds vs ws (Reference r ∷ []) rest (this_known near ∷ []) b.inner (from 1) b.added env1 slots1 b.kinds_are kept refl refl (omega (arith, wide, narrow)) b.bound_is b.placed_is covered-this more this in
        record { held = bound.0; extends = extends-further slots slots1 _ more bound.1; wide = wide }

-- ---- the call

module _ (p : core.Program) (K : CoreClass) (pool : List PoolEntry) (L : Program) (z : List Word) (one : p.table.classes ≡ K ∷ []) (other : same_symbol K.symbol ARITHMETIC_EXCEPTION ≡ false) (arithmetic : IsClass p K pool L 11 (codes "java/lang/ArithmeticException") 1) (bodies : Bodies p K pool L) (calls : Calls p K pool L) (number : ℕ) (m : Method) (runs : Runs p K pool L number m) (fs : List machine_frame.Frame) (result : Kind) (k' : Frames) (floor : Slots) (cr' : ℕ) (S : State) (base : List Entity) where
  abbrev On : ℕ → List Word → List Word → List Entity → ℕ → MachineState
  On pc ws st h u = on L number m runs.there fs z pc ws st h u

  abbrev Known_here : List Known → Scope → Env → Slots → List Word → List Entity → ℕ → List Note → List ℕ → Type 0
  Known_here ys s env slots ws h u log out = Facts p K pool L z one other arithmetic number m runs fs result k' floor cr' S base ys s env slots ws h u log out

  module _ (ys : List Known) (s : Scope) (env : Env) (frames : Frames) (st : List Word) (cr d : ℕ) (slots : Slots) (log : List Note) (out : List ℕ) (ws : List Word) (h : List Entity) (u : ℕ) (f : Known_here ys s env slots ws h u log out) (room : places st + d ≤ m.stack) where
    abbrev S1 : State
    S1 = record S { slots = slots }

    abbrev Landed : Act → Config
    Landed a = land_act a frames log (resume p frames)

    -- where a call leads to
    call-lands : (x : SymId) (n : ℕ) (b : BodyStands p K pool L x n) (q : ℕ) (vs : List Value) → IsOf S.store K.symbol kind.This (ref_v q) →
        Landed (act p (op.Call x) (ref_v q ∷ vs) env S1) ≡ run.at (tree_task b.body (bind_all (K.this ∷ core.locals_of b.member.parameters) (ref_v q ∷ vs) [] slots).env) (waits (returning None) ∷ frames)
        (record S { slots = (bind_all (K.this ∷ core.locals_of b.member.parameters) (ref_v q ∷ vs) [] slots).slots }) (log ++ called K.symbol x ∷ [])
    unfolding act enter land_act
    call-lands x n b q vs (i_this q' fields outers there outer) = ap Landed (calls x b.member b.body q fields outers vs S1 b.member_there b.method_form b.body_there there outer)

    -- the body's first tree, with what waits for it
    first-stands : (x : SymId) (n : ℕ) (b : BodyStands p K pool L x n) (q r pc : ℕ) (vs : List Value) (words : List Word) (ys2 : List Known) (s2 : Scope) (env2 : Env) (slots2 : Slots) (log2 : List Note) (fs2 : List machine_frame.Frame) (cr2 : ℕ) →
        BodyCode p K pool L b.method ys2 s2 b.method.stack b.body b.result → Held h S.store K.symbol ys2 s2 env2 slots2 slots words → Extends slots slots2 → length words ≡ b.method.locals → out ≡ written_by log2
        → Callers p K pool L h S.store b.result frames fs2 slots cr2
        → Stands p K pool L z (run.at (tree_task b.body env2) (waits (returning None) ∷ frames) (record S { slots = slots2 }) log2) (going (state (frame_at n b.method 0 words []) fs2 h z u) out) (1 + cr2 + 16)
    first-stands x n b q r pc vs words ys2 s2 env2 slots2 log2 fs2 cr2 (unit_body code ret) held ex wide written callers =
        st_at {cr = 1} {cr' = cr2} b.runs code (w_return_unit refl ret (omega arith)) held ex wide b.narrow (omega arith) callers f.unit (omega arith) written
    first-stands x n b q r pc vs words ys2 s2 env2 slots2 log2 fs2 cr2 (value_body some code) held ex wide written callers =
        st_at {cr = 1} {cr' = cr2} b.runs code (w_return some) held ex wide b.narrow (omega arith) callers f.unit (omega arith) written

    now : (x : Course) (e : Config) (l : ℕ) → Stands p K pool L z e x l → Comes p K pool L z x e l (suc (measure e))
    unfolding iterate
    now x e l stands = (0, l, stands, omega arith, inr (omega arith))

    pub call-acts : m.locals ≤ 65535 → (x : SymId) (member : Member) (ks : List Kind) (k : Kind) (selector : ℕ) (goal : Goal) (pc next : ℕ) (vs : List Value) (words : List Word) → in_members K.members x ≡ Some member → kinds_of_parameters (G p K pool L) member.parameters ≡ Some ks → kind_in (G p K pool L) member.result ≡ Some k
        → Selects p.table K L x selector → At p.table K L m pc (operation.CallVirtual (record { 0 = selector })) next → Behind p K pool L m d k goal next → Kept h S.store K.symbol Values (kind.This ∷ ks) vs words
        → Awaits p K pool L m base S.store result ys s env k goal frames st cr k'
        → Comes p K pool L z (going (On pc ws (onto words st) h u) out) (Landed (act p (op.Call x) vs env S1)) (cr + cr' + 44) (1 + left_in_all frames)
    call-acts narrow_here x member ks k selector goal pc next vs words there kinds kind_is sel at behind (e_value {vs = vs'} {ws = words'} (k_this q r objects i holds) kept) aw =
        let b = bodies x sel.number sel.number_is in
        let same_member : Some member ≡ Some b.member = sym there ∙ b.member_there in
        let is : member ≡ b.member = cc in
        let same_kinds : Some ks ≡ Some b.kinds = sym kinds ∙ ap (λ (a : Member). kinds_of_parameters (G p K pool L) a.parameters) is ∙ b.kinds_are in
        let list : ks ≡ b.kinds = cc in
        let same_result : Some k ≡ Some b.result = sym kind_is ∙ ap (λ (a : Member). kind_in (G p K pool L) a.result) is ∙ b.result_is in
        let res : k ≡ b.result = cc in
        let kept' : Kept h S.store K.symbol Values b.kinds vs' words' = subst (λ l. Kept h S.store K.symbol Values l vs' words') list kept in
        let this : Alike h S.store K.symbol kind.This (ref_v q) (Reference r) = k_this q r objects i holds in
        let all : Kept h S.store K.symbol Values (kind.This ∷ b.kinds) (ref_v q ∷ vs') (Reference r ∷ words') = e_value this kept' in
        let argued : sel.kinds ≡ value.Reference ∷ map value_of_kind b.kinds = sel.arguments_are b.member b.kinds b.member_there (sym (kinds-anywhere (G p K pool L) b.member.parameters) ∙ b.kinds_are) in
        let start = begun h S.store K.symbol p K pool L x sel.number b q r vs' words' slots this kept' in
        let note : Note = called K.symbol x in
        let log2 : List Note = log ++ note ∷ [] in
        let written : out ≡ written_by log2 = f.written ∙ sym (append-nil (written_by log)) ∙ sym (written-behind log note) in
        let caller : Callers p K pool L h S.store b.result frames (frame_at number m pc ws st ∷ fs) slots (cr + cr' + 16) =
        s_more runs at (subst (λ c. Behind p K pool L m d c goal next) res behind) (awaits-grown p K pool L m base h S.store result ys s env b.result goal frames st cr k' f.grown (subst (λ c. Awaits p K pool L m base S.store result ys s env c goal frames st cr k') res aw)) room f.held f.extends f.wide narrow_here f.callers (omega arith) in
        let count : length (value.Reference ∷ map value_of_kind b.kinds) ≡ length (Reference r ∷ words') = (let n = kept-length h S.store K.symbol b.kinds vs' words' kept' in let l = length-map b.kinds value_of_kind in omega (arith, n, l)) in
        let stack : List Word = onto (Reference r ∷ words') st in
        let taken = taken-back (Reference r ∷ words') st (length (value.Reference ∷ map value_of_kind b.kinds)) count in
        let dropped = dropped-back (Reference r ∷ words') st (length (value.Reference ∷ map value_of_kind b.kinds)) count in
        let long : length (value.Reference ∷ map value_of_kind b.kinds) ≤ length stack = (let n = onto-length (Reference r ∷ words') st in omega (arith, n, count)) in
        let ks2 : List ValueKind = value.Reference ∷ map value_of_kind b.kinds in
        let are : are_arguments ks2 (On pc ws stack h u).frames ≡ true = ap (λ t. t && are_of ks2 (reverse (take (length ks2) stack))) (le-leb _ _ long) ∙ ap (are_of ks2) taken ∙ kept-kinds h S.store K.symbol (kind.This ∷ b.kinds) (ref_v q ∷ vs') (Reference r ∷ words') all in
        let on_top : receiver (length ks2) (On pc ws stack h u).frames ≡ Some r = received (On pc ws stack h u).frames words' st r (length ks2) refl (omega (arith, count)) in
        let sizes = kept-room h S.store K.symbol b.kinds vs' words' kept' in
        let fits = b.fits in
        let narrow : places (reverse (take (length ks2) stack)) ≤ b.method.locals = subst (λ l. places l ≤ b.method.locals) (sym taken) (omega (arith, sizes.0, fits)) in
        let row = row-call L number m runs.there fs z pc next selector 24 r sel.number b.method ks2 objects ws stack st h u at (sel.kinds_are ∙ ap (λ (l : List ValueKind). Some l) argued) b.arguments_are are on_top holds.some holds.there sel.target_is b.runs.there narrow dropped in
        let row' : stepping L (On pc ws stack h u) ≡ Ok (event.On, state (frame_at sel.number b.method 0 (locals_of b.method.locals (Reference r ∷ words')) []) (frame_at number m pc ws st ∷ fs) h z u) = row ∙ ap (λ l. Ok (event.On, state (frame_at sel.number b.method 0 (locals_of b.method.locals l) []) (frame_at number m pc ws st ∷ fs) h z u)) taken in
        let stands = first-stands x sel.number b q r pc vs' (locals_of b.method.locals (Reference r ∷ words')) (all_set b.inner) (inside b.added (outermost (G p K pool L))) _ _ log2 (frame_at number m pc ws st ∷ fs) (cr + cr' + 16) b.code start.held start.extends start.wide written caller in
        subst (λ c. Comes p K pool L z (going (On pc ws stack h u) out) c (cr + cr' + 44) (1 + left_in_all frames)) (sym (call-lands x sel.number b q vs' i))
        (after-row p K pool L z (On pc ws stack h u) (state (frame_at sel.number b.method 0 (locals_of b.method.locals (Reference r ∷ words')) []) (frame_at number m pc ws st ∷ fs) h z u) out _ (1 + (cr + cr' + 16) + 16) (cr + cr' + 44) _ (1 + left_in_all frames) row' (omega arith) (now _ _ _ stands))
