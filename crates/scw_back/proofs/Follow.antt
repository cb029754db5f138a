-- The machine follows each step of the program.
use Rattle.std.proofs.Common.{◌≡◌, refl, sym, ap, ◌∙◌, subst, ℕ, ◌+◌, ◌≤◌, arith, false, List, [], ◌∷◌, length, Result, Ok, Err, inl, append-nil}
use Rattle.std.proofs.lemmas.List.{length-map}
use Rattle.std.specs.Prelude.{codes}
use Rattle.scw_classfile.specs.declared.pool_entry.PoolEntry.{PoolEntry}
use Rattle.scw_core.proofs.SeenLemmas.{covers_itself}
use Rattle.scw_core.proofs.Systems.{Followed, Follows, System, core_system, iterate}
use Rattle.scw_core.specs.Begin.{begin_tree, zeros}
use Rattle.scw_core.specs.Call.{local_symbols}
use Rattle.scw_core.specs.Frame.{Frames, Note, gives, if_test, throws, tree_task, while_test}
use Rattle.scw_core.specs.Program as core
use Rattle.scw_core.specs.React.{begin}
use Rattle.scw_core.specs.Run.{Config, at, land, over, step}
use Rattle.scw_core.specs.Seen.{Covers, normal, running, seen, written_by}
use Rattle.scw_core.specs.Erasure.{erased}
use Rattle.scw_core.specs.State.{Bound, Env, Slots, State, Value, bind_all, zero_of}
use Rattle.scw_core.specs.Tree.{Tree}
use Rattle.scw_core.specs.Types.{same_symbol}
use Rattle.scw_core.specs.declared.class.CoreClass.{CoreClass}
use Rattle.scw_core.specs.declared.symbol.TheConstants.{ARITHMETIC_EXCEPTION}
use Rattle.scw_core.specs.declared.tree.Local.{Local}
use Rattle.scw_gen.specs.declared.kind.Kind.{Kind}
use Rattle.scw_gen.specs.declared.kind.Kind.TheVariants as kind
use Rattle.scw_gen.specs.Scope.{Scope, from, inside, slot_of}
use Rattle.scw_gen.specs.Typed.{Known, behind}
use Rattle.scw_heap.specs.Heap.{Entity}
use Rattle.scw_frame.specs.declared.program.Method.{Method}
use Rattle.scw_frame.specs.declared.program.Program.{Program}
use Rattle.scw_frame.specs.Frame.{places}
use Rattle.scw_frame.specs.Frame as machine_frame
use Rattle.scw_step.specs.declared.event.Event.{Event}
use Rattle.scw_step.specs.declared.event.Event.TheVariants as event
use Rattle.scw_step.specs.declared.stop.Stop.{Stop}
use Rattle.scw_step.specs.declared.stop.Stop.TheVariants as stop
use Rattle.scw_step.specs.Step.{stepping}
use Rattle.scw_machine.specs.Course.{Course, Halt, advance, after_step, going, halted, returned, uncaught}
use Rattle.scw_back.specs.MachineSeen.{exception_at, machine_seen}
use Rattle.scw_back.proofs.Acts.{Facts, Up}
use Rattle.scw_back.proofs.Back.{backs}
use Rattle.scw_back.proofs.Bind.{Covered, block-bound}
use Rattle.scw_back.proofs.Bodies.{Bodies, Calls}
use Rattle.scw_back.proofs.Goals.{CodeAt, Goal, c_block, c_if, c_if_same, c_strict, c_while, drop, test}
use Rattle.scw_back.proofs.Grown.{extends-further, grows-itself}
use Rattle.scw_back.proofs.Loaded.{IsClass, around_by}
use Rattle.scw_back.proofs.Locals.{more-behind_all, within-more}
use Rattle.scw_back.proofs.Reach.{Comes, left_in_all, measure, more-time, size_of, sizes_of}
use Rattle.scw_back.proofs.Rises.{begins-at, operands-next, rises, statements-next, weaker}
use Rattle.scw_back.proofs.Rows.{on}
use Rattle.scw_back.proofs.Stands.{Awaits, Callers, Extends, Held, MachineState, Runs, Stands, UnitThere, Word, behind_all, e_none, st_at, st_over, st_thrown, w_if, w_if_same, w_test, w_within}
use Rattle.scw_back.proofs.Waiting.{args-fit}

-- ---- the machine as a system

covers-event : (p : Program) (e : Event) (s t : MachineState) (out : List ℕ) → Covers (machine_seen p (going s out)) (machine_seen p (after_step s out (Ok (e, t))))
unfolding machine_seen
covers-event p event.On s t out = record { out = ([], sym (append-nil out)); end = λ h. absurd h }
covers-event p (event.Says r) s t out = record { out = (_, refl); end = λ h. absurd h }
covers-event p event.Ended s t out = record { out = ([], sym (append-nil out)); end = λ h. absurd h }
covers-event p (event.Thrown r) s t out = record { out = ([], sym (append-nil out)); end = λ h. absurd h }

covers-stop : (p : Program) (e : Stop) (s : MachineState) (out : List ℕ) → Covers (machine_seen p (going s out)) (machine_seen p (after_step s out (Err e)))
unfolding machine_seen
covers-stop p stop.Undefined s out = record { out = ([], sym (append-nil out)); end = λ h. absurd h }
covers-stop p (stop.Throws f) s out = record { out = ([], sym (append-nil out)); end = λ h. absurd h }
covers-stop p (stop.ThrowsObject r) s out = record { out = ([], sym (append-nil out)); end = λ h. absurd h }
covers-stop p (stop.HeapFull n) s out = record { out = ([], sym (append-nil out)); end = λ h. absurd h }
covers-stop p stop.TooManyFrames s out = record { out = ([], sym (append-nil out)); end = λ h. absurd h }

covers-result : (p : Program) (r : Result (Event × MachineState) Stop) (s : MachineState) (out : List ℕ) → Covers (machine_seen p (going s out)) (machine_seen p (after_step s out r))
covers-result p (Ok x) s out = covers-event p x.0 s x.1 out
covers-result p (Err e) s out = covers-stop p e s out

pub advance-covers : (p : Program) (c : Course) → Covers (machine_seen p c) (machine_seen p (advance p c))
unfolding advance
advance-covers p (going s out) = covers-result p (stepping p s) s out
advance-covers p (halted h s out) = covers_itself (machine_seen p (halted h s out))

abbrev pub machine_system : Program → System
machine_system p = record { State = Course; step = advance p; seen = machine_seen p; goes_on = advance-covers p }

-- how many rows a step of the program costs at most, beside those that were paid for before
abbrev pub cost : ℕ
cost = 64

module _ (p : core.Program) (K : CoreClass) (pool : List PoolEntry) (L : Program) (z : List Word) (one : p.table.classes ≡ K ∷ []) (other : same_symbol K.symbol ARITHMETIC_EXCEPTION ≡ false) (arithmetic : IsClass p K pool L 11 (codes "java/lang/ArithmeticException") 1) (bodies : Bodies p K pool L) (calls : Calls p K pool L) where
  abbrev Follow : Config → Course → ℕ → Type 0
  Follow a b l = Followed (core_system p) (machine_system L) (λ a b l. Stands p K pool L z a b l) measure cost a b l

  ended : (a : Config) (b : Course) (l : ℕ) → step p a ≡ a → advance L b ≡ b → Stands p K pool L z a b 0 → Follow a b l
  unfolding iterate
  ended a b l ea eb s = (1, 0, subst (λ c. Stands p K pool L z c (advance L b) 0) (sym ea) (subst (λ c. Stands p K pool L z a c 0) (sym eb) s), omega arith, inl (omega arith))

  halted-stays : (h : Halt) (s : MachineState) (out : List ℕ) → advance L (halted h s out) ≡ halted h s out
  unfolding advance
  halted-stays h s out = refl

  over-stays : (v : Value) (S : State) (log : List Note) → step p (over (gives v) S log) ≡ over (gives v) S log
  unfolding step
  over-stays v S log = refl

  thrown-stays : (v : Value) (S : State) (log : List Note) → step p (over (throws v) S log) ≡ over (throws v) S log
  unfolding step
  thrown-stays v S log = refl

  uncovered : (n : ℕ) (ys : List Known) → Covered ys (from n)
  unfolding slot_of
  uncovered n ys x e = refl

  -- ---- a tree begins

  module _ (number : ℕ) (m : Method) (runs : Runs p K pool L number m) (fs : List machine_frame.Frame) (result : Kind) (k' : Frames) (floor : Slots) (cr' : ℕ) (S : State) (h : List Entity) (narrow : m.locals ≤ 65535) (callers : Callers p K pool L h S.store result k' fs floor cr') (u : ℕ) (unit : UnitThere h u) where
    abbrev On : ℕ → List Word → List Word → MachineState
    On pc ws st = on L number m runs.there fs z pc ws st h u

    abbrev Waits : List Known → Scope → Env → Kind → Goal → Frames → List Word → ℕ → Type 0
    Waits ys s env k goal frames st cr = Awaits p K pool L m h S.store result ys s env k goal frames st cr k'

    module _ (ys : List Known) (s : Scope) (env : Env) (frames : Frames) (log : List Note) (out : List ℕ) (ws st : List Word) (cr d : ℕ) (held : Held h S.store K.symbol ys s env S.slots floor ws) (extends : Extends floor S.slots) (wide : length ws ≡ m.locals) (room : places st + d ≤ m.stack) (written : out ≡ written_by log) where
      facts : Facts p K pool L z one other arithmetic number m runs fs result k' floor cr' S h ys s env S.slots ws h u log out
      facts = record { grown = grows-itself h; unit = unit; held = held; extends = extends; wide = wide; written = written; callers = callers }

      up : (ys2 : List Known) (s2 : Scope) (env2 : Env) (k : Kind) (goal : Goal) → Waits ys2 s2 env2 k goal frames st cr → Up p K pool L z one other arithmetic number m runs fs result k' floor cr' S h ys2 s2 env2 k goal frames st cr
      up ys2 s2 env2 k goal aw = rises p K pool L z one other arithmetic bodies calls number m runs fs result k' floor cr' S h narrow (backs p K pool L z one other arithmetic bodies calls h S result k' fs floor cr' number m runs narrow callers) ys2 s2 env2 k goal frames st cr aw

      pub begins : (k : Kind) (goal : Goal) (pc : ℕ) (t : Tree) → CodeAt p K pool L m ys s k goal d pc t → Waits (behind t ys) s env k goal frames st cr
          → Comes p K pool L z (going (On pc ws st) out) (step p (at (tree_task t env) frames S log)) (cr + cr' + 44) (size_of t + left_in_all frames)
      unfolding step begin begin_tree size_of sizes_of land
      begins k goal pc t (c_strict {r = r} {o = o} {ts = ts} {f = f} {ks = ks} args op) aw =
          let fits = args-fit p K pool L m ys s f d pc ts ks r args in
          more-time p K pool L z _ _ (cr + cr' + 44) (cr + cr' + 44) (1 + (sizes_of ts + left_in_all frames)) _
          (operands-next p K pool L z one other arithmetic bodies calls number m runs fs result k' floor cr' S h narrow ys s env k goal frames st cr d d pc r f o [] ks ts [] [] S.slots log out ws h u facts room e_none args op (omega arith) aw (up (behind t ys) s env k goal aw)) (omega arith) (omega arith)
      begins k goal pc t (c_if {first = g1} {second = g2} {y = y} {n = n} {a = a} {b = b} {c = c} ca cb j1 cc' j2) aw =
          let waiting = w_if {cr' = cr + 16} cb j1 cc' j2 room aw (omega arith) in
          more-time p K pool L z _ _ (cr + 16 + cr' + 16) (cr + cr' + 44) _ _
          (begins-at p K pool L z one other arithmetic bodies calls number m runs fs result k' floor cr' S h narrow ys s env kind.Boolean (test y n) (if_test b c env ∷ frames) st (cr + 16) d pc (size_of t + left_in_all frames) a S.slots log out ws h u facts room ca
          (weaker p K pool L z one other arithmetic bodies calls number m runs fs result k' floor cr' S h narrow a ys s env kind.Boolean (test y n) (if_test b c env ∷ frames) st (cr + 16) S.slots log out ws h u facts waiting) (omega arith)) (omega arith) (omega arith)
      begins k goal pc t (c_if_same {r = r} {a = a} {b = b} {c = c} ca cb cc') aw =
          let waiting = w_if_same {cr' = cr + 16} cb cc' room aw (omega arith) in
          more-time p K pool L z _ _ (cr + 16 + cr' + 16) (cr + cr' + 44) _ _
          (begins-at p K pool L z one other arithmetic bodies calls number m runs fs result k' floor cr' S h narrow ys s env kind.Boolean (drop r) (if_test b c env ∷ frames) st (cr + 16) d pc (size_of t + left_in_all frames) a S.slots log out ws h u facts room ca
          (weaker p K pool L z one other arithmetic bodies calls number m runs fs result k' floor cr' S h narrow a ys s env kind.Boolean (drop r) (if_test b c env ∷ frames) st (cr + 16) S.slots log out ws h u facts waiting) (omega arith)) (omega arith) (omega arith)
      begins k goal pc t (c_while {y = y} {n = n} {a = a} {b = b} ca cb jump c) aw =
          let waiting = w_test {cr' = cr + 16} ca cb jump c room aw (omega arith) in
          more-time p K pool L z _ _ (cr + 16 + cr' + 16) (cr + cr' + 44) _ _
          (begins-at p K pool L z one other arithmetic bodies calls number m runs fs result k' floor cr' S h narrow ys s env kind.Boolean (test y n) (while_test a b env ∷ frames) st (cr + 16) d pc (size_of t + left_in_all frames) a S.slots log out ws h u facts room ca
          (weaker p K pool L z one other arithmetic bodies calls number m runs fs result k' floor cr' S h narrow a ys s env kind.Boolean (test y n) (while_test a b env ∷ frames) st (cr + 16) S.slots log out ws h u facts waiting) (omega arith)) (omega arith) (omega arith)
      begins k goal pc t (c_block {inner = inner} {added = added} {xs = xs} {ts = ts} is placed few code) aw =
          let b : Bound = bind_all (local_symbols xs) (zeros p.table xs) env S.slots in
          let in_words = held.wide in
          let count : length (zeros p.table xs) ≡ length xs = length-map xs (λ (x : Local). zero_of (erased p.table x.type_id)) in
          let bound = block-bound h S.store K.symbol (around_by p K pool false) floor ws s xs (zeros p.table xs) ys inner (from s.next) added env S.slots count is placed (omega (arith, few, wide)) (omega (arith, narrow, wide)) (omega (arith, in_words, narrow, wide)) (uncovered s.next ys) extends held in
          let more = within-more h S.store K.symbol (behind_all inner ts) inner (inside added s) b.env b.slots floor ws (more-behind_all ts inner) bound.held in
          let waiting = w_within more (w_within bound.within aw) in
          let facts2 : Facts p K pool L z one other arithmetic number m runs fs result k' floor cr' S h inner (inside added s) b.env b.slots ws h u log out =
          record { grown = grows-itself h; unit = unit; held = bound.held; extends = extends-further floor S.slots b.slots extends bound.extends; wide = wide; written = written; callers = callers } in
          more-time p K pool L z _ _ (cr + cr' + 44) (cr + cr' + 44) (1 + (sizes_of ts + left_in_all frames)) _
          (statements-next p K pool L z one other arithmetic bodies calls number m runs fs result k' floor cr' S h narrow inner (inside added s) b.env k goal frames st cr d pc ts b.slots log out ws h u facts2 room code waiting (up (behind_all inner ts) (inside added s) b.env k goal waiting)) (omega arith) (omega arith)

  -- ---- a step

  pub same-seen : (a : Config) (b : Course) (l : ℕ) → Stands p K pool L z a b l → machine_seen L b ≡ seen p.table a
  unfolding machine_seen seen
  same-seen a b l (st_at runs code aw held ex wide narrow room callers unit le written) = ap (λ o. record { out = o; end = running }) written
  same-seen a b l (st_over written) = ap (λ o. record { out = o; end = normal }) written
  same-seen a b l (st_thrown {v = v} {S = S} {log = log} {s = s} {r = r} written e) = ap (λ o. record { out = o; end = exception_at L s.heap.objects r }) written ∙ ap (λ d. record { out = written_by log; end = d }) e

  pub follows : (a : Config) (b : Course) (l : ℕ) → Stands p K pool L z a b l → Follow a b l
  follows a b l (st_at {m = m} {number = number} {result = result} {k = k} {goal = goal} {ys = ys} {s = s} {env = env} {t = t} {frames = frames} {k' = k'} {S = S} {log = log} {ws = ws} {st = st} {floor = floor} {fs = fs} {h = h} {unit = u} {pc = pc} {d = d} {cr = cr} {cr' = cr'} {out = out} runs code aw held ex wide narrow room callers unit le written) =
      let c = begins number m runs fs result k' floor cr' S h narrow callers u unit ys s env frames log out ws st cr d held ex wide room written k goal pc t code aw in
      (c.0, c.1, c.2, omega (arith, c.3, le), c.4)
  follows a b l (st_over {v = v} {S = S} {log = log} {s = s} {out = out} written) = ended _ _ l (over-stays v S log) (halted-stays returned s out) (st_over written)
  follows a b l (st_thrown {v = v} {S = S} {log = log} {s = s} {r = r} {out = out} written e) = ended _ _ l (thrown-stays v S log) (halted-stays (uncaught r) s out) (st_thrown written e)

  -- the machine follows the program
  abbrev pub following : Follows (core_system p) (machine_system L)
  following = record { R = λ a b l. Stands p K pool L z a b l; same = same-seen; weight = λ a. cost; measure = measure; follows = follows }
