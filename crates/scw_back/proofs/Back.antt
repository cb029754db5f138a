-- A body has ended: the machine returns to the frame that called it, and so on to the launcher.
use Rattle.std.proofs.Common.{◌≡◌, refl, ap, ℕ, ◌+◌, ◌≤◌, arith, false, List, [], ◌∷◌}
use Rattle.std.specs.Prelude.{codes}
use Rattle.scw_classfile.specs.declared.pool_entry.PoolEntry.{PoolEntry}
use Rattle.scw_core.specs.Frame.{Frames}
use Rattle.scw_core.specs.Program as core
use Rattle.scw_core.specs.Run.{resume}
use Rattle.scw_core.specs.State.{Slots, State, unit_v}
use Rattle.scw_core.specs.Types.{same_symbol}
use Rattle.scw_core.specs.declared.class.CoreClass.{CoreClass}
use Rattle.scw_core.specs.declared.symbol.TheConstants.{ARITHMETIC_EXCEPTION}
use Rattle.scw_gen.specs.declared.kind.Kind.{Kind}
use Rattle.scw_gen.specs.declared.kind.Kind.TheVariants as kind
use Rattle.scw_gen.specs.Typed.{rank}
use Rattle.scw_heap.specs.Heap.{Entity}
use Rattle.scw_frame.specs.declared.program.Method.{Method}
use Rattle.scw_frame.specs.declared.program.Program.{Program}
use Rattle.scw_frame.specs.Frame.{places}
use Rattle.scw_frame.specs.Frame as machine_frame
use Rattle.scw_back.proofs.Acts.{Facts}
use Rattle.scw_back.proofs.Bodies.{Bodies, Calls}
use Rattle.scw_back.proofs.Goals.{b_unit, b_value}
use Rattle.scw_back.proofs.Grown.{extends-further, held-grown, held-later}
use Rattle.scw_back.proofs.Loaded.{IsClass}
use Rattle.scw_back.proofs.Locals.{alike-places}
use Rattle.scw_back.proofs.Placed.{value_of_kind}
use Rattle.scw_back.proofs.Puts.{alike-kind}
use Rattle.scw_back.proofs.Reach.{after-halt, after-row, gives as given, left_in_all, more-time, unit-then}
use Rattle.scw_back.proofs.Rises.{Back, l_unit, l_value, rises}
use Rattle.scw_back.proofs.Rows.{ends-return, frame_at, on, row-return, row-return-value, state}
use Rattle.scw_back.proofs.Stands.{Callers, Runs, Word, s_launch, s_more, st_over}
use Rattle.scw_back.proofs.Waiting.{callers-grown}
use Rattle.scw_back.proofs.Acts.{facts-grown}

module _ (p : core.Program) (K : CoreClass) (pool : List PoolEntry) (L : Program) (z : List Word) (one : p.table.classes ≡ K ∷ []) (other : same_symbol K.symbol ARITHMETIC_EXCEPTION ≡ false) (arithmetic : IsClass p K pool L 11 (codes "java/lang/ArithmeticException") 1) (bodies : Bodies p K pool L) (calls : Calls p K pool L) where
  pub backs : (h0 : List Entity) (S : State) (t : Kind) (k : Frames) (fs : List machine_frame.Frame) (floor : Slots) (cr : ℕ) (number : ℕ) (m : Method) (runs : Runs p K pool L number m) (narrow : m.locals ≤ 65535)
      → Callers p K pool L h0 S.store t k fs floor cr → Back p K pool L z one other arithmetic bodies calls number m runs fs t k floor cr S h0 narrow
  unfolding resume
  backs h0 S t k fs floor cr number m runs narrow (s_launch {m = m0} {ws = w0} {pc = pc0} {q = q0} {r = r0} {o = o0} runs0 at0 at1 le) v slots log out ws st h u pc grown unit ex written (l_value some a atr) = absurd (omega (arith, some))
  backs h0 S t k fs floor cr number m runs narrow (s_launch {m = m0} {ws = w0} {pc = pc0} {q = q0} {r = r0} {o = o0} runs0 at0 at1 le) v slots log out ws st h u pc grown unit ex written (l_unit {r = r} e atr) =
      more-time p K pool L z _ _ 2 (cr + 32) (1 + left_in_all k) _
      (after-row p K pool L z (on L number m runs.there fs z pc ws st h u) (state (frame_at 0 m0 q0 w0 []) [] h z u) out _ 1 2 (1 + left_in_all k) (1 + left_in_all k)
      (row-return L number m runs.there fs z pc r 0 pc0 q0 m0 o0 ws st w0 [] [] h u atr refl runs0.there at0) (omega arith)
      (after-halt p K pool L z _ _ _ 0 (1 + left_in_all k) (ends-return L 0 m0 runs0.there [] z q0 r0 w0 [] h u out at1 refl) (st_over written))) (omega arith) (omega arith)
  backs h0 S t k fs floor cr number m runs narrow (s_more {m = m2} {number = n2} {result = res2} {goal = goal2} {ys = ys2} {s = s2} {env = env2} {k' = k2} {ws = ws2} {st = st2} {floor = floor2} {fs = gs} {pc = pc2} {q = q2} {d = d2} {cr = c2} {cr' = c3} {o = o2} runs2 at2 (b_value some2 deep g) aw room held ex2 wide2 narrow2 callers le) v slots log out ws st h u pc grown unit ex written (l_value {w = w} {st = st0} {r = r} some a atr) =
      let size = alike-places h S.store K.symbol t v w a in
      let fits : places (w ∷ st2) ≤ m2.stack = omega (arith, size, deep, room) in
      let up = rises p K pool L z one other arithmetic bodies calls n2 m2 runs2 gs res2 k2 floor2 c3 S h0 narrow2 (backs h0 S res2 k2 gs floor2 c3 n2 m2 runs2 narrow2 callers) ys2 s2 env2 t goal2 k st2 c2 aw in
      let facts : Facts p K pool L z one other arithmetic n2 m2 runs2 gs res2 k2 floor2 c3 S h0 ys2 s2 env2 slots ws2 h u log out = record {
        grown = grown;
        unit = unit;
        held = held-later h S.store K.symbol ys2 s2 env2 floor slots floor2 ws2 ex (held-grown h0 h S.store K.symbol ys2 s2 env2 floor floor2 ws2 grown held);
        extends = extends-further floor2 floor slots ex2 ex;
        wide = wide2;
        written = written;
        callers = callers-grown p K pool L h0 h S.store res2 k2 gs floor2 c3 grown callers;
      } in
      more-time p K pool L z _ _ (1 + (2 + (c2 + c3 + 32))) (cr + 32) (1 + left_in_all k) _
      (after-row p K pool L z (on L number m runs.there fs z pc ws (w ∷ st0) h u) (state (frame_at n2 m2 q2 ws2 (w ∷ st2)) gs h z u) out _ (2 + (c2 + c3 + 32)) (1 + (2 + (c2 + c3 + 32))) (1 + left_in_all k) (1 + left_in_all k)
      (row-return-value L number m runs.there fs z pc r n2 pc2 q2 (value_of_kind t) w m2 o2 ws st0 ws2 st2 gs h u atr (alike-kind h S.store K.symbol t v w a) refl runs2.there at2 fits) (omega arith)
      (given p K pool L z n2 m2 runs2.there gs S.store ws2 st2 out _ (c2 + c3 + 32) (1 + left_in_all k) goal2 t v w q2 h u g a fits (λ x arrived. up v slots log out ws2 h u x facts arrived))) (omega (arith, le)) (omega arith)
  backs h0 S t k fs floor cr number m runs narrow (s_more runs2 at2 (b_unit c) aw room held ex2 wide2 narrow2 callers le) v slots log out ws st h u pc grown unit ex written (l_value some a atr) = absurd (omega (arith, some))
  backs h0 S t k fs floor cr number m runs narrow (s_more runs2 at2 (b_value some2 deep g) aw room held ex2 wide2 narrow2 callers le) v slots log out ws st h u pc grown unit ex written (l_unit e atr) = let zero_rank : rank t ≡ 0 = ap rank e in absurd (omega (arith, some2, zero_rank))
  backs h0 S t k fs floor cr number m runs narrow (s_more {m = m2} {number = n2} {result = res2} {goal = goal2} {ys = ys2} {s = s2} {env = env2} {k' = k2} {ws = ws2} {st = st2} {floor = floor2} {fs = gs} {pc = pc2} {q = q2} {d = d2} {cr = c2} {cr' = c3} {o = o2} runs2 at2 (b_unit c) aw room held ex2 wide2 narrow2 callers le) v slots log out ws st h u pc grown unit ex written (l_unit {r = r} e atr) =
      let up = rises p K pool L z one other arithmetic bodies calls n2 m2 runs2 gs res2 k2 floor2 c3 S h0 narrow2 (backs h0 S res2 k2 gs floor2 c3 n2 m2 runs2 narrow2 callers) ys2 s2 env2 kind.Unit goal2 k st2 c2 aw in
      let facts : Facts p K pool L z one other arithmetic n2 m2 runs2 gs res2 k2 floor2 c3 S h0 ys2 s2 env2 slots ws2 h u log out = record {
        grown = grown;
        unit = unit;
        held = held-later h S.store K.symbol ys2 s2 env2 floor slots floor2 ws2 ex (held-grown h0 h S.store K.symbol ys2 s2 env2 floor floor2 ws2 grown held);
        extends = extends-further floor2 floor slots ex2 ex;
        wide = wide2;
        written = written;
        callers = callers-grown p K pool L h0 h S.store res2 k2 gs floor2 c3 grown callers;
      } in
      more-time p K pool L z _ _ (1 + (3 + (c2 + c3 + 32))) (cr + 32) (1 + left_in_all k) _
      (after-row p K pool L z (on L number m runs.there fs z pc ws st h u) (state (frame_at n2 m2 q2 ws2 st2) gs h z u) out _ (3 + (c2 + c3 + 32)) (1 + (3 + (c2 + c3 + 32))) (1 + left_in_all k) (1 + left_in_all k)
      (row-return L number m runs.there fs z pc r n2 pc2 q2 m2 o2 ws st ws2 st2 gs h u atr refl runs2.there at2) (omega arith)
      (unit-then p K pool L z n2 m2 runs2.there gs S.store ws2 st2 out _ (c2 + c3 + 32) (1 + left_in_all k) goal2 q2 d2 h u c room unit
      (λ h' u' g unit' x arrived. up unit_v slots log out ws2 h' u' x (facts-grown p K pool L z one other arithmetic n2 m2 runs2 gs res2 k2 floor2 c3 S h0 ys2 s2 env2 slots ws2 h h' u u' log log out out facts g unit' written) arrived))) (omega (arith, le)) (omega arith)
