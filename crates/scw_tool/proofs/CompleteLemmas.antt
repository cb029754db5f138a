-- A run that ends within the limits, with room for what it puts, is run to its end.
use Rattle.std.proofs.Common.{◌≡◌, ◌⊎◌, inl, inr, ℕ, ◌+◌, ◌<◌, ◌≤◌, List, length, Option, Some, None, refl, subst, arith, IfSome}
use Rattle.scw_classfile.specs.declared.class_file.ClassFile.{ClassFile}
use Rattle.scw_machine.specs.Course.{Halt, crowded, full, halted, output_of, stuck}
use Rattle.scw_machine.specs.Run.{Came, Ran, Running}
use Rattle.scw_machine.specs.declared.end.End.{End}
use Rattle.scw_machine.specs.declared.end.End.TheVariants as why
use Rattle.scw_step.specs.declared.state.State.{State}
use Rattle.scw_tool.specs.Executed.{IsOver}
use Rattle.scw_tool.specs.Machine.{limited_course, loaded, main_program, most_rows, status_of_end}
use Rattle.scw_tool.proofs.CourseLemmas.{at_most, halts_once, not_before}

no_room : (room : Option ℕ) (left n : ℕ) → room ≡ Some left → n ≤ left → IfSome room (λ r. r < n) → ⊥
no_room None left n h le f = cc
no_room (Some r) left n h le f = let same : left ≡ r = cc in omega (arith, same, le, f)

module _ (c : ClassFile) (rows : ℕ) (within : rows ≤ most_rows) (halt : Halt) (state : State) (out : List ℕ) (ends : limited_course c rows ≡ halted halt state out) (over : IsOver halt) where
  abbrev s0 : State
  s0 = (loaded c).state

  -- the run halts so alone
  only : (n : ℕ) (h : Halt) (t : State) (a : List ℕ) → limited_course c n ≡ halted h t a → IsOver h
  only n h t a e = subst IsOver (halts_once (main_program c) s0 rows n halt h state t out a ends e).0 over

  module _ (t : State) (before now : Option (List ℕ)) (room : Option ℕ) where
    ended : (end : End) (n : ℕ) → Came end most_rows n (main_program c) s0 t before now room → (end ≡ why.SinkFault → ⊥) → (status_of_end end ≡ 0) ⊎ (status_of_end end ≡ 7)
    ended why.Ended n h f = inl refl
    ended (why.Thrown r) n h f = inr refl
    ended why.Steps n h f =
        let goes = h.1 in
        let before = not_before (main_program c) s0 rows n halt state t out goes.out ends goes.run in
        absurd (omega (arith, before, h.0, within))
    ended (why.HeapFull need) n h f = absurd (only (n + 1) (full need) h.last h.out h.over)
    ended why.Frames n h f = absurd (only (n + 1) crowded h.last h.out h.over)
    ended why.SinkFault n h f = absurd (f refl)
    ended (why.Stuck place) n h f = absurd (only (n + 1) stuck h.stops.last h.stops.out h.stops.over)

    -- with room for all of the run's output, none of it is cut
    uncut : (end : End) (n left : ℕ) → Came end most_rows n (main_program c) s0 t before now room → room ≡ Some left → length out ≤ left → end ≡ why.SinkFault → ⊥
    uncut why.Ended n left h is enough e = cc
    uncut (why.Thrown r) n left h is enough e = cc
    uncut why.Steps n left h is enough e = cc
    uncut (why.HeapFull need) n left h is enough e = cc
    uncut why.Frames n left h is enough e = cc
    uncut why.SinkFault n left h is enough e =
        let most = at_most (main_program c) s0 rows n halt state out ends in
        no_room room left (length (output_of (limited_course c n))) is (omega (arith, most, enough)) h.short
    uncut (why.Stuck place) n left h is enough e = cc

  module _ (end : End) (new : Running) (before now : Option (List ℕ)) (room : Option ℕ) (r : Ran end most_rows (loaded c) new before now room) where
    pub over_so : (end ≡ why.SinkFault → ⊥) → (status_of_end end ≡ 0) ⊎ (status_of_end end ≡ 7)
    over_so f = ended new.state before now room end r.rows r.came f

    pub all_taken : (left : ℕ) → room ≡ Some left → length out ≤ left → end ≡ why.SinkFault → ⊥
    all_taken left is enough = uncut new.state before now room end r.rows left r.came is enough
