-- What each answer of the machine says of the program.
use Rattle.std.proofs.Common.{◌≡◌, ℕ, ◌+◌, ◌≤◌, arith, List, [], Option, Some, None, refl, sym, ap, ◌∙◌, subst}
use Rattle.std.proofs.lemmas.Bool.{true≢false}
use Rattle.std.specs.Io.KnownBytes.{append_known}
use Rattle.scw_text.specs.declared.number.SymId.{SymId}
use Rattle.scw_classfile.specs.declared.class_file.ClassFile.{ClassFile}
use Rattle.scw_core.specs.Entry.{IsEntry, main_of, source_run}
use Rattle.scw_core.specs.Program as core
use Rattle.scw_core.specs.Seen as seen
use Rattle.scw_core.specs.Seen.{Covers, Seen}
use Rattle.scw_core.proofs.SeenLemmas.{covers_further}
use Rattle.scw_core.proofs.Systems.{later, later_covers_earlier}
use Rattle.scw_frame.specs.declared.program.Program.{Program}
use Rattle.scw_step.specs.declared.state.State.{State}
use Rattle.scw_machine.specs.declared.end.End.{End}
use Rattle.scw_machine.specs.declared.end.End.TheVariants as why
use Rattle.scw_machine.specs.Course.{Course, course, going, halted, output_of, stuck}
use Rattle.scw_machine.specs.Load.{first, first_state}
use Rattle.scw_machine.specs.Run as machine
use Rattle.scw_machine.specs.Run.{Running}
use Rattle.scw_machine.specs.Unlimited.{CameUnlimited, RanUnlimited}
use Rattle.scw_back.specs.MachineSeen.{exception_at, machine_seen}
use Rattle.scw_back.specs.Same.{DoesTheSame, is_stuck, machine_of, machine_run}
use Rattle.scw_back.proofs.Follow.{machine_system}
use Rattle.scw_back.proofs.Whole.{course-later}
use Rattle.scw_run.specs.Shows.{Breaks, Ends, GoesOn, Shows}

-- what is seen of a course has its output
seen-out : (l : Program) (c : Course) → (machine_seen l c).out ≡ output_of c
unfolding machine_seen
seen-out l (going s out) = refl
seen-out l (halted h s out) = refl

module _ (p : core.Program) (c : ClassFile) (o : SymId) (same : DoesTheSame p c) (entry : IsEntry p.table (main_of o)) where
  abbrev L : Program
  L = machine_of p c o

  abbrev s0 : State
  s0 = first_state L None None None

  abbrev source : ℕ → Seen
  source n = source_run p (main_of o) n

  abbrev shown : ℕ → Seen
  shown n = machine_run p c o n

  -- the machine's run goes on
  covers-later : (m n : ℕ) → m ≤ n → Covers (shown m) (shown n)
  covers-later m n le =
      let h = later_covers_earlier (machine_system L) m n (going s0 []) le in
      subst (λ a. Covers a (shown n)) (ap (machine_seen L) (sym (course-later L s0 m))) (subst (λ b. Covers (machine_seen L (later (machine_system L) m (going s0 []))) b) (ap (machine_seen L) (sym (course-later L s0 n))) h)

  abbrev Back : ℕ → Type 0
  Back m = (n : ℕ) × Covers (shown m) (source n)

  back : (m : ℕ) → Back m
  back m = (same.runs o entry).alike.back m

  -- as a run that ended ends
  ends : (m : ℕ) (out : List ℕ) (end : seen.End) (before now : Option (List ℕ)) → shown m ≡ record { out = out; end = end } → seen.IsEnded end → now ≡ append_known before out → Ends p o end before now
  ends m out end before now is over taken =
      let b = back m in
      record { nodes = b.0; out = out; run = b.1.end (subst (λ (a : Seen). seen.IsEnded a.end) (sym is) over) ∙ is; taken = taken }

  goes : (rows : ℕ) (last : State) (out : List ℕ) (before now : Option (List ℕ)) → course L s0 rows ≡ going last out → now ≡ append_known before out → GoesOn p o rows before now
  unfolding machine_seen
  goes rows last out before now is taken =
      let b = back rows in
      let on : shown rows ≡ record { out = out; end = seen.running } = ap (machine_seen L) is in
      record {
        nodes = b.0;
        out = out;
        front = subst (λ (a : Seen). seen.IsPrefix a.out (source b.0).out) on b.1.out;
        taken = taken;
        behind = λ n le. (let f = (same.counted o entry).forth n in subst (Covers (source n)) on (covers_further _ _ _ f.2 (covers-later f.0 rows (let most = f.1 in omega (arith, most, le)))));
      }

  breaks : (steps rows : ℕ) (before now : Option (List ℕ)) (room : Option ℕ) → machine.Breaks steps rows L s0 before now room → Breaks p o before now
  breaks steps rows before now room h =
      let b = back rows in
      record { nodes = b.0; out = output_of (course L s0 rows); front = subst (λ out. seen.IsPrefix out (source b.0).out) (seen-out L (course L s0 rows)) b.1.out; part = h.part }

  never : (m : ℕ) (s : State) (out : List ℕ) → course L s0 m ≡ halted stuck s out → ⊥
  never m s out is = true≢false (sym (ap is_stuck is) ∙ (same.runs o entry).never_stuck m)

  module _ (heap frames words steps : ℕ) (new : Running) (before now : Option (List ℕ)) (room : Option ℕ) where
    by : (end : End) (rows : ℕ) → new.done ≡ rows → CameUnlimited end steps rows L (first_state L (Some heap) (Some frames) (Some words)) new.state before now room → Shows p o L steps end new before now
    unfolding machine_seen
    by why.Ended rows d h = ends (h.earlier + 1) h.out seen.normal before now (ap (machine_seen L) h.over) record {} h.taken
    by (why.Thrown r) rows d h = ends (h.earlier + 1) h.out (exception_at L new.state.heap.objects r.0) before now (ap (machine_seen L) h.over) record {} h.taken
    by why.Steps rows d h = (d ∙ h.0, subst (λ n. GoesOn p o n before now) (sym d) (goes rows _ h.1.out before now h.1.run h.1.taken))
    by (why.HeapFull need) rows d h = subst (λ n. GoesOn p o n before now) (sym d) (goes rows _ h.out before now h.run h.taken)
    by why.Frames rows d h = subst (λ n. GoesOn p o n before now) (sym d) (goes rows _ h.out before now h.run h.taken)
    by why.SinkFault rows d h = breaks steps rows before now room h
    by (why.Stuck place) rows d h = never (rows + 1) _ h.stops.out h.stops.over

-- what an answer of the machine says of the program
pub shows : (p : core.Program) (c : ClassFile) (o : SymId) → DoesTheSame p c → IsEntry p.table (main_of o) → (heap frames words steps : ℕ) (end : End) (new : Running) (before now : Option (List ℕ)) (room : Option ℕ)
    → RanUnlimited end steps (first (machine_of p c o) heap frames words) new before now room → Shows p o (machine_of p c o) steps end new before now
shows p c o same entry heap frames words steps end new before now room h =
    let none : 0 + h.rows ≡ h.rows = omega arith in
    by p c o same entry heap frames words steps new before now room end h.rows (h.done ∙ none) h.came
