-- What the top call says of each answer.
use Rattle.std.proofs.Common.{◌≡◌, ◌≢◌, ◌⊎◌, inl, inr, ◌↔◌, ℕ, ◌≤◌, Bool, false, true, ◌||◌, nat_eq, List, [], length, Option, Some, None, Ok, nat_lt, refl, sym, ap, subst, ◌∙◌, IsTrue, IfSome}
use Rattle.std.specs.Option.{option_map}
use Rattle.std.specs.Prelude.{IsSome, IsNone}
use Rattle.std.specs.Str.{chars}
use Rattle.std.proofs.lemmas.Bool.{false≢true, le-ltb}
use Rattle.scw_outside.specs.Causes.{Rose}
use Rattle.scw_outside.specs.Content.{Files, Reads, HasName, IsFront}
use Rattle.scw_classfile.specs.declared.class_file.ClassFile.{ClassFile}
use Rattle.scw_classfile.specs.declared.class_file.FileOut.{FileOut}
use Rattle.scw_classfile.specs.declared.fault.ClassRefusal.{ClassRefusal}
use Rattle.scw_classfile.specs.ReadClass.{ClassBytes, read_class}
use Rattle.scw_classfile.proofs.FormatLemmas.{class_again}
use Rattle.scw_core.specs.Program.{Program}
use Rattle.scw_core.specs.Seen as seen
use Rattle.scw_core.specs.Types.{Name}
use Rattle.scw_machine.specs.Course.{halted}
use Rattle.scw_machine.specs.Run.{Running}
use Rattle.scw_machine.specs.declared.end.End.{End}
use Rattle.scw_machine.specs.declared.end.End.TheVariants as why
use Rattle.scw_small.specs.Says.{SaysProgram}
use Rattle.scw_back.specs.Back.{file_of_program}
use Rattle.scw_tool.specs.declared.answer.Answer.{Answer}
use Rattle.scw_tool.specs.declared.answer.Answer.TheVariants.{Ran, Shown, Words, ReadFault, ShowFault, BadClass, TooLarge, NoMemory, NotBuilt}
use Rattle.scw_tool.specs.declared.answer.Excess.{Excess}
use Rattle.scw_tool.specs.declared.answer.Run.{Run}
use Rattle.scw_tool.specs.declared.words.Mode.{Mode}
use Rattle.scw_tool.specs.declared.words.Mode.TheVariants as mode
use Rattle.scw_tool.specs.Executed.{CutOff, Executed, Finished, IsReady, RanSo, Stopped}
use Rattle.scw_tool.specs.Edge.{Edge, HasRoom, IsServed}
use Rattle.scw_tool.specs.Job.{Comes, FailsToRead, RunsTo, has_run, is_judged, is_status_in}
use Rattle.scw_tool.specs.Machine.{limited_course, status_of_end}
use Rattle.scw_tool.specs.Read.{HasRead}
use Rattle.scw_tool.specs.Show as show
use Rattle.scw_tool.specs.Source.{IsSource, IsTooLarge, Judged}
use Rattle.scw_tool.specs.Status.{number_of, files_of, steps_of}
use Rattle.scw_tool.specs.Words.{job_name, job_of, IsMode}
use Rattle.scw_tool.proofs.CompleteLemmas.{all_taken, over_so}

some_not_none : {A : Type 0} (o : Option A) (n : A) → o ≡ Some n → IsNone o → ⊥
some_not_none None n h k = cc
some_not_none (Some m) n h k = false≢true (sym k)

not_both : {A : Type 0} (o : Option A) → IsSome o → IsNone o → ⊥
not_both None h k = false≢true h
not_both (Some m) h k = false≢true (sym k)

each : {A : Type 0} (o : Option A) (P : A → Type 0) → ((x : A) → P x) → IfSome o P
each None P f = tt
each (Some x) P f = f x

-- ---- what was read of a name that the store tells

-- the store's content determines what is read
read_once : (told : Option Files) (limit : ℕ) (name a b : List ℕ) → HasName told name → Reads told name limit a → Reads told name limit b → a ≡ b
read_once None limit name a b has r t = absurd has
read_once (Some files) limit name a b has r t = by (files name) r t
  where
    by : (whole : Option (List ℕ)) → IsFront limit whole a → IsFront limit whole b → a ≡ b
    by None r t = absurd r
    by (Some whole) r t = r ∙ sym t

same_name : (words : List (List ℕ)) (m n : List ℕ) → job_name words ≡ Some m → job_name words ≡ Some n → n ≡ m
same_name words m n h k = let both : Some n ≡ Some m = sym k ∙ h in cc

-- the bytes that were read are those of a source that is ready
ready_bytes : (e : Edge) (source : List ℕ) (ready : IsReady e) → HasRead mode.Run e.words e.told source → ready.source ≡ source
ready_bytes e source ready read =
    let name : read.name ≡ ready.read.name = same_name e.words ready.read.name read.name ready.read.job read.job in
    read_once e.told 1048577 ready.read.name ready.source source ready.has ready.read.read (subst (λ (n : List ℕ). Reads e.told n 1048577 source) name read.read)

-- a store that serves and tells the file doesn't fail to read it
never_fails : (e : Edge) (name : List ℕ) → IsServed e → HasName e.told name → job_name e.words ≡ Some name → FailsToRead e → ⊥
never_fails e name (inl calm) has job f = f.not_calm calm (subst (HasName e.told) (same_name e.words f.name name f.job job) has)
never_fails e name (inr quiet) has job f = quiet f.rose

-- ---- the words are of one mode

other_mode : (words : List (List ℕ)) (m n : Mode) → (m ≡ n → ⊥) → IsMode words m → IsMode words n → ⊥
other_mode words m n f h k = let both : Some m ≡ Some n = sym h ∙ k in f (cc)

not_run : (words : List (List ℕ)) → IsMode words mode.Run → IsMode words mode.Dis → ⊥
not_run words h k = other_mode words mode.Run mode.Dis (λ e. cc) h k

-- the class that was read is the class of a file that is ready
same_class : (e : Edge) (c d : ClassFile) → show.IsReadyClass e c → show.IsClass e.words e.told d → c ≡ d
same_class e c d ready is =
    let name : is.read.name ≡ ready.read.name = same_name e.words ready.read.name is.read.name ready.read.job is.read.job in
    let bytes : is.source ≡ ready.source = read_once e.told 16777217 ready.read.name is.source ready.source ready.has (subst (λ (n : List ℕ). Reads e.told n 16777217 is.source) name is.read.read) ready.read.read in
    is.only c (subst (λ (b : List ℕ). ClassBytes c b) (sym bytes) ready.bytes)

-- ---- what a machine's answer says, by its status

module _ (words : List (List ℕ)) (told : Option Files) (p : Program) (is : IsSource words told p) (m : Running) (files : List FileOut) (before now : Option (List ℕ)) (room : Option ℕ) where
  abbrev So : End → Type 0
  So end = RanSo p end m files before now room

  finished : (end : End) → So end → status_of_end end ≡ 0 → Finished words told seen.normal before now
  finished why.Ended s h = record { program = p; is = is; main = s.main; is_main = s.is_main; ends = s.shows }
  finished (why.Thrown r) s h = absurd (cc)
  finished why.Steps s h = absurd (cc)
  finished (why.HeapFull need) s h = absurd (cc)
  finished why.Frames s h = absurd (cc)
  finished why.SinkFault s h = absurd (cc)
  finished (why.Stuck place) s h = absurd (cc)

  thrown : (end : End) → So end → status_of_end end ≡ 7 → (class : Name) × (message : Option (List ℕ)) × Finished words told (seen.thrown class message) before now
  thrown why.Ended s h = absurd (cc)
  thrown (why.Thrown r) s h = (_, _, record { program = p; is = is; main = s.main; is_main = s.is_main; ends = s.shows })
  thrown why.Steps s h = absurd (cc)
  thrown (why.HeapFull need) s h = absurd (cc)
  thrown why.Frames s h = absurd (cc)
  thrown why.SinkFault s h = absurd (cc)
  thrown (why.Stuck place) s h = absurd (cc)

  spent : (end : End) → So end → status_of_end end ≡ 8 → (m.done ≡ 50000000) × Stopped words told m.done before now
  spent why.Ended s h = absurd (cc)
  spent (why.Thrown r) s h = absurd (cc)
  spent why.Steps s h = (s.shows.0, record { program = p; is = is; main = s.main; is_main = s.is_main; goes = s.shows.1 })
  spent (why.HeapFull need) s h = absurd (cc)
  spent why.Frames s h = absurd (cc)
  spent why.SinkFault s h = absurd (cc)
  spent (why.Stuck place) s h = absurd (cc)

  heap : (end : End) → So end → status_of_end end ≡ 9 → Stopped words told m.done before now
  heap why.Ended s h = absurd (cc)
  heap (why.Thrown r) s h = absurd (cc)
  heap why.Steps s h = absurd (cc)
  heap (why.HeapFull need) s h = record { program = p; is = is; main = s.main; is_main = s.is_main; goes = s.shows }
  heap why.Frames s h = absurd (cc)
  heap why.SinkFault s h = absurd (cc)
  heap (why.Stuck place) s h = absurd (cc)

  frames : (end : End) → So end → status_of_end end ≡ 10 → Stopped words told m.done before now
  frames why.Ended s h = absurd (cc)
  frames (why.Thrown r) s h = absurd (cc)
  frames why.Steps s h = absurd (cc)
  frames (why.HeapFull need) s h = absurd (cc)
  frames why.Frames s h = record { program = p; is = is; main = s.main; is_main = s.is_main; goes = s.shows }
  frames why.SinkFault s h = absurd (cc)
  frames (why.Stuck place) s h = absurd (cc)

  cut : (end : End) → So end → status_of_end end ≡ 4 → CutOff words told before now
  cut why.Ended s h = absurd (cc)
  cut (why.Thrown r) s h = absurd (cc)
  cut why.Steps s h = absurd (cc)
  cut (why.HeapFull need) s h = absurd (cc)
  cut why.Frames s h = absurd (cc)
  cut why.SinkFault s h = record { program = p; is = is; main = s.main; is_main = s.is_main; breaks = s.shows }
  cut (why.Stuck place) s h = absurd (cc)

  -- a class file that was run has a status of these
  has_status : (end : End) → So end → has_run (status_of_end end) ≡ false → ⊥
  has_status why.Ended s h = false≢true (sym h)
  has_status (why.Thrown r) s h = false≢true (sym h)
  has_status why.Steps s h = false≢true (sym h)
  has_status (why.HeapFull need) s h = false≢true (sym h)
  has_status why.Frames s h = false≢true (sym h)
  has_status why.SinkFault s h = false≢true (sym h)
  has_status (why.Stuck place) s h = s.shows

  -- which is one of `run`
  run_status : (end : End) → So end → is_status_in mode.Run (status_of_end end) ≡ true
  run_status why.Ended s = refl
  run_status (why.Thrown r) s = refl
  run_status why.Steps s = refl
  run_status (why.HeapFull need) s = refl
  run_status why.Frames s = refl
  run_status why.SinkFault s = refl
  run_status (why.Stuck place) s = absurd s.shows

-- the statuses of a machine's answers
abbrev is_end : ℕ → Bool
is_end s = nat_eq s 0 || nat_eq s 4 || nat_eq s 7 || nat_eq s 8 || nat_eq s 9 || nat_eq s 10 || nat_eq s 11

ends_with : (end : End) → is_end (status_of_end end) ≡ true
ends_with why.Ended = refl
ends_with (why.Thrown r) = refl
ends_with why.Steps = refl
ends_with (why.HeapFull need) = refl
ends_with why.Frames = refl
ends_with why.SinkFault = refl
ends_with (why.Stuck place) = refl

not_end : (end : End) (n : ℕ) → is_end n ≡ false → status_of_end end ≡ n → ⊥
not_end end n f h = false≢true (sym f ∙ sym (ap is_end h) ∙ ends_with end)

is_fault : (end : End) → status_of_end end ≡ 4 → end ≡ why.SinkFault
is_fault why.Ended h = absurd (cc)
is_fault (why.Thrown r) h = absurd (cc)
is_fault why.Steps h = absurd (cc)
is_fault (why.HeapFull need) h = absurd (cc)
is_fault why.Frames h = absurd (cc)
is_fault why.SinkFault h = refl
is_fault (why.Stuck place) h = absurd (cc)

module _ (e : Edge) where
  abbrev Made : ℕ → List FileOut → ℕ → Type 0
  Made status files steps = Executed e.words e.told status files steps e.taken_before e.taken_after e.room

  pub headline_is : (a : Answer) → Comes e a → IsMode e.words mode.Run → IsTrue (has_run (number_of a)) → Made (number_of a) (files_of a) (steps_of a)
  headline_is (Ran r) c m h = record { program = c.program; is = c.is; end = r.end; machine = r.machine; so = c.so; status_is = refl; rows = refl }
  headline_is Shown c m h = absurd (not_run e.words m c.is.read.is_mode)
  headline_is Words c m h = absurd (false≢true h)
  headline_is ReadFault c m h = absurd (false≢true h)
  headline_is ShowFault c m h = absurd (not_run e.words m c.cut.is.read.is_mode)
  headline_is (BadClass r) c m h = absurd (false≢true h)
  headline_is (TooLarge x) c m h = absurd (false≢true h)
  headline_is NoMemory c m h = absurd (false≢true h)
  headline_is NotBuilt c m h = absurd (false≢true h)

  pub finished_is : (a : Answer) → Comes e a → IsMode e.words mode.Run → number_of a ≡ 0 → Finished e.words e.told seen.normal e.taken_before e.taken_after
  finished_is (Ran r) c m h = finished e.words e.told c.program c.is r.machine r.files e.taken_before e.taken_after e.room r.end c.so h
  finished_is Shown c m h = absurd (not_run e.words m c.is.read.is_mode)
  finished_is Words c m h = absurd (cc)
  finished_is ReadFault c m h = absurd (cc)
  finished_is ShowFault c m h = absurd (cc)
  finished_is (BadClass r) c m h = absurd (cc)
  finished_is (TooLarge x) c m h = absurd (cc)
  finished_is NoMemory c m h = absurd (cc)
  finished_is NotBuilt c m h = absurd (cc)

  pub thrown_is : (a : Answer) → Comes e a → number_of a ≡ 7 → (class : Name) × (message : Option (List ℕ)) × Finished e.words e.told (seen.thrown class message) e.taken_before e.taken_after
  thrown_is (Ran r) c h = thrown e.words e.told c.program c.is r.machine r.files e.taken_before e.taken_after e.room r.end c.so h
  thrown_is Shown c h = absurd (cc)
  thrown_is Words c h = absurd (cc)
  thrown_is ReadFault c h = absurd (cc)
  thrown_is ShowFault c h = absurd (cc)
  thrown_is (BadClass r) c h = absurd (cc)
  thrown_is (TooLarge x) c h = absurd (cc)
  thrown_is NoMemory c h = absurd (cc)
  thrown_is NotBuilt c h = absurd (cc)

  pub spent_is : (a : Answer) → Comes e a → number_of a ≡ 8 → (steps_of a ≡ 50000000) × Stopped e.words e.told (steps_of a) e.taken_before e.taken_after
  spent_is (Ran r) c h = spent e.words e.told c.program c.is r.machine r.files e.taken_before e.taken_after e.room r.end c.so h
  spent_is Shown c h = absurd (cc)
  spent_is Words c h = absurd (cc)
  spent_is ReadFault c h = absurd (cc)
  spent_is ShowFault c h = absurd (cc)
  spent_is (BadClass r) c h = absurd (cc)
  spent_is (TooLarge x) c h = absurd (cc)
  spent_is NoMemory c h = absurd (cc)
  spent_is NotBuilt c h = absurd (cc)

  pub heap_is : (a : Answer) → Comes e a → number_of a ≡ 9 → Stopped e.words e.told (steps_of a) e.taken_before e.taken_after
  heap_is (Ran r) c h = heap e.words e.told c.program c.is r.machine r.files e.taken_before e.taken_after e.room r.end c.so h
  heap_is Shown c h = absurd (cc)
  heap_is Words c h = absurd (cc)
  heap_is ReadFault c h = absurd (cc)
  heap_is ShowFault c h = absurd (cc)
  heap_is (BadClass r) c h = absurd (cc)
  heap_is (TooLarge x) c h = absurd (cc)
  heap_is NoMemory c h = absurd (cc)
  heap_is NotBuilt c h = absurd (cc)

  pub frames_are : (a : Answer) → Comes e a → number_of a ≡ 10 → Stopped e.words e.told (steps_of a) e.taken_before e.taken_after
  frames_are (Ran r) c h = frames e.words e.told c.program c.is r.machine r.files e.taken_before e.taken_after e.room r.end c.so h
  frames_are Shown c h = absurd (cc)
  frames_are Words c h = absurd (cc)
  frames_are ReadFault c h = absurd (cc)
  frames_are ShowFault c h = absurd (cc)
  frames_are (BadClass r) c h = absurd (cc)
  frames_are (TooLarge x) c h = absurd (cc)
  frames_are NoMemory c h = absurd (cc)
  frames_are NotBuilt c h = absurd (cc)

  pub large_is : (a : Answer) → Comes e a → number_of a ≡ 6 → (x : Excess) × IsTooLarge e.words e.told x
  large_is (Ran r) c h = absurd (not_end r.end 6 refl h)
  large_is Shown c h = absurd (cc)
  large_is Words c h = absurd (cc)
  large_is ReadFault c h = absurd (cc)
  large_is ShowFault c h = absurd (cc)
  large_is (BadClass r) c h = absurd (cc)
  large_is (TooLarge x) c h = (x, c.0)
  large_is NoMemory c h = absurd (cc)
  large_is NotBuilt c h = absurd (cc)

  words_to : (a : Answer) → Comes e a → number_of a ≡ 2 → IsNone (job_name e.words)
  words_to (Ran r) c h = absurd (not_end r.end 2 refl h)
  words_to Shown c h = absurd (cc)
  words_to Words c h = subst (λ (o : Option (List ℕ)). IsNone o) (sym c.0) refl
  words_to ReadFault c h = absurd (cc)
  words_to ShowFault c h = absurd (cc)
  words_to (BadClass r) c h = absurd (cc)
  words_to (TooLarge x) c h = absurd (cc)
  words_to NoMemory c h = absurd (cc)
  words_to NotBuilt c h = absurd (cc)

  words_from : (a : Answer) → Comes e a → IsNone (job_name e.words) → number_of a ≡ 2
  words_from (Ran r) c h = absurd (some_not_none (job_name e.words) c.is.read.name c.is.read.job h)
  words_from Shown c h = absurd (some_not_none (job_name e.words) c.is.read.name c.is.read.job h)
  words_from Words c h = refl
  words_from ReadFault c h = absurd (some_not_none (job_name e.words) c.0.name c.0.job h)
  words_from ShowFault c h = absurd (some_not_none (job_name e.words) c.cut.is.read.name c.cut.is.read.job h)
  words_from (BadClass r) c h = absurd (some_not_none (job_name e.words) c.0.read.name c.0.read.job h)
  words_from (TooLarge x) c h = absurd (some_not_none (job_name e.words) c.0.is.read.name c.0.is.read.job h)
  words_from NoMemory c h = absurd (not_both (job_name e.words) c.0 h)
  words_from NotBuilt c h = absurd (some_not_none (job_name e.words) c.0.read.name c.0.read.job h)

  pub words_are : (a : Answer) → Comes e a → (number_of a ≡ 2) ↔ IsNone (job_name e.words)
  words_are a c = (words_to a c, words_from a c)

  pub read_is : (a : Answer) → Comes e a → number_of a ≡ 3 → Rose e.store_before e.store_after
  read_is (Ran r) c h = absurd (not_end r.end 3 refl h)
  read_is Shown c h = absurd (cc)
  read_is Words c h = absurd (cc)
  read_is ReadFault c h = c.0.rose
  read_is ShowFault c h = absurd (cc)
  read_is (BadClass r) c h = absurd (cc)
  read_is (TooLarge x) c h = absurd (cc)
  read_is NoMemory c h = absurd (cc)
  read_is NotBuilt c h = absurd (cc)

  not_three : (a : Answer) → (number_of a ≡ 3 → ⊥) → IfSome (job_name e.words) (λ name. HasName e.told name → number_of a ≢ 3)
  not_three a f = each (job_name e.words) (λ name. HasName e.told name → number_of a ≢ 3) (λ name has. f)

  pub has_is : (a : Answer) → Comes e a → IsTrue e.is_calm → IfSome (job_name e.words) (λ name. HasName e.told name → number_of a ≢ 3)
  has_is (Ran r) c calm = not_three (Ran r) (not_end r.end 3 refl)
  has_is Shown c calm = not_three Shown (λ h. cc)
  has_is Words c calm = not_three Words (λ h. cc)
  has_is ReadFault c calm =
      subst (λ (o : Option (List ℕ)). IfSome o (λ name. HasName e.told name → number_of ReadFault ≢ 3)) (sym c.0.job) (λ has h. c.0.not_calm calm has)
  has_is ShowFault c calm = not_three ShowFault (λ h. cc)
  has_is (BadClass r) c calm = not_three (BadClass r) (λ h. cc)
  has_is (TooLarge x) c calm = not_three (TooLarge x) (λ h. cc)
  has_is NoMemory c calm = not_three NoMemory (λ h. cc)
  has_is NotBuilt c calm = not_three NotBuilt (λ h. cc)

  pub write_is : (a : Answer) → Comes e a → number_of a ≡ 4 → Rose e.out_before e.out_after
  write_is (Ran r) c h = c.cause (is_fault r.end h)
  write_is Shown c h = absurd (cc)
  write_is Words c h = absurd (cc)
  write_is ReadFault c h = absurd (cc)
  write_is ShowFault c h = c.rose
  write_is (BadClass r) c h = absurd (cc)
  write_is (TooLarge x) c h = absurd (cc)
  write_is NoMemory c h = absurd (cc)
  write_is NotBuilt c h = absurd (cc)

  pub cut_is : (a : Answer) → Comes e a → IsMode e.words mode.Run → number_of a ≡ 4 → CutOff e.words e.told e.taken_before e.taken_after
  cut_is (Ran r) c m h = cut e.words e.told c.program c.is r.machine r.files e.taken_before e.taken_after e.room r.end c.so h
  cut_is Shown c m h = absurd (cc)
  cut_is Words c m h = absurd (cc)
  cut_is ReadFault c m h = absurd (cc)
  cut_is ShowFault c m h = absurd (not_run e.words m c.cut.is.read.is_mode)
  cut_is (BadClass r) c m h = absurd (cc)
  cut_is (TooLarge x) c m h = absurd (cc)
  cut_is NoMemory c m h = absurd (cc)
  cut_is NotBuilt c m h = absurd (cc)

  pub cut_text_is : (a : Answer) → Comes e a → IsMode e.words mode.Dis → number_of a ≡ 4 → show.ShownInPart e.words e.told e.taken_before e.taken_after
  cut_text_is (Ran r) c m h = absurd (not_run e.words c.is.read.is_mode m)
  cut_text_is Shown c m h = absurd (cc)
  cut_text_is Words c m h = absurd (cc)
  cut_text_is ReadFault c m h = absurd (cc)
  cut_text_is ShowFault c m h = c.cut
  cut_text_is (BadClass r) c m h = absurd (cc)
  cut_text_is (TooLarge x) c m h = absurd (cc)
  cut_text_is NoMemory c m h = absurd (cc)
  cut_text_is NotBuilt c m h = absurd (cc)

  pub shown_is : (a : Answer) → Comes e a → IsMode e.words mode.Dis → number_of a ≡ 0 → show.Shown e.words e.told e.taken_before e.taken_after
  shown_is (Ran r) c m h = absurd (not_run e.words c.is.read.is_mode m)
  shown_is Shown c m h = c
  shown_is Words c m h = absurd (cc)
  shown_is ReadFault c m h = absurd (cc)
  shown_is ShowFault c m h = absurd (cc)
  shown_is (BadClass r) c m h = absurd (cc)
  shown_is (TooLarge x) c m h = absurd (cc)
  shown_is NoMemory c m h = absurd (cc)
  shown_is NotBuilt c m h = absurd (cc)

  nothing_refused : (o : Option ClassRefusal) (n : ℕ) → o ≡ None → (n ≡ 11 → ⊥) → (n ≡ 11) ↔ IsSome o
  nothing_refused None n h f = ((λ k. absurd (f k)), (λ k. absurd (false≢true k)))
  nothing_refused (Some r) n h f = absurd (cc)

  is_refused : (o : Option ClassRefusal) (r : ClassRefusal) (n : ℕ) → o ≡ Some r → n ≡ 11 → (n ≡ 11) ↔ IsSome o
  is_refused None r n h e = absurd (cc)
  is_refused (Some q) r n h e = ((λ k. refl), (λ k. e))

  pub bad_class_is : (a : Answer) → Comes e a → IsMode e.words mode.Dis → IsTrue (show.is_judged_class (number_of a)) → show.JudgedClass e.words e.told (number_of a)
  bad_class_is (Ran r) c m h = absurd (not_run e.words c.is.read.is_mode m)
  bad_class_is Shown c m h = record { source = c.is.source; read = c.is.read; exact = nothing_refused _ 0 c.is.taken (λ k. cc) }
  bad_class_is Words c m h = absurd (false≢true h)
  bad_class_is ReadFault c m h = absurd (false≢true h)
  bad_class_is ShowFault c m h = record { source = c.cut.is.source; read = c.cut.is.read; exact = nothing_refused _ 4 c.cut.is.taken (λ k. cc) }
  bad_class_is (BadClass r) c m h = record { source = c.0.source; read = c.0.read; exact = is_refused _ r 11 c.0.refused refl }
  bad_class_is (TooLarge x) c m h = absurd (false≢true h)
  bad_class_is NoMemory c m h = absurd (false≢true h)
  bad_class_is NotBuilt c m h = absurd (false≢true h)

  pub not_built_is : (a : Answer) → Comes e a → IsMode e.words mode.Run → IsTrue (is_judged (number_of a)) → Judged e.words e.told (number_of a)
  not_built_is (Ran r) c m h = record { source = c.is.source; read = c.is.read; exact = ((λ k. absurd (not_end r.end 14 refl k)), (λ none. absurd (none c.program c.is.says))) }
  not_built_is Shown c m h = absurd (not_run e.words m c.is.read.is_mode)
  not_built_is Words c m h = absurd (false≢true h)
  not_built_is ReadFault c m h = absurd (false≢true h)
  not_built_is ShowFault c m h = absurd (not_run e.words m c.cut.is.read.is_mode)
  not_built_is (BadClass r) c m h = absurd (false≢true h)
  not_built_is (TooLarge x) c m h = record { source = c.0.is.source; read = c.0.is.read; exact = ((λ k. absurd (cc)), (λ none. absurd (none c.0.program c.0.is.says))) }
  not_built_is NoMemory c m h = absurd (false≢true h)
  not_built_is NotBuilt c m h = record { source = c.0.source; read = c.0.read; exact = ((λ k. c.0.none), (λ none. refl)) }

  pub out_is : (a : Answer) → Comes e a → has_run (number_of a) ≡ false → e.taken_after ≡ e.taken_before
  out_is (Ran r) c h = absurd (has_status e.words e.told c.program c.is r.machine r.files e.taken_before e.taken_after e.room r.end c.so h)
  out_is Shown c h = absurd (false≢true (sym h))
  out_is Words c h = c.1
  out_is ReadFault c h = c.1
  out_is ShowFault c h = absurd (false≢true (sym h))
  out_is (BadClass r) c h = c.1
  out_is (TooLarge x) c h = c.1
  out_is NoMemory c h = c.1
  out_is NotBuilt c h = c.1

  no_room_is : (room : Option ℕ) (left n : ℕ) → room ≡ Some left → n ≤ left → IfSome room (λ r. n ≤ r → ⊥) → ⊥
  no_room_is None left n h le f = cc
  no_room_is (Some r) left n h le f = let same : left ≡ r = cc in f (subst (λ (k : ℕ). n ≤ k) same le)

  -- where there is room, or `out` didn't fail, no text is cut
  never_cut : (n : ℕ) → HasRoom e n → Rose e.out_before e.out_after → IfSome e.room (λ r. n ≤ r → ⊥) → ⊥
  never_cut n (inl room) rose f = no_room_is e.room room.0 n room.1 room.2 f
  never_cut n (inr quiet) rose f = quiet rose

  module _ (ready : IsReady e) where
    -- the program of the source that was read is that of the source that is ready
    same_program : (p : Program) → IsSource e.words e.told p → ready.program ≡ p
    same_program p is = is.only ready.program (subst (λ (b : List ℕ). SaysProgram b ready.program) (ready_bytes e is.source ready is.read) ready.says)

    same_made : (p : Program) (c : ClassFile) → IsSource e.words e.told p → file_of_program p ≡ Some (Ok c) → ready.class ≡ c
    same_made p c is made =
        let both : Some (Ok ready.class) ≡ Some (Ok c) = sym ready.made ∙ ap file_of_program (same_program p is) ∙ made in cc

    -- the run of the class that was made ends as that of the class that is ready
    module _ (r : Run) (c : RunsTo e r) where
      ends_so : limited_course c.so.class ready.rows ≡ halted ready.halt ready.state ready.out
      ends_so =
          subst (λ (k : ClassFile). limited_course k ready.rows ≡ halted ready.halt ready.state ready.out) (same_made c.program c.so.class c.is c.so.compiled.made) ready.ends

      not_cut : HasRoom e (length ready.out) → r.end ≡ why.SinkFault → ⊥
      not_cut (inl room) h = all_taken c.so.class ready.rows ready.within ready.halt ready.state ready.out ends_so ready.over r.end r.machine e.taken_before e.taken_after e.room c.so.ran room.0 room.1 room.2 h
      not_cut (inr quiet) h = quiet (c.cause h)

      over_is : (status_of_end r.end ≡ 0) ⊎ (status_of_end r.end ≡ 7)
      over_is = over_so c.so.class ready.rows ready.within ready.halt ready.state ready.out ends_so ready.over r.end r.machine e.taken_before e.taken_after e.room c.so.ran (not_cut ready.room)

    one_of : (n : ℕ) → (n ≡ 0) ⊎ (n ≡ 7) → (n ≡ 0) ⊎ (n ≡ 7) ⊎ (n ≡ 12)
    one_of n (inl h) = inl h
    one_of n (inr h) = inr (inl h)

    pub complete_is : (a : Answer) → Comes e a → (number_of a ≡ 0) ⊎ (number_of a ≡ 7) ⊎ (number_of a ≡ 12)
    complete_is (Ran r) c = one_of (status_of_end r.end) (over_is r c)
    complete_is Shown c = inl refl
    complete_is Words c = absurd (let both : None ≡ Some ready.read.name = sym c.0 ∙ ready.read.job in cc)
    complete_is ReadFault c = absurd (never_fails e ready.read.name ready.served ready.has ready.read.job c.0)
    complete_is ShowFault c = absurd (not_run e.words ready.read.is_mode c.cut.is.read.is_mode)
    complete_is (BadClass r) c = absurd (not_run e.words ready.read.is_mode c.0.read.is_mode)
    complete_is (TooLarge x) c =
        absurd (let made = sym ready.made ∙ ap file_of_program (same_program c.0.program c.0.is) ∙ c.0.excess.made in cc)
    complete_is NoMemory c = inr (inr refl)
    complete_is NotBuilt c =
        let bytes = ready_bytes e c.0.source ready c.0.read in
        absurd (c.0.none ready.program (subst (λ (b : List ℕ). SaysProgram b ready.program) bytes ready.says))

  -- the bytes of a class of a length that is taken aren't refused
  taken_class : (bytes : List ℕ) (c : ClassFile) (r : ClassRefusal) → length bytes ≤ show.most_class → ClassBytes c bytes → show.class_refusal bytes ≡ Some r → ⊥
  taken_class bytes c r short is refused =
      let long : nat_lt show.most_class (length bytes) ≡ false = le-ltb show.most_class (length bytes) short in
      let read : read_class bytes ≡ Ok c = subst (λ (b : List ℕ). read_class b ≡ Ok c) (sym is.1) (class_again c is.0) in
      let none : show.class_refusal bytes ≡ None = rw (long, read) refl in
      let both : Some r ≡ None = sym refused ∙ none in cc

  pub complete_text_is : (a : Answer) → Comes e a → (class : ClassFile) → show.IsReadyClass e class → (number_of a ≡ 0) ⊎ (number_of a ≡ 12)
  complete_text_is (Ran r) c class ready = absurd (not_run e.words c.is.read.is_mode ready.read.is_mode)
  complete_text_is Shown c class ready = inl refl
  complete_text_is Words c class ready = absurd (let both : None ≡ Some ready.read.name = sym c.0 ∙ ready.read.job in cc)
  complete_text_is ReadFault c class ready = absurd (never_fails e ready.read.name ready.served ready.has ready.read.job c.0)
  complete_text_is ShowFault c class ready =
      let same = same_class e class c.cut.made ready c.cut.is in
      absurd (never_cut (length (show.class_text c.cut.made)) (subst (λ (k : ClassFile). HasRoom e (length (show.class_text k))) same ready.room) c.rose c.no_room)
  complete_text_is (BadClass r) c class ready =
      let name = same_name e.words ready.read.name c.0.read.name ready.read.job c.0.read.job in
      let bytes = read_once e.told 16777217 ready.read.name c.0.source ready.source ready.has (subst (λ (n : List ℕ). Reads e.told n 16777217 c.0.source) name c.0.read.read) ready.read.read in
      absurd (taken_class ready.source class r ready.short ready.bytes (subst (λ (b : List ℕ). show.class_refusal b ≡ Some r) bytes c.0.refused))
  complete_text_is (TooLarge x) c class ready = absurd (not_run e.words c.0.is.read.is_mode ready.read.is_mode)
  complete_text_is NoMemory c class ready = inr refl
  complete_text_is NotBuilt c class ready = absurd (not_run e.words c.0.read.is_mode ready.read.is_mode)

  -- a job that shows has neither files nor steps
  pub nothing_run_is : (a : Answer) → Comes e a → IsMode e.words mode.Dis → (files_of a ≡ []) × (steps_of a ≡ 0)
  nothing_run_is (Ran r) c m = absurd (not_run e.words c.is.read.is_mode m)
  nothing_run_is Shown c m = (refl, refl)
  nothing_run_is Words c m = (refl, refl)
  nothing_run_is ReadFault c m = (refl, refl)
  nothing_run_is ShowFault c m = (refl, refl)
  nothing_run_is (BadClass r) c m = (refl, refl)
  nothing_run_is (TooLarge x) c m = (refl, refl)
  nothing_run_is NoMemory c m = (refl, refl)
  nothing_run_is NotBuilt c m = (refl, refl)

  -- ---- the statuses of each mode

  no_words : (m : Mode) → IsMode e.words m → job_name e.words ≡ None → ⊥
  no_words m h k = by (job_of e.words) h k
    where
      by : (o : Option (Mode × List ℕ)) → option_map (λ j. j.0) o ≡ Some m → option_map chars (option_map (λ j. j.1) o) ≡ None → ⊥
      by None h k = cc
      by (Some j) h k = cc

  run_statuses : (a : Answer) → Comes e a → IsMode e.words mode.Run → IsTrue (is_status_in mode.Run (number_of a))
  run_statuses (Ran r) c m = run_status e.words e.told c.program c.is r.machine r.files e.taken_before e.taken_after e.room r.end c.so
  run_statuses Shown c m = refl
  run_statuses Words c m = absurd (no_words mode.Run m c.0)
  run_statuses ReadFault c m = refl
  run_statuses ShowFault c m = refl
  run_statuses (BadClass r) c m = absurd (not_run e.words m c.0.read.is_mode)
  run_statuses (TooLarge x) c m = refl
  run_statuses NoMemory c m = refl
  run_statuses NotBuilt c m = refl

  dis_statuses : (a : Answer) → Comes e a → IsMode e.words mode.Dis → IsTrue (is_status_in mode.Dis (number_of a))
  dis_statuses (Ran r) c m = absurd (not_run e.words c.is.read.is_mode m)
  dis_statuses Shown c m = refl
  dis_statuses Words c m = absurd (no_words mode.Dis m c.0)
  dis_statuses ReadFault c m = refl
  dis_statuses ShowFault c m = refl
  dis_statuses (BadClass r) c m = refl
  dis_statuses (TooLarge x) c m = absurd (not_run e.words c.0.is.read.is_mode m)
  dis_statuses NoMemory c m = refl
  dis_statuses NotBuilt c m = absurd (not_run e.words c.0.read.is_mode m)

  pub statuses_are : (a : Answer) → Comes e a → (m : Mode) → IsMode e.words m → IsTrue (is_status_in m (number_of a))
  statuses_are a c mode.Run h = run_statuses a c h
  statuses_are a c mode.Dis h = dis_statuses a c h

  -- ---- files and steps

  pub files_are : (a : Answer) → Comes e a → has_run (number_of a) ≡ false → files_of a ≡ []
  files_are (Ran r) c h = absurd (has_status e.words e.told c.program c.is r.machine r.files e.taken_before e.taken_after e.room r.end c.so h)
  files_are Shown c h = refl
  files_are Words c h = refl
  files_are ReadFault c h = refl
  files_are ShowFault c h = refl
  files_are (BadClass r) c h = refl
  files_are (TooLarge x) c h = refl
  files_are NoMemory c h = refl
  files_are NotBuilt c h = refl

  pub steps_are : (a : Answer) → Comes e a → has_run (number_of a) ≡ false → steps_of a ≡ 0
  steps_are (Ran r) c h = absurd (has_status e.words e.told c.program c.is r.machine r.files e.taken_before e.taken_after e.room r.end c.so h)
  steps_are Shown c h = refl
  steps_are Words c h = refl
  steps_are ReadFault c h = refl
  steps_are ShowFault c h = refl
  steps_are (BadClass r) c h = refl
  steps_are (TooLarge x) c h = refl
  steps_are NoMemory c h = refl
  steps_are NotBuilt c h = refl
