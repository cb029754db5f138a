-- What a call of the program came to, from its words to what it put.
use Rattle.std.specs.Prelude.{◌≡◌, ℕ, ◌≤◌, Bool, ◌||◌, IsTrue, List, length, Option, Some, None, IsSome, IfSome, nat_eq}
use Rattle.std.specs.Io.KnownBytes.{append_known}
use Rattle.scw_outside.specs.Causes.{Rose}
use Rattle.scw_outside.specs.Content.{HasName}
use Rattle.scw_outside.specs.Puts.{TookPart}
use Rattle.scw_classfile.specs.declared.class_file.ClassFile.{ClassFile}
use Rattle.scw_core.specs.Program.{Program}
use Rattle.scw_machine.specs.declared.end.End.TheVariants as why
use Rattle.scw_tool.specs.declared.answer.Answer.{Answer}
use Rattle.scw_tool.specs.declared.answer.Answer.TheVariants.{Ran, Shown, Words, ReadFault, ShowFault, BadClass, TooLarge, NoMemory, NotBuilt}
use Rattle.scw_tool.specs.declared.answer.Run.{Run}
use Rattle.scw_tool.specs.declared.words.Mode.{Mode}
use Rattle.scw_tool.specs.declared.words.Mode.TheVariants as mode
use Rattle.scw_tool.specs.Edge.{Edge}
use Rattle.scw_tool.specs.Executed.{RanSo}
use Rattle.scw_tool.specs.Show as show
use Rattle.scw_tool.specs.Show.{class_text, ShownInPart, IsNoClass}
use Rattle.scw_tool.specs.Source.{IsExcess, IsNoSource, IsSource, IsTooLarge}
use Rattle.scw_tool.specs.Words.{job_name}

-- ---- when each answer comes

-- the words name a file, which the store failed to read
pub record FailsToRead (e : Edge) : Type 0 where
  pub name : List ℕ
  pub job : job_name e.words ≡ Some name
  pub rose : Rose e.store_before e.store_after
  pub not_calm : IsTrue e.is_calm → HasName e.told name → ⊥

-- `out` failed, which had not the room for the text of a class
pub record FailsToShow (e : Edge) : Type 0 where
  pub cut : ShownInPart e.words e.told e.taken_before e.taken_after
  pub rose : Rose e.out_before e.out_after
  pub no_room : IfSome e.room (λ r. length (class_text cut.made) ≤ r → ⊥)

-- the source's class file was run
pub record RunsTo (e : Edge) (r : Run) : Type 0 where
  pub program : Program
  pub is : IsSource e.words e.told program
  pub so : RanSo program r.end r.machine r.files e.taken_before e.taken_after e.room
  pub cause : r.end ≡ why.SinkFault → Rose e.out_before e.out_after

abbrev pub Comes : Edge → Answer → Type 0
Comes e (Ran r) = RunsTo e r
Comes e Shown = show.Shown e.words e.told e.taken_before e.taken_after
Comes e Words = (job_name e.words ≡ None) × (e.taken_after ≡ e.taken_before)
Comes e ReadFault = FailsToRead e × (e.taken_after ≡ e.taken_before)
Comes e ShowFault = FailsToShow e
Comes e (BadClass r) = IsNoClass e.words e.told r × (e.taken_after ≡ e.taken_before)
Comes e (TooLarge x) = IsTooLarge e.words e.told x × (e.taken_after ≡ e.taken_before)
Comes e NoMemory = IsSome (job_name e.words) × (e.taken_after ≡ e.taken_before)
Comes e NotBuilt = IsNoSource e.words e.told × (e.taken_after ≡ e.taken_before)

-- ---- what came of a program

-- from the room and the faults of `out` and what it had taken
abbrev pub Went : Program → Option ℕ → ℕ → ℕ → Option (List ℕ) → Option (List ℕ) → Answer → Type 0
Went p room before after old new (Ran r) = RanSo p r.end r.machine r.files old new room × (r.end ≡ why.SinkFault → Rose before after)
Went p room before after old new Shown = ⊥
Went p room before after old new Words = ⊥
Went p room before after old new ReadFault = ⊥
Went p room before after old new ShowFault = ⊥
Went p room before after old new (BadClass r) = ⊥
Went p room before after old new (TooLarge x) = IsExcess p x × (new ≡ old)
Went p room before after old new NoMemory = ⊥
Went p room before after old new NotBuilt = ⊥

-- what the text of a class came to, in the same way
abbrev pub WentShown : ClassFile → Option ℕ → ℕ → ℕ → Option (List ℕ) → Option (List ℕ) → Answer → Type 0
WentShown c room before after old new (Ran r) = ⊥
WentShown c room before after old new Shown = new ≡ append_known old (class_text c)
WentShown c room before after old new Words = ⊥
WentShown c room before after old new ReadFault = ⊥
WentShown c room before after old new ShowFault = TookPart old new (class_text c) × Rose before after × IfSome room (λ r. length (class_text c) ≤ r → ⊥)
WentShown c room before after old new (BadClass r) = ⊥
WentShown c room before after old new (TooLarge x) = ⊥
WentShown c room before after old new NoMemory = ⊥
WentShown c room before after old new NotBuilt = ⊥

-- ---- the statuses of a call

-- whether a job's class file was run, or a class shown, by the status
abbrev pub has_run : ℕ → Bool
has_run s = nat_eq s 0 || nat_eq s 4 || nat_eq s 7 || nat_eq s 8 || nat_eq s 9 || nat_eq s 10

-- whether the bytes that were read were judged, by the status
abbrev pub is_judged : ℕ → Bool
is_judged s = has_run s || nat_eq s 6 || nat_eq s 14

-- whether a job of the mode may end with the status: what was read was judged, nothing was read, or memory ran out
abbrev pub is_status_in : Mode → ℕ → Bool
is_status_in mode.Run s = is_judged s || nat_eq s 3 || nat_eq s 12
is_status_in mode.Dis s = show.is_judged_class s || nat_eq s 3 || nat_eq s 12
