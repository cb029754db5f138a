-- From the machine that was loaded, and its answer, to what a call says of the program's run.
use Rattle.std.proofs.Common.{◌≡◌, ℕ, List, [], ◌∷◌, Option, None, refl, sym, ap, ◌∙◌, subst}
use Rattle.std.specs.Prelude.{codes}
use Rattle.std.specs.Str.{chars}
use Rattle.std.proofs.lemmas.Str.{chars-encodes}
use Rattle.scw_text.specs.declared.number.SymId.{SymId}
use Rattle.scw_classfile.specs.declared.class_file.ClassFile.{ClassFile}
use Rattle.scw_core.specs.Entry.{IsEntry, main_of}
use Rattle.scw_core.specs.Program.{Program}
use Rattle.scw_link.specs.Linked.{linked}
use Rattle.scw_machine.specs.Load.{first, units_of}
use Rattle.scw_machine.specs.Run.{Ran, Running}
use Rattle.scw_machine.specs.Unlimited.{RanUnlimited}
use Rattle.scw_machine.specs.declared.end.End.{End}
use Rattle.scw_back.specs.Back.{file_of_program}
use Rattle.scw_back.specs.Same.{DoesTheSame, machine_of}
use Rattle.scw_run.specs.Load.{HasNoMain, IsMachineOf}
use Rattle.scw_run.specs.Shows.{Shows}
use Rattle.scw_run.specs.declared.loading.Loaded.{Loaded}
use Rattle.scw_tool.specs.Executed.{RanSo}
use Rattle.scw_tool.specs.Machine.{loaded, main_name, most_frames, most_rows, most_units, most_words}
use Rattle.scw_tool.specs.Source.{IsBuilt, IsMain}

-- the name of the object, as it is told
pub name_told : chars (codes "Main") ≡ main_name
unfolding lib.Utf8.encode
name_told = chars-encodes (codes "Main") refl

-- a program that is built isn't of a form without code
pub not_nothing : (p : Program) → IsBuilt p → file_of_program p ≡ None → ⊥
not_nothing p b none = let some = b.1 in cc

-- what an answer of the machine shows, for each program whose file does the same
abbrev pub Law : Type 0
Law =
    (p : Program) (c : ClassFile) (o : SymId) → DoesTheSame p c → IsEntry p.table (main_of o) → (heap frames words steps : ℕ) (end : End) (new : Running) (before now : Option (List ℕ)) (room : Option ℕ)
    → RanUnlimited end steps (first (machine_of p c o) heap frames words) new before now room → Shows p o (machine_of p c o) steps end new before now

module _ (p : Program) (o : SymId) (is : IsMain p o) (main : List ℕ) (named : main ≡ main_name) where
  pub not_without : HasNoMain p main → ⊥
  not_without h = h o is.entry (is.named ∙ ap units_of (sym named))

  module _ (law : Law) (l : Loaded) (m : IsMachineOf p main most_units most_frames most_words l) where
    abbrev program_named : List ℕ → Running
    program_named us = first (linked (m.file ∷ []) us) most_units most_frames most_words

    pub start : l.machine ≡ loaded m.file
    start = m.machine ∙ ap (λ (us : List ℕ). program_named (units_of us)) named

    pub ran_so : (end : End) (new : Running) (before now : Option (List ℕ)) (room : Option ℕ) → Ran end most_rows l.machine new before now room → RanUnlimited end most_rows l.machine new before now room → RanSo p end new l.files before now room
    ran_so end new before now room ran unlimited =
        let free : RanUnlimited end most_rows (loaded m.file) new before now room = subst (λ (s : Running). RanUnlimited end most_rows s new before now room) start unlimited in
        let own = subst (λ (us : List ℕ). RanUnlimited end most_rows (program_named us) new before now room) (sym is.named) free in
        record {
          class = m.file;
          compiled = m.compiled;
          main = o;
          is_main = is;
          ran = subst (λ (s : Running). Ran end most_rows s new before now room) start ran;
          unlimited = free;
          shows =
              subst (λ (us : List ℕ). Shows p o (linked (m.file ∷ []) us) most_rows end new before now) is.named
              (law p m.file o m.compiled.same is.entry most_units most_frames most_words most_rows end new before now room own);
        }
