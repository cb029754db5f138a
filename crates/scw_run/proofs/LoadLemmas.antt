-- The class file of a program, read back and loaded.
use Rattle.std.proofs.Common.{◌≡◌, ℕ, zero, suc, List, [], ◌∷◌, Some, Ok, Err, refl, sym, ap, ◌∙◌, subst}
use Rattle.std.proofs.lemmas.Bool.{false≢true}
use Rattle.scw_classfile.specs.declared.class_file.ClassFile.{ClassFile}
use Rattle.scw_classfile.specs.declared.class_file.FileOut.{FileOut}
use Rattle.scw_classfile.specs.declared.fault.ClassRefusal.{ClassRefusal}
use Rattle.scw_classfile.specs.Format.{class}
use Rattle.scw_classfile.specs.ReadClass.{ClassBytes, IsWritable, read_class}
use Rattle.scw_classfile.proofs.FormatLemmas.{class_again}
use Rattle.scw_core.specs.Program as core
use Rattle.scw_link.specs.Linked.{has_main, linked}
use Rattle.scw_machine.specs.Load as machine
use Rattle.scw_machine.specs.Load.{AreFilesOf, IsBad, IsLoaded, first, units_of}
use Rattle.scw_machine.specs.Run.{Running}
use Rattle.scw_back.specs.Back.{file_of_program}
use Rattle.scw_back.specs.Same.{DoesTheSame}
use Rattle.scw_run.specs.Load.{HasNoMain, IsMachineOf, files_of}

abbrev Alone : Type 0
Alone = (c d : ClassFile) (bytes : List ℕ) → ClassBytes c bytes → ClassBytes d bytes → c ≡ d

module _ (p : core.Program) (c : ClassFile) (right : IsWritable c) (alone : Alone) (files : List FileOut) (written : files ≡ files_of p c) (main : List ℕ) where
  -- the file is that of the class, and of no other
  classes_are : (cs : List ClassFile) → AreFilesOf cs (files_of p c) → cs ≡ c ∷ []
  classes_are [] h = absurd h
  classes_are (d ∷ []) h = ap (λ (k : ClassFile). k ∷ []) (alone d c (class.spell c) h.0 (right, refl))
  classes_are (d ∷ f ∷ fs) h = absurd h.1

  pub loaded : (made : file_of_program p ≡ Some (Ok c)) (same : DoesTheSame p c) (heap frames words : ℕ) (m : Running) → IsLoaded m files main heap frames words → IsMachineOf p main heap frames words (record { files = files; machine = m })
  loaded made same heap frames words m l =
      let cs = classes_are l.classes (subst (AreFilesOf l.classes) written l.files_of) in
      record {
        file = c;
        compiled = record { made = made; spelled = written; back = class_again c right; same = same };
        machine = l.machine ∙ ap (λ ks. first (linked ks (units_of main)) heap frames words) cs;
      }

  pub without_main : DoesTheSame p c → machine.HasNoMain files main → HasNoMain p main
  without_main same l o entry named =
      let cs = classes_are l.classes (subst (AreFilesOf l.classes) written l.files_of) in
      false≢true (sym l.main_missing ∙ (λ i. has_main (cs i) (sym named i)) ∙ same.starts o entry)

  no_fault : (r : ClassRefusal) → read_class (class.spell c) ≡ Err r → ⊥
  no_fault r h = let again = class_again c right in absurd (cc)

  pub not_bad : (n : ℕ) (r : ClassRefusal) → IsBad n r files → ⊥
  not_bad n r h = by n (subst (IsBad n r) written h)
    where
      by : (n : ℕ) → IsBad n r (files_of p c) → ⊥
      by zero h = no_fault r h
      by (suc n) h = absurd h
