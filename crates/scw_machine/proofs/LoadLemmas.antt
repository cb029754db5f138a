-- Files of classes, one more at the end.
use Rattle.std.proofs.Common.{◌≡◌, ℕ, Bool, true, List, [], ◌∷◌, ◌++◌, refl}
use Rattle.scw_classfile.specs.declared.class_file.ClassFile.{ClassFile}
use Rattle.scw_classfile.specs.declared.class_file.FileOut.{FileOut}
use Rattle.scw_classfile.specs.ReadClass.{ClassBytes}
use Rattle.scw_frame.specs.declared.program.Program.{Program}
use Rattle.scw_link.specs.Linked.{linked, has_main}
use Rattle.scw_machine.specs.Load.{AreFilesOf, IsLoaded, first, units_of}
use Rattle.scw_machine.specs.Run.{Running}

pub AreFilesOf-push : (cs : List ClassFile) (fs : List FileOut) (c : ClassFile) (f : FileOut) → AreFilesOf cs fs → ClassBytes c f.bytes → AreFilesOf (cs ++ c ∷ []) (fs ++ f ∷ [])
AreFilesOf-push [] [] c f h b = (b, tt)
AreFilesOf-push [] (g ∷ gs) c f h b = absurd h
AreFilesOf-push (d ∷ ds) [] c f h b = absurd h
AreFilesOf-push (d ∷ ds) (g ∷ gs) c f h b = (h.0, AreFilesOf-push ds gs c f h.1 b)

-- a machine is loaded whose parts are those of the classes
pub IsLoaded-of : (classes ds es : List ClassFile) (files fs : List FileOut) (main text name : List ℕ) (there : Bool) (p : Program) (m : Running) (heap frames words : ℕ) →
    fs ≡ files → AreFilesOf classes fs → text ≡ main → name ≡ units_of text → ds ≡ classes → there ≡ has_main ds name → there ≡ true → es ≡ classes → p ≡ linked es name → m ≡ first p heap frames words →
    IsLoaded m files main heap frames words
IsLoaded-of classes ds es files fs main text name there p m heap frames words a h b n d t found e l o = record {
  classes = classes;
  files_of = rw (← a) h;
  main_there = rw (← b, ← n, ← d, ← t) found;
  machine = rw (o, l, e, n, b) refl;
}
