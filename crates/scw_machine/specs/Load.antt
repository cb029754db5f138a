-- A machine that is loaded: its program is that of the files, and its state the first one (JVMS 5.2, 2.5 and 2.6).
use Rattle.std.specs.Prelude.{◌≡◌, ℕ, ◌+◌, ◌-◌, ◌/◌, ◌%◌, true, false, cond, Option, Some, List, [], ◌∷◌, map, replicate, IsSomeAnd, Err, nat_lt, slice_get}
use Rattle.std.specs.List.{flat_map}
use Rattle.scw_classfile.specs.declared.class_file.ClassFile.{ClassFile}
use Rattle.scw_classfile.specs.declared.class_file.FileOut.{FileOut}
use Rattle.scw_classfile.specs.declared.fault.ClassRefusal.{ClassRefusal}
use Rattle.scw_classfile.specs.ReadClass.{ClassBytes, read_class}
use Rattle.scw_frame.specs.Frame.{frame_for}
use Rattle.scw_frame.specs.declared.program.Program.{Program}
use Rattle.scw_frame.specs.declared.value.Value.{Value}
use Rattle.scw_frame.specs.declared.value.Value.TheVariants.{Unset, Int, Long, Reference}
use Rattle.scw_frame.specs.declared.value.ValueKind.{ValueKind}
use Rattle.scw_frame.specs.declared.value.ValueKind.TheVariants as kind
use Rattle.scw_link.specs.Linked.{linked, has_main}
use Rattle.scw_step.specs.declared.state.State.{State}
use Rattle.scw_machine.specs.declared.loading.LoadFault.{LoadFault}
use Rattle.scw_machine.specs.declared.loading.LoadFault.TheVariants as fault
use Rattle.scw_machine.specs.Run.{Running}

-- the files are those of the classes, in order
abbrev pub AreFilesOf : List ClassFile → List FileOut → Type 0
AreFilesOf [] [] = Unit {0}
AreFilesOf [] (f ∷ fs) = ⊥
AreFilesOf (c ∷ cs) [] = ⊥
AreFilesOf (c ∷ cs) (f ∷ fs) = ClassBytes c f.bytes × AreFilesOf cs fs

-- the code units of a character (Unicode 3.9, UTF-16)
abbrev pub units_of_char : ℕ → List ℕ
units_of_char c = cond (nat_lt c 65536) (c ∷ []) ((55296 + (c - 65536) / 1024) ∷ (56320 + (c - 65536) % 1024) ∷ [])

abbrev pub units_of : List ℕ → List ℕ
units_of text = flat_map units_of_char text

abbrev pub zero_of : ValueKind → Value
zero_of kind.Int = Int 0
zero_of kind.Long = Long 0
zero_of kind.Reference = Reference 0

-- The launcher's frame acts, which has a stack of two places and one local variable. Each static field is zero. The
-- limits are those of the heap's units, of frames and of their words; None sets none.
abbrev pub first_state : Program → Option ℕ → Option ℕ → Option ℕ → State
first_state p heap frames words = record {
  frames = record {
    current = frame_for (record { 0 = 0 }) 2 (replicate 1 Unset);
    callers = [];
    most_frames = frames;
    most_words = words;
  };
  heap = record { objects = []; units = heap };
  statics = map zero_of p.statics;
  unit = 0;
}

abbrev pub first : Program → ℕ → ℕ → ℕ → Running
first p heap frames words = record {
  program = p;
  state = first_state p (Some heap) (Some frames) (Some words);
  done = 0;
  live = true;
}

-- the machine is that of the classes whose files these are, which have the main object
pub record IsLoaded (m : Running) (files : List FileOut) (main : List ℕ) (heap frames words : ℕ) : Type 0 where
  pub classes : List ClassFile
  pub files_of : AreFilesOf classes files
  pub main_there : has_main classes (units_of main) ≡ true
  pub machine : m ≡ first (linked classes (units_of main)) heap frames words

-- the files are those of classes that don't have the main object
pub record HasNoMain (files : List FileOut) (main : List ℕ) : Type 0 where
  pub classes : List ClassFile
  pub files_of : AreFilesOf classes files
  pub main_missing : has_main classes (units_of main) ≡ false

-- there is a file with the number, and it is that of no class, for this cause
abbrev pub IsBad : ℕ → ClassRefusal → List FileOut → Type 0
IsBad n r files = IsSomeAnd (slice_get files n) (λ f. read_class f.bytes ≡ Err r)

-- what a fault in reading says of the file with the number, and of the files
abbrev pub IsFaultOf : LoadFault → ℕ → FileOut → Type 0
IsFaultOf (fault.Bad n r) number f = (n ≡ number) × (read_class f.bytes ≡ Err r)
IsFaultOf fault.NoMain number f = ⊥
IsFaultOf fault.NoMemory number f = Unit {0}

abbrev pub IsReadFault : LoadFault → List FileOut → Type 0
IsReadFault (fault.Bad n r) files = IsBad n r files
IsReadFault fault.NoMain files = ⊥
IsReadFault fault.NoMemory files = Unit {0}

-- what a refusal says of the files
abbrev pub Refuses : LoadFault → List FileOut → List ℕ → Type 0
Refuses (fault.Bad n r) files main = IsBad n r files
Refuses fault.NoMain files main = HasNoMain files main
Refuses fault.NoMemory files main = Unit {0}
