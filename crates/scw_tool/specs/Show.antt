-- What a call with `dis FILE` came to.
use Rattle.std.specs.Prelude.{◌≡◌, ◌↔◌, ℕ, ◌≤◌, Bool, ◌||◌, List, length, Option, Some, None, IsSome, Result, Ok, Err, if◌then◌else◌, nat_lt, nat_eq, encode_utf8_all}
use Rattle.std.specs.Io.KnownBytes.{append_known}
use Rattle.scw_outside.specs.Content.{Files, HasName}
use Rattle.scw_outside.specs.Puts.{TookPart}
use Rattle.scw_classfile.specs.declared.class_file.ClassFile.{ClassFile}
use Rattle.scw_classfile.specs.declared.fault.ClassRefusal.{ClassRefusal}
use Rattle.scw_classfile.specs.ReadClass.{read_class, ClassBytes}
use Rattle.scw_dis.specs.Class.{text_of}
use Rattle.scw_tool.specs.declared.limit.TheConstants.{MOST_CLASS_BYTES}
use Rattle.scw_tool.specs.declared.words.Mode.TheVariants.{Dis}
use Rattle.scw_tool.specs.Edge.{Edge, HasRoom, IsServed}
use Rattle.scw_tool.specs.Read.{HasRead}

-- the bytes of the class's text
abbrev pub class_text : ClassFile → List ℕ
class_text c = encode_utf8_all (text_of c)

-- the longest class file
abbrev pub most_class : ℕ
most_class = MOST_CLASS_BYTES

abbrev pub refusal_in : Result ClassFile ClassRefusal → Option ClassRefusal
refusal_in (Ok c) = None
refusal_in (Err r) = Some r

-- why the bytes are no class file that is shown: the rule TooLong has the number 12
abbrev pub class_refusal : List ℕ → Option ClassRefusal
class_refusal bytes = if nat_lt most_class (length bytes) then Some (record { rule = 12; place = most_class }) else refusal_in (read_class bytes)

-- the file that the words name is this class, and no other
pub record IsClass (words : List (List ℕ)) (told : Option Files) (c : ClassFile) : Type 0 where
  pub source : List ℕ
  pub read : HasRead Dis words told source
  pub bytes : ClassBytes c source
  pub only : (d : ClassFile) → ClassBytes d source → d ≡ c
  pub taken : class_refusal source ≡ None

-- its text was put
pub record Shown (words : List (List ℕ)) (told : Option Files) (before now : Option (List ℕ)) : Type 0 where
  pub made : ClassFile
  pub is : IsClass words told made
  pub put : now ≡ append_known before (class_text made)

-- `out` failed: a front of it was taken
pub record ShownInPart (words : List (List ℕ)) (told : Option Files) (before now : Option (List ℕ)) : Type 0 where
  pub made : ClassFile
  pub is : IsClass words told made
  pub part : TookPart before now (class_text made)

-- the file that the words name is no class file, for this reason
pub record IsNoClass (words : List (List ℕ)) (told : Option Files) (r : ClassRefusal) : Type 0 where
  pub source : List ℕ
  pub read : HasRead Dis words told source
  pub refused : class_refusal source ≡ Some r

-- whether the bytes that were read were judged, by the status
abbrev pub is_judged_class : ℕ → Bool
is_judged_class s = nat_eq s 0 || nat_eq s 4 || nat_eq s 11

-- whether the bytes read were a class file was judged, and the status says it
pub record JudgedClass (words : List (List ℕ)) (told : Option Files) (s : ℕ) : Type 0 where
  pub source : List ℕ
  pub read : HasRead Dis words told source
  pub exact : (s ≡ 11) ↔ IsSome (class_refusal source)

-- the words name a file that the store tells and that is this class; the store serves, and there is room for the class's text
pub record IsReadyClass (e : Edge) (c : ClassFile) : Type 0 where
  pub source : List ℕ
  pub read : HasRead Dis e.words e.told source
  pub has : HasName e.told read.name
  pub served : IsServed e
  pub short : length source ≤ most_class
  pub bytes : ClassBytes c source
  pub room : HasRoom e (length (class_text c))
