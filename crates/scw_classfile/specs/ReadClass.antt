-- Bytes that are one class file, to their end: JVMS 4.1 and 4.8. A fault's place is the file's length
-- less the bytes that are left where it is seen.
use Rattle.std.specs.Prelude.{◌≡◌, ℕ, ◌-◌, ◌^◌, List, length, min, Result, Ok, Err}
use Rattle.scw_classfile.specs.declared.class_file.ClassFile.{ClassFile}
use Rattle.scw_classfile.specs.declared.fault.ClassFault.{ClassFault}
use Rattle.scw_classfile.specs.declared.fault.ClassFault.TheVariants.{Bad, NoMemory}
use Rattle.scw_classfile.specs.declared.fault.ClassRefusal.{ClassRefusal}
use Rattle.scw_classfile.specs.declared.fault.Fault.{Fault}
use Rattle.scw_classfile.specs.ClassRule.{number_of}
use Rattle.scw_classfile.specs.Codec.{Fits, whole}
use Rattle.scw_classfile.specs.Format.{class}

-- the class can be written: its numbers and counts fit their fields, and its version, pool, indices,
-- texts, descriptors, attributes and code break no rule
abbrev pub IsWritable : ClassFile → Type 0
IsWritable c = Fits class c

-- the bytes are those of the class
abbrev pub ClassBytes : ClassFile → List ℕ → Type 0
ClassBytes c bytes = IsWritable c × (bytes ≡ class.spell c)

-- the fault in a file of so many bytes, as it is reported
abbrev pub refusal_of : ℕ → Fault → ClassRefusal
refusal_of size f = record { rule = number_of f.rule; place = min (size - f.left) (2 ^ 32 - 1) }

abbrev pub reported : ℕ → Result ClassFile Fault → Result ClassFile ClassRefusal
reported size (Ok c) = Ok c
reported size (Err f) = Err (refusal_of size f)

-- the class that the bytes hold, or the first fault
unfoldable pub read_class : List ℕ → Result ClassFile ClassRefusal
read_class bytes = reported (length bytes) (whole class.read bytes)

-- the answer is what is read, unless memory ran out
abbrev pub Reads : Result ClassFile ClassFault → Result ClassFile ClassRefusal → Type 0
Reads (Ok c) read = read ≡ Ok c
Reads (Err (Bad r)) read = read ≡ Err r
Reads (Err NoMemory) read = Unit {0}

-- the answer is the class, unless memory ran out
abbrev pub IsOkOrNoMemory : Result ClassFile ClassFault → ClassFile → Type 0
IsOkOrNoMemory (Ok d) c = d ≡ c
IsOkOrNoMemory (Err (Bad r)) c = ⊥
IsOkOrNoMemory (Err NoMemory) c = Unit {0}

-- the refusal has the property, if there is one
abbrev pub IfBad : Result ClassFile ClassFault → (ClassRefusal → Type 0) → Type 0
IfBad (Ok c) P = Unit {0}
IfBad (Err (Bad r)) P = P r
IfBad (Err NoMemory) P = Unit {0}
