-- The methods of the files, their switches and the static fields: JVMS 4.5, 4.6 and 4.7.3.
use Rattle.std.specs.Prelude.{ℕ, ◌+◌, Bool, true, false, List, [], ◌∷◌, ◌++◌, map, length, sum_by, Option, Some, None, unwrap_or, if◌then◌else◌}
use Rattle.std.specs.List.{flat_map}
use Rattle.scw_classfile.specs.declared.class_file.ClassFile.{ClassFile}
use Rattle.scw_classfile.specs.declared.class_file.Code.{Code, out-Code}
use Rattle.scw_classfile.specs.declared.class_file.MemberInfo.{MemberInfo}
use Rattle.scw_classfile.specs.declared.pool_entry.PoolEntry.{PoolEntry}
use Rattle.scw_code.specs.declared.instr.Instr.{Instr}
use Rattle.scw_frame.specs.declared.program.Method.{Method}
use Rattle.scw_frame.specs.declared.program.Origin.{Origin}
use Rattle.scw_frame.specs.declared.program.Switch.{Switch}
use Rattle.scw_frame.specs.declared.value.ValueKind.{ValueKind}
use Rattle.scw_frame.specs.declared.value.ValueKind.TheVariants as kind
use Rattle.scw_link.specs.Classes.{is_static}
use Rattle.scw_link.specs.Code.{code_from, guard_of, switch_count, switches_from}
use Rattle.scw_link.specs.Descriptor.{kind_of, parameter_kinds}
use Rattle.scw_link.specs.Members.{code_of}
use Rattle.scw_link.specs.Names.{at, utf8}
use Rattle.scw_link.specs.Site.{Selector, Site}
use Rattle.scw_link.specs.Sizes.{before_methods, method_size, start_of}

-- ---- one method

abbrev pub descriptor_of : List PoolEntry → MemberInfo → List ℕ
descriptor_of p m = unwrap_or (utf8 (at p m.descriptor)) []

-- the object of an instance method
abbrev pub receiver : Bool → List ValueKind
receiver true = []
receiver false = kind.Reference ∷ []

abbrev pub arguments_of : List PoolEntry → MemberInfo → List ValueKind
arguments_of p m = receiver (is_static m) ++ parameter_kinds (descriptor_of p m)

-- a method whose first switch has this number; one without code has no instruction
abbrev pub with_code : Site → Origin → List ValueKind → ℕ → Option Code → Method
with_code s o ks number None = record { origin = o; arguments = ks; stack = 0; locals = 0; code = []; guards = [] }
with_code s o ks number (Some c) = record { origin = o; arguments = ks; stack = (out-Code c).stack; locals = (out-Code c).locals; code = code_from s 0 number (out-Code c).code; guards = map (guard_of s) (out-Code c).handlers }

abbrev pub origin : ℕ → ℕ → ℕ → Origin
origin k n start = record { file = k; method = n; start = start }

-- method n of file k, which stands at the place of the file
abbrev pub method_of : Site → ℕ → ℕ → ℕ → ℕ → MemberInfo → Method
method_of s k n place number m = with_code s (origin k n (start_of place m)) (arguments_of s.pool m) number (code_of m)

abbrev pub instrs_in : Option Code → List Instr
instrs_in None = []
instrs_in (Some c) = (out-Code c).code

abbrev pub instrs_of : MemberInfo → List Instr
instrs_of m = instrs_in (code_of m)

-- ---- all methods

-- the methods of file k from method n on, which stands at the place; the first switch has this number
abbrev pub methods_from : Site → ℕ → ℕ → ℕ → ℕ → List MemberInfo → List Method
methods_from s k n place number [] = []
methods_from s k n place number (m ∷ ms) =
    method_of s k n place number m ∷ methods_from s k (n + 1) (place + method_size m) (number + switch_count (instrs_of m)) ms

abbrev pub file_switches : ClassFile → ℕ
file_switches c = sum_by (λ m. switch_count (instrs_of m)) c.methods

-- where file k is resolved
abbrev pub site_of : List ClassFile → List (Option ℕ) → List Selector → ℕ → ClassFile → Site
site_of files parents selectors before c = record { files = files; parents = parents; selectors = selectors; pool = c.pool; before = before }

-- the methods of the files from file k on, before which there are so many pool entries and so many switches
abbrev pub file_methods : List ClassFile → List (Option ℕ) → List Selector → ℕ → ℕ → ℕ → List ClassFile → List Method
file_methods files parents selectors k before number [] = []
file_methods files parents selectors k before number (c ∷ cs) =
    methods_from (site_of files parents selectors before c) k 0 (before_methods c) number c.methods
    ++ file_methods files parents selectors (k + 1) (before + length c.pool) (number + file_switches c) cs

-- ---- switches and static fields

abbrev pub method_switches : MemberInfo → List Switch
method_switches m = switches_from 0 (instrs_of m)

abbrev pub switches_of_file : ClassFile → List Switch
switches_of_file c = flat_map method_switches c.methods

abbrev pub switches_of : List ClassFile → List Switch
switches_of files = flat_map switches_of_file files

abbrev pub statics_in : List PoolEntry → List MemberInfo → List ValueKind
statics_in p [] = []
statics_in p (m ∷ ms) = if is_static m then kind_of (descriptor_of p m) ∷ statics_in p ms else statics_in p ms

-- the kinds of the static fields
abbrev pub statics_of : List ClassFile → List ValueKind
statics_of files = flat_map (λ c. statics_in c.pool c.fields) files
