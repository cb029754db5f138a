-- Instructions with an index of the pool: JVMS 5.4.3 and 6.5.
use Rattle.std.specs.Prelude.{ℕ, ℤ, pos, negsuc, ◌+◌, Bool, true, false, ◌&&◌, ◌||◌, List, Option, Some, None, nat_le, ◌==◌, if◌then◌else◌, position}
use Rattle.std.specs.Option.{option_map}
use Rattle.std.specs.Int.RustNames.{bit_and}
use Rattle.scw_classfile.specs.declared.class_file.ClassFile.{ClassFile}
use Rattle.scw_classfile.specs.declared.pool_entry.PoolEntry.{PoolEntry}
use Rattle.scw_classfile.specs.declared.pool_entry.PoolEntry.TheVariants as entry
use Rattle.scw_code.specs.declared.instr.Instr.{Instr}
use Rattle.scw_code.specs.declared.instr.InstrArgs.{InstrArgs}
use Rattle.scw_code.specs.declared.instr.InstrArgs.TheVariants as args
use Rattle.scw_code.specs.declared.instr.Numbers.{Numbers}
use Rattle.scw_code.specs.Layout.{first}
use Rattle.scw_frame.specs.declared.operation.Operation.{Operation}
use Rattle.scw_frame.specs.declared.operation.Operation.TheVariants as op
use Rattle.scw_frame.specs.declared.program.Target.{Target}
use Rattle.scw_frame.specs.declared.program.TypeNumber.{TypeNumber}
use Rattle.scw_frame.specs.declared.value.Value.TheVariants.{Int, Long}
use Rattle.scw_frame.specs.declared.value.ValueKind.{ValueKind}
use Rattle.scw_link.specs.declared.meaning.ByCall.{ByCall}
use Rattle.scw_link.specs.declared.meaning.ByCall.TheVariants as call
use Rattle.scw_link.specs.declared.meaning.ByClass.{ByClass}
use Rattle.scw_link.specs.declared.meaning.ByClass.TheVariants as class
use Rattle.scw_link.specs.declared.meaning.ByConstant.{ByConstant}
use Rattle.scw_link.specs.declared.meaning.ByConstant.TheVariants as constant
use Rattle.scw_link.specs.declared.meaning.ByField.{ByField}
use Rattle.scw_link.specs.declared.meaning.ByField.TheVariants as field
use Rattle.scw_link.specs.declared.meaning.ByNumber.{ByNumber}
use Rattle.scw_link.specs.declared.meaning.ByNumber.TheVariants as number
use Rattle.scw_link.specs.declared.meaning.Meaning.{Meaning}
use Rattle.scw_link.specs.declared.meaning.Meaning.TheVariants as meaning
use Rattle.scw_link.specs.declared.members.Place.{Place}
use Rattle.scw_link.specs.Classes.{class_number, file_of, superclasses}
use Rattle.scw_link.specs.Descriptor.{field_kind}
use Rattle.scw_link.specs.Meaning.{meaning_of}
use Rattle.scw_link.specs.Members.{target_in, static_in, place_in}
use Rattle.scw_link.specs.Names.{Named, and_then, at, class_name, field_ref, method_ref, same}
use Rattle.scw_link.specs.Numbers.{by_jump, by_number, or_undefined}
use Rattle.scw_link.specs.Site.{Selector, Site}
use Rattle.scw_link.specs.Types.{type_of}

-- the index that a number of an instruction is; a number below 0 is none
abbrev pub pool_index : ℤ → ℕ
pool_index (pos n) = n
pool_index (negsuc n) = 0

-- the number of the type or the text of an index of the file's pool
abbrev pub number_of : Site → ℕ → ℕ
number_of s n = s.before + n

-- ---- constants

abbrev pub one_constant : ℕ → Option PoolEntry → Operation
one_constant n (Some (entry.Integer b)) = op.Push (Int b)
one_constant n (Some (entry.Str k)) = op.PushText (record { 0 = n })
one_constant n _ = op.Undefined

abbrev pub long_constant : Option PoolEntry → Operation
long_constant (Some (entry.Long b)) = op.Push (Long b)
long_constant _ = op.Undefined

abbrev pub by_constant : ByConstant → Site → ℕ → Operation
by_constant constant.One s n = one_constant (number_of s n) (at s.pool n)
by_constant constant.Long s n = long_constant (at s.pool n)

-- ---- fields

-- the line of a class of a name
abbrev pub line_of : Site → List ℕ → Option (List ℕ)
line_of s name = option_map (superclasses s.parents) (class_number s.files name)

abbrev pub static_field : Site → Named → Option ℕ
static_field s n = and_then (line_of s n.class) (static_in s.files n.name n.descriptor)

abbrev pub instance_field : Site → Named → Option Place
instance_field s n = and_then (line_of s n.class) (place_in s.files n.name n.descriptor)

abbrev pub get_place : ValueKind → Place → Operation
get_place kind p = op.GetField (record { 0 = p.class }) p.field kind

abbrev pub put_place : ValueKind → Place → Operation
put_place kind p = op.PutField (record { 0 = p.class }) p.field kind

abbrev pub field_operation : ByField → Site → Named → ValueKind → Operation
field_operation field.GetStatic s n kind = or_undefined (option_map (λ k. op.GetStatic (record { 0 = k })) (static_field s n))
field_operation field.PutStatic s n kind = or_undefined (option_map (λ k. op.PutStatic (record { 0 = k })) (static_field s n))
field_operation field.Get s n kind = or_undefined (option_map (get_place kind) (instance_field s n))
field_operation field.Put s n kind = or_undefined (option_map (put_place kind) (instance_field s n))

-- a field that isn't a float
abbrev pub field_or_none : ByField → Site → Option Named → Option Operation
field_or_none f s None = None
field_or_none f s (Some n) = option_map (field_operation f s n) (field_kind n.descriptor)

abbrev pub by_field : ByField → Site → ℕ → Operation
by_field f s n = or_undefined (field_or_none f s (field_ref s.pool (at s.pool n)))

-- ---- calls

abbrev pub is_selector : List ℕ → List ℕ → Selector → Bool
is_selector name descriptor s = same s.name name && same s.descriptor descriptor

unfoldable pub selector_number : List Selector → List ℕ → List ℕ → Option ℕ
selector_number ss name descriptor = position (is_selector name descriptor) ss

abbrev pub target : Site → Bool → Named → Option Target
target s wants_static n = and_then (line_of s n.class) (target_in s.files wants_static n.name n.descriptor)

abbrev pub call_operation : ByCall → Site → Named → Operation
call_operation call.Virtual s n = or_undefined (option_map (λ k. op.CallVirtual (record { 0 = k })) (selector_number s.selectors n.name n.descriptor))
call_operation call.Special s n = or_undefined (option_map (λ t. op.CallSpecial t) (target s false n))
call_operation call.Static s n = or_undefined (option_map (λ t. op.CallStatic t) (target s true n))

abbrev pub by_call : ByCall → Site → ℕ → Operation
by_call c s n = or_undefined (option_map (call_operation c s) (method_ref s.pool (at s.pool n)))

-- ---- classes

-- a class that is no interface and not abstract: ACC_INTERFACE and ACC_ABSTRACT of JVMS 4.1
unfoldable pub is_concrete : ClassFile → Bool
is_concrete c = bit_and c.flags.0 0x0200 == 0 && bit_and c.flags.0 0x0400 == 0

abbrev pub file_is_made : ℕ → Option ClassFile → Bool
file_is_made c None = c == 0 || nat_le 8 c
file_is_made c (Some k) = is_concrete k

-- `new` makes objects of the class: of a class of a file, of Object, of Throwable and the exceptions
abbrev pub is_made : List ClassFile → ℕ → Bool
is_made files c = file_is_made c (file_of files c)

abbrev pub new_of : List ClassFile → ℕ → Option Operation
new_of files c = if is_made files c then Some (op.New (record { 0 = c })) else None

abbrev pub type_operation : ByClass → TypeNumber → Operation
type_operation class.New t = op.Undefined
type_operation class.NewReferences t = op.NewReferences t
type_operation class.CheckCast t = op.CheckCast t
type_operation class.InstanceOf t = op.InstanceOf t

abbrev pub by_type : ByClass → Site → ℕ → Operation
by_type c s n = or_undefined (option_map (λ t. type_operation c (record { 0 = number_of s n })) (type_of s.files s.pool (at s.pool n)))

abbrev pub by_class : ByClass → Site → ℕ → Operation
by_class class.New s n = or_undefined (and_then (and_then (class_name s.pool (at s.pool n)) (class_number s.files)) (new_of s.files))
by_class class.NewReferences s n = by_type class.NewReferences s n
by_class class.CheckCast s n = by_type class.CheckCast s n
by_class class.InstanceOf s n = by_type class.InstanceOf s n

-- ---- instructions

-- an instruction at a place, by the meaning of its opcode
abbrev pub by_meaning : Site → ℕ → Meaning → Numbers → Operation
by_meaning s place (meaning.Alone o) ns = o
by_meaning s place (meaning.Number n) ns = by_number n ns
by_meaning s place (meaning.Jump j) ns = by_jump j place ns
by_meaning s place (meaning.Constant c) ns = by_constant c s (pool_index (first ns))
by_meaning s place (meaning.Field f) ns = by_field f s (pool_index (first ns))
by_meaning s place (meaning.Call c) ns = by_call c s (pool_index (first ns))
by_meaning s place (meaning.Class c) ns = by_class c s (pool_index (first ns))

-- the instructions that `wide` goes before: JVMS 6.5, `wide`
abbrev pub widened_number : ByNumber → Numbers → Operation
widened_number number.Push ns = op.Undefined
widened_number (number.Load kind) ns = by_number (number.Load kind) ns
widened_number (number.Store kind) ns = by_number (number.Store kind) ns
widened_number number.Increment ns = by_number number.Increment ns
widened_number number.NewNumbers ns = op.Undefined

abbrev pub widened : Meaning → Numbers → Operation
widened (meaning.Alone o) ns = op.Undefined
widened (meaning.Number n) ns = widened_number n ns
widened (meaning.Jump j) ns = op.Undefined
widened (meaning.Constant c) ns = op.Undefined
widened (meaning.Field f) ns = op.Undefined
widened (meaning.Call c) ns = op.Undefined
widened (meaning.Class c) ns = op.Undefined

-- an instruction of a place, by its opcode and its operands; a switch has this number
abbrev pub by_args : Site → ℕ → ℕ → ℕ → InstrArgs → Operation
by_args s place switch opcode (args.Plain ns) = by_meaning s place (meaning_of opcode) ns
by_args s place switch opcode (args.Table t) = op.Switch (record { 0 = switch })
by_args s place switch opcode (args.Lookup t) = op.Switch (record { 0 = switch })
by_args s place switch opcode (args.Wide o ns) = widened (meaning_of o) ns

abbrev pub operation : Site → ℕ → ℕ → Instr → Operation
operation s place switch i = by_args s place switch i.op i.args
