-- Instructions with numbers or a distance: JVMS 6.5.
use Rattle.std.specs.Prelude.{ℕ, ℤ, pos, negsuc, ◌+ℤ◌, Option, Some, None, nat_lt, ◌==◌, if◌then◌else◌}
use Rattle.std.specs.Option.{option_map}
use Rattle.std.specs.Int.{w32, cast_unsigned}
use Rattle.scw_code.specs.declared.instr.Numbers.{Numbers}
use Rattle.scw_code.specs.Layout.{first, second}
use Rattle.scw_frame.specs.declared.operation.Operation.{Operation}
use Rattle.scw_frame.specs.declared.operation.Operation.TheVariants as op
use Rattle.scw_frame.specs.declared.operation.Primitive.TheVariants as primitive
use Rattle.scw_frame.specs.declared.value.Value.TheVariants.{Int}
use Rattle.scw_link.specs.declared.meaning.ByNumber.{ByNumber}
use Rattle.scw_link.specs.declared.meaning.ByNumber.TheVariants as number
use Rattle.scw_link.specs.declared.meaning.ByJump.{ByJump}
use Rattle.scw_link.specs.declared.meaning.ByJump.TheVariants as jump

abbrev pub or_undefined : Option Operation → Operation
or_undefined None = op.Undefined
or_undefined (Some o) = o

-- a number of two bytes
abbrev pub two_bytes : ℤ → Option ℕ
two_bytes (pos n) = if nat_lt n 65536 then Some n else None
two_bytes (negsuc n) = None

-- the bits of a number in two's complement
abbrev pub bits : ℤ → ℕ
bits n = cast_unsigned w32 n

-- the types of elements that the machine makes arrays of: JVMS table 6.5.newarray-A
abbrev pub element_type : ℕ → Operation
element_type n =
    if n == 4 then op.NewNumbers primitive.Boolean
    else if n == 5 then op.NewNumbers primitive.Char
    else if n == 10 then op.NewNumbers primitive.Int
    else if n == 11 then op.NewNumbers primitive.Long
    else op.Undefined

abbrev pub new_numbers : Option ℕ → Operation
new_numbers None = op.Undefined
new_numbers (Some n) = element_type n

abbrev pub by_number : ByNumber → Numbers → Operation
by_number number.Push ns = op.Push (Int (bits (first ns)))
by_number (number.Load kind) ns = or_undefined (option_map (λ n. op.Load kind n) (two_bytes (first ns)))
by_number (number.Store kind) ns = or_undefined (option_map (λ n. op.Store kind n) (two_bytes (first ns)))
by_number number.Increment ns = or_undefined (option_map (λ n. op.Increment n (bits (second ns))) (two_bytes (first ns)))
by_number number.NewNumbers ns = new_numbers (two_bytes (first ns))

-- ---- jumps

-- the place at a distance from another, if it has two bytes
abbrev pub place_at : ℕ → ℤ → Option ℕ
place_at at distance = two_bytes (pos at +ℤ distance)

abbrev pub jump_to : ByJump → ℕ → Operation
jump_to jump.Always to = op.Jump to
jump_to (jump.IfZero c) to = op.JumpIfZero c to
jump_to (jump.IfInts c) to = op.JumpIfInts c to
jump_to (jump.IfSame same) to = op.JumpIfSame same to
jump_to (jump.IfNull null) to = op.JumpIfNull null to

-- a jump from a place
abbrev pub by_jump : ByJump → ℕ → Numbers → Operation
by_jump j at ns = or_undefined (option_map (jump_to j) (place_at at (first ns)))
