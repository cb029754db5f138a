-- How many bytes instructions take: JVMS 6.5, the part "Format" of each.
use Rattle.std.specs.Prelude.{ℕ, ◌+◌, ◌-◌, ◌^◌, min, ℤ, pos, negsuc, int_le, nat_le, List, [], ◌∷◌, cond, ◌&&◌, Bool}
use Rattle.scw_gen.specs.declared.instr.Instr.{Instr}
use Rattle.scw_gen.specs.declared.instr.Instr.TheVariants as instr

-- the sum, or the largest number of 16 bits
abbrev pub plus : ℕ → ℕ → ℕ
plus a b = min (a + b) (2 ^ 16 - 1)

abbrev pub is_between : ℤ → ℤ → ℤ → Bool
is_between low high n = int_le low n && int_le n high

-- `iconst_<i>`, `bipush` and `sipush`
abbrev pub number_size : ℤ → ℕ
number_size n = cond (is_between (negsuc 0) (pos 5) n) 1 (cond (is_between (negsuc 127) (pos 127) n) 2 3)

-- a load or a store, by the local variable: the forms `<n>`, without and with `wide`
abbrev pub slot_size : ℕ → ℕ
slot_size n = cond (nat_le n 3) 1 (cond (nat_le n 255) 2 4)

abbrev pub size_of : Instr → ℕ
size_of (instr.Number n) = number_size n
size_of (instr.Constant c) = 2
size_of (instr.WideConstant c) = 3
size_of (instr.LongBit b) = 1
size_of (instr.LongConstant n) = 3
size_of (instr.Load w n) = slot_size n
size_of (instr.Store w n) = slot_size n
size_of (instr.Arithmetic w o) = 1
size_of (instr.Division w o) = 1
size_of instr.CompareLongs = 1
size_of instr.Pop = 1
size_of instr.PopTwo = 1
size_of instr.Dup = 1
size_of (instr.Branch operands c way) = 3
size_of (instr.Goto way) = 3
size_of (instr.FarGoto way) = 5
size_of (instr.Back way) = 3
size_of (instr.FarBack way) = 5
size_of (instr.Return w) = 1
size_of instr.ReturnNothing = 1
size_of (instr.Call m) = 3
size_of (instr.CallBuiltIn m) = 3
size_of instr.InitObject = 3
size_of instr.InitThis = 3
size_of instr.New = 3

unfoldable pub bytes_of : List Instr → ℕ
bytes_of [] = 0
bytes_of (i ∷ is) = size_of i + bytes_of is

-- how many bytes they take, or the largest number of 16 bits
unfoldable pub room_of : List Instr → ℕ
room_of is = min (bytes_of is) (2 ^ 16 - 1)
