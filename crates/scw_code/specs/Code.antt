-- The code of a method: JVMS 4.7.3 and 6, instructions one after another from place 0.
use Rattle.std.specs.Prelude.{◌≡◌, ℕ, zero, suc, ◌+◌, Bool, IsTrue, Some, None, List, [], ◌∷◌, ◌++◌, length, Result, Ok, Err}
use Rattle.std.specs.List.{list_all}
use Rattle.scw_code.specs.declared.decoding.Decoded.{Decoded}
use Rattle.scw_code.specs.declared.fault.CodeFault.{CodeFault}
use Rattle.scw_code.specs.declared.fault.CodeFault.TheVariants.{BadOpcode, BadSwitch, Cut, NoMemory}
use Rattle.scw_code.specs.declared.instr.Instr.{Instr}
use Rattle.scw_code.specs.Instr.{instr_bytes, instr_fits, read_instr}

-- how many bytes the instruction takes whose opcode is at the place
abbrev pub size_at : ℕ → Instr → ℕ
size_at at i = length (instr_bytes at i)

-- the bytes of the instructions, the first of which is at the place
abbrev pub code_bytes_from : ℕ → List Instr → List ℕ
code_bytes_from at [] = []
code_bytes_from at (i ∷ is) = instr_bytes at i ++ code_bytes_from (at + size_at at i) is

abbrev pub code_bytes : List Instr → List ℕ
code_bytes is = code_bytes_from 0 is

abbrev pub code_fits : List Instr → Bool
code_fits = list_all instr_fits

-- the bytes are those of the instructions
abbrev pub IsCode : List Instr → List ℕ → Type 0
IsCode is bytes = IsTrue (code_fits is) × (bytes ≡ code_bytes is)

-- ---- reading

-- nothing is left
abbrev pub nothing_left : Decoded
nothing_left = record { instrs = []; fault = None }

-- these instructions stand before what is read
abbrev pub with_front : List Instr → Decoded → Decoded
with_front is d = record { instrs = is ++ d.instrs; fault = d.fault }

-- an instruction and what is read behind it, or the fault
abbrev pub after_instr : (List ℕ → Decoded) → Result (Instr × List ℕ) CodeFault → Decoded
after_instr go (Ok x) = with_front (x.0 ∷ []) (go x.1)
after_instr go (Err fault) = record { instrs = []; fault = Some fault }

-- the last bytes of a code of `end` bytes; the first number is at least how many instructions they hold
unfoldable pub decoded_from : ℕ → ℕ → List ℕ → Decoded
decoded_from zero end bytes = nothing_left
decoded_from (suc n) end [] = nothing_left
decoded_from (suc n) end (b ∷ bs) = after_instr (decoded_from n end) (read_instr end (b ∷ bs))

-- the instructions that can be read from the front, and the fault at which the reading stops
unfoldable pub decoded : List ℕ → Decoded
decoded bytes = decoded_from (length bytes) (length bytes) bytes

-- ---- answers

-- the answer is what was read, unless memory ran out
abbrev pub Says : Result (List Instr) CodeFault → Decoded → Type 0
Says (Ok is) d = d ≡ record { instrs = is; fault = None }
Says (Err (BadOpcode at byte)) d = d.fault ≡ Some (BadOpcode at byte)
Says (Err (BadSwitch at)) d = d.fault ≡ Some (BadSwitch at)
Says (Err (Cut at)) d = d.fault ≡ Some (Cut at)
Says (Err NoMemory) d = Unit {0}

-- the answer is the instructions, unless memory ran out
abbrev pub IsOkOrNoMemory : Result (List Instr) CodeFault → List Instr → Type 0
IsOkOrNoMemory (Ok is) want = is ≡ want
IsOkOrNoMemory (Err (BadOpcode at byte)) want = ⊥
IsOkOrNoMemory (Err (BadSwitch at)) want = ⊥
IsOkOrNoMemory (Err (Cut at)) want = ⊥
IsOkOrNoMemory (Err NoMemory) want = Unit {0}
