-- The mnemonics of the opcodes: JVMS 6.5 and 7, by the table.
use Rattle.std.specs.Prelude.{ℕ, zero, suc, ◌==◌, Bool, List, [], ◌∷◌, slice_index, if◌then◌else◌, codes}
use Rattle.scw_code.specs.declared.opcode.TheConstants.{MNEMONICS}

abbrev pub is_space : ℕ → Bool
is_space c = c == slice_index (codes " ") 0

-- the word with the number, from 0, of words with a space between two of them
abbrev pub word : ℕ → List ℕ → List ℕ
word n [] = []
word zero (c ∷ cs) = if is_space c then [] else c ∷ word zero cs
word (suc n) (c ∷ cs) = if is_space c then word n cs else word (suc n) cs

-- the mnemonic of the opcode, or nothing where the table has no such opcode
unfoldable pub mnemonic : ℕ → List ℕ
mnemonic opcode = word opcode MNEMONICS.now
