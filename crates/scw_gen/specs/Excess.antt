-- What of a class doesn't fit a class file: JVMS 4.11, and 4.3.3 for parameters.
use Rattle.std.specs.Prelude.{ℕ, ◌-◌, ◌^◌, min, List, [], ◌∷◌, cond, nat_le, length, Option, Some, None}
use Rattle.scw_text.specs.Modified.{modified}
use Rattle.scw_classfile.specs.declared.pool_entry.PoolEntry.{PoolEntry}
use Rattle.scw_classfile.specs.declared.pool_entry.PoolEntry.TheVariants as pool
use Rattle.scw_gen.specs.Instr.{bytes_of}
use Rattle.scw_gen.specs.Method.{Method}
use Rattle.scw_gen.specs.declared.excess.Excess.{Excess}
use Rattle.scw_gen.specs.declared.excess.TheConstants.{MAX_ARGUMENTS, MAX_POOL, MAX_SHORT}
use Rattle.scw_gen.specs.declared.fault.LargeKind.{LargeKind}
use Rattle.scw_gen.specs.declared.fault.LargeKind.TheVariants as large

-- the first of two, if it is there
abbrev pub or_else : Option Excess → Option Excess → Option Excess
or_else None b = b
or_else (Some a) b = Some a

abbrev pub above : LargeKind → ℕ → ℕ → Option Excess
above kind limit number = cond (nat_le number limit) None (Some (record { kind = kind; number = number }))

-- bytes are counted up to the largest number of 64 bits
abbrev pub code_of_method : Method → Option Excess
code_of_method m = above large.Code MAX_SHORT (min (bytes_of m.instrs) (2 ^ 64 - 1))

abbrev pub code_excess : List Method → Option Excess
code_excess [] = None
code_excess (m ∷ ms) = or_else (code_of_method m) (code_excess ms)

abbrev pub slots_of_method : Method → Option Excess
slots_of_method m = or_else (above large.Slots MAX_ARGUMENTS m.arguments) (or_else (above large.Slots MAX_SHORT m.locals) (above large.Slots MAX_SHORT m.stack))

abbrev pub slots_excess : List Method → Option Excess
slots_excess [] = None
slots_excess (m ∷ ms) = or_else (slots_of_method m) (slots_excess ms)

abbrev pub text_excess_of : List ℕ → Option Excess
text_excess_of text = above large.Descriptor MAX_SHORT (length (modified text))

abbrev pub entry_excess : PoolEntry → Option Excess
entry_excess (pool.Utf8 text) = text_excess_of text
entry_excess _ = None

abbrev pub text_excess : List PoolEntry → Option Excess
text_excess [] = None
text_excess (e ∷ es) = or_else (entry_excess e) (text_excess es)

abbrev pub number_excess : List PoolEntry → List Method → Option Excess
number_excess p ms = or_else (code_excess ms) (or_else (above large.Pool MAX_POOL (length p)) (or_else (above large.Methods MAX_SHORT (length ms)) (slots_excess ms)))

-- the first in the order of the kinds, of the first method or text that has it
abbrev pub excess_of : List PoolEntry → List Method → Option Excess
excess_of p ms = or_else (number_excess p ms) (text_excess p)
