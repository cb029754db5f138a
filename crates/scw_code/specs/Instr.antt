-- The format of an instruction: JVMS 6.5, the opcode and what stands behind it.
use Rattle.std.specs.Prelude.{ℕ, suc, ◌-◌, ◌%◌, Bool, true, false, ℤ, pos, ◌-ℤ◌, Option, Some, None, List, [], length, Result, int_lt, int_le, unsigned_abs}
use Rattle.scw_code.specs.declared.fault.CodeFault.{CodeFault}
use Rattle.scw_code.specs.declared.instr.Instr.{Instr}
use Rattle.scw_code.specs.declared.instr.InstrArgs.{InstrArgs}
use Rattle.scw_code.specs.declared.instr.InstrArgs.TheVariants as args
use Rattle.scw_code.specs.declared.instr.LookupSwitch.{LookupSwitch}
use Rattle.scw_code.specs.declared.instr.Numbers.{Numbers}
use Rattle.scw_code.specs.declared.instr.Numbers.TheVariants.{Zero}
use Rattle.scw_code.specs.declared.instr.TableSwitch.{TableSwitch}
use Rattle.scw_code.specs.declared.layout.Layout.{Layout}
use Rattle.scw_code.specs.declared.layout.Shape.{Shape}
use Rattle.scw_code.specs.declared.layout.Shape.TheVariants as shape
use Rattle.scw_code.specs.Codec.{Codec, byte, s4, never, followed, seen_as, checked, padded, listed, bad_opcode, bad_switch, bad_widened}
use Rattle.scw_code.specs.Layout.{numbers, shape_at, wide_layout_at}

abbrev pub always : {A : Type 0} → A → Bool
always x = true

-- ---- switches

-- how many zeros stand behind the opcode of a switch at this place, so that its default is at a multiple of four
abbrev pub padding : ℕ → ℕ
padding at = 3 - at % 4

-- the high bound of a `tableswitch`, which isn't below the low one
abbrev pub high_above : ℤ → Codec ℤ
high_above low = checked (int_le low) bad_switch s4

-- how many numbers there are from `low` to `high`
abbrev pub span : ℤ → ℤ → ℕ
span low high = suc (unsigned_abs (high -ℤ low))

abbrev pub jumps : ℕ → Codec (List ℤ)
jumps = listed (λ _ _. true) s4

-- low, high, and a distance for each number between them
abbrev pub ranged : Codec (ℤ × (ℤ × List ℤ))
ranged = followed s4 (λ low. followed (high_above low) (λ high. jumps (span low high)))

-- default, and what stands behind it
abbrev pub table : Codec TableSwitch
table = seen_as (λ x. record { default = x.0; low = x.1.0; high = x.1.1.0; jumps = x.1.1.1 }) (λ t. (t.default, (t.low, (t.high, t.jumps)))) always
    (followed s4 (λ _. ranged))

abbrev pub pair : Codec (ℤ × ℤ)
pair = followed s4 (λ _. s4)

-- the key is above the one before it
abbrev pub rises : Option (ℤ × ℤ) → ℤ × ℤ → Bool
rises None p = true
rises (Some before) p = int_lt before.0 p.0

-- npairs, which isn't negative
abbrev pub pair_count : Codec ℤ
pair_count = checked (int_le (pos 0)) bad_switch s4

abbrev pub pairs : Codec (List (ℤ × ℤ))
pairs = seen_as (λ x. x.1) (λ ps. (pos (length ps), ps)) always (followed pair_count (λ n. listed rises pair (unsigned_abs n)))

-- default, npairs, and that many pairs
abbrev pub lookup : Codec LookupSwitch
lookup = seen_as (λ x. record { default = x.0; pairs = x.1 }) (λ t. (t.default, t.pairs)) always (followed s4 (λ _. pairs))

-- ---- `wide`

abbrev pub widened : ℕ → Option Layout → Codec Numbers
widened opcode None = never (bad_widened opcode)
widened opcode (Some l) = numbers l

-- a further opcode, and its operands
abbrev pub wide : Codec (ℕ × Numbers)
wide = followed byte (λ opcode. widened opcode (wide_layout_at opcode))

-- ---- the operands of each variant, and some where it is another variant

abbrev pub is_plain : InstrArgs → Bool
is_plain (args.Plain ns) = true
is_plain (args.Table t) = false
is_plain (args.Lookup t) = false
is_plain (args.Wide op ns) = false

abbrev pub numbers_of : InstrArgs → Numbers
numbers_of (args.Plain ns) = ns
numbers_of (args.Table t) = Zero
numbers_of (args.Lookup t) = Zero
numbers_of (args.Wide op ns) = ns

abbrev pub is_table : InstrArgs → Bool
is_table (args.Plain ns) = false
is_table (args.Table t) = true
is_table (args.Lookup t) = false
is_table (args.Wide op ns) = false

abbrev pub no_table : TableSwitch
no_table = record { default = pos 0; low = pos 0; high = pos 0; jumps = [] }

abbrev pub table_of : InstrArgs → TableSwitch
table_of (args.Plain ns) = no_table
table_of (args.Table t) = t
table_of (args.Lookup t) = no_table
table_of (args.Wide op ns) = no_table

abbrev pub is_lookup : InstrArgs → Bool
is_lookup (args.Plain ns) = false
is_lookup (args.Table t) = false
is_lookup (args.Lookup t) = true
is_lookup (args.Wide op ns) = false

abbrev pub no_lookup : LookupSwitch
no_lookup = record { default = pos 0; pairs = [] }

abbrev pub lookup_of : InstrArgs → LookupSwitch
lookup_of (args.Plain ns) = no_lookup
lookup_of (args.Table t) = no_lookup
lookup_of (args.Lookup t) = t
lookup_of (args.Wide op ns) = no_lookup

abbrev pub is_wide : InstrArgs → Bool
is_wide (args.Plain ns) = false
is_wide (args.Table t) = false
is_wide (args.Lookup t) = false
is_wide (args.Wide op ns) = true

abbrev pub wide_of : InstrArgs → ℕ × Numbers
wide_of (args.Plain ns) = (0, ns)
wide_of (args.Table t) = (0, Zero)
wide_of (args.Lookup t) = (0, Zero)
wide_of (args.Wide op ns) = (op, ns)

-- ---- instructions

-- what stands behind the opcode at the place
abbrev pub args_of : ℕ → ℕ → Option Shape → Codec InstrArgs
args_of at opcode None = never (bad_opcode opcode)
args_of at opcode (Some (shape.Plain l)) = seen_as args.Plain numbers_of is_plain (numbers l)
args_of at opcode (Some shape.Table) = seen_as args.Table table_of is_table (padded (padding at) table)
args_of at opcode (Some shape.Lookup) = seen_as args.Lookup lookup_of is_lookup (padded (padding at) lookup)
args_of at opcode (Some shape.Wide) = seen_as (λ x. args.Wide x.0 x.1) wide_of is_wide wide

-- the instruction whose opcode is at the place
abbrev pub instr : ℕ → Codec Instr
instr at = seen_as (λ x. record { op = x.0; args = x.1 }) (λ i. (i.op, i.args)) always (followed byte (λ opcode. args_of at opcode (shape_at opcode)))

-- the bytes of the instruction whose opcode is at the place
unfoldable pub instr_bytes : ℕ → Instr → List ℕ
instr_bytes at i = (instr at).spell i

-- the operands are those of the opcode, and each number fits its bytes
unfoldable pub instr_fits : Instr → Bool
instr_fits i = (instr 0).fits i

-- the instruction that the bytes begin with, which are the last ones of a code of so many bytes
unfoldable pub read_instr : ℕ → List ℕ → Result (Instr × List ℕ) CodeFault
read_instr end bytes = (instr (end - length bytes)).read (record { at = end - length bytes; end = end }) bytes
