-- Numbers, equality and texts of values (SLS 12.1, 12.2). Arithmetic is that of `scw_value`, which the machine computes
-- with too.
use Rattle.std.specs.Prelude.{ℕ, ◌-◌, ◌%◌, ◌^◌, List, [], ◌∷◌, Bool, true, false, not, ◌&&◌, ◌||◌, cond, Option, Some, None, unwrap_or, option_map, nat_eq, ℤ, pos, length, drop, take, codes}
use Rattle.std.specs.Int as bits
use Rattle.std.specs.Int.{w32, w64, cast_signed}
use Rattle.std.specs.Ordering.{int_eq}
use Rattle.scw_value.specs.Number.{modulus, computed, widened, narrowed}
use Rattle.scw_value.specs.Number as number
use Rattle.scw_value.specs.Text.{number_text}
use Rattle.scw_value.specs.declared.arithmetic.Arithmetic.TheVariants.{Subtract, Xor}
use Rattle.scw_value.specs.declared.conversion.Conversion.TheVariants.{IntToChar}
use Rattle.scw_core.specs.declared.operator.Literal.{Literal}
use Rattle.scw_core.specs.declared.operator.Literal.TheVariants as literal
use Rattle.scw_core.specs.declared.operator.Logic.{Logic}
use Rattle.scw_core.specs.declared.operator.Logic.TheVariants as logic
use Rattle.scw_core.specs.declared.operator.NumericType.{NumericType}
use Rattle.scw_core.specs.declared.operator.NumericType.TheVariants as numeric
use Rattle.scw_core.specs.declared.operator.Width.{Width}
use Rattle.scw_core.specs.declared.operator.Width.TheVariants as width
use Rattle.scw_core.specs.Program.{Table, text_at}
use Rattle.scw_core.specs.State.{Value, unit_v, boolean_v, char_v, int_v, long_v, null_v, string_v, ref_v, same_boolean, same_value, is_null}

-- ---- numbers

abbrev pub width_of : Width → bits.Width
width_of width.Int = w32
width_of width.Long = w64

abbrev pub value_of : Width → ℕ → Value
value_of width.Int n = int_v n
value_of width.Long n = long_v n

abbrev pub int_in : Value → Option ℕ
int_in (int_v n) = Some n
int_in _ = None

abbrev pub long_in : Value → Option ℕ
long_in (long_v n) = Some n
long_in _ = None

abbrev pub char_in : Value → Option ℕ
char_in (char_v n) = Some n
char_in _ = None

abbrev pub boolean_in : Value → Option Bool
boolean_in (boolean_v b) = Some b
boolean_in _ = None

-- the bits of a number of the width
abbrev pub bits_in : Width → Value → Option ℕ
bits_in width.Int v = int_in v
bits_in width.Long v = long_in v

abbrev pub numeric_in : NumericType → Value → Option ℕ
numeric_in numeric.Char v = char_in v
numeric_in numeric.Int v = int_in v
numeric_in numeric.Long v = long_in v

-- all bits turned round
abbrev pub complemented : Width → ℕ → ℕ
complemented w n = computed (width_of w) Xor n (modulus (width_of w) - 1)

-- `toChar`, `toInt`, `toLong` (SLS 12.2.1); a Char is an Int with the same bits
abbrev pub to_char : NumericType → ℕ → ℕ
to_char numeric.Char n = n
to_char numeric.Int n = number.converted IntToChar n
to_char numeric.Long n = number.converted IntToChar (narrowed n)

abbrev pub to_int : NumericType → ℕ → ℕ
to_int numeric.Char n = n
to_int numeric.Int n = n
to_int numeric.Long n = narrowed n

abbrev pub to_long : NumericType → ℕ → ℕ
to_long numeric.Char n = widened n
to_long numeric.Int n = widened n
to_long numeric.Long n = n

abbrev pub converted : NumericType → NumericType → ℕ → Value
converted from numeric.Char n = char_v (to_char from n)
converted from numeric.Int n = int_v (to_int from n)
converted from numeric.Long n = long_v (to_long from n)

abbrev pub logic_of : Logic → Bool → Bool → Bool
logic_of logic.And a b = a && b
logic_of logic.Or a b = a || b
logic_of logic.Xor a b = not (same_boolean a b)
logic_of logic.Equal a b = same_boolean a b
logic_of logic.NotEqual a b = not (same_boolean a b)

-- ---- `==`

-- the number that a value is
abbrev pub number_in : Value → Option ℤ
number_in (char_v n) = Some (pos n)
number_in (int_v n) = Some (cast_signed w32 n)
number_in (long_v n) = Some (cast_signed w64 n)
number_in _ = None

-- numbers of any two kinds are compared by value
abbrev pub equal_to_number : ℤ → Option ℤ → Bool
equal_to_number x None = false
equal_to_number x (Some y) = int_eq x y

-- Whether a value equals another one, or nothing where `equals` of the first decides. `equals` of a value that is no
-- reference holds of the same kind and contents.
abbrev pub equality : Value → Value → Option Bool
equality unit_v w = Some (same_value unit_v w)
equality (boolean_v b) w = Some (same_value (boolean_v b) w)
equality (char_v n) w = Some (equal_to_number (pos n) (number_in w))
equality (int_v n) w = Some (equal_to_number (cast_signed w32 n) (number_in w))
equality (long_v n) w = Some (equal_to_number (cast_signed w64 n) (number_in w))
equality null_v w = Some (is_null w)
equality (string_v us) w = Some (same_value (string_v us) w)
equality (ref_v r) w = None

-- ---- texts

abbrev pub boolean_text : Bool → List ℕ
boolean_text true = codes "true"
boolean_text false = codes "false"

-- the text of a value that is no reference
abbrev pub plain_text : Value → Option (List ℕ)
plain_text unit_v = Some (codes "()")
plain_text (boolean_v b) = Some (boolean_text b)
plain_text (char_v n) = Some (n ∷ [])
plain_text (int_v n) = Some (number_text (cast_signed w32 n))
plain_text (long_v n) = Some (number_text (cast_signed w64 n))
plain_text null_v = Some (codes "null")
plain_text (string_v us) = Some us
plain_text (ref_v r) = None

-- that of a string, which may be null
abbrev pub string_text : Value → Option (List ℕ)
string_text null_v = Some (codes "null")
string_text (string_v us) = Some us
string_text _ = None

-- a number of elements or units, wrapped to 32 bits
abbrev pub length_value : {A : Type 0} → List A → Value
length_value xs = int_v (length xs % 2 ^ 32)

-- an index, which is given by its bits, as a text
abbrev pub index_text : ℕ → List ℕ
index_text i = number_text (cast_signed w32 i)

-- the units from one place to another
abbrev pub part : ℕ → ℕ → List ℕ → List ℕ
part from to us = drop from (take to us)

-- the first unit less the unit at its place in the other text, where they differ; None where one text begins the other
unfoldable pub difference : List ℕ → List ℕ → Option ℕ
difference [] ys = None
difference (x ∷ xs) [] = None
difference (x ∷ xs) (y ∷ ys) = cond (nat_eq x y) (difference xs ys) (Some (computed w32 Subtract x y))

-- `compareTo`: else the first length less the second, by the bits of the Int
abbrev pub order : List ℕ → List ℕ → ℕ
order xs ys = unwrap_or (difference xs ys) (computed w32 Subtract (length xs % 2 ^ 32) (length ys % 2 ^ 32))

-- ---- literals

abbrev pub literal_value : Table → Literal → Option Value
literal_value p literal.Unit = Some unit_v
literal_value p (literal.Boolean b) = Some (boolean_v b)
literal_value p (literal.Char n) = Some (char_v n)
literal_value p (literal.Int n) = Some (int_v n)
literal_value p (literal.Long n) = Some (long_v n)
literal_value p literal.Null = Some null_v
literal_value p (literal.String t) = option_map string_v (text_at p t)
