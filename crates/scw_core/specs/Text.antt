-- The text of a thing that its class gives no other one: `toString` of the built-in classes, and what an exception tells.
use Rattle.std.specs.Prelude.{ℕ, ◌+◌, ◌-◌, ◌/◌, ◌%◌, List, [], ◌∷◌, ◌++◌, cond, Option, Some, None, unwrap_or, flat_map, map, nat_eq, nat_lt, codes}
use Rattle.scw_text.specs.declared.number.SymId.{SymId}
use Rattle.scw_core.specs.declared.symbol.TheConstants.{GET_MESSAGE}
use Rattle.scw_core.specs.declared.class.CoreClass.{CoreClass}
use Rattle.scw_core.specs.Types.{Name, Erased, void, boolean, char, int, long, unit_ref, ref, arr}
use Rattle.scw_core.specs.BuiltIn.{built_in_name}
use Rattle.scw_core.specs.Program.{Table, class_of, text_at, look}
use Rattle.scw_core.specs.State.{Value, string_v, Thing, instance, array, function, by_name, cell}

-- ---- names of classes

abbrev pub name_in : Option CoreClass → SymId → Name
name_in None c = built_in_name c
name_in (Some k) c = k.binary_name

unfoldable pub binary_name : Table → SymId → Name
binary_name p c = name_in (class_of p c) c

-- the UTF-16 units of a character (The Unicode Standard, 3.9)
abbrev pub units_of_character : ℕ → List ℕ
units_of_character c =
    cond (nat_lt c 0x1_0000) (c ∷ []) ((0xd800 + (c - 0x1_0000) / 0x400) ∷ (0xdc00 + (c - 0x1_0000) % 0x400) ∷ [])

abbrev pub units_of_name : Name → List ℕ
units_of_name cs = flat_map units_of_character cs

-- names are shown with `.` for the `/` of binary names (JVMS 4.2.1)
abbrev pub dotted : ℕ → ℕ
dotted u = cond (nat_eq u 0x2f) 0x2e u

-- the descriptor of a type (JVMS 4.3.2)
unfoldable pub descriptor : Table → Erased → List ℕ
descriptor p void = codes "V"
descriptor p boolean = codes "Z"
descriptor p char = codes "C"
descriptor p int = codes "I"
descriptor p long = codes "J"
descriptor p unit_ref = codes "Lscalaw/rt/Unit;"
descriptor p (ref c) = codes "L" ++ units_of_name (binary_name p c) ++ codes ";"
descriptor p (arr e) = codes "[" ++ descriptor p e

-- ---- exceptions

-- the message of an exception, which other objects have not
abbrev pub string_in : Value → Option (List ℕ)
string_in (string_v us) = Some us
string_in _ = None

abbrev pub message_of : Option Value → Option (List ℕ)
message_of None = None
message_of (Some v) = string_in v

unfoldable pub message_in : List (SymId × Value) → Option (List ℕ)
message_in fields = message_of (look fields GET_MESSAGE)

abbrev pub with_message : List ℕ → Option (List ℕ) → List ℕ
with_message name None = name
with_message name (Some us) = name ++ codes ": " ++ us

-- ---- things

abbrev pub thing_text : Table → Thing → List ℕ
thing_text p (instance c fields outers) = with_message (map dotted (units_of_name (binary_name p c))) (message_in fields)
thing_text p (array e vs) = map dotted (descriptor p (arr e))
thing_text p (function name xs t env) = map dotted (unwrap_or (text_at p name) [])
thing_text p (by_name t env) = []
thing_text p (cell v) = []
