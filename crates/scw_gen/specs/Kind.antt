-- What a value is to code: SLS 3.7 for the types of a source, JVMS 2.6 and 2.11.1 for the frames.
use Rattle.std.specs.Prelude.{ℕ, Bool, false, cond, ◌&&◌, Option, Some, None}
use Rattle.scw_text.specs.declared.number.SymId.{SymId}
use Rattle.scw_text.specs.declared.number.TypeId.{TypeId}
use Rattle.scw_core.specs.declared.symbol.TheConstants.{ARRAY, BOOLEAN, INT, LONG, STRING, UNIT}
use Rattle.scw_core.specs.Program.{Table, type_at}
use Rattle.scw_core.specs.Types as core
use Rattle.scw_core.specs.Types.{Plain, Plains, Path, Erased, CoreType, same_symbol}
use Rattle.scw_gen.specs.Outcome.{◌>>=◌}
use Rattle.scw_gen.specs.declared.kind.Kind.{Kind}
use Rattle.scw_gen.specs.declared.kind.Kind.TheVariants as kind
use Rattle.scw_gen.specs.declared.kind.Word.{Word}
use Rattle.scw_gen.specs.declared.kind.Word.TheVariants as word

-- how a value of the kind stands in a frame
abbrev pub word_of : Kind → Word
word_of kind.Unit = word.Reference
word_of kind.Boolean = word.Int
word_of kind.Int = word.Int
word_of kind.Long = word.Long
word_of kind.String = word.Reference
word_of kind.Strings = word.Reference
word_of kind.This = word.Reference

-- how many slots, and how many words of the stack, a value of the kind takes
abbrev pub width_of : Kind → ℕ
width_of kind.Unit = 1
width_of kind.Boolean = 1
width_of kind.Int = 1
width_of kind.Long = 2
width_of kind.String = 1
width_of kind.Strings = 1
width_of kind.This = 1

-- a class of references: of strings, or the object's own
abbrev pub kind_of_reference : SymId → SymId → Option Kind
kind_of_reference own c = cond (same_symbol c STRING) (Some kind.String) (cond (same_symbol c own) (Some kind.This) None)

abbrev pub kind_of_class : SymId → SymId → Option Kind
kind_of_class own c =
    cond (same_symbol c UNIT) (Some kind.Unit)
    (cond (same_symbol c BOOLEAN) (Some kind.Boolean)
    (cond (same_symbol c INT) (Some kind.Int)
    (cond (same_symbol c LONG) (Some kind.Long) (kind_of_reference own c))))

abbrev pub is_string_applied : SymId → Plains → Bool
is_string_applied c core.no_plains = same_symbol c STRING
is_string_applied c (core.more_plains t ts) = false

abbrev pub is_string : Plain → Bool
is_string (core.cls q c ts) = is_string_applied c ts
is_string _ = false

-- of an array with one type argument
abbrev pub kind_of_elements : SymId → Plain → Plains → Option Kind
kind_of_elements c t core.no_plains = cond (same_symbol c ARRAY && is_string t) (Some kind.Strings) None
kind_of_elements c t (core.more_plains u us) = None

abbrev pub kind_of_applied : SymId → SymId → Plains → Option Kind
kind_of_applied own c core.no_plains = kind_of_class own c
kind_of_applied own c (core.more_plains t ts) = kind_of_elements c t ts

abbrev pub kind_of_path : SymId → Path → Option Kind
kind_of_path own (core.object_path o) = kind_of_reference own o
kind_of_path own _ = None

abbrev pub kind_of_plain : SymId → Plain → Option Kind
kind_of_plain own (core.cls q c ts) = kind_of_applied own c ts
kind_of_plain own (core.sing q) = kind_of_path own q
kind_of_plain own _ = None

abbrev pub kind_of_element : Erased → Option Kind
kind_of_element (core.ref c) = cond (same_symbol c STRING) (Some kind.Strings) None
kind_of_element _ = None

abbrev pub kind_of_erased : SymId → Erased → Option Kind
kind_of_erased own core.void = Some kind.Unit
kind_of_erased own core.boolean = Some kind.Boolean
kind_of_erased own core.char = None
kind_of_erased own core.int = Some kind.Int
kind_of_erased own core.long = Some kind.Long
kind_of_erased own core.unit_ref = Some kind.Unit
kind_of_erased own (core.ref c) = kind_of_reference own c
kind_of_erased own (core.arr e) = kind_of_element e

-- that of a type, in the class
abbrev pub kind_of : SymId → CoreType → Option Kind
kind_of own (core.source_type t) = kind_of_plain own t
kind_of own (core.erased_type t) = kind_of_erased own t

abbrev pub kind_at : Table → SymId → TypeId → Option Kind
kind_at table own t = type_at table t >>= kind_of own
