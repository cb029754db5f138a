-- Which values are of an erased type: `isInstanceOf`, `asInstanceOf` (SLS 12.1), and what coercion does.
use Rattle.std.specs.Prelude.{ℕ, List, [], ◌∷◌, Bool, false, ◌||◌, Option, Some, None, length, slice_get, slice_set}
use Rattle.scw_text.specs.declared.number.SymId.{SymId}
use Rattle.scw_core.specs.declared.symbol.TheConstants.{ANY_REF, STRING, CLASS_CAST_EXCEPTION, ARRAY_INDEX_EXCEPTION, ARRAY_STORE_EXCEPTION}
use Rattle.scw_core.specs.declared.program.FunctionClass.{FunctionClass}
use Rattle.scw_core.specs.Types.{Erased, void, boolean, char, int, long, unit_ref, ref, arr, same_symbol, same_erased}
use Rattle.scw_core.specs.Program.{Table}
use Rattle.scw_core.specs.Erasure.{derives}
use Rattle.scw_core.specs.State.{Value, unit_v, boolean_v, char_v, int_v, long_v, null_v, string_v, ref_v, Thing, instance, array, function, by_name, cell, State, zero_of, is_null}
use Rattle.scw_core.specs.Frame.{Act, no_rule, give, by_bool, with_given}
use Rattle.scw_core.specs.Object.{throw_new, with_thing, in_range}

abbrev pub is_object : SymId → Bool
is_object c = same_symbol c ANY_REF

abbrev pub is_function_class : Table → SymId → Option FunctionClass → Bool
is_function_class p c None = false
is_function_class p c (Some f) = derives p f.class c

-- a function with so many parameters is of the class
abbrev pub function_is : Table → SymId → ℕ → Bool
function_is p c n = is_object c || is_function_class p c (slice_get p.prelude.functions n)

-- ---- arrays, which are Objects and covariant (JVMS 6.5, checkcast)

abbrev pub class_under : Table → SymId → Erased → Bool
class_under p a (ref b) = is_object b || derives p a b
class_under p a _ = false

-- an array is of the type, when its elements are of the type of its elements
abbrev pub array_under : (Erased → Bool) → Erased → Bool
array_under is (arr e) = is e
array_under is (ref c) = is_object c
array_under is _ = false

-- a boxed value or the value of Unit is an Object too
abbrev pub is_at_object : Erased → Bool
is_at_object (ref c) = is_object c
is_at_object _ = false

-- elements of the first type are of the second
unfoldable pub element_under : Table → Erased → Erased → Bool
element_under p (ref a) e = class_under p a e
element_under p (arr d) e = array_under (element_under p d) e
element_under p unit_ref e = same_erased unit_ref e || is_at_object e
element_under p d e = same_erased d e

-- ---- things

-- a thing is of the class
abbrev pub thing_is_class : Table → SymId → Thing → Bool
thing_is_class p c (instance d fields outers) = is_object c || derives p d c
thing_is_class p c (array e vs) = is_object c
thing_is_class p c (function name xs t env) = function_is p c (length xs)
thing_is_class p c (by_name t env) = function_is p c 0
thing_is_class p c (cell v) = is_object c

-- a thing is an array of such elements
abbrev pub thing_is_array : Table → Erased → Thing → Bool
thing_is_array p e (array d vs) = element_under p d e
thing_is_array p e _ = false

abbrev pub thing_is : Table → Erased → Thing → Bool
thing_is p (ref c) t = thing_is_class p c t
thing_is p (arr e) t = thing_is_array p e t
thing_is p _ t = false

abbrev pub found_is : Table → Erased → Option Thing → Bool
found_is p e None = false
found_is p e (Some t) = thing_is p e t

abbrev pub is_at_string : Erased → Bool
is_at_string (ref c) = is_object c || same_symbol c STRING
is_at_string _ = false

-- a value is of an erased type, one of a primitive type or Unit of Object too; null is of none
unfoldable pub value_is : Table → State → Erased → Value → Bool
value_is p s e unit_v = same_erased e unit_ref || is_at_object e
value_is p s e (boolean_v b) = same_erased e boolean || is_at_object e
value_is p s e (char_v n) = same_erased e char || is_at_object e
value_is p s e (int_v n) = same_erased e int || is_at_object e
value_is p s e (long_v n) = same_erased e long || is_at_object e
value_is p s e null_v = false
value_is p s e (string_v us) = is_at_string e
value_is p s e (ref_v r) = found_is p e (slice_get s.store r)

-- null at the type, which is 0 of a primitive one
abbrev pub null_at : Erased → Value
null_at void = null_v
null_at boolean = zero_of boolean
null_at char = zero_of char
null_at int = zero_of int
null_at long = zero_of long
null_at unit_ref = null_v
null_at (ref c) = null_v
null_at (arr e) = null_v

abbrev pub cast_thrown : Table → State → Act
cast_thrown p s = throw_new p CLASS_CAST_EXCEPTION null_v s

-- A value as one of the erased type: coercion, `asInstanceOf` and the taking out of a box
unfoldable pub coerced : Table → Erased → Value → State → Act
coerced p e v s = by_bool (is_null v) (give (null_at e) s) (by_bool (value_is p s e v) (give v s) (cast_thrown p s))

-- arguments in order, each as one of its parameter's type
unfoldable pub coerce_all : Table → List Erased → List Value → State → (List Value → State → Act) → Act
coerce_all p [] vs s f = f vs s
coerce_all p (e ∷ es) [] s f = f [] s
coerce_all p (e ∷ es) (v ∷ vs) s f = with_given (coerced p e v s) (λ w s'. coerce_all p es vs s' (λ ws s''. f (w ∷ ws) s''))

-- ---- storing into an array, which takes what its own elements can be

abbrev pub store_element : Table → ℕ → Value → State → ℕ → Erased → List Value → Act
store_element p i v s r e vs =
    by_bool (is_null v || value_is p s e v) (give unit_v (with_thing r (array e (slice_set vs i v)) s)) (throw_new p ARRAY_STORE_EXCEPTION null_v s)

abbrev pub array_set : Table → ℕ → Value → State → ℕ → Thing → Act
array_set p i v s r (array e vs) = in_range p ARRAY_INDEX_EXCEPTION (length vs) i s (store_element p i v s r e vs)
array_set p i v s r _ = no_rule
