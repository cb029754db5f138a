-- What an operator does with the values of its operands.
use Rattle.std.specs.Prelude.{ℕ, ◌^◌, List, [], ◌∷◌, ◌++◌, Bool, true, false, not, ◌&&◌, ◌||◌, Option, Some, None, nat_eq, nat_lt, nat_le, length, slice_get, codes}
use Rattle.scw_text.specs.declared.number.SymId.{SymId}
use Rattle.scw_value.specs.Number as number
use Rattle.scw_value.specs.Text.{utf8}
use Rattle.scw_core.specs.declared.symbol.TheConstants.{ARITHMETIC_EXCEPTION, STRING_INDEX_EXCEPTION, EQUALS, TO_STRING}
use Rattle.scw_core.specs.declared.operator.Op.{Op}
use Rattle.scw_core.specs.declared.operator.Op.TheVariants as op
use Rattle.scw_core.specs.declared.operator.Primitive.{Primitive}
use Rattle.scw_core.specs.declared.operator.Primitive.TheVariants as prim
use Rattle.scw_core.specs.declared.operator.RunMethod.{RunMethod}
use Rattle.scw_core.specs.declared.operator.RunMethod.TheVariants.{Print}
use Rattle.scw_core.specs.Program.{Table, Program}
use Rattle.scw_core.specs.Erasure.{erased}
use Rattle.scw_core.specs.State.{Value, unit_v, boolean_v, char_v, int_v, null_v, string_v, Env, State, cell, read_slot, write_slot, static_at, same_value, is_null}
use Rattle.scw_core.specs.Number.{width_of, value_of, int_in, boolean_in, bits_in, numeric_in, complemented, converted, logic_of, equality, plain_text, string_text, index_text, length_value, part, order, literal_value}
use Rattle.scw_core.specs.Frame.{Wait, negating, text_first, text_second, throws, exits, wrote, Act, done, noting, no_rule, give, or_no_rule, by_bool, under, none_of, one_of, two_of, three_of, some_of}
use Rattle.scw_core.specs.Object.{make, give_string, throw_new, null_thrown, at_reference, get_field, set_field, in_range, array_get, array_length, array_new, cell_get, cell_set}
use Rattle.scw_core.specs.TypeTest.{value_is, coerced, array_set}
use Rattle.scw_core.specs.Call.{call_on, direct_on, super_on, static_on}
use Rattle.scw_core.specs.Create.{new_object, new_inner, get_module, force_thing}

-- ---- `==` and `!=` (SLS 12.1)

abbrev pub turned : Bool → Bool → Bool
turned false b = b
turned true b = not b

abbrev pub answer_turned : Value → State → Act
answer_turned v s = or_no_rule (boolean_in v) (λ b. give (boolean_v (not b)) s)

-- `equals` of the first value decides
abbrev pub ask_equals : Program → Bool → Value → Value → State → Act
ask_equals p false a b s = call_on p EQUALS a (b ∷ []) s
ask_equals p true a b s = under (call_on p EQUALS a (b ∷ []) s) negating answer_turned

abbrev pub equal_or_ask : Program → Bool → Value → Value → State → Option Bool → Act
equal_or_ask p turn a b s None = ask_equals p turn a b s
equal_or_ask p turn a b s (Some r) = give (boolean_v (turned turn r)) s

unfoldable pub equal_act : Program → Bool → Value → Value → State → Act
equal_act p turn a b s = equal_or_ask p turn a b s (equality a b)

-- ---- concatenation (SLS 12.3.1): the text of the first value, then that of the second

abbrev pub text_given : (List ℕ → State → Act) → Value → State → Act
text_given go v s = or_no_rule (string_text v) (λ us. go us s)

-- `toString` of a reference gives its text
abbrev pub text_or_ask : Program → Value → State → Wait → (List ℕ → State → Act) → Option (List ℕ) → Act
text_or_ask p v s w go None = under (call_on p TO_STRING v [] s) w (text_given go)
text_or_ask p v s w go (Some us) = go us s

unfoldable pub text_act : Program → Value → State → Wait → (List ℕ → State → Act) → Act
text_act p v s w go = text_or_ask p v s w go (plain_text v)

abbrev pub joined : List ℕ → List ℕ → State → Act
joined us ws s = give_string (us ++ ws) s

unfoldable pub concat_second : Program → Value → List ℕ → State → Act
concat_second p b us s = text_act p b s (text_second us) (joined us)

unfoldable pub concat_act : Program → Value → Value → State → Act
concat_act p a b s = text_act p a s (text_first b) (concat_second p b)

-- ---- strings (SLS 12.3.1)

-- the text of a string; null throws
abbrev pub on_text : Table → Value → State → (List ℕ → Act) → Act
on_text p (string_v us) s f = f us
on_text p null_v s f = null_thrown p s
on_text p _ s f = no_rule

abbrev pub on_int : Value → (ℕ → Act) → Act
on_int v f = or_no_rule (int_in v) f

abbrev pub on_boolean : Value → (Bool → Act) → Act
on_boolean v f = or_no_rule (boolean_in v) f

abbrev pub is_negative : ℕ → Bool
is_negative n = nat_le (2 ^ 31) n

abbrev pub throw_at : Table → ℕ → State → Act
throw_at p i s = throw_new p STRING_INDEX_EXCEPTION (string_v (index_text i)) s

-- Both places are given by their bits, and the first that isn't one is the one that the exception names.
unfoldable pub substring : Table → List ℕ → ℕ → ℕ → State → Act
substring p us a b s =
    by_bool (is_negative a) (throw_at p a s)
    (by_bool (not (is_negative b) && nat_lt (length us) b) (throw_at p b s)
    (by_bool (is_negative b || nat_lt b a) (throw_at p a s) (give_string (part a b us) s)))

-- ---- operators of the built-in types

abbrev pub divide : Table → Act → ℕ → State → Act
divide p a divisor s = by_bool (nat_eq divisor 0) (throw_new p ARITHMETIC_EXCEPTION (string_v (codes "/ by zero")) s) a

unfoldable pub primitive_act : Program → Primitive → List Value → State → Act
primitive_act p (prim.Arithmetic w o) vs s =
    two_of vs (λ a b. or_no_rule (bits_in w a) (λ m. or_no_rule (bits_in w b) (λ n. give (value_of w (number.computed (width_of w) o m n)) s)))
primitive_act p (prim.Division w o) vs s =
    two_of vs (λ a b. or_no_rule (bits_in w a) (λ m. or_no_rule (bits_in w b) (λ n.
    divide p.table (give (value_of w (number.divided (width_of w) o m n)) s) n s)))
primitive_act p (prim.Shift w v o) vs s =
    two_of vs (λ a b. or_no_rule (bits_in w a) (λ m. or_no_rule (bits_in v b) (λ n. give (value_of w (number.shifted (width_of w) o m n)) s)))
primitive_act p (prim.Comparison w o) vs s =
    two_of vs (λ a b. or_no_rule (bits_in w a) (λ m. or_no_rule (bits_in w b) (λ n. give (boolean_v (number.compared (width_of w) o m n)) s)))
primitive_act p (prim.Negate w) vs s = one_of vs (λ a. or_no_rule (bits_in w a) (λ m. give (value_of w (number.negated (width_of w) m)) s))
primitive_act p (prim.Complement w) vs s = one_of vs (λ a. or_no_rule (bits_in w a) (λ m. give (value_of w (complemented w m)) s))
primitive_act p (prim.Convert v w) vs s = one_of vs (λ a. or_no_rule (numeric_in v a) (λ m. give (converted v w m) s))
primitive_act p prim.Not vs s = one_of vs (λ a. on_boolean a (λ x. give (boolean_v (not x)) s))
primitive_act p (prim.Logic o) vs s = two_of vs (λ a b. on_boolean a (λ x. on_boolean b (λ y. give (boolean_v (logic_of o x y)) s)))
primitive_act p prim.Concatenate vs s = two_of vs (λ a b. concat_act p a b s)
primitive_act p prim.Equal vs s = two_of vs (λ a b. equal_act p false a b s)
primitive_act p prim.NotEqual vs s = two_of vs (λ a b. equal_act p true a b s)
primitive_act p prim.Same vs s = two_of vs (λ a b. give (boolean_v (same_value a b)) s)
primitive_act p prim.NotSame vs s = two_of vs (λ a b. give (boolean_v (not (same_value a b))) s)
primitive_act p prim.StringLength vs s = one_of vs (λ a. on_text p.table a s (λ us. give (length_value us) s))
primitive_act p prim.CharAt vs s =
    two_of vs (λ a i. on_text p.table a s (λ us. on_int i (λ n.
    in_range p.table STRING_INDEX_EXCEPTION (length us) n s (or_no_rule (slice_get us n) (λ u. give (char_v u) s)))))
primitive_act p prim.Substring vs s =
    three_of vs (λ a i j. on_text p.table a s (λ us. on_int i (λ m. on_int j (λ n. substring p.table us m n s))))
primitive_act p prim.IsEmpty vs s = one_of vs (λ a. on_text p.table a s (λ us. give (boolean_v (nat_eq (length us) 0)) s))
primitive_act p prim.CompareTo vs s =
    two_of vs (λ a b. on_text p.table a s (λ us. on_text p.table b s (λ ws. give (int_v (order us ws)) s)))

-- ---- operators

abbrev pub set_local : SymId → Value → Env → State → Act
set_local n v env s = or_no_rule (write_slot env s.slots n v) (λ slots. give unit_v (record s { slots = slots }))

abbrev pub run_method : RunMethod → List Value → State → Act
run_method Print vs s = one_of vs (λ v. or_no_rule (string_text v) (λ us. noting (wrote (utf8 us)) (give unit_v s)))

abbrev pub literal_act : Option Value → State → Act
literal_act None s = no_rule
literal_act (Some (string_v us)) s = give_string us s
literal_act (Some v) s = give v s

unfoldable pub act : Program → Op → List Value → Env → State → Act
act p (op.Literal l) vs env s = none_of vs (literal_act (literal_value p.table l) s)
act p (op.Local n) vs env s = none_of vs (or_no_rule (read_slot env s.slots n) (λ v. give v s))
act p (op.SetLocal n) vs env s = one_of vs (λ v. set_local n v env s)
act p (op.Get f) vs env s = one_of vs (λ v. at_reference p.table v s (get_field f s))
act p (op.Set f) vs env s = two_of vs (λ v w. at_reference p.table v s (set_field f w s))
act p (op.Call m) vs env s = some_of vs (λ v ws. call_on p m v ws s)
act p (op.Super c m) vs env s = super_on p c m vs env s
act p (op.Direct m) vs env s = some_of vs (λ v ws. direct_on p m v ws env s)
act p (op.New c) vs env s = new_object p.table c vs env None s
act p (op.NewInner c) vs env s = some_of vs (λ v ws. at_reference p.table v s (new_inner p.table c ws None s))
act p (op.Module o) vs env s = one_of vs (λ q. get_module p.table q o env s)
act p (op.LazyGet m) vs env s = one_of vs (λ v. call_on p m v [] s)
act p op.Force vs env s = one_of vs (λ v. at_reference p.table v s (force_thing s))
act p (op.Primitive o) vs env s = primitive_act p o vs s
act p op.Throw vs env s = one_of vs (λ v. by_bool (is_null v) (null_thrown p.table s) (done (throws v) s))
act p (op.IsA t) vs env s = one_of vs (λ v. give (boolean_v (value_is p.table s (erased p.table t) v)) s)
act p (op.Cast t) vs env s = one_of vs (λ v. coerced p.table (erased p.table t) v s)
act p (op.Coerce t) vs env s = one_of vs (λ v. coerced p.table (erased p.table t) v s)
act p (op.ArrayNew t) vs env s = one_of vs (λ n. on_int n (λ k. array_new p.table (erased p.table t) k s))
act p op.ArrayGet vs env s = two_of vs (λ a i. on_int i (λ k. at_reference p.table a s (array_get p.table k s)))
act p op.ArraySet vs env s = three_of vs (λ a i v. on_int i (λ k. at_reference p.table a s (array_set p.table k v s)))
act p op.ArrayLength vs env s = one_of vs (λ a. at_reference p.table a s (array_length s))
act p (op.Exit k) vs env s = one_of vs (λ v. done (exits k v) s)
act p op.Cell vs env s = one_of vs (λ v. make (cell v) s give)
act p op.CellGet vs env s = one_of vs (λ c. at_reference p.table c s (cell_get s))
act p op.CellSet vs env s = two_of vs (λ c v. at_reference p.table c s (cell_set v s))
act p (op.Static c m) vs env s = static_on p m vs s
act p (op.Run m) vs env s = run_method m vs s
act p (op.GetStatic c f) vs env s = none_of vs (give (static_at s.statics c f) s)
act p (op.SetStatic c f) vs env s = one_of vs (λ v. give unit_v (record s { statics = ((c, f), v) ∷ s.statics }))
act p op.Box vs env s = one_of vs (λ v. give v s)
act p (op.Unbox t) vs env s = one_of vs (λ v. coerced p.table (erased p.table t) v s)
