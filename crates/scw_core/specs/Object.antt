-- What things are made of, how many units of a heap they take, and what is done with a reference.
use Rattle.std.specs.Prelude.{ℕ, ◌+◌, ◌-◌, ◌/◌, List, [], ◌∷◌, ◌++◌, Bool, true, false, not, ◌&&◌, cond, Option, Some, None, nat_lt, length, replicate, slice_get, slice_set, ℤ, pos, negsuc}
use Rattle.std.specs.Int.{w32, cast_signed}
use Rattle.scw_text.specs.declared.number.SymId.{SymId}
use Rattle.scw_core.specs.declared.symbol.TheConstants.{THROWABLE, GET_MESSAGE, NULL_POINTER_EXCEPTION, ARRAY_INDEX_EXCEPTION, NEGATIVE_SIZE_EXCEPTION}
use Rattle.scw_core.specs.declared.class.CoreClass.{CoreClass}
use Rattle.scw_core.specs.declared.class.Member.{Member}
use Rattle.scw_core.specs.declared.class.MemberKind.{MemberKind}
use Rattle.scw_core.specs.declared.class.MemberKind.TheVariants as kind
use Rattle.scw_core.specs.Types.{Erased, void, boolean, char, int, long, unit_ref, ref, arr, same_symbol}
use Rattle.scw_core.specs.Program.{Table, class_of, look}
use Rattle.scw_core.specs.Erasure.{line_of, erased}
use Rattle.scw_core.specs.Dispatch.{is_concrete}
use Rattle.scw_core.specs.State.{Value, unit_v, boolean_v, char_v, int_v, long_v, null_v, string_v, ref_v, Thing, instance, array, cell, State, put, zero_of}
use Rattle.scw_core.specs.Number.{index_text, length_value}
use Rattle.scw_core.specs.Frame.{throws, made, Act, done, noting, no_rule, give, or_no_rule}

-- ---- fields

-- a member of these kinds has a place in each object
abbrev pub has_field : MemberKind → Bool
has_field kind.Val = true
has_field kind.Var = true
has_field kind.LazyVal = true
has_field kind.Def = false
has_field kind.Param = true

abbrev pub is_lazy : MemberKind → Bool
is_lazy kind.Val = false
is_lazy kind.Var = false
is_lazy kind.LazyVal = true
is_lazy kind.Def = false
is_lazy kind.Param = false

abbrev pub is_field : Member → Bool
is_field m = has_field m.kind && is_concrete m.body && not m.is_static

-- the fields of a class, with their zeros; a lazy value has none until it is evaluated
abbrev pub fields_in : Table → List Member → List (SymId × Value)
fields_in p [] = []
fields_in p (m ∷ ms) = cond (is_field m && not (is_lazy m.kind)) ((m.symbol, zero_of (erased p m.result)) ∷ fields_in p ms) (fields_in p ms)

-- of the built-in classes Throwable alone has one
abbrev pub built_in_fields : SymId → List (SymId × Value)
built_in_fields c = cond (same_symbol c THROWABLE) ((GET_MESSAGE, null_v) ∷ []) []

abbrev pub fields_of_class : Table → SymId → Option CoreClass → List (SymId × Value)
fields_of_class p c None = built_in_fields c
fields_of_class p c (Some k) = fields_in p k.members

unfoldable pub fields_along : Table → List SymId → List (SymId × Value)
fields_along p [] = []
fields_along p (c ∷ cs) = fields_of_class p c (class_of p c) ++ fields_along p cs

-- ---- units of a heap

-- one, and one more for each group of so many that is begun
abbrev pub units_by : ℕ → ℕ → ℕ
units_by group n = 1 + (n + (group - 1)) / group

abbrev pub text_units : List ℕ → ℕ
text_units us = units_by 8 (length us)

abbrev pub element_group : Erased → ℕ
element_group void = 2
element_group boolean = 16
element_group char = 8
element_group int = 4
element_group long = 2
element_group unit_ref = 2
element_group (ref c) = 2
element_group (arr e) = 2

abbrev pub count_fields : List Member → ℕ
count_fields [] = 0
count_fields (m ∷ ms) = cond (is_field m) 1 0 + count_fields ms

abbrev pub count_of_class : SymId → Option CoreClass → ℕ
count_of_class c None = length (built_in_fields c)
count_of_class c (Some k) = count_fields k.members

abbrev pub count_along : Table → List SymId → ℕ
count_along p [] = 0
count_along p (c ∷ cs) = count_of_class c (class_of p c) + 1 + count_along p cs

-- an object has its fields, and one more for each class of its linearisation
unfoldable pub object_units : Table → SymId → ℕ
object_units p c = units_by 2 (count_along p (line_of p c))

-- ---- making

abbrev pub with_more : Thing → State → State
with_more t s = record s { store = s.store ++ t ∷ [] }

-- a new thing, for whose reference the action goes on
unfoldable pub make : Thing → State → (Value → State → Act) → Act
make t s f = f (ref_v (length s.store)) (with_more t s)

abbrev pub make_noted : ℕ → Thing → State → (Value → State → Act) → Act
make_noted n t s f = noting (made n) (make t s f)

-- a new string
abbrev pub give_string : List ℕ → State → Act
give_string us s = noting (made (text_units us)) (give (string_v us) s)

-- A built-in exception with its message, which may be null. Its one field is the message.
unfoldable pub throw_new : Table → SymId → Value → State → Act
throw_new p c message s =
    make_noted (object_units p c) (instance c ((GET_MESSAGE, message) ∷ []) []) s (λ r s'. done (throws r) s')

abbrev pub null_thrown : Table → State → Act
null_thrown p s = throw_new p NULL_POINTER_EXCEPTION null_v s

-- ---- what a reference leads to; null throws

unfoldable pub at_reference : Table → Value → State → (ℕ → Thing → Act) → Act
at_reference p unit_v s f = no_rule
at_reference p (boolean_v b) s f = no_rule
at_reference p (char_v n) s f = no_rule
at_reference p (int_v n) s f = no_rule
at_reference p (long_v n) s f = no_rule
at_reference p null_v s f = null_thrown p s
at_reference p (string_v us) s f = no_rule
at_reference p (ref_v r) s f = or_no_rule (slice_get s.store r) (f r)

abbrev pub with_thing : ℕ → Thing → State → State
with_thing r t s = record s { store = slice_set s.store r t }

-- ---- fields, arrays and cells

abbrev pub get_field : SymId → State → ℕ → Thing → Act
get_field f s r (instance c fields outers) = or_no_rule (look fields f) (λ v. give v s)
get_field f s r _ = no_rule

abbrev pub set_field : SymId → Value → State → ℕ → Thing → Act
set_field f v s r (instance c fields outers) = or_no_rule (look fields f) (λ old. give unit_v (with_thing r (instance c (put fields f v) outers) s))
set_field f v s r _ = no_rule

-- An index into so many, or the exception. It is compared by its bits, so that a negative one is past all lengths below
-- 2^31.
unfoldable pub in_range : Table → SymId → ℕ → ℕ → State → Act → Act
in_range p c n i s a = cond (nat_lt i n) a (throw_new p c (string_v (index_text i)) s)

abbrev pub array_get : Table → ℕ → State → ℕ → Thing → Act
array_get p i s r (array e vs) = in_range p ARRAY_INDEX_EXCEPTION (length vs) i s (or_no_rule (slice_get vs i) (λ v. give v s))
array_get p i s r _ = no_rule

abbrev pub array_length : State → ℕ → Thing → Act
array_length s r (array e vs) = give (length_value vs) s
array_length s r _ = no_rule

-- an array of a length that is not negative
abbrev pub make_array : Erased → ℕ → State → (Value → State → Act) → Act
make_array e n s f = make_noted (units_by (element_group e) n) (array e (replicate n (zero_of e))) s f

abbrev pub array_new_of : Table → Erased → State → ℤ → Act
array_new_of p e s (pos n) = make_array e n s give
array_new_of p e s (negsuc n) = throw_new p NEGATIVE_SIZE_EXCEPTION null_v s

-- the length by its bits
unfoldable pub array_new : Table → Erased → ℕ → State → Act
array_new p e n s = array_new_of p e s (cast_signed w32 n)

abbrev pub cell_get : State → ℕ → Thing → Act
cell_get s r (cell v) = give v s
cell_get s r _ = no_rule

abbrev pub cell_set : Value → State → ℕ → Thing → Act
cell_set v s r (cell w) = give unit_v (with_thing r (cell v) s)
cell_set v s r _ = no_rule
