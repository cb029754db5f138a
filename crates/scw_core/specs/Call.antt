-- Calls (SLS 6.5, 6.6): which body is run, where, and with which arguments.
use Rattle.std.specs.Prelude.{ℕ, List, [], ◌∷◌, Bool, true, false, cond, Option, Some, None, unwrap_or, option_map, option_and_then, slice_get, length, map}
use Rattle.scw_text.specs.declared.number.SymId.{SymId}
use Rattle.scw_text.specs.declared.span.Span.{Span}
use Rattle.scw_core.specs.declared.symbol.TheConstants.{GET_MESSAGE}
use Rattle.scw_core.specs.declared.program.FunctionClass.{FunctionClass}
use Rattle.scw_core.specs.declared.tree.Local.{Local}
use Rattle.scw_core.specs.Types.{Erased, void, unit_ref, same_symbol, all_same_erased}
use Rattle.scw_core.specs.Tree.{Tree}
use Rattle.scw_core.specs.BuiltIn.{BuiltInMember, equals, to_string, get_message, built_in_member}
use Rattle.scw_core.specs.Program.{Table, Program, class_of, look, Defined, member_of, locals_of, this_of}
use Rattle.scw_core.specs.Erasure.{erased, signature, signature_of, parameter_erased, first_of}
use Rattle.scw_core.specs.Dispatch.{dispatch, super_dispatch}
use Rattle.scw_core.specs.State.{Value, unit_v, boolean_v, char_v, int_v, long_v, null_v, string_v, ref_v, same_value, Env, bind_all, read_slot, Thing, instance, array, function, by_name, cell, State}
use Rattle.scw_core.specs.Number.{plain_text}
use Rattle.scw_core.specs.Text.{thing_text}
use Rattle.scw_core.specs.Frame.{tree_task, returning, keeping, called, Act, noting, next, no_rule, give, or_no_rule, under, none_of, one_of}
use Rattle.scw_core.specs.Object.{at_reference, null_thrown, give_string, get_field, is_lazy}
use Rattle.scw_core.specs.TypeTest.{coerced, coerce_all}

-- ---- where a body is run

-- the environments of the classes of an object
abbrev pub outers_of : Thing → List (SymId × Env)
outers_of (instance c fields outers) = outers
outers_of _ = []

abbrev pub outer_env : Thing → SymId → Env
outer_env t c = unwrap_or (look (outers_of t) c) []

abbrev pub fields_in_thing : Thing → List (SymId × Value)
fields_in_thing (instance c fields outers) = fields
fields_in_thing _ = []

-- a body begins in an environment, with locals bound anew
unfoldable pub enter : Tree → List SymId → List Value → Env → Option Erased → State → Act
enter t ns vs env coercion s =
    let b = bind_all ns vs env s.slots in next (tree_task t b.env) (returning coercion ∷ []) (record s { slots = b.slots })

-- the body of a member of the class, for the object that its `this` is
unfoldable pub run_body : Program → Defined → Value → Thing → List Value → Option Erased → State → Act
run_body p d v t vs coercion s =
    or_no_rule (look p.bodies d.member.symbol) (λ b.
    noting (called d.class d.member.symbol)
    (enter b (this_of (class_of p.table d.class) d.class ∷ locals_of d.member.parameters) (v ∷ vs) (outer_env t d.class) coercion s))

-- ---- lazy values (SLS 5.2), which are evaluated at first access, and after an exception again

abbrev pub evaluate_lazy : Program → Defined → ℕ → Thing → State → Act
evaluate_lazy p d r t s =
    or_no_rule (look p.bodies d.member.symbol) (λ b.
    let e = bind_all (this_of (class_of p.table d.class) d.class ∷ []) (ref_v r ∷ []) (outer_env t d.class) s.slots in
    next (tree_task b e.env) (keeping r d.member.symbol ∷ []) (record s { slots = e.slots }))

abbrev pub kept_or : Option Value → State → Act → Act
kept_or None s a = a
kept_or (Some v) s a = give v s

unfoldable pub get_lazy : Program → Defined → ℕ → Thing → State → Act
get_lazy p d r t s = kept_or (look (fields_in_thing t) d.member.symbol) s (evaluate_lazy p d r t s)

abbrev pub coerce_if : Table → Option Erased → Act → Act
coerce_if p None a = a
coerce_if p (Some e) a = under a (returning (Some e)) (coerced p e)

-- a member that was found
abbrev pub run_as : Program → Bool → Defined → ℕ → Thing → List Value → Option Erased → State → Act
run_as p true d r t vs coercion s = none_of vs (coerce_if p.table coercion (get_lazy p d r t s))
run_as p false d r t vs coercion s = run_body p d (ref_v r) t vs coercion s

unfoldable pub run_member : Program → Defined → ℕ → Thing → List Value → Option Erased → State → Act
run_member p d r t vs coercion s = run_as p (is_lazy d.member.kind) d r t vs coercion s

-- ---- a member that was found for the one that is called

abbrev pub from_result : Erased → Erased
from_result void = unit_ref
from_result e = e

-- what the answer is coerced to
abbrev pub result_of : Table → SymId → Erased
result_of p m = from_result (first_of (signature_of p m))

abbrev pub run_by : Program → Bool → SymId → Defined → ℕ → Thing → List Value → State → Act
run_by p true m d r t vs s = run_member p d r t vs None s
run_by p false m d r t vs s =
    coerce_all p.table (map (parameter_erased p.table) d.member.parameters) vs s (λ ws s'. run_member p d r t ws (Some (result_of p.table m)) s')

-- its own erased signature decides whether arguments and answer are coerced
unfoldable pub run_found : Program → SymId → ℕ → Thing → List Value → State → Defined → Act
run_found p m r t vs s d = run_by p (all_same_erased (signature p.table d.member) (signature_of p.table m)) m d r t vs s

-- ---- built-in members

-- of a thing: `equals` holds of the same reference alone
abbrev pub built_in_act : Table → ℕ → Thing → List Value → State → BuiltInMember → Act
built_in_act p r t vs s equals = one_of vs (λ w. give (boolean_v (same_value (ref_v r) w)) s)
built_in_act p r t vs s to_string = none_of vs (give_string (thing_text p t) s)
built_in_act p r t vs s get_message = none_of vs (get_field GET_MESSAGE s r t)

-- of a value that is no reference: `equals` holds of the same kind and contents
abbrev pub plain_act : Value → List Value → State → BuiltInMember → Act
plain_act v vs s equals = one_of vs (λ w. give (boolean_v (same_value v w)) s)
plain_act v vs s to_string = none_of vs (or_no_rule (plain_text v) (λ us. give_string us s))
plain_act v vs s get_message = no_rule

unfoldable pub call_built_in : Table → SymId → ℕ → Thing → List Value → State → Act
call_built_in p m r t vs s = or_no_rule (built_in_member m) (built_in_act p r t vs s)

abbrev pub call_plain : SymId → Value → List Value → State → Act
call_plain m v vs s = or_no_rule (built_in_member m) (plain_act v vs s)

-- ---- virtual calls

abbrev pub function_class : Table → ℕ → Option FunctionClass
function_class p n = slice_get p.prelude.functions n

-- the class whose members a thing has
abbrev pub class_of_thing : Table → Thing → Option SymId
class_of_thing p (instance c fields outers) = Some c
class_of_thing p (array e vs) = None
class_of_thing p (function name xs t env) = option_map (λ (f : FunctionClass). f.class) (function_class p (length xs))
class_of_thing p (by_name t env) = None
class_of_thing p (cell v) = None

abbrev pub found_or_built_in : Program → SymId → ℕ → Thing → List Value → State → Option Defined → Act
found_or_built_in p m r t vs s None = call_built_in p.table m r t vs s
found_or_built_in p m r t vs s (Some d) = run_found p m r t vs s d

unfoldable pub call_member : Program → SymId → ℕ → Thing → List Value → State → Act
call_member p m r t vs s = found_or_built_in p m r t vs s (option_and_then (λ c. dispatch p.table c m) (class_of_thing p.table t))

-- `apply` of a function
abbrev pub local_types : Table → List Local → List Erased
local_types p xs = map (λ (x : Local). erased p x.type_id) xs

abbrev pub local_symbols : List Local → List SymId
local_symbols xs = map (λ (x : Local). x.symbol) xs

unfoldable pub apply_function : Program → SymId → List Local → Tree → Env → List Value → State → Act
apply_function p m xs t env vs s =
    coerce_all p.table (local_types p.table xs) vs s (λ ws s'. enter t (local_symbols xs) ws env (Some (result_of p.table m)) s')

abbrev pub is_apply : SymId → Option FunctionClass → Bool
is_apply m None = false
is_apply m (Some f) = same_symbol f.apply m

abbrev pub call_thing : Program → SymId → List Value → State → ℕ → Thing → Act
call_thing p m vs s r (instance c fields outers) = call_member p m r (instance c fields outers) vs s
call_thing p m vs s r (array e ws) = call_built_in p.table m r (array e ws) vs s
call_thing p m vs s r (function name xs t env) =
    cond (is_apply m (function_class p.table (length xs))) (apply_function p m xs t env vs s) (call_member p m r (function name xs t env) vs s)
call_thing p m vs s r (by_name t env) = no_rule
call_thing p m vs s r (cell v) = no_rule

-- the receiver decides
unfoldable pub call_on : Program → SymId → Value → List Value → State → Act
call_on p m unit_v vs s = call_plain m unit_v vs s
call_on p m (boolean_v b) vs s = call_plain m (boolean_v b) vs s
call_on p m (char_v n) vs s = call_plain m (char_v n) vs s
call_on p m (int_v n) vs s = call_plain m (int_v n) vs s
call_on p m (long_v n) vs s = call_plain m (long_v n) vs s
call_on p m null_v vs s = null_thrown p.table s
call_on p m (string_v us) vs s = call_plain m (string_v us) vs s
call_on p m (ref_v r) vs s = at_reference p.table (ref_v r) s (call_thing p m vs s)

-- ---- calls of one member

-- a local method goes on in the environment of the call, which is inside of its block
abbrev pub run_local : Program → Option Span → Defined → ℕ → Thing → List Value → Env → State → Act
run_local p None d r t vs env s = run_member p d r t vs None s
run_local p (Some block) d r t vs env s =
    or_no_rule (look p.bodies d.member.symbol) (λ b.
    noting (called d.class d.member.symbol) (enter b (locals_of d.member.parameters) vs env None s))

unfoldable pub direct_on : Program → SymId → Value → List Value → Env → State → Act
direct_on p m v vs env s =
    at_reference p.table v s (λ r t. or_no_rule (member_of p.table m) (λ d. run_local p d.member.block d r t vs env s))

unfoldable pub super_on : Program → SymId → SymId → List Value → Env → State → Act
super_on p c m vs env s =
    or_no_rule (read_slot env s.slots (this_of (class_of p.table c) c)) (λ v.
    at_reference p.table v s (λ r t.
    found_or_built_in p m r t vs s (option_and_then (λ k. super_dispatch p.table k c m) (class_of_thing p.table t))))

-- a static method has no object
unfoldable pub static_on : Program → SymId → List Value → State → Act
static_on p m vs s =
    or_no_rule (member_of p.table m) (λ d.
    or_no_rule (look p.bodies m) (λ b. enter b (locals_of d.member.parameters) vs [] None s))
