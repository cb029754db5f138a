-- Each task as it begins, and each frame as what it waits for ends.
use Rattle.std.specs.Prelude.{ℕ, List, [], ◌∷◌, ◌++◌, Bool, true, false, Option, Some, None, option_and_then, slice_get}
use Rattle.scw_text.specs.declared.number.SymId.{SymId}
use Rattle.scw_core.specs.declared.symbol.TheConstants.{MATCH_ERROR, STRING}
use Rattle.scw_core.specs.declared.class.Parameter.{Parameter}
use Rattle.scw_core.specs.Types.{ref, same_symbol}
use Rattle.scw_core.specs.Tree.{Tree, Trees, none, more, Patterns, Cases, no_cases, more_cases}
use Rattle.scw_core.specs.Program.{Program, look, member_of}
use Rattle.scw_core.specs.State.{Value, unit_v, boolean_v, char_v, int_v, null_v, ref_v, same_value, Env, Thing, instance, State, put}
use Rattle.scw_core.specs.Number.{boolean_in}
use Rattle.scw_core.specs.Frame.{Outcome, gives, throws, exits, Task, tree_task, pattern_task, types_task, template_task, mixin_task, Fallback, no_match, rethrow, Start, Wait, returning, negating, text_first, text_second, keeping, making, initialising, entering, Frame, waits, operands, in_block, and_test, or_test, if_test, while_test, while_body, switching, matching, case_pattern, case_guard, trying, before_finally, after_finally, labelled, prefixes, super_arguments, super_done, mixins, pattern_equal, pattern_same, pattern_parts, pattern_alternative, pattern_extract, Act, done, no_rule, give, or_no_rule, Step, stays, push, or_stay, step_by_bool}
use Rattle.scw_core.specs.Object.{at_reference, make_array, throw_new, null_thrown, with_thing}
use Rattle.scw_core.specs.TypeTest.{coerced}
use Rattle.scw_core.specs.Call.{call_on}
use Rattle.scw_core.specs.Act.{answer_turned, text_given, concat_second, joined, equal_act}
use Rattle.scw_core.specs.Begin.{go_operands, go_block, begin_tree, begin_pattern, answer, go_parts, go_alternative, match_fields, go_types, go_guard, go_case, chosen}
use Rattle.scw_core.specs.Template.{go_prefixes, go_super_arguments, after_super, go_mixins, with_prefix, begin_template, begin_mixin}

unfoldable pub begin : Program → Task → State → Step
begin p (tree_task t env) s = begin_tree p t env s
begin p (pattern_task q v env) s = begin_pattern p q v env s
begin p (types_task ts v) s = go_types p ts v s
begin p (template_task c r vs slot) s = begin_template p c r vs slot s
begin p (mixin_task d r) s = begin_mixin p d r s

-- ---- a value comes to what an action has left waiting

abbrev pub keep : SymId → Value → State → ℕ → Thing → Act
keep m v s r (instance c fields outers) = give v (with_thing r (instance c (put fields m v) outers) s)
keep m v s r _ = no_rule

-- a run's member is called, `main` with an empty array of strings
abbrev pub enter_with : Program → SymId → Value → State → List Parameter → Act
enter_with p m v s [] = call_on p m v [] s
enter_with p m v s (x ∷ xs) = make_array (ref STRING) 0 s (λ a s'. call_on p m v (a ∷ []) s')

unfoldable pub give_back : Program → Value → State → Wait → Act
give_back p v s (returning None) = give v s
give_back p v s (returning (Some e)) = coerced p.table e v s
give_back p v s negating = answer_turned v s
give_back p v s (text_first b) = text_given (concat_second p b) v s
give_back p v s (text_second us) = text_given (joined us) v s
give_back p v s (keeping r m) = at_reference p.table (ref_v r) s (keep m v s)
give_back p v s (making r) = give (ref_v r) s
give_back p v s (initialising c) = give v s
give_back p v s (entering m) = or_no_rule (member_of p.table m) (λ d. enter_with p m v s d.member.parameters)

-- ---- a value comes to a frame

abbrev pub if_boolean : Value → (Bool → Step) → Step
if_boolean v f = or_stay (boolean_in v) f

-- the bits of the number that a switch goes by
abbrev pub key_in : Value → Option ℕ
key_in (char_v n) = Some n
key_in (int_v n) = Some n
key_in _ = None

abbrev pub fall : Program → Fallback → State → Step
fall p no_match s = stays (throw_new p.table MATCH_ERROR null_v s)
fall p (rethrow v) s = stays (done (throws v) s)

-- the next case
abbrev pub go_cases : Program → Value → Cases → Env → Fallback → State → Step
go_cases p v no_cases env b s = fall p b s
go_cases p v (more_cases xs q guard t cs) env b s = go_case p v xs q guard t cs env b s

-- What an extractor's answer leaves to be matched: a Boolean says whether it matches; of an Option's object with the field
-- of `Some`, its value is the one part, or the parts are the fields of its value.
abbrev pub content_of : Option Value → List SymId → Patterns → Env → State → Step
content_of None xs qs env s = answer false s
content_of (Some v) [] qs env s = go_parts qs (v ∷ []) env s
content_of (Some (ref_v r)) (x ∷ xs) qs env s = or_stay (slice_get s.store r) (match_fields (x ∷ xs) qs env s)
content_of (Some v) (x ∷ xs) qs env s = answer false s

abbrev pub some_content : Program → List (SymId × Value) → Option Value
some_content p fields = option_and_then (look fields) p.table.prelude.some_value

abbrev pub match_option : Program → List SymId → Patterns → Env → State → Thing → Step
match_option p xs qs env s (instance c fields outers) = content_of (some_content p fields) xs qs env s
match_option p xs qs env s _ = stays no_rule

abbrev pub extracted : Program → List SymId → Patterns → Env → State → Value → Step
extracted p xs qs env s (boolean_v b) = answer b s
extracted p xs qs env s null_v = stays (null_thrown p.table s)
extracted p xs qs env s (ref_v r) = or_stay (slice_get s.store r) (match_option p xs qs env s)
extracted p xs qs env s _ = stays no_rule

-- the instance through which a parent is named; null throws
abbrev pub go_prefix : Program → SymId → List (SymId × Tree) → ℕ → Env → Start → Value → State → Step
go_prefix p d qs r env start (ref_v q) s =
    or_stay (slice_get s.store q) (λ t. or_stay (with_prefix p d r s q t) (λ s'. go_prefixes p qs r env start s'))
go_prefix p d qs r env start null_v s = stays (null_thrown p.table s)
go_prefix p d qs r env start _ s = stays no_rule

-- what is evaluated on every way out
abbrev pub go_finally : Trees → Env → Outcome → State → Step
go_finally none env o s = stays (done o s)
go_finally (more t ts) env o s = push (tree_task t env) (after_finally o ∷ []) s

unfoldable pub give_to : Program → Value → State → Frame → Step
give_to p v s (waits w) = stays (give_back p v s w)
give_to p v s (operands o vs ts env) = go_operands p o (vs ++ v ∷ []) ts env s
give_to p v s (in_block ts env) = go_block ts env s
give_to p v s (and_test t env) = if_boolean v (λ b. step_by_bool b (push (tree_task t env) [] s) (answer false s))
give_to p v s (or_test t env) = if_boolean v (λ b. step_by_bool b (answer true s) (push (tree_task t env) [] s))
give_to p v s (if_test a b env) = if_boolean v (λ c. step_by_bool c (push (tree_task a env) [] s) (push (tree_task b env) [] s))
give_to p v s (while_test a b env) =
    if_boolean v (λ c. step_by_bool c (push (tree_task b env) (while_body a b env ∷ []) s) (stays (give unit_v s)))
give_to p v s (while_body a b env) = push (tree_task a env) (while_test a b env ∷ []) s
give_to p v s (switching ks ts d env) = or_stay (key_in v) (λ n. push (tree_task (chosen ks ts d n) env) [] s)
give_to p v s (matching cs env) = go_cases p v cs env no_match s
give_to p v s (case_pattern w guard t cs env outer b) =
    if_boolean v (λ c. step_by_bool c (go_guard w guard t cs env outer b s) (go_cases p w cs outer b s))
give_to p v s (case_guard w t cs env outer b) = if_boolean v (λ c. step_by_bool c (push (tree_task t env) [] s) (go_cases p w cs outer b s))
give_to p v s (trying cs env) = stays (give v s)
give_to p v s (before_finally fin env) = go_finally fin env (gives v) s
give_to p v s (after_finally o) = stays (done o s)
give_to p v s (labelled k) = stays (give v s)
give_to p v s (prefixes d qs r env start) = go_prefix p d qs r env start v s
give_to p v s (super_arguments c r vs ts env slot) = go_super_arguments p c r (vs ++ v ∷ []) ts env slot s
give_to p v s (super_done c r env slot) = after_super p c r env slot s
give_to p v s (mixins ds c r env) = go_mixins p ds c r env s
give_to p v s (pattern_equal w) = stays (equal_act p false v w s)
give_to p v s (pattern_same w) = answer (same_value v w) s
give_to p v s (pattern_parts qs vs env) = if_boolean v (λ b. step_by_bool b (go_parts qs vs env s) (answer false s))
give_to p v s (pattern_alternative qs w env) = if_boolean v (λ b. step_by_bool b (answer true s) (go_alternative qs w env s))
give_to p v s (pattern_extract xs qs env) = extracted p xs qs env s v

-- ---- an exception or an exit comes to a frame, and goes through all but these

abbrev pub throw_to : Program → Value → State → Frame → Step
throw_to p v s (trying cs env) = go_cases p v cs env (rethrow v) s
throw_to p v s (before_finally fin env) = go_finally fin env (throws v) s
throw_to p v s _ = stays (done (throws v) s)

abbrev pub exit_to : SymId → Value → State → Frame → Step
exit_to k v s (labelled l) = step_by_bool (same_symbol k l) (stays (give v s)) (stays (done (exits k v) s))
exit_to k v s (before_finally fin env) = go_finally fin env (exits k v) s
exit_to k v s _ = stays (done (exits k v) s)

unfoldable pub react : Program → Outcome → State → Frame → Step
react p (gives v) s f = give_to p v s f
react p (throws v) s f = throw_to p v s f
react p (exits k v) s f = exit_to k v s f
