-- How templates begin and go on (SLS 5.1): `this` and the parameters, the fields of parameters, the instances through which
-- parents are named, the superclass, the mixins, the class's own statements.
use Rattle.std.specs.Prelude.{ℕ, List, [], ◌∷◌, Option, Some, None, option_map, slice_get}
use Rattle.scw_text.specs.declared.number.SymId.{SymId}
use Rattle.scw_core.specs.declared.symbol.TheConstants.{GET_MESSAGE}
use Rattle.scw_core.specs.declared.class.CoreClass.{CoreClass}
use Rattle.scw_core.specs.Tree.{Tree, Trees, none, more}
use Rattle.scw_core.specs.Program.{Template, Program, class_of, look, locals_of}
use Rattle.scw_core.specs.Dispatch.{superclass_of, mixins_of}
use Rattle.scw_core.specs.State.{Value, unit_v, ref_v, Env, bind_all, Thing, instance, State, put}
use Rattle.scw_core.specs.Frame.{Slot, tree_task, template_task, mixin_task, Start, class_start, mixin_start, initialising, waits, prefixes, super_arguments, super_done, mixins, began, Step, stays, telling, push, give, no_rule, or_stay}
use Rattle.scw_core.specs.Object.{with_thing}
use Rattle.scw_core.specs.Call.{outer_env}
use Rattle.scw_core.specs.Create.{inner_bound}
use Rattle.scw_core.specs.Begin.{go_block}

-- ---- what is set first

-- a field is set, if the object has it
abbrev pub set_if : Option Value → List (SymId × Value) → SymId → Value → List (SymId × Value)
set_if None fields f v = fields
set_if (Some old) fields f v = put fields f v

-- the parameters that are fields
abbrev pub set_first : (Value → List (SymId × Value) → List (SymId × Value)) → List Value → List (SymId × Value) → List (SymId × Value)
set_first f [] fields = fields
set_first f (v ∷ vs) fields = f v fields

abbrev pub rest_of : List Value → List Value
rest_of [] = []
rest_of (v ∷ vs) = vs

abbrev pub set_fields : List SymId → List Value → List (SymId × Value) → List (SymId × Value)
set_fields [] vs fields = fields
set_fields (n ∷ ns) vs fields = set_fields ns (rest_of vs) (set_first (λ v fs. set_if (look fs n) fs n v) vs fields)

abbrev pub with_parameters : List SymId → List Value → Thing → Thing
with_parameters ns vs (instance c fields outers) = instance c (set_fields ns vs fields) outers
with_parameters ns vs t = t

-- what a parent's code sees that stands in a class
abbrev pub with_outer : SymId → Env → Thing → Thing
with_outer d env (instance c fields outers) = instance c fields (put outers d env)
with_outer d env t = t

-- ---- the parts, in order

-- the class's own statements
abbrev pub go_statements : SymId → Option Template → Env → State → Step
go_statements c None env s = stays no_rule
go_statements c (Some t) env s = telling (began c) (go_block t.statements env s)

-- the mixins that are left, and then the class's own statements
abbrev pub go_mixins : Program → List SymId → SymId → ℕ → Env → State → Step
go_mixins p [] c r env s = go_statements c (look p.templates c) env s
go_mixins p (d ∷ ds) c r env s = push (mixin_task d r) (waits (initialising d) ∷ mixins ds c r env ∷ []) s

-- an object's slot is filled after the superclass's constructor
abbrev pub fill_slot : Slot → ℕ → State → State
fill_slot None r s = s
fill_slot (Some q) r s = record s { modules = (q, ref_v r) ∷ s.modules }

unfoldable pub after_super : Program → SymId → ℕ → Env → Slot → State → Step
after_super p c r env slot s = or_stay (class_of p.table c) (λ k. go_mixins p (mixins_of p.table k) c r env (fill_slot slot r s))

-- the superclass's constructor, when its arguments are there
abbrev pub go_super : Program → SymId → ℕ → List Value → Env → Slot → State → Option SymId → Step
go_super p c r vs env slot s None = after_super p c r env slot s
go_super p c r vs env slot s (Some d) = push (template_task d r vs None) (waits (initialising d) ∷ super_done c r env slot ∷ []) s

abbrev pub go_super_arguments : Program → SymId → ℕ → List Value → Trees → Env → Slot → State → Step
go_super_arguments p c r vs (more t ts) env slot s = push (tree_task t env) (super_arguments c r vs ts env slot ∷ []) s
go_super_arguments p c r vs none env slot s = or_stay (class_of p.table c) (λ k. go_super p c r vs env slot s (superclass_of p.table k))

abbrev pub go_start : Program → ℕ → Env → State → Start → Step
go_start p r env s (class_start c slot) = or_stay (look p.templates c) (λ t. go_super_arguments p c r [] t.arguments env slot s)
go_start p r env s (mixin_start d) = go_statements d (look p.templates d) env s

-- the prefixes that are left
abbrev pub go_prefixes : Program → List (SymId × Tree) → ℕ → Env → Start → State → Step
go_prefixes p [] r env start s = go_start p r env s start
go_prefixes p (q ∷ qs) r env start s = push (tree_task q.1 env) (prefixes q.0 qs r env start ∷ []) s

-- the instance through which the parent is named is there
unfoldable pub with_prefix : Program → SymId → ℕ → State → ℕ → Thing → Option State
with_prefix p d r s q t =
    let b = inner_bound p.table d q t s in
    option_map (λ o. with_thing r (with_outer d b.env o) (record s { slots = b.slots })) (slice_get s.store r)

-- ---- beginnings

-- a built-in class has no template: an exception keeps its message
abbrev pub begin_built_in : ℕ → List Value → State → Step
begin_built_in r vs s = or_stay (slice_get s.store r) (λ o. stays (give unit_v (with_thing r (with_parameters (GET_MESSAGE ∷ []) vs o) s)))

-- of an object with the number, which is the thing
abbrev pub begin_written : Program → CoreClass → ℕ → List Value → Slot → State → Template → Thing → Step
begin_written p k r vs slot s t o =
    let b = bind_all (k.this ∷ locals_of k.parameters) (ref_v r ∷ vs) (outer_env o k.symbol) s.slots in
    go_prefixes p t.prefixes r b.env (class_start k.symbol slot) (with_thing r (with_parameters (locals_of k.parameters) vs o) (record s { slots = b.slots }))

abbrev pub begin_class : Program → ℕ → List Value → Slot → State → Option CoreClass → Step
begin_class p r vs slot s None = begin_built_in r vs s
begin_class p r vs slot s (Some k) = or_stay (look p.templates k.symbol) (λ t. or_stay (slice_get s.store r) (begin_written p k r vs slot s t))

unfoldable pub begin_template : Program → SymId → ℕ → List Value → Slot → State → Step
begin_template p c r vs slot s = begin_class p r vs slot s (class_of p.table c)

abbrev pub begin_mixin_of : Program → CoreClass → ℕ → State → Template → Thing → Step
begin_mixin_of p k r s t o =
    let b = bind_all (k.this ∷ []) (ref_v r ∷ []) (outer_env o k.symbol) s.slots in
    go_prefixes p t.prefixes r b.env (mixin_start k.symbol) (record s { slots = b.slots })

unfoldable pub begin_mixin : Program → SymId → ℕ → State → Step
begin_mixin p d r s =
    or_stay (class_of p.table d) (λ k. or_stay (look p.templates d) (λ t. or_stay (slice_get s.store r) (begin_mixin_of p k r s t)))
