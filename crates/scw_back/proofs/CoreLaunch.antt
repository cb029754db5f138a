-- How the program of one object begins: the object is made, and its `main` is called with an empty array.
use Rattle.std.proofs.Common.{◌≡◌, refl, sym, ap, ◌∙◌, subst, ℕ, zero, suc, ◌≤◌, arith, Bool, true, false, cond, not, List, [], ◌∷◌, Some, None}
use Rattle.std.proofs.lemmas.Bool.{and_parts, true≢false}
use Rattle.std.specs.Prelude.{find, is_none, is_some}
use Rattle.scw_text.specs.declared.number.SymId.{SymId}
use Rattle.scw_core.specs.declared.class.CoreClass.{CoreClass}
use Rattle.scw_core.specs.declared.class.Member.{Member}
use Rattle.scw_core.specs.declared.class.Parameter.{Parameter}
use Rattle.scw_core.specs.declared.operator.Literal.TheVariants as literal
use Rattle.scw_core.specs.declared.operator.Op.TheVariants as op
use Rattle.scw_core.specs.declared.symbol.TheConstants.{ANY, ANY_REF, STRING}
use Rattle.scw_core.specs.declared.tree.NodeInfo.{NodeInfo}
use Rattle.scw_core.specs.Act.{act}
use Rattle.scw_core.specs.Begin.{begin_tree, go_block}
use Rattle.scw_core.specs.Call.{enter, outer_env}
use Rattle.scw_core.specs.Create.{create, get_module, is_local_in, local_outers}
use Rattle.scw_core.specs.Dispatch.{first_class, mixins_of, superclass_of, tail_of, traits_before}
use Rattle.scw_core.specs.Entry.{Entry, main_of, class_place, enterable_member, is_main, is_member, is_plain_method, is_top_object, member_entered, member_place, none_of, place_along, place_of, source_run, start, start_at, starting, symbol_of, takes_strings}
use Rattle.scw_core.specs.Entry as entry
use Rattle.scw_core.specs.Erasure.{is_trait, is_trait_in, line_of}
use Rattle.scw_core.specs.Frame.{Frames, Note, Slot, Step, began, called, class_start, entering, give, gives, initialising, made, making, next, noting, operands, or_no_rule, or_stay, push, returning, stays, super_done, tree_task, telling, template_task, waits}
use Rattle.scw_core.specs.Object.{fields_along, make, object_units, units_by}
use Rattle.scw_core.specs.Program.{Defined, Program, Table, Template, class_of, head_of, in_members, locals_of, look}
use Rattle.scw_core.specs.React.{begin, enter_with, give_back, give_to, react}
use Rattle.scw_core.specs.Run.{Config, Go, at, land, land_act, resume, step, steps}
use Rattle.scw_core.specs.Seen.{running, seen, written_by}
use Rattle.scw_core.specs.State.{Bound, Env, Slots, State, Thing, Value, array, bind, bind_all, empty_state, instance, module_at, put, ref_v, unit_v, values_of}
use Rattle.scw_core.specs.Template.{after_super, begin_class, begin_template, begin_written, go_mixins, go_prefixes, go_statements, go_super, go_super_arguments, set_fields}
use Rattle.scw_core.specs.Tree.{Tree, Trees, strict, more, none}
use Rattle.scw_core.specs.Types.{ref, same_symbol}
use Rattle.scw_gen.specs.Generate.{around, has_empty_template, is_built, is_empty_template, no_trees}
use Rattle.scw_gen.specs.Method.{is_method}
use Rattle.scw_back.proofs.CoreCalls.{Built, all-three, built-parts, calls, class-found, class-missing, member-found, none-there}
use Rattle.scw_back.proofs.MainMember.{body-there, main-parts, main-there, member-first, member-typed, one-parameter, plain-method}

-- ---- the configurations

-- the tree that gives the object
abbrev pub entry_tree : NodeInfo → NodeInfo → SymId → Tree
entry_tree i j o = strict i (op.Module o) (more (strict j (op.Literal literal.Unit) none) none)

-- nothing more is bound where no value is left
bind-none : (ns : List SymId) (env : Env) (slots : Slots) → bind_all ns [] env slots ≡ record { env = env; slots = slots }
unfolding bind_all
bind-none [] env slots = refl
bind-none (n ∷ ns) env slots = refl

module _ (p : Program) (K : CoreClass) (alone : p.table.classes ≡ K ∷ []) (has_code : is_built p K ≡ true) (apart : same_symbol K.symbol ANY_REF ≡ false) where
  abbrev parts : Built p K
  parts = built-parts p K alone has_code

  abbrev table : Table
  table = p.table

  abbrev own : SymId
  own = K.symbol

  -- ---- its linearisation

  not-local : (c : SymId) → is_local_in (class_of table c) ≡ false
  unfolding class_of
  not-local c = ap (λ ks. is_local_in (find (λ (k : CoreClass). same_symbol k.symbol c) ks)) alone ∙ by (same_symbol K.symbol c)
    where
      open_block : is_none K.block ≡ true
      open_block = (and_parts (is_none K.block) (entry.is_top_head (head_of table K.symbol)) (and_parts (entry.is_object_kind K.kind) (entry.is_top table K) parts.top).1).0

      outermost : (o : Bool) → not o ≡ true → o ≡ false
      outermost true h = absurd (true≢false (sym h))
      outermost false h = refl

      by : (b : Bool) → is_local_in (cond b (Some K) None) ≡ false
      by true = outermost (is_some K.block) open_block
      by false = refl

  no-outers : (env : Env) (cs : List SymId) → local_outers table env cs ≡ []
  no-outers env [] = refl
  no-outers env (c ∷ cs) = ap (λ b. cond b ((c, env) ∷ local_outers table env cs) (local_outers table env cs)) (not-local c) ∙ no-outers env cs

  any-ref-missing : class_of table ANY_REF ≡ None
  any-ref-missing = class-missing p K alone ANY_REF apart

  no-trait : is_trait table ANY_REF ≡ false
  unfolding is_trait
  no-trait = ap is_trait_in any-ref-missing

  super-is : superclass_of table K ≡ Some ANY_REF
  unfolding superclass_of
  super-is = ap (λ (line : List SymId). first_class table (tail_of line)) parts.line ∙ ap (λ b. cond b (first_class table (ANY ∷ [])) (Some ANY_REF)) no-trait

  no-mixins : mixins_of table K ≡ []
  unfolding mixins_of
  no-mixins = ap (λ (line : List SymId). traits_before table (tail_of line) []) parts.line ∙ ap (λ b. cond b (traits_before table (ANY ∷ []) (ANY_REF ∷ [])) []) no-trait

  -- ---- what is made

  abbrev pub slot : Slot
  slot = Some (unit_v, own)

  abbrev fields0 : List (SymId × Value)
  fields0 = fields_along table (line_of table own)

  abbrev pub fields : List (SymId × Value)
  fields = set_fields (locals_of K.parameters) [] fields0

  abbrev object0 : Thing
  object0 = instance own fields0 []

  abbrev object : Thing
  object = instance own fields []

  abbrev strings : Thing
  strings = array (ref STRING) []

  -- the object's `this` in its constructor
  abbrev pub env0 : Env
  env0 = (K.this, 0) ∷ []

  abbrev pub slots0 : Slots
  slots0 = (K.this, ref_v 0 ∷ []) ∷ []

  abbrev state1 : State
  state1 = record { store = object0 ∷ []; slots = []; modules = []; statics = [] }

  abbrev state2 : State
  state2 = record { store = object ∷ []; slots = slots0; modules = []; statics = [] }

  abbrev state3 : State
  state3 = record { store = object ∷ []; slots = slots0; modules = ((unit_v, own), ref_v 0) ∷ []; statics = [] }

  abbrev state4 : State
  state4 = record { store = object ∷ strings ∷ []; slots = slots0; modules = ((unit_v, own), ref_v 0) ∷ []; statics = [] }

  abbrev log1 : List Note
  log1 = made (object_units table own) ∷ []

  module _ (t : Template) (templates : look p.templates own ≡ Some t) where
    empty : is_empty_template t ≡ true
    empty = sym (ap has_empty_template templates) ∙ parts.template

    empty-parts : (none_of t.prefixes ≡ true) × (no_trees t.arguments ≡ true) × (no_trees t.statements ≡ true)
    empty-parts = all-three (none_of t.prefixes) (no_trees t.arguments) (no_trees t.statements) empty

    no-prefixes : t.prefixes ≡ []
    no-prefixes = none-there t.prefixes empty-parts.0

    no-tree : (ts : Trees) → no_trees ts ≡ true → ts ≡ none
    no-tree none h = refl
    no-tree (more u us) h = absurd (true≢false (sym h))

    no-arguments : t.arguments ≡ none
    no-arguments = no-tree t.arguments empty-parts.1

    no-statements : t.statements ≡ none
    no-statements = no-tree t.statements empty-parts.2

    -- ---- the template of the class, and that of its superclass

    bound0 : (ns : List SymId) → bind_all (K.this ∷ ns) (ref_v 0 ∷ []) (outer_env object0 own) [] ≡ record { env = env0; slots = slots0 }
    unfolding bind_all bind look put values_of
    bound0 ns = bind-none ns env0 slots0

    abbrev waiting : Step
    waiting = push (template_task ANY_REF 0 [] None) (waits (initialising ANY_REF) ∷ super_done own 0 env0 slot ∷ []) state2

    goes-super : go_super_arguments p own 0 [] t.arguments env0 slot state2 ≡ waiting
    goes-super =
        ap (λ (ts : Trees). go_super_arguments p own 0 [] ts env0 slot state2) no-arguments
        ∙ ap (λ k. or_stay k (λ k. go_super p own 0 [] env0 slot state2 (superclass_of table k))) (class-found p K alone)
        ∙ ap (go_super p own 0 [] env0 slot state2) super-is

    begins-own : begin p (template_task own 0 [] slot) state1 ≡ waiting
    unfolding begin begin_template
    begins-own =
        ap (begin_class p 0 [] slot state1) (class-found p K alone)
        ∙ ap (λ o. or_stay o (λ t. begin_written p K 0 [] slot state1 t object0)) templates
        ∙ ap (λ (b : Bound). go_prefixes p t.prefixes 0 b.env (class_start own slot) (record { store = object ∷ []; slots = b.slots; modules = []; statics = [] })) (bound0 (locals_of K.parameters))
        ∙ ap (λ qs. go_prefixes p qs 0 env0 (class_start own slot) state2) no-prefixes
        ∙ ap (λ o. or_stay o (λ t. go_super_arguments p own 0 [] t.arguments env0 slot state2)) templates
        ∙ goes-super

    begins-super : begin p (template_task ANY_REF 0 [] None) state2 ≡ stays (give unit_v state2)
    unfolding begin begin_template
    begins-super = ap (begin_class p 0 [] None state2) any-ref-missing

    goes-on : after_super p own 0 env0 slot state2 ≡ telling (began own) (stays (give unit_v state3))
    unfolding after_super
    goes-on =
        ap (λ k. or_stay k (λ k. go_mixins p (mixins_of table k) own 0 env0 state3)) (class-found p K alone)
        ∙ ap (λ ds. go_mixins p ds own 0 env0 state3) no-mixins
        ∙ ap (λ o. go_statements own o env0 state3) templates
        ∙ ap (λ (ts : Trees). telling (began own) (go_block ts env0 state3)) no-statements

    -- ---- the steps

    module _ (i j : NodeInfo) (x : SymId) where
      abbrev after_made : Frames
      after_made = waits (entering x) ∷ []

      abbrev config0 : Config
      config0 = at (tree_task (entry_tree i j own) []) after_made empty_state []

      abbrev config1 : Config
      config1 = at (tree_task (strict j (op.Literal literal.Unit) none) []) (operands (op.Module own) [] none [] ∷ after_made) empty_state []

      abbrev config2 : Config
      config2 = at (template_task own 0 [] slot) (waits (initialising own) ∷ waits (making 0) ∷ after_made) state1 log1

      abbrev after_super_made : Frames
      after_super_made = waits (initialising ANY_REF) ∷ super_done own 0 env0 slot ∷ waits (initialising own) ∷ waits (making 0) ∷ after_made

      abbrev config3 : Config
      config3 = at (template_task ANY_REF 0 [] None) after_super_made state2 log1

      step0 : step p config0 ≡ config1
      unfolding step begin begin_tree land
      step0 = refl

      step1 : step p config1 ≡ config2
      unfolding step begin begin_tree land resume react give_to act land_act get_module create module_at
      step1 = ap (λ outers. at (template_task own 0 [] slot) (waits (initialising own) ∷ waits (making 0) ∷ after_made) (record { store = instance own fields0 outers ∷ []; slots = []; modules = []; statics = [] }) log1) (no-outers [] (line_of table own))

      step2 : step p config2 ≡ config3
      unfolding step land
      step2 = ap (λ a. land a (waits (initialising own) ∷ waits (making 0) ∷ after_made) log1 (resume p (waits (initialising own) ∷ waits (making 0) ∷ after_made))) begins-own

      module _ (m : Member) (there : in_members K.members x ≡ Some m) (main : is_main table m ≡ true) (body : Tree) (bodies : look p.bodies x ≡ Some body) (a : Parameter) (parameters : m.parameters ≡ a ∷ []) where
        abbrev pub bound4 : Bound
        bound4 = bind_all (K.this ∷ a.symbol ∷ []) (ref_v 0 ∷ ref_v 1 ∷ []) [] slots0

        abbrev pub state5 : State
        state5 = record { store = object ∷ strings ∷ []; slots = bound4.slots; modules = ((unit_v, own), ref_v 0) ∷ []; statics = [] }

        abbrev pub log4 : List Note
        log4 = made (object_units table own) ∷ began own ∷ made (units_by 2 0) ∷ called own x ∷ []

        abbrev config4 : Config
        config4 = at (tree_task body bound4.env) (waits (returning None) ∷ []) state5 log4

        entered : enter body (K.this ∷ locals_of m.parameters) (ref_v 0 ∷ ref_v 1 ∷ []) [] None state4 ≡ next (tree_task body bound4.env) (returning None ∷ []) state5
        unfolding enter
        entered = ap (λ (xs : List Parameter). enter body (K.this ∷ locals_of xs) (ref_v 0 ∷ ref_v 1 ∷ []) [] None state4) parameters

        enters : give_back p (ref_v 0) state3 (entering x) ≡ noting (made (units_by 2 0)) (noting (called own x) (next (tree_task body bound4.env) (returning None ∷ []) state5))
        unfolding give_back make look
        enters =
            let f = plain-method m (main-parts table m main).plain in
            ap (λ o. or_no_rule o (λ (d : Defined). enter_with p x (ref_v 0) state3 d.member.parameters)) (member-found p K alone x m there)
            ∙ ap (enter_with p x (ref_v 0) state3) parameters
            ∙ ap (noting (made (units_by 2 0))) (calls p K alone has_code x m body 0 fields [] (ref_v 1 ∷ []) state4 there f bodies refl refl)
            ∙ ap (λ c. noting (made (units_by 2 0)) (noting (called own x) c)) entered

        abbrev go_entered : Go
        go_entered = resume p []

        last : resume p after_made (gives (ref_v 0)) state3 (made (object_units table own) ∷ began own ∷ []) ≡ config4
        unfolding resume land react give_to land_act
        last = ap (λ c. land_act c [] (made (object_units table own) ∷ began own ∷ []) go_entered) enters

        step3 : step p config3 ≡ config4
        unfolding step land resume react give_to give_back land_act
        step3 =
            ap (λ c. land c after_super_made log1 (resume p after_super_made)) begins-super
            ∙ ap (λ c. land c (waits (initialising own) ∷ waits (making 0) ∷ after_made) log1 (resume p (waits (initialising own) ∷ waits (making 0) ∷ after_made))) goes-on
            ∙ last

        four : steps p 4 config0 ≡ config4
        unfolding steps
        four = ap (λ c. step p (step p (step p c))) step0 ∙ ap (λ c. step p (step p c)) step1 ∙ ap (step p) step2 ∙ step3

        silent : (n : ℕ) → n ≤ 4 → seen table (steps p n config0) ≡ record { out = []; end = running }
        unfolding steps seen written_by
        silent zero h = refl
        silent (suc zero) h = ap (seen table) step0
        silent (suc (suc zero)) h = ap (λ c. seen table (step p c)) step0 ∙ ap (seen table) step1
        silent (suc (suc (suc zero))) h = ap (λ c. seen table (step p (step p c))) step0 ∙ ap (λ c. seen table (step p c)) step1 ∙ ap (seen table) step2
        silent (suc (suc (suc (suc zero)))) h = ap (seen table) four
        silent (suc (suc (suc (suc (suc n))))) h = absurd (omega arith)

        quiet : written_by log4 ≡ []
        unfolding written_by
        quiet = refl

-- ---- the whole

-- Where the program has come to when the body of `main` begins: the object has the place 0, and the array the place 1.
pub record Launched (p : Program) (K : CoreClass) (x : SymId) : Type 0 where
  pub member : Member
  pub there : in_members K.members x ≡ Some member
  pub main : is_main p.table member ≡ true
  pub method : is_method member ≡ true
  pub body : Tree
  pub body_there : look p.bodies x ≡ Some body
  pub parameter : Parameter
  pub parameters : member.parameters ≡ parameter ∷ []
  pub fields : List (SymId × Value)
  pub state : State
  pub env : Env
  pub log : List Note
  pub store : state.store ≡ instance K.symbol fields [] ∷ array (ref STRING) [] ∷ []
  -- the constructor has bound `this` before
  pub bound : bind_all (K.this ∷ parameter.symbol ∷ []) (ref_v 0 ∷ ref_v 1 ∷ []) [] ((K.this, ref_v 0 ∷ []) ∷ []) ≡ record { env = env; slots = state.slots }
  pub arrives : steps p 4 (start p (main_of K.symbol)) ≡ at (tree_task body env) (waits (returning None) ∷ []) state log
  pub quiet : written_by log ≡ []
  pub silent : (n : ℕ) → n ≤ 4 → source_run p (main_of K.symbol) n ≡ record { out = []; end = running }

pub launches : (p : Program) (K : CoreClass) (x : SymId) (t : Template) (i j : NodeInfo) → p.table.classes ≡ K ∷ [] → is_built p K ≡ true → same_symbol K.symbol ANY_REF ≡ false → member_entered p.table (main_of K.symbol) ≡ Some x → look p.templates K.symbol ≡ Some t
    → look p.entries K.symbol ≡ Some (entry_tree i j K.symbol) → Launched p K x
unfolding start source_run
launches p K x t i j alone has_code apart entered templates entries =
    let built = built-parts p K alone has_code in
    let f = main-there p K x alone built entered in
    let m = f.member in
    let g = around p K [] in
    let there : in_members K.members x ≡ Some m = subst (λ y. in_members K.members y ≡ Some m) f.symbol (member-first g p.bodies K.members f.number m built.typed f.there) in
    let b = body-there g p.bodies m (member-typed g p.bodies K.members f.number m built.typed f.there) in
    let bodies : look p.bodies x ≡ Some b.0 = subst (λ y. look p.bodies y ≡ Some b.0) f.symbol b.1 in
    let main = main-parts p.table m f.main in
    let a = one-parameter p.table m.parameters main.takes in
    let begins : start p (main_of K.symbol) ≡ at (tree_task (entry_tree i j K.symbol) []) (waits (entering x) ∷ []) empty_state [] = (λ k. starting (entered k) (entries k)) in
    record {
      member = m;
      there = there;
      main = f.main;
      method = plain-method m main.plain;
      body = b.0;
      body_there = bodies;
      parameter = a.0;
      parameters = a.1;
      fields = fields p K alone has_code apart;
      state = state5 p K alone has_code apart t templates i j x m there f.main b.0 bodies a.0 a.1;
      env = (bound4 p K alone has_code apart t templates i j x m there f.main b.0 bodies a.0 a.1).env;
      log = log4 p K alone has_code apart t templates i j x m there f.main b.0 bodies a.0 a.1;
      store = refl;
      bound = refl;
      arrives = ap (steps p 4) begins ∙ four p K alone has_code apart t templates i j x m there f.main b.0 bodies a.0 a.1;
      quiet = quiet p K alone has_code apart t templates i j x m there f.main b.0 bodies a.0 a.1;
      silent = λ n le. ap (λ c. seen p.table (steps p n c)) begins ∙ silent p K alone has_code apart t templates i j x m there f.main b.0 bodies a.0 a.1 n le;
    }
