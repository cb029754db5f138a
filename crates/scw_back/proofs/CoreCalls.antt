-- What a call of a method of the only class does in its program.
use Rattle.std.proofs.Common.{◌≡◌, refl, sym, ap, ◌∙◌, ℕ, Bool, true, false, cond, not, ◌||◌, List, [], ◌∷◌, Some, None}
use Rattle.std.proofs.lemmas.Bool.{and_parts, and_right, true≢false}
use Rattle.std.specs.Prelude.{◌&&◌, filter, find, is_none, option_map, option_and_then, slice_get, unwrap_or}
use Rattle.scw_text.specs.declared.number.SymId.{SymId}
use Rattle.scw_core.specs.declared.class.CoreClass.{CoreClass}
use Rattle.scw_core.specs.declared.class.Member.{Member}
use Rattle.scw_core.specs.declared.class.MemberKind.{MemberKind}
use Rattle.scw_core.specs.declared.class.MemberKind.TheVariants as kind
use Rattle.scw_core.specs.declared.symbol.TheConstants.{ANY, ANY_REF}
use Rattle.scw_core.specs.Call.{call_member, call_on, call_thing, enter, found_or_built_in, run_as, run_body, run_by, run_found, run_member}
use Rattle.scw_core.specs.Dispatch.{answer_of, answers, best, dispatch, dispatch_in, is_concrete}
use Rattle.scw_core.specs.Entry.{is_def, is_top_object, none_of}
use Rattle.scw_core.specs.Erasure.{signature, signature_in, signature_of}
use Rattle.scw_core.specs.Frame.{called, noting, or_no_rule}
use Rattle.scw_core.specs.Object.{at_reference, is_lazy}
use Rattle.scw_core.specs.Program.{Defined, Program, Table, class_of, first_some, in_classes, in_members, locals_of, look, this_of}
use Rattle.scw_core.specs.State.{Env, State, Thing, Value, instance, ref_v}
use Rattle.scw_core.specs.Text.{units_of_name}
use Rattle.scw_core.specs.Tree.{Tree}
use Rattle.scw_core.specs.Types.{Erased, void, boolean, char, int, long, unit_ref, ref, arr, all_same_erased, same_erased, same_symbol}
use Rattle.scw_gen.specs.Generate.{around, has_empty_template, is_built, is_class_name, is_fitting, is_only, is_plain_line}
use Rattle.scw_gen.specs.Method.{is_method}
use Rattle.scw_gen.specs.Typed.{is_well_typed}
use Rattle.scw_back.proofs.Maps.{by-test, symbol-itself, symbol-same}

-- ---- tests that all hold

pub all-three : (a b c : Bool) → (a && b && c) ≡ true → (a ≡ true) × (b ≡ true) × (c ≡ true)
all-three a b c h = let x = and_parts (a && b) c h in let y = and_parts a b x.0 in (y.0, y.1, x.1)

pub all-four : (a b c d : Bool) → (a && b && c && d) ≡ true → (a ≡ true) × (b ≡ true) × (c ≡ true) × (d ≡ true)
all-four a b c d h = let x = and_parts (a && b && c) d h in let y = all-three a b c x.0 in (y.0, y.1, y.2, x.1)

pub all-five : (a b c d e : Bool) → (a && b && c && d && e) ≡ true → (a ≡ true) × (b ≡ true) × (c ≡ true) × (d ≡ true) × (e ≡ true)
all-five a b c d e h = let x = and_parts (a && b && c && d) e h in let y = all-four a b c d x.0 in (y.0, y.1, y.2, y.3, x.1)

-- ---- what a class that has code is

pub record Built (p : Program) (K : CoreClass) : Type 0 where
  pub top : is_top_object p.table K ≡ true
  pub line : K.linearisation ≡ K.symbol ∷ ANY_REF ∷ ANY ∷ []
  pub template : has_empty_template (look p.templates K.symbol) ≡ true
  pub pairs : K.override_pairs ≡ []
  pub typed : is_well_typed (around p K []) p.bodies K.members ≡ true

pub none-there : {A : Type 0} (xs : List A) → none_of xs ≡ true → xs ≡ []
none-there [] h = refl
none-there (x ∷ xs) h = absurd (true≢false (sym h))

line-is : (own : SymId) (line : List SymId) → is_plain_line own line ≡ true → line ≡ own ∷ ANY_REF ∷ ANY ∷ []
line-is own [] h = absurd (true≢false (sym h))
line-is own (a ∷ []) h = absurd (true≢false (sym h))
line-is own (a ∷ b ∷ []) h = absurd (true≢false (sym h))
line-is own (a ∷ b ∷ c ∷ []) h =
    let x = all-three (same_symbol a own) (same_symbol b ANY_REF) (same_symbol c ANY) h in
    (λ i. symbol-same a own x.0 i ∷ symbol-same b ANY_REF x.1 i ∷ symbol-same c ANY x.2 i ∷ [])
line-is own (a ∷ b ∷ c ∷ d ∷ ds) h = absurd (true≢false (sym h))

pub built-parts : (p : Program) (K : CoreClass) → p.table.classes ≡ K ∷ [] → is_built p K ≡ true → Built p K
built-parts p K alone h =
    let g = around p K [] in
    let a = all-five (is_top_object p.table K) (is_plain_line K.symbol K.linearisation) (has_empty_template (look p.templates K.symbol)) (is_only K p.table.classes) (is_fitting g p K) h in
    let only = and_parts (same_symbol K.symbol K.symbol) (none_of K.override_pairs) (sym (ap (is_only K) alone) ∙ a.3) in
    let fitting = and_parts (is_class_name g (units_of_name K.binary_name)) (is_well_typed g p.bodies K.members) a.4 in
    record { top = a.0; line = line-is K.symbol K.linearisation a.1; template = a.2; pairs = none-there K.override_pairs only.1; typed = fitting.1 }

-- ---- members that are found

pub found-symbol : (ms : List Member) (x : SymId) (m : Member) → in_members ms x ≡ Some m → m.symbol ≡ x
found-symbol [] x m e = absurd (cc)
found-symbol (y ∷ ys) x m e = by-test (same_symbol y.symbol x) yes_case (no_case (λ f. found-symbol ys x m f))
  where
    yes_case : same_symbol y.symbol x ≡ true → m.symbol ≡ x
    yes_case t = let here : Some y ≡ Some m = sym (ap (λ b. cond b (Some y) (in_members ys x)) t) ∙ e in let same : y ≡ m = cc in sym (ap (λ (z : Member). z.symbol) same) ∙ symbol-same y.symbol x t

    no_case : (in_members ys x ≡ Some m → m.symbol ≡ x) → same_symbol y.symbol x ≡ false → m.symbol ≡ x
    no_case further t = further (sym (ap (λ b. cond b (Some y) (in_members ys x)) t) ∙ e)

-- where nothing overrides, the first member that answers is the one with the symbol
first-answer : (ms : List Member) (x : SymId) (m : Member) → in_members ms x ≡ Some m → is_concrete m.body ≡ true → (rest : List Member) × (filter (answers [] x) ms ≡ m ∷ rest)
first-answer [] x m e c = absurd (cc)
first-answer (y ∷ ys) x m e c = by-test (same_symbol y.symbol x) yes_case (no_case (λ f. first-answer ys x m f c))
  where
    yes_case : same_symbol y.symbol x ≡ true → (rest : List Member) × (filter (answers [] x) (y ∷ ys) ≡ m ∷ rest)
    yes_case t =
        let here : Some y ≡ Some m = sym (ap (λ b. cond b (Some y) (in_members ys x)) t) ∙ e in
        let same : y ≡ m = cc in
        let is : answers [] x y ≡ true = (λ i. is_concrete y.body && (t i || false)) ∙ (λ i. is_concrete (same i).body && true) ∙ ap (λ b. b && true) c in
        (filter (answers [] x) ys, ap (λ b. cond b (y ∷ filter (answers [] x) ys) (filter (answers [] x) ys)) is ∙ ap (λ z. z ∷ filter (answers [] x) ys) same)

    no_case : (in_members ys x ≡ Some m → (rest : List Member) × (filter (answers [] x) ys ≡ m ∷ rest)) → same_symbol y.symbol x ≡ false → (rest : List Member) × (filter (answers [] x) (y ∷ ys) ≡ m ∷ rest)
    no_case further t =
        let r = further (sym (ap (λ b. cond b (Some y) (in_members ys x)) t) ∙ e) in
        let is : answers [] x y ≡ false = and_right (is_concrete y.body) (same_symbol y.symbol x || false) (ap (λ b. b || false) t) in
        (r.0, ap (λ b. cond b (y ∷ filter (answers [] x) ys) (filter (answers [] x) ys)) is ∙ r.1)

-- ---- signatures

pub erased-itself : (e : Erased) → same_erased e e ≡ true
unfolding same_erased
erased-itself void = refl
erased-itself boolean = refl
erased-itself char = refl
erased-itself int = refl
erased-itself long = refl
erased-itself unit_ref = refl
erased-itself (ref c) = symbol-itself c
erased-itself (arr e) = erased-itself e

pub all-erased-itself : (es : List Erased) → all_same_erased es es ≡ true
all-erased-itself [] = refl
all-erased-itself (e ∷ es) = λ i. erased-itself e i && all-erased-itself es i

best-first : (T : Table) (m : Member) (rest : List Member) → best T (signature T m) (m ∷ rest) ≡ Some m
unfolding best
best-first T m rest = ap (λ b. first_some (cond b (Some m) (find (λ (x : Member). all_same_erased (signature T x) (signature T m)) rest)) (Some m)) (all-erased-itself (signature T m))

-- ---- kinds of members

def-eager : (k : MemberKind) → is_def k ≡ true → is_lazy k ≡ false
def-eager kind.Val h = refl
def-eager kind.Var h = refl
def-eager kind.LazyVal h = absurd (true≢false (sym h))
def-eager kind.Def h = refl
def-eager kind.Param h = refl

method-parts : (m : Member) → is_method m ≡ true → (is_def m.kind ≡ true) × (is_concrete m.body ≡ true)
method-parts m h = let a = all-five (is_def m.kind) (is_concrete m.body) (not m.is_static) (is_none m.block) (none_of m.type_parameters) h in (a.0, a.1)

pub method-eager : (m : Member) → is_method m ≡ true → is_lazy m.kind ≡ false
method-eager m h = def-eager m.kind (method-parts m h).0

pub method-concrete : (m : Member) → is_method m ≡ true → is_concrete m.body ≡ true
method-concrete m h = (method-parts m h).1

module _ (p : Program) (K : CoreClass) (alone : p.table.classes ≡ K ∷ []) where
  -- ---- the class

  pub class-found : class_of p.table K.symbol ≡ Some K
  unfolding class_of
  class-found = ap (find (λ (k : CoreClass). same_symbol k.symbol K.symbol)) alone ∙ ap (λ b. cond b (Some K) None) (symbol-itself K.symbol)

  pub class-missing : (c : SymId) → same_symbol K.symbol c ≡ false → class_of p.table c ≡ None
  unfolding class_of
  class-missing c off = ap (find (λ (k : CoreClass). same_symbol k.symbol c)) alone ∙ ap (λ b. cond b (Some K) None) off

  abbrev pub defined : Member → Defined
  defined m = record { class = K.symbol; member = m }

  pub member-found : (x : SymId) (m : Member) → in_members K.members x ≡ Some m → in_classes p.table.classes x ≡ Some (defined m)
  unfolding in_classes
  member-found x m e = ap (λ ks. in_classes ks x) alone ∙ ap (λ o. first_some (option_map defined o) None) e

  pub signature-found : (x : SymId) (m : Member) → in_members K.members x ≡ Some m → signature_of p.table x ≡ signature p.table m
  unfolding signature_of
  signature-found x m e = ap (λ d. signature_in p.table d x) (member-found x m e)

  module _ (has_code : is_built p K ≡ true) where
    abbrev pub built : Built p K
    built = built-parts p K alone has_code

    -- ---- dispatch

    pub dispatched : (x : SymId) (m : Member) → in_members K.members x ≡ Some m → is_concrete m.body ≡ true → dispatch p.table K.symbol x ≡ Some (defined m)
    unfolding dispatch dispatch_in
    dispatched x m e c =
        let found = first-answer K.members x m e c in
        let sig = signature p.table m in
        let later = dispatch_in p.table [] sig x (ANY_REF ∷ ANY ∷ []) in
        ap (λ k. option_and_then (λ (k : CoreClass). dispatch_in p.table k.override_pairs (signature_of p.table x) x k.linearisation) k) class-found
        ∙ (λ i. dispatch_in p.table (built.pairs i) (signature-found x m e i) x (built.line i))
        ∙ ap (λ k. first_some (option_and_then (answer_of p.table [] sig x) k) later) class-found
        ∙ ap (λ ms. first_some (option_map defined (best p.table sig ms)) later) found.1
        ∙ ap (λ o. first_some (option_map defined o) later) (best-first p.table m found.0)

    -- ---- calls

    -- the method's body begins, with its object and its arguments
    pub calls : (x : SymId) (m : Member) (body : Tree) (q : ℕ) (fields : List (SymId × Value)) (outers : List (SymId × Env)) (vs : List Value) (S : State) → in_members K.members x ≡ Some m → is_method m ≡ true → look p.bodies x ≡ Some body
        → slice_get S.store q ≡ Some (instance K.symbol fields outers) → unwrap_or (look outers K.symbol) [] ≡ []
        → call_on p x (ref_v q) vs S ≡ noting (called K.symbol x) (enter body (K.this ∷ locals_of m.parameters) (ref_v q ∷ vs) [] None S)
    unfolding call_on at_reference call_member run_found run_member run_body
    calls x m body q fields outers vs S e is bodies there outside =
        let t : Thing = instance K.symbol fields outers in
        let d = defined m in
        let same = found-symbol K.members x m e in
        ap (λ o. or_no_rule o (call_thing p x vs S q)) there
        ∙ ap (found_or_built_in p x q t vs S) (dispatched x m e (method-concrete m is))
        ∙ ap (λ b. run_by p b x d q t vs S) (ap (all_same_erased (signature p.table m)) (signature-found x m e) ∙ all-erased-itself (signature p.table m))
        ∙ ap (λ b. run_as p b d q t vs None S) (method-eager m is)
        ∙ (λ i. or_no_rule (look p.bodies (same i)) (λ b. noting (called K.symbol (same i)) (enter b (this_of (class-found i) K.symbol ∷ locals_of m.parameters) (ref_v q ∷ vs) (outside i) None S)))
        ∙ ap (λ o. or_no_rule o (λ b. noting (called K.symbol x) (enter b (K.this ∷ locals_of m.parameters) (ref_v q ∷ vs) [] None S))) bodies
