-- The members of a class that is well typed: bodies, kinds of parameters, names with descriptors.
use Rattle.std.proofs.Common.{◌≡◌, ℕ, Bool, true, false, not, ◌&&◌, cond, List, [], ◌∷◌, ◌++◌, Option, Some, None, refl, sym, ap, ◌∙◌, subst, append-nil, append_assoc}
use Rattle.std.specs.Prelude.{find}
use Rattle.std.specs.List.{list_all}
use Rattle.std.proofs.lemmas.Bool.{and_parts, cond-false, cond-true, false≢true, not-true}
use Rattle.std.proofs.lemmas.Option.{none-some, same_Some}
use Rattle.scw_text.specs.declared.number.SymId.{SymId}
use Rattle.scw_classfile.specs.Descriptor as descriptors
use Rattle.scw_classfile.specs.declared.pool_entry.PoolEntry.{PoolEntry}
use Rattle.scw_core.specs.Program.{Table, in_members, look}
use Rattle.scw_core.specs.Text.{units_of_name}
use Rattle.scw_core.specs.Tree.{Tree}
use Rattle.scw_core.specs.Types.{same_symbol}
use Rattle.scw_core.specs.declared.class.CoreClass.{CoreClass}
use Rattle.scw_core.specs.declared.class.Member.{Member}
use Rattle.scw_core.specs.declared.class.Parameter.{Parameter}
use Rattle.scw_gen.specs.Around.{Around, kind_in}
use Rattle.scw_gen.specs.Kind.{kind_at}
use Rattle.scw_gen.specs.Method.{is_method}
use Rattle.scw_gen.specs.Name.{closed, described, descriptor, field_text, kind_of_parameter, method_name, opened, own_method, parameters_text}
use Rattle.scw_gen.specs.Named.{named_by, named_constant, named_member}
use Rattle.scw_gen.specs.Outcome.{◌>>=◌}
use Rattle.scw_gen.specs.Typed as typed
use Rattle.scw_gen.specs.Typed.{Known, all_set, is_body_typed, is_bound, is_typed, is_typed_by, is_well_typed, kind_of_tree, known, known_in_body, locals_of, rises, this_known, told}
use Rattle.scw_gen.specs.declared.instr.Constant.{Constant}
use Rattle.scw_gen.specs.declared.instr.Constant.TheVariants as constant
use Rattle.scw_gen.specs.declared.instr.Instr.{Instr}
use Rattle.scw_gen.specs.declared.instr.Instr.TheVariants as instr
use Rattle.scw_gen.specs.declared.kind.Kind.{Kind}
use Rattle.scw_gen.specs.declared.named.Named.TheVariants.{Method}
use Rattle.scw_gen.specs.declared.pool.MethodName.{MethodName}
use Rattle.scw_gen.proofs.Steps.{bound}
use Rattle.scw_built.proofs.AllMethods.{is_by_value, takes_values}
use Rattle.scw_built.proofs.Operators.{NameOf, plain, under}
use Rattle.scw_built.proofs.Sound.{are_units, have_units}
use Rattle.scw_built.proofs.Texts.{IsOwn, fields_text, method_text, method_text-is, method_text-units}

-- ---- kinds of parameters

pub data ParameterKinds (table : Table) (own : SymId) : List Parameter → List Kind → Type 0 where
  no_parameters : ParameterKinds table own [] []
  one_more : (x : Parameter) (xs : List Parameter) (k : Kind) (ks : List Kind) → x.is_by_name ≡ false → kind_at table own x.type_id ≡ Some k → ParameterKinds table own xs ks → ParameterKinds table own (x ∷ xs) (k ∷ ks)

pub parameter_kinds : (g : Around) (xs : List Parameter) (ys zs : List Known) → list_all is_by_value xs ≡ true → typed.bound g (locals_of xs) ys ≡ Some zs → (ks : List Kind) × ParameterKinds g.table g.class.symbol xs ks
unfolding typed.bound
parameter_kinds g [] ys zs n h = ([], no_parameters)
parameter_kinds g (x ∷ xs) ys zs n h = by (is_bound (known ys x.symbol)) h (λ us e. parameter_kinds g xs us zs a.1 e)
  where
    a : (not x.is_by_name ≡ true) × (list_all is_by_value xs ≡ true)
    a = and_parts (not x.is_by_name) (list_all is_by_value xs) n

    by : (b : Bool) → cond b None (kind_in g x.type_id >>= λ k. typed.bound g (locals_of xs) (record { symbol = x.symbol; kind = k; is_set = false } ∷ ys)) ≡ Some zs
        → ((us : List Known) → typed.bound g (locals_of xs) us ≡ Some zs → (ks : List Kind) × ParameterKinds g.table g.class.symbol xs ks) → (ks : List Kind) × ParameterKinds g.table g.class.symbol (x ∷ xs) ks
    by true e later = absurd (none-some zs e)
    by false e later =
        let b = bound (kind_in g x.type_id) (λ k. typed.bound g (locals_of xs) (record { symbol = x.symbol; kind = k; is_set = false } ∷ ys)) zs e in
        let r = later (record { symbol = x.symbol; kind = b.0; is_set = false } ∷ ys) b.2 in
        (b.0 ∷ r.0, one_more x xs b.0 r.0 (not-true x.is_by_name a.0) b.1 r.1)

parameters_text-is : (g : Around) (text : List ℕ) (xs : List Parameter) (ks : List Kind) → ParameterKinds g.table g.class.symbol xs ks → parameters_text g text xs ≡ Some (text ++ fields_text g.class.binary_name ks)
unfolding parameters_text
parameters_text-is g text xs ks no_parameters = ap (λ l. Some l) (sym (append-nil text))
parameters_text-is g text xs ks (one_more x us k ls n is h) =
    let own = g.class.binary_name in
    let kind : kind_of_parameter g x ≡ Some k = cond-false x.is_by_name None (kind_in g x.type_id) n ∙ is in
    ap (λ (o : Option Kind). o >>= λ l. parameters_text g (text ++ field_text own l) us) kind
    ∙ parameters_text-is g (text ++ field_text own k) us ls h
    ∙ ap (λ l. Some l) (append_assoc text (field_text own k) (fields_text own ls))

-- ---- names

-- they don't depend on the pool
module _ (table : Table) (class : CoreClass) (p : List PoolEntry) (d : Bool) where
  abbrev G : Around
  G = under table class p d

  abbrev N : Around
  N = plain table class

  same-then : {A B : Type 0} (o : Option A) (f g : A → Option B) → ((a : A) → f a ≡ g a) → (o >>= f) ≡ (o >>= g)
  same-then None f g h = refl
  same-then (Some a) f g h = h a

  text-anywhere : (text : List ℕ) (xs : List Parameter) → parameters_text G text xs ≡ parameters_text N text xs
  unfolding parameters_text
  text-anywhere text [] = refl
  text-anywhere text (x ∷ xs) =
      let own = class.binary_name in
      same-then (kind_of_parameter N x) (λ k. parameters_text G (text ++ field_text own k) xs) (λ k. parameters_text N (text ++ field_text own k) xs) (λ k. text-anywhere (text ++ field_text own k) xs)

  closed-anywhere : (text : List ℕ) (k : Option Kind) → closed G text k ≡ closed N text k
  closed-anywhere text None = refl
  closed-anywhere text (Some k) = refl

  pub name-anywhere : (m : Member) → method_name G m ≡ method_name N m
  name-anywhere m =
      ap (λ (o : Option (List ℕ)). (o >>= λ text. closed G text (kind_in N m.result)) >>= λ text. described (own_method N (units_of_name m.name) text)) (text-anywhere opened m.parameters)
      ∙ ap (λ (o : Option (List ℕ)). o >>= λ text. described (own_method N (units_of_name m.name) text))
      (same-then (parameters_text N opened m.parameters) (λ text. closed G text (kind_in N m.result)) (λ text. closed N text (kind_in N m.result)) (λ text. closed-anywhere text (kind_in N m.result)))

  member-anywhere : (o : Option Member) → named_member G o ≡ named_member N o
  member-anywhere None = refl
  member-anywhere (Some m) = ap (λ (o : Option MethodName). o >>= λ n. Some (Method n)) (name-anywhere m)

  constant-anywhere : (c : Constant) → named_constant G c ≡ named_constant N c
  constant-anywhere (constant.Int n) = refl
  constant-anywhere (constant.Text t) = refl

  -- nor does what instructions name
  pub named-anywhere : (i : Instr) → named_by G i ≡ named_by N i
  named-anywhere (instr.Constant c) = constant-anywhere c
  named-anywhere (instr.WideConstant c) = constant-anywhere c
  named-anywhere (instr.Call x) = member-anywhere (in_members class.members x)
  named-anywhere _ = refl

-- ---- members

module _ (table : Table) (class : CoreClass) (bodies : List (SymId × Tree)) where
  abbrev M : Around
  M = plain table class

  -- the body of a member, with its kind
  pub record BodyOf (m : Member) : Type 0 where
    pub tree : Tree
    pub is : look bodies m.symbol ≡ Some tree
    pub known : List Known
    pub bound_is : typed.bound M (locals_of m.parameters) (this_known M ∷ []) ≡ Some known
    pub kind : Kind
    pub kind_is : kind_of_tree M (all_set known) tree ≡ Some kind
    pub result : Kind
    pub result_is : kind_in M m.result ≡ Some result

  told-parts : (a b : Option Kind) → told a b ≡ true → (k : Kind) × (l : Kind) × (a ≡ Some k) × (b ≡ Some l)
  told-parts None b h = absurd (false≢true h)
  told-parts (Some k) None h = absurd (false≢true h)
  told-parts (Some k) (Some l) h = (k, l, refl, refl)

  body-of : (m : Member) (o : Option Tree) → look bodies m.symbol ≡ o → is_typed_by M m o ≡ true → BodyOf m
  body-of m None f h = absurd (false≢true h)
  body-of m (Some t) f h =
      let a = told-parts (known_in_body M m >>= λ ys. kind_of_tree M ys t) (kind_in M m.result) h in
      let b = bound (known_in_body M m) (λ ys. kind_of_tree M ys t) a.0 a.2 in
      let c = bound (typed.bound M (locals_of m.parameters) (this_known M ∷ [])) (λ ys. Some (all_set ys)) b.0 b.1 in
      record {
        tree = t;
        is = f;
        known = c.0;
        bound_is = c.1;
        kind = a.0;
        kind_is = subst (λ ys. kind_of_tree M ys t ≡ Some a.0) (sym (same_Some (all_set c.0) b.0 c.2)) b.2;
        result = a.1;
        result_is = a.3;
      }

  -- a member that has a body of its kind, and a name
  pub record Whole (m : Member) : Type 0 where
    pub method : is_method m ≡ true
    pub body : BodyOf m
    pub name : NameOf M m

  name-of : (m : Member) → are_units (units_of_name class.binary_name) ≡ true → IsOwn (units_of_name class.binary_name) → are_units (units_of_name m.name) ≡ true → takes_values m ≡ true → BodyOf m → NameOf M m
  name-of m own is units n b =
      let kinds = parameter_kinds M m.parameters (this_known M ∷ []) b.known n b.bound_is in
      let text = method_text class.binary_name kinds.0 b.result in
      let name = own_method M (units_of_name m.name) text in
      let told : descriptor M m ≡ Some text =
      ap (λ (o : Option (List ℕ)). o >>= λ t. closed M t (kind_in M m.result)) (parameters_text-is M opened m.parameters kinds.0 kinds.1) ∙ ap (closed M (opened ++ fields_text class.binary_name kinds.0)) b.result_is in
      record {
        name = name;
        is = ap (λ (o : Option (List ℕ)). o >>= λ t. described (own_method M (units_of_name m.name) t)) told ∙ cond-true (descriptors.is_method text) (Some name) None (method_text-is class.binary_name kinds.0 b.result is);
        same = refl;
        fits = (own, units, method_text-units class.binary_name kinds.0 b.result own);
      }

  pub data AllWhole : List Member → Type 0 where
    whole_none : AllWhole []
    whole_more : (m : Member) (ms : List Member) → Whole m → AllWhole ms → AllWhole (m ∷ ms)

  pub all-whole : (ms : List Member) → are_units (units_of_name class.binary_name) ≡ true → IsOwn (units_of_name class.binary_name) → have_units ms ≡ true → list_all is_method ms ≡ true → list_all takes_values ms ≡ true → is_well_typed M bodies ms ≡ true → AllWhole ms
  unfolding is_well_typed
  all-whole [] own is u h v t = whole_none
  all-whole (m ∷ ms) own is u h v t =
      let a = and_parts (are_units (units_of_name m.name)) (have_units ms) u in
      let b = and_parts (is_method m) (list_all is_method ms) h in
      let c = and_parts (takes_values m) (list_all takes_values ms) v in
      let d = and_parts (is_typed M bodies m && rises ms m) (is_well_typed M bodies ms) t in
      let e = and_parts (is_typed M bodies m) (rises ms m) d.0 in
      let body = body-of m (look bodies m.symbol) refl e.0 in
      whole_more m ms (record { method = b.0; body = body; name = name-of m own is a.0 c.0 body }) (all-whole ms own is a.1 b.1 c.1 d.1)

  pub name-found : (ms : List Member) (x : SymId) (m : Member) → AllWhole ms → in_members ms x ≡ Some m → NameOf M m
  name-found ms x m whole_none h = absurd (none-some m h)
  name-found ms x m (whole_more n ns w r) h = by (same_symbol n.symbol x) h (λ e. name-found ns x m r e)
    where
      by : (b : Bool) → cond b (Some n) (find (λ (y : Member). same_symbol y.symbol x) ns) ≡ Some m → (in_members ns x ≡ Some m → NameOf M m) → NameOf M m
      by true e later = subst (NameOf M) (same_Some n m e) w.name
      by false e later = later e
