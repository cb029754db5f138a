-- Each method of the linked program has its body's code.
use Rattle.std.proofs.Common.{◌≡◌, refl, sym, ap, ◌∙◌, subst, ℕ, ◌+◌, ◌-◌, ◌^◌, ◌≤◌, arith, true, false, min, List, [], ◌∷◌, map, Option, Some, None, inl, inr}
use Rattle.std.proofs.lemmas.Bool.{cond-false, cond-true}
use Rattle.scw_text.specs.declared.number.SymId.{SymId}
use Rattle.scw_classfile.specs.declared.pool_entry.PoolEntry.{PoolEntry}
use Rattle.scw_core.specs.Program as core
use Rattle.scw_core.specs.Program.{in_members, look}
use Rattle.scw_core.specs.Tree.{Tree}
use Rattle.scw_core.specs.Types.{same_symbol}
use Rattle.scw_core.specs.declared.class.CoreClass.{CoreClass}
use Rattle.scw_core.specs.declared.class.Member.{Member}
use Rattle.scw_core.specs.declared.class.Parameter.{Parameter}
use Rattle.scw_gen.specs.declared.kind.Kind.{Kind}
use Rattle.scw_gen.specs.declared.kind.Kind.TheVariants as kind
use Rattle.scw_gen.specs.declared.operator.Form.TheVariants.{Values}
use Rattle.scw_gen.specs.Around.{Around, kind_in}
use Rattle.scw_gen.specs.Generate.{is_built}
use Rattle.scw_gen.specs.Kind.{width_of}
use Rattle.scw_gen.specs.Method.{local_of, outermost, started}
use Rattle.scw_gen.specs.Name.{kind_of_parameter}
use Rattle.scw_gen.specs.Outcome.{◌>>=◌}
use Rattle.scw_gen.specs.Room.{slot_behind, stack_of, width}
use Rattle.scw_gen.specs.Scope.{Scope, from, inside, placed}
use Rattle.scw_gen.specs.Typed as typed
use Rattle.scw_gen.specs.Typed.{Known, all_set, bound, is_body_typed, is_typed, is_typed_by, kind_of_tree, kinds_of_parameters, known_in_body, this_known, told}
use Rattle.scw_gen.proofs.Steps as steps
use Rattle.scw_frame.specs.declared.program.Method.{Method}
use Rattle.scw_frame.specs.declared.program.Program.{Program}
use Rattle.scw_back.proofs.Bodies.{Bodies, BodyCode, G, unit_body, value_body}
use Rattle.scw_back.proofs.BodyPlaced.{BodyAt, begins, body-placed}
use Rattle.scw_back.proofs.CoreCalls.{built-parts, found-symbol}
use Rattle.scw_back.proofs.Firsts.{find-first}
use Rattle.scw_back.proofs.Loaded.{Loaded, around_by}
use Rattle.scw_back.proofs.MainLaunch.{locals-most}
use Rattle.scw_back.proofs.MainMember.{member-typed}
use Rattle.scw_back.proofs.Maps.{by-test}
use Rattle.scw_back.proofs.Meanings.{kinds-anywhere}
use Rattle.scw_back.proofs.PoolFree.{typed-free}
use Rattle.scw_back.proofs.Stands.{left_by}

-- ---- what typing says of a body

pub record Told (g : Around) (m : Member) (t : Tree) : Type 0 where
  pub inner : List Known
  pub bound_is : bound g (typed.locals_of m.parameters) (this_known g ∷ []) ≡ Some inner
  pub result : Kind
  pub result_is : kind_in g m.result ≡ Some result

pub told-of : (g : Around) (m : Member) (t : Tree) → is_body_typed g m t ≡ true → Told g m t
told-of g m t h = by_bound (bound g (typed.locals_of m.parameters) (this_known g ∷ [])) refl
  where
    by_result : (inner : List Known) → bound g (typed.locals_of m.parameters) (this_known g ∷ []) ≡ Some inner → (k : Option Kind) → kind_in g m.result ≡ k → (o : Option Kind) → told o k ≡ true → Told g m t
    by_result inner e (Some k) ek o is = record { inner = inner; bound_is = e; result = k; result_is = ek }
    by_result inner e None ek None is = absurd (cc)
    by_result inner e None ek (Some a) is = absurd (cc)

    by_bound : (o : Option (List Known)) → bound g (typed.locals_of m.parameters) (this_known g ∷ []) ≡ o → Told g m t
    by_bound (Some inner) e = by_result inner e (kind_in g m.result) refl (known_in_body g m >>= λ ys. kind_of_tree g ys t) h
    by_bound None e =
        let no : false ≡ true = sym (ap (λ (l : Option (List Known)). told ((l >>= λ ys. Some (all_set ys)) >>= λ ys. kind_of_tree g ys t) (kind_in g m.result)) e) ∙ h in absurd (cc)

-- ---- slots of parameters

kind-plain : (g : Around) (x : Parameter) (k : Kind) → kind_of_parameter g x ≡ Some k → kind_in g x.type_id ≡ Some k
kind-plain g x k e = by-test x.is_by_name named (λ t. sym (cond-false x.is_by_name None (kind_in g x.type_id) t) ∙ e)
  where
    named : x.is_by_name ≡ true → kind_in g x.type_id ≡ Some k
    named t = let no : None ≡ Some k = sym (cond-true x.is_by_name None (kind_in g x.type_id) t) ∙ e in absurd (cc)

pub slots-of : (g : Around) (xs : List Parameter) (ks : List Kind) (n : ℕ) → kinds_of_parameters g xs ≡ Some ks → n ≤ 2 ^ 64 - 1 → slot_behind g n (map local_of xs) ≡ min (n + left_by Values ks) (2 ^ 64 - 1)
unfolding slot_behind
slots-of g [] ks n e le = let none : [] ≡ ks = cc in subst (λ (l : List Kind). n ≡ min (n + left_by Values l) (2 ^ 64 - 1)) none (omega (arith, le))
slots-of g (x ∷ xs) ks n e le =
    let a = steps.bound (kind_of_parameter g x) (λ k. kinds_of_parameters g xs >>= λ l. Some (k ∷ l)) ks e in
    let b = steps.bound (kinds_of_parameters g xs) (λ l. Some (a.0 ∷ l)) ks a.2 in
    let list : a.0 ∷ b.0 ≡ ks = (let s : Some (a.0 ∷ b.0) ≡ Some ks = b.2 in cc) in
    let w : width (kind_in g x.type_id) ≡ width_of a.0 = ap width (kind-plain g x a.0 a.1) in
    let next : ℕ = min (n + width (kind_in g x.type_id)) (2 ^ 64 - 1) in
    let small : next ≤ 2 ^ 64 - 1 = omega arith in
    let rest = slots-of g xs b.0 next b.1 small in
    subst (λ (l : List Kind). slot_behind g next (map local_of xs) ≡ min (n + left_by Values l) (2 ^ 64 - 1)) list (omega (arith, rest, w))

-- ---- all methods

module _ (p : core.Program) (K : CoreClass) (pool : List PoolEntry) (L : Program) (own : List ℕ) (loaded : Loaded p K pool L own) (one : p.table.classes ≡ K ∷ []) (has_code : is_built p K ≡ true) where
  -- the code of a body, by what was found of it
  body-code : (m : Method) (ys : List Known) (s : Scope) (k : Kind) (d d' : ℕ) (body : Tree) → d ≡ d' → BodyAt p K pool L m ys s k d body → BodyCode p K pool L m ys s d' body k
  body-code m ys s k d d' body e (inl x) = subst (λ c. BodyCode p K pool L m ys s d' body c) (sym x.0) (subst (λ n. BodyCode p K pool L m ys s n body kind.Unit) e (unit_body x.1.code_there x.1.return_there))
  body-code m ys s k d d' body e (inr x) = subst (λ n. BodyCode p K pool L m ys s n body k) e (value_body x.0 x.1)

  -- each member is typed
  typed-member : (x : SymId) (m : Member) → in_members K.members x ≡ Some m → is_typed (G p K pool L) p.bodies m ≡ true
  typed-member x m there =
      let f = find-first (λ (a : Member). same_symbol a.symbol x) K.members m there in
      typed-free p K pool p.bodies m ∙ member-typed (around_by p K [] false) p.bodies K.members f.0 m (built-parts p K one has_code).typed f.1.there

  pub bodies : Bodies p K pool L
  bodies x number number_is =
      let b = loaded.members x number number_is in
      let g : Around = G p K pool L in
      let is = typed-member x b.member b.member_there in
      let symbol = found-symbol K.members x b.member b.member_there in
      let here : look p.bodies b.member.symbol ≡ Some b.body = ap (look p.bodies) symbol ∙ b.body_there in
      let typed : is_body_typed g b.member b.body ≡ true = sym (ap (is_typed_by g b.member) here) ∙ is in
      let t = told-of g b.member b.body typed in
      let ys : List Known = all_set t.inner in
      let known : known_in_body g b.member ≡ Some ys = ap (λ (l : Option (List Known)). l >>= λ ys. Some (all_set ys)) t.bound_is in
      let far : Around = around_by p K pool b.far in
      let placed_of = steps.bound (placed p.table K.symbol (from 1) (map local_of b.member.parameters)) (λ s. started far (map local_of b.member.parameters) s (kind_in far b.member.result)) b.start b.starts in
      let begun = begins far (map local_of b.member.parameters) placed_of.0 (kind_in far b.member.result) b.start placed_of.2 in
      let placed_body = body-placed p K pool L x number b ys t.result is known t.result_is in
      let widths = slots-of far b.member.parameters b.kinds 1 (kinds-anywhere far b.member.parameters ∙ sym (kinds-anywhere g b.member.parameters) ∙ b.kinds_are) (omega arith) in
      let few = b.few in
      let next : b.start.next ≡ 1 + left_by Values b.kinds = (let n = begun.next_is in omega (arith, n, widths, few)) in
      let most = locals-most far b.start.next b.body (omega (arith, few)) in
      let locals = b.is.locals_is in
      let small = b.narrow in
      record {
        member = b.member;
        member_there = b.member_there;
        method_form = b.method_form;
        body = b.body;
        body_there = b.body_there;
        kinds = b.kinds;
        kinds_are = b.kinds_are;
        result = t.result;
        result_is = t.result_is;
        inner = t.inner;
        bound_is = t.bound_is;
        added = placed_of.0;
        placed_is = placed_of.1;
        method = b.is.method;
        runs = record { there = b.is.there; guards = b.is.guards_are };
        arguments_are = b.is.arguments_are;
        fits = omega (arith, locals, most, next);
        narrow = omega (arith, locals, small);
        code = body-code b.is.method ys (inside placed_of.0 (outermost g)) t.result (stack_of far b.start.mode b.body) b.is.method.stack b.body (sym b.is.stack_is) (subst (λ (s : Scope). BodyAt p K pool L b.is.method ys s t.result (stack_of far b.start.mode b.body) b.body) begun.scope_is placed_body);
      }
