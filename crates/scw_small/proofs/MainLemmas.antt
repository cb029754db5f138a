-- Each program of a source has its `main`.
use Rattle.std.proofs.Common.{◌≡◌, refl, sym, ap, subst, ◌∙◌, ℕ, ◌+◌, ◌<◌, suc, nat_lt, arith, Bool, true, false, not, cond, option_map, List, [], ◌∷◌, ◌++◌, length, position, Option, Some, None, codes}
use Rattle.std.specs.Prelude.{IsSome}
use Rattle.std.specs.List.{position_or_len}
use Rattle.std.proofs.lemmas.Bool.{lt-ltb}
use Rattle.std.proofs.lemmas.List.{append_assoc, append-nil}
use Rattle.scw_text.specs.declared.number.SymId.{SymId}
use Rattle.scw_text.specs.declared.number.TypeId.{TypeId}
use Rattle.scw_core.specs.declared.class.Member.{Member}
use Rattle.scw_core.specs.declared.class.Parameter.{Parameter}
use Rattle.scw_core.specs.declared.program.MethodId.{MethodId}
use Rattle.scw_core.specs.Entry.{main_method, is_main, is_member}
use Rattle.scw_core.specs.Program.{Table, Program, head_of, type_at, first_some}
use Rattle.scw_core.specs.Types.{CoreType}
use Rattle.scw_reader.specs.Syntax.{Expression, Method, Source}
use Rattle.scw_reader.specs.declared.tree.Parameter.{Parameter as Written_parameter}
use Rattle.scw_reader.specs.declared.tree.TypeName.TheVariants as type
use Rattle.scw_small.specs.declared.method.Outline.{Outline}
use Rattle.scw_small.specs.declared.scope.Signature.{Signature}
use Rattle.scw_small.specs.declared.symbol.TheConstants.{STRINGS_ID}
use Rattle.scw_small.specs.Step.{Named, State, Step, and_then, add_type, enter, fresh, find_name, add_name, only_if}
use Rattle.scw_small.specs.Symbol.{first_types, kind_id, main_type}
use Rattle.scw_small.specs.Typed.{same_kind}
use Rattle.scw_small.specs.Typing.{expression}
use Rattle.scw_small.specs.Whole.{Made, nothing_made, member, parameter, parameters, clause, bound, method_with, method_by, method, all_methods, main_method as main_made, members, signature, add_signature, add_signatures, object, beginning, program_in, table, typed}
use Rattle.scw_small.proofs.TypesLemmas.{Stays, stays_bind, stays_expression, stays_define, stays_enter, stays_fresh, stays_pure, stays_only_if, stays_given}

-- ---- the types only grow

pub Grows : {A : Type 0} → Step A → Type 0
Grows {A} p = (s : State) (a : A) (t : State) → p s ≡ Some (a, t) → (more : List CoreType) × (t.types ≡ s.types ++ more)

grows_stays : {A : Type 0} (p : Step A) → Stays p → Grows p
unfolding Grows Stays
grows_stays p h s a t e = ([], h s a t e ∙ sym (append-nil s.types))

-- what two steps in a row gave, each gave
both_gave : {A B : Type 0} (r : Option (A × State)) (f : A → Step B) (b : B) (t : State) → and_then r f ≡ Some (b, t) → (a : A) × (s : State) × (r ≡ Some (a, s)) × (f a s ≡ Some (b, t))
both_gave None f b t h = absurd (cc)
both_gave (Some q) f b t h = (q.0, q.1, refl, h)

grows_bind : {A B : Type 0} (p : Step A) (f : A → Step B) → Grows p → ((a : A) → Grows (f a)) → Grows (λ s. and_then (p s) f)
unfolding Grows
grows_bind p f one two s b t h =
    let g = both_gave (p s) f b t h in
    let first = one s g.0 g.1 g.2 in
    let second = two g.0 g.1 b t g.3 in
    (first.0 ++ second.0, second.1 ∙ ap (λ l. l ++ second.0) first.1 ∙ append_assoc s.types first.0 second.0)

some_same : {A : Type 0} (y z : A) → Some y ≡ Some z → y ≡ z
some_same y z k = cc

grows_type : (x : CoreType) → Grows (add_type x)
unfolding Grows add_type
grows_type x s a t h = let e = some_same _ _ h in (x ∷ [], ap (λ q. q.1.types) (sym e))

-- ---- the members only grow

-- the outline of `main`
abbrev main_outline : SymId → SymId → TypeId → Outline
main_outline n a of = record { symbol = n; name = codes "main"; parameters = parameter a STRINGS_ID ∷ []; type_id = of; answer = kind_id type.Unit }

-- it is among the members
HasMain : List Member → Type 0
HasMain ms = (front back : List Member) × (n a : SymId) × (of : TypeId) × (ms ≡ front ++ member (main_outline n a of) ∷ back)

-- what a step makes has these members first
Adds : Step Made → List Member → Type 0
Adds p ms = (s t : State) (made : Made) → p s ≡ Some (made, t) → (more : List Member) × (made.members ≡ ms ++ more)

keeps_main : (ms more all : List Member) → HasMain ms → all ≡ ms ++ more → HasMain all
unfolding HasMain
keeps_main ms more all h e =
    (h.0, h.1 ++ more, h.2, h.3, h.4, e ∙ ap (λ l. l ++ more) h.5 ∙ append_assoc h.0 (member (main_outline h.2 h.3 h.4) ∷ h.1) more)

module _ (g : Named Signature) where
  stays_parameters : (xs : List Written_parameter) (found : List Parameter) → Stays (parameters g found xs)
  stays_parameters [] found = stays_pure found
  stays_parameters (x ∷ xs) found = stays_bind _ _ (stays_define g x.name x.kind false) (λ n. stays_parameters xs (found ++ parameter n (kind_id x.kind) ∷ []))

  stays_clause : (xs : List Written_parameter) → Stays (clause g xs)
  unfolding clause
  stays_clause xs = stays_parameters xs []

  stays_bound : (m : Method) → Stays (bound g m)
  unfolding bound
  stays_bound m =
      stays_bind _ _ stays_enter (λ u. stays_bind _ _ (stays_clause m.parameters) (λ xs. stays_bind _ _ (stays_expression g m.body) (λ t. stays_bind _ _ (stays_only_if (same_kind t.kind m.result)) (λ u. stays_pure (record { parameters = xs; tree = t.tree })))))

  grows_with : (made : Made) (m : Method) (n : SymId) → Grows (method_with g made m n)
  unfolding method_with
  grows_with made m n = grows_bind _ _ (grows_stays _ (stays_bound m)) (λ x. grows_bind _ _ (grows_type _) (λ of. grows_stays _ (stays_pure _)))

  adds_with : (made : Made) (m : Method) (n : SymId) → Adds (method_with g made m n) made.members
  unfolding method_with Adds
  adds_with made m n s t x h =
      let one = both_gave (bound g m s) _ _ _ h in
      let two = both_gave (add_type _ one.1) _ _ _ one.3 in
      let e = some_same _ _ two.3 in
      (_, ap (λ q. q.0.members) (sym e))

  grows_by : (made : Made) (m : Method) (o : Option Signature) → Grows (method_by g made m o)
  unfolding Grows
  grows_by made m None s a t h = absurd (cc)
  grows_by made m (Some x) s a t h = grows_with made m x.symbol s a t h

  adds_by : (made : Made) (m : Method) (o : Option Signature) → Adds (method_by g made m o) made.members
  unfolding Adds
  adds_by made m None s t x h = absurd (cc)
  adds_by made m (Some y) s t x h = adds_with made m y.symbol s t x h

  grows_method : (made : Made) (m : Method) → Grows (method g made m)
  unfolding method
  grows_method made m = grows_by made m (find_name m.name g)

  adds_method : (made : Made) (m : Method) → Adds (method g made m) made.members
  unfolding method
  adds_method made m = adds_by made m (find_name m.name g)

  grows_methods : (ms : List Method) (made : Made) → Grows (all_methods g made ms)
  grows_methods [] made = grows_stays _ (stays_pure made)
  grows_methods (m ∷ ms) made = grows_bind _ _ (grows_method made m) (λ x. grows_methods ms x)

  adds_methods : (ms : List Method) (made : Made) → Adds (all_methods g made ms) made.members
  unfolding Adds
  adds_methods [] made s t x h = let e = some_same _ _ h in ([], ap (λ q. q.0.members) (sym e) ∙ sym (append-nil made.members))
  adds_methods (m ∷ ms) made s t x h =
      let one = both_gave (method g made m s) (λ y. all_methods g y ms) x t h in
      let first = adds_method made m s one.1 one.0 one.2 in
      let rest = adds_methods ms one.0 one.1 t x one.3 in
      (first.0 ++ rest.0, rest.1 ∙ ap (λ l. l ++ rest.0) first.1 ∙ append_assoc made.members first.0 rest.0)

  grows_main : (made : Made) (e : Expression) (n : SymId) → Grows (main_made g made e n)
  unfolding main_made
  grows_main made e n =
      grows_bind _ _ (grows_stays _ stays_enter)
      (λ u. grows_bind _ _ (grows_stays _ stays_fresh)
      (λ a. grows_bind _ _ (grows_stays _ (stays_expression g e))
      (λ t. grows_bind _ _ (grows_stays _ (stays_only_if (same_kind t.kind type.Unit)))
      (λ u. grows_bind _ _ (grows_type _) (λ of. grows_stays _ (stays_pure _))))))

  has_main : (made x : Made) (e : Expression) (n : SymId) (s t : State) → main_made g made e n s ≡ Some (x, t) → HasMain x.members
  unfolding main_made HasMain
  has_main made x e n s t h =
      let one = both_gave (enter s) _ _ _ h in
      let two = both_gave (fresh one.1) _ _ _ one.3 in
      let three = both_gave (expression g e two.1) _ _ _ two.3 in
      let four = both_gave (only_if (same_kind three.0.kind type.Unit) three.1) _ _ _ three.3 in
      let five = both_gave (add_type main_type four.1) _ _ _ four.3 in
      let made_is = some_same _ _ five.3 in
      (made.members, [], n, two.0, five.0, ap (λ q. q.0.members) (sym made_is))

  grows_members : (e : Source) (n : SymId) → Grows (members g e n)
  unfolding members
  grows_members e n = grows_bind _ _ (grows_methods e.before nothing_made) (λ x. grows_bind _ _ (grows_main x e.main n) (λ y. grows_methods e.after y))

  members_have : (e : Source) (n : SymId) (s t : State) (x : Made) → members g e n s ≡ Some (x, t) → HasMain x.members
  unfolding members Adds
  members_have e n s t x h =
      let one = both_gave (all_methods g nothing_made e.before s) _ _ _ h in
      let two = both_gave (main_made g one.0 e.main n one.1) _ _ _ one.3 in
      let there = has_main one.0 two.0 e.main n one.1 two.1 two.2 in
      let more = adds_methods e.after two.0 two.1 t x two.3 in
      keeps_main two.0.members more.0 x.members there more.1

-- ---- what can be called

stays_signature : (g : Named Signature) (m : Method) → Stays (add_signature g m)
unfolding add_signature
stays_signature g m = stays_bind _ _ stays_fresh (λ n. stays_given (add_name m.name (signature n m) g))

stays_signatures : (ms : List Method) (g : Named Signature) → Stays (add_signatures g ms)
stays_signatures [] g = stays_pure g
stays_signatures (m ∷ ms) g = stays_bind _ _ (stays_signature g m) (λ t. stays_signatures ms t)

grows_object : (e : Source) → Grows (object e)
unfolding object
grows_object e =
    grows_bind _ _ (grows_stays _ (stays_signatures e.before []))
    (λ b. grows_bind _ _ (grows_stays _ stays_fresh)
    (λ n. grows_bind _ _ (grows_stays _ (stays_signatures e.after b)) (λ g. grows_members g e n)))

object_has : (e : Source) (s t : State) (x : Made) → object e s ≡ Some (x, t) → HasMain x.members
unfolding object
object_has e s t x h =
    let one = both_gave (add_signatures [] e.before s) _ _ _ h in
    let two = both_gave (fresh one.1) _ _ _ one.3 in
    let three = both_gave (add_signatures one.0 e.after two.1) _ _ _ two.3 in
    members_have three.0 e two.0 three.1 t x three.3

-- ---- the search for `main`

-- a search ends before what is there, or at it
before_end : {A : Type 0} (is : A → Bool) (front back : List A) (x : A) → is x ≡ true → position_or_len is (front ++ x ∷ back) < length (front ++ x ∷ back)
before_end is [] back x h = by (is x) h
  where
    by : (b : Bool) → b ≡ true → cond (not b) (1 + position_or_len is back) 0 < suc (length back)
    by true k = omega arith
    by false k = absurd (cc)
before_end is (y ∷ front) back x h = by (is y) (before_end is front back x h)
  where
    by : (b : Bool) → position_or_len is (front ++ x ∷ back) < length (front ++ x ∷ back) → cond (not b) (1 + position_or_len is (front ++ x ∷ back)) 0 < suc (length (front ++ x ∷ back))
    by true k = omega arith
    by false k = omega (arith, k)

-- so it finds it
found : {A : Type 0} (is : A → Bool) (front back : List A) (x : A) → is x ≡ true → IsSome (position is (front ++ x ∷ back))
found is front back x h =
    let e : nat_lt (position_or_len is (front ++ x ∷ back)) (length (front ++ x ∷ back)) ≡ true = lt-ltb _ _ (before_end is front back x h) in rw e refl

-- `main` is a member of the form that is looked for, where the types begin as they do
form_is : (ms : List Member) (more : List CoreType) (texts : List (List ℕ)) (n a : SymId) (of : TypeId) → is_member [] (is_main (table ms (first_types ++ more) texts)) (member (main_outline n a of)) ≡ true
unfolding type_at
form_is ms more texts n a of = refl

main_found : (ms : List Member) (types more : List CoreType) (texts : List (List ℕ)) → types ≡ first_types ++ more → HasMain ms → IsSome (main_method (table ms types texts) (codes "Main"))
unfolding main_method head_of HasMain
main_found ms types more texts e h = subst (λ (ts : List CoreType). IsSome (main_method (table ms ts texts) (codes "Main"))) (sym e) (by (position (is_member [] (is_main p)) ms) there)
  where
    p : Table
    p = table ms (first_types ++ more) texts

    there : IsSome (position (is_member [] (is_main p)) ms)
    there = subst (λ (l : List Member). IsSome (position (is_member [] (is_main p)) l)) (sym h.5) (found (is_member [] (is_main p)) h.0 h.1 (member (main_outline h.2 h.3 h.4)) (form_is ms more texts h.2 h.3 h.4))

    by : (o : Option ℕ) → IsSome o → IsSome {T = MethodId} (first_some (option_map (λ m. record { object = 0; class = 0; member = m }) o) None)
    by None k = k
    by (Some i) k = refl

-- the program of a source has its `main`
pub typed_main : (e : Source) (p : Program) → typed e ≡ Some p → IsSome (main_method p.table (codes "Main"))
unfolding typed Grows
typed_main e p h = by (object e beginning) refl h
  where
    by : (r : Option (Made × State)) → object e beginning ≡ r → program_in r ≡ Some p → IsSome (main_method p.table (codes "Main"))
    by None k q = absurd (cc)
    by (Some x) k q =
        let g = grows_object e beginning x.0 x.1 k in
        let same = some_same _ _ q in
        subst (λ (y : Program). IsSome (main_method y.table (codes "Main"))) same (main_found x.0.members x.1.types g.0 x.1.texts g.1 (object_has e beginning x.1 x.0 k))
