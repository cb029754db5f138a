-- The methods of the object: their members and bodies, one behind the other, and `main` among them.
use Rattle.std.proofs.Common.{◌≡◌, refl, ap, sym, subst, ◌∙◌, ℕ, ◌+◌, suc, ◌<◌, ◌≤◌, true, false, List, [], ◌∷◌, ◌++◌, length, map, Some, append_assoc, append-nil, codes, arith}
use Rattle.std.proofs.lemmas.Bool.{ne_eqb}
use Rattle.std.specs.List.{list_all}
use Rattle.scw_core.specs.Program.{type_at}
use Rattle.scw_core.specs.Tree.{Tree}
use Rattle.scw_core.specs.Types.{CoreType, same_symbol}
use Rattle.scw_core.specs.declared.class.Member.{Member}
use Rattle.scw_text.specs.declared.number.SymId.{SymId}
use Rattle.scw_text.specs.declared.number.TypeId.{TypeId}
use Rattle.scw_reader.specs.declared.tree.TypeName.{TypeName}
use Rattle.scw_reader.specs.declared.tree.TypeName.TheVariants as type
use Rattle.scw_reader.specs.Syntax.{Expression, Method}
use Rattle.scw_gen.specs.Typed.{Known, all_set, bound, is_body_typed, kind_of_tree, known, locals_of, this_known}
use Rattle.scw_gen.specs.declared.kind.Kind.TheVariants as kind
use Rattle.scw_small.specs.Step.{Named, State, enter, fresh, add_type, only_if, find_name}
use Rattle.scw_small.specs.Symbol.{kind_id, method_type, main_type}
use Rattle.scw_small.specs.Typed.{same_kind}
use Rattle.scw_small.specs.Typing.{expression}
use Rattle.scw_small.specs.Whole.{Made, member, parameter, kinds_of, and_made, method_with, method, all_methods, main_method, signature, bound as body_bound}
use Rattle.scw_built.proofs.AllMethods.{takes_values}
use Rattle.scw_built.proofs.Sound.{are_units}
use Rattle.scw_built.proofs.Setting.{Setting, AllAnswer, around, kind_for, told, same-self}
use Rattle.scw_built.proofs.Fine.{FineExpression, FineMethod, FineMethods}
use Rattle.scw_built.proofs.Marks.{Free}
use Rattle.scw_built.proofs.Locals.{Def, local_for}
use Rattle.scw_built.proofs.Steps.{Grown, both-gave, pure-gave, only-gave, fresh-gave}
use Rattle.scw_built.proofs.RuleKinds.{same-kind-is}
use Rattle.scw_built.proofs.Passes.{Seen}
use Rattle.scw_built.proofs.ExpressionKinds.{expression-passes}
use Rattle.scw_built.proofs.Bodies.{parameter_for, def_kind, bodied, this-other}
use Rattle.scw_built.proofs.SmallNames.{Signature, Outline, this_symbol, strings_id}

-- ---- what only grows, with the types

pub record Longer (s t : State) : Type 0 where
  pub later : s.next ≤ t.next
  pub more : List CoreType
  pub types : t.types ≡ s.types ++ more
  pub texts : length s.texts ≤ length t.texts
  pub units : list_all are_units s.texts ≡ true → list_all are_units t.texts ≡ true

pub longer-same : (s : State) → Longer s s
longer-same s = record { later = omega arith; more = []; types = sym (append-nil s.types); texts = omega arith; units = λ k. k }

pub longer-then : (r s t : State) → Longer r s → Longer s t → Longer r t
longer-then r s t a b = record {
  later = omega arith;
  more = a.more ++ b.more;
  types = b.types ∙ ap (λ (l : List CoreType). l ++ b.more) a.types ∙ append_assoc r.types a.more b.more;
  texts = omega arith;
  units = λ k. b.units (a.units k);
}

-- with a type more
abbrev with_type : State → CoreType → State
with_type s x = record s { types = s.types ++ x ∷ [] }

longer-type : (s t : State) (x : CoreType) → Grown s t → Longer s (with_type t x)
longer-type s t x g = record { later = g.later; more = x ∷ []; types = ap (λ (l : List CoreType). l ++ x ∷ []) g.types; texts = g.texts; units = g.units }

-- ---- a method, with its body

pub record Work : Type 0 where
  pub outline : Outline
  pub tree : Tree

abbrev pub member_in : Work → Member
member_in w = member w.outline

abbrev pub body_in : Work → SymId × Tree
body_in w = (w.outline.symbol, w.tree)

abbrev pub and_work : Made → Work → Made
and_work made w = and_made made w.outline w.tree

locals-are : (ds : List Def) → locals_of (map parameter_for ds) ≡ map local_for ds
locals-are [] = refl
locals-are (d ∷ ds) = ap (λ ls. local_for d ∷ ls) (locals-are ds)

-- they stand under their names, with symbols from one number on to another
abbrev pub Entered : Named Signature → ℕ → List Method → ℕ → Type 0
Entered g n [] k = n ≡ k
Entered g n (m ∷ ms) k = (find_name m.name g ≡ Some (signature (record { 0 = n }) m)) × Entered g (suc n) ms k

module _ (c : Setting) where
  -- the member is of the method, and its body has its kind
  pub record Worked (n : SymId) (m : Method) (w : Work) : Type 0 where
    pub symbol : w.outline.symbol ≡ n
    pub name : w.outline.name ≡ m.name
    pub defs : List Def
    pub parameters : w.outline.parameters ≡ map parameter_for defs
    pub kinds : map def_kind defs ≡ kinds_of m.parameters
    pub answer : w.outline.answer ≡ kind_id m.result
    pub typed : AllAnswer c → is_body_typed (around c) (member_in w) w.tree ≡ true

  body-typed : (o : Outline) (t : Tree) (ds : List Def) (zs : List Known) (k : TypeName) → o.parameters ≡ map parameter_for ds → bound (around c) (map local_for ds) (this_known (around c) ∷ []) ≡ Some zs
      → kind_of_tree (around c) (all_set zs) t ≡ Some (kind_for k) → o.answer ≡ kind_id k → is_body_typed (around c) (member o) t ≡ true
  body-typed o t ds zs k p b h a =
      let e : locals_of o.parameters ≡ map local_for ds = ap locals_of p ∙ locals-are ds in
      rw (e, b, h, a, told c k) (same-self (kind_for k))

  -- what a method gives: one work more
  pub record Given (n : SymId) (m : Method) (made : Made) (s : State) (made' : Made) (t : State) : Type 0 where
    pub work : Work
    pub made_is : made' ≡ and_work made work
    pub longer : Longer s t
    pub worked : length t.texts ≤ length c.texts → Worked n m work

  given-with : (m : Method) (n : SymId) (made made' : Made) (s t : State) → FineMethod m → this_symbol.0 < s.next → method_with c.methods made m n s ≡ Some (made', t) → Given n m made s made' t
  unfolding method_with add_type
  given-with m n made made' s t f below h =
      let one = both-gave (body_bound c.methods m s) _ made' t h in
      let x = one.0 in
      let b = bodied c m s x one.1 f.body below one.2 in
      let of : TypeId = record { 0 = length one.1.types } in
      let o : Outline = record { symbol = n; name = m.name; parameters = x.parameters; type_id = of; answer = kind_id m.result } in
      let w : Work = record { outline = o; tree = x.tree } in
      let last : State = with_type one.1 (method_type m.parameters m.result) in
      let e = pure-gave (and_work made w) made' last t one.3 in
      let g : Given n m made s made' last = record {
        work = w;
        made_is = sym e.0;
        longer = longer-type s one.1 (method_type m.parameters m.result) b.grown;
        worked = λ len. record {
          symbol = refl;
          name = refl;
          defs = b.defs;
          parameters = b.parameters_are;
          kinds = b.kinds;
          answer = refl;
          typed = λ ans. let k = b.typed ans len in body-typed o x.tree b.defs k.0 m.result b.parameters_are k.1 k.2 refl;
        };
      } in
      subst (λ (q : State). Given n m made s made' q) e.1 g

  given-method : (m : Method) (n : SymId) (made made' : Made) (s t : State) → FineMethod m → this_symbol.0 < s.next → find_name m.name c.methods ≡ Some (signature n m) → method c.methods made m s ≡ Some (made', t) → Given n m made s made' t
  unfolding method
  given-method m n made made' s t f below e h = given-with m n made made' s t f below (rw e at h)

  -- ---- methods one behind the other

  abbrev pub Works : ℕ → List Method → List Work → Type 0
  Works n [] [] = Unit {0}
  Works n [] (w ∷ ws) = ⊥
  Works n (m ∷ ms) [] = ⊥
  Works n (m ∷ ms) (w ∷ ws) = Worked (record { 0 = n }) m w × Works (suc n) ms ws

  pub record AllGiven (n : ℕ) (ms : List Method) (made : Made) (s : State) (made' : Made) (t : State) : Type 0 where
    pub works : List Work
    pub members_are : made'.members ≡ made.members ++ map member_in works
    pub bodies_are : made'.bodies ≡ made.bodies ++ map body_in works
    pub longer : Longer s t
    pub worked : length t.texts ≤ length c.texts → Works n ms works

  given-none : (n : ℕ) (made : Made) (s : State) → AllGiven n [] made s made s
  given-none n made s = record { works = []; members_are = sym (append-nil made.members); bodies_are = sym (append-nil made.bodies); longer = longer-same s; worked = λ len. tt }

  pub all-given : (ms : List Method) (n k : ℕ) (made made' : Made) (s t : State) → FineMethods ms → this_symbol.0 < s.next → Entered c.methods n ms k → all_methods c.methods made ms s ≡ Some (made', t) → AllGiven n ms made s made' t
  all-given [] n k made made' s t f below e h = let p = pure-gave made made' s t h in subst (λ (q : State). AllGiven n [] made s made' q) p.1 (subst (λ (q : Made). AllGiven n [] made s q s) p.0 (given-none n made s))
  all-given (m ∷ ms) n k made made' s t f below e h =
      let one = both-gave (method c.methods made m s) _ made' t h in
      let x = given-method m (record { 0 = n }) made one.0 s one.1 f.0 below e.0 one.2 in
      let u = x.longer.later in
      let y = all-given ms (suc n) k one.0 made' one.1 t f.1 (omega arith) e.1 one.3 in
      let v = y.longer.texts in
      record {
        works = x.work ∷ y.works;
        members_are = y.members_are ∙ ap (λ (q : Made). q.members ++ map member_in y.works) x.made_is ∙ append_assoc made.members (member_in x.work ∷ []) (map member_in y.works);
        bodies_are = y.bodies_are ∙ ap (λ (q : Made). q.bodies ++ map body_in y.works) x.made_is ∙ append_assoc made.bodies (body_in x.work ∷ []) (map body_in y.works);
        longer = longer-then s one.1 t x.longer y.longer;
        worked = λ len. (x.worked (omega arith), y.worked len);
      }

  -- ---- `main`

  pub record MainGiven (n : SymId) (made : Made) (s : State) (made' : Made) (t : State) : Type 0 where
    pub work : Work
    pub made_is : made' ≡ and_work made work
    pub symbol : work.outline.symbol ≡ n
    pub name : work.outline.name ≡ codes "main"
    pub values : takes_values (member_in work) ≡ true
    pub longer : Longer s t
    pub typed : length t.texts ≤ length c.texts → AllAnswer c → is_body_typed (around c) (member_in work) work.tree ≡ true

  -- `args` and `this` have values
  abbrev in_main : SymId → List Known
  in_main x = record { symbol = x; kind = kind.Strings; is_set = true } ∷ this_known (around c) ∷ []

  main-seen : (x : SymId) → this_symbol.0 < x.0 → Seen [] (in_main x)
  unfolding known
  main-seen x h = let e : same_symbol x this_symbol ≡ false = ne_eqb x.0 this_symbol.0 (λ k. omega arith) in
      record { variable = λ n v k. absurd (cc); this = record { local = this_known (around c); there = rw e refl; kind_is = refl; set = refl } }

  main-free : (x : SymId) (high : ℕ) → this_symbol.0 < x.0 → Free (suc x.0) high (in_main x)
  unfolding known
  main-free x high h = record { free = λ n a b. let e : same_symbol x n ≡ false = ne_eqb x.0 n.0 (λ k. omega arith) in rw e (this-other c n (omega arith)) }

  main-typed : (o : Outline) (t : Tree) (x : SymId) → this_symbol.0 < x.0 → o.parameters ≡ parameter x strings_id ∷ [] → kind_of_tree (around c) (in_main x) t ≡ Some kind.Unit → o.answer ≡ kind_id type.Unit → is_body_typed (around c) (member o) t ≡ true
  unfolding bound type_at
  main-typed o t x below p h a = rw (p, this-other c x below, h, a) refl

  pub main-given : (e : Expression) (n : SymId) (made made' : Made) (s t : State) → FineExpression e → this_symbol.0 < s.next → main_method c.methods made e n s ≡ Some (made', t) → MainGiven n made s made' t
  unfolding main_method enter add_type
  main-given e n made made' s t f below h =
      let s0 : State = record s { names = []; scope = [] } in
      let two = both-gave (fresh s0) _ made' t h in
      let x = two.0 in
      let q = fresh-gave x s0 two.1 two.2 in
      let number : s.next ≡ x.0 = ap (λ (k : SymId). k.0) q.0 in
      let three = both-gave (expression c.methods e two.1) _ made' t two.3 in
      let body = expression-passes c e two.1 three.0 three.1 f three.2 in
      let four = both-gave (only_if (same_kind three.0.kind type.Unit) three.1) _ made' t three.3 in
      let p = only-gave (same_kind three.0.kind type.Unit) four.0 three.1 four.1 four.2 in
      let of : TypeId = record { 0 = length four.1.types } in
      let o : Outline = record { symbol = n; name = codes "main"; parameters = parameter x strings_id ∷ []; type_id = of; answer = kind_id type.Unit } in
      let w : Work = record { outline = o; tree = three.0.tree } in
      let last : State = with_type four.1 main_type in
      let z = pure-gave (and_work made w) made' last t four.3 in
      let start : State = record s0 { next = s.next + 1 } in
      let began : Grown start three.1 = subst (λ (k : State). Grown k three.1) (sym q.1) body.grown in
      let grown : Grown s three.1 = let b = began.later in record { later = omega arith; types = began.types; texts = began.texts; units = began.units } in
      let shown : two.1.scope ≡ [] = ap (λ (k : State). k.scope) (sym q.1) in
      let next : s.next + 1 ≡ two.1.next = ap (λ (k : State). k.next) q.1 in
      let g : MainGiven n made s made' last = record {
        work = w;
        made_is = sym z.0;
        symbol = refl;
        name = refl;
        values = refl;
        longer = longer-type s four.1 main_type (subst (λ (k : State). Grown s k) p.1 grown);
        typed = λ len ans.
            let seen : Seen two.1.scope (in_main x) = subst (λ l. Seen l (in_main x)) (sym shown) (main-seen x (omega arith)) in
            let free : Free two.1.next three.1.next (in_main x) = let m = main-free x three.1.next (omega arith) in record { free = λ k a b. m.free k (omega arith) b } in
            let k = body.holds ans (in_main x) (subst (λ (k : State). length k.texts ≤ length c.texts) (sym p.1) len) seen free in
            main-typed o three.0.tree x (omega arith) refl (k.kind_is ∙ ap (λ (l : TypeName). Some (kind_for l)) (same-kind-is three.0.kind type.Unit p.0)) refl;
      } in
      subst (λ (k : State). MainGiven n made s made' k) z.1 g
