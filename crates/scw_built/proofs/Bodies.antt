-- The parameters of a method are bound in its body, which has the kind of the result.
use Rattle.std.proofs.Common.{◌≡◌, refl, ap, sym, subst, ◌∙◌, ℕ, ◌+◌, suc, ◌<◌, ◌≤◌, false, List, [], ◌∷◌, ◌++◌, length, map, Some, None, append_assoc, append-nil, le_refl, inl, inr, arith}
use Rattle.std.proofs.lemmas.Bool.{ne_eqb}
use Rattle.scw_core.specs.Types.{same_symbol}
use Rattle.scw_core.specs.declared.class.Parameter.{Parameter}
use Rattle.scw_text.specs.declared.number.SymId.{SymId}
use Rattle.scw_reader.specs.declared.tree.Parameter.{Parameter as Written_parameter}
use Rattle.scw_reader.specs.declared.tree.TypeName.{TypeName}
use Rattle.scw_reader.specs.Syntax.{Name, Method}
use Rattle.scw_gen.specs.Typed.{Known, all_set, bound, kind_of_tree, known, this_known}
use Rattle.scw_gen.specs.declared.kind.Kind.TheVariants as kind
use Rattle.scw_small.specs.Step.{Named, State, enter, only_if, define, find_name}
use Rattle.scw_small.specs.Symbol.{kind_id}
use Rattle.scw_small.specs.Typed.{same_kind}
use Rattle.scw_small.specs.Typing.{expression}
use Rattle.scw_small.specs.Whole.{Bound, kinds_of, parameter, parameters, clause, bound as body_bound}
use Rattle.scw_built.proofs.Setting.{Setting, AllAnswer, around, kind_for}
use Rattle.scw_built.proofs.Fine.{FineExpression}
use Rattle.scw_built.proofs.Marks.{SetAs, Free, all-set, all-none, some-is}
use Rattle.scw_built.proofs.Locals.{Def, Rising, Awaits, local_for, onto, rising-le, rising-weaker, onto-other, onto-keeps, onto-awaits, onto-bound}
use Rattle.scw_built.proofs.Steps.{Grown, grown-same, grown-then, both-gave, only-gave, find-either, variable, define-gave}
use Rattle.scw_built.proofs.RuleKinds.{same-kind-is}
use Rattle.scw_built.proofs.Passes.{Seen}
use Rattle.scw_built.proofs.ExpressionKinds.{expression-passes}
use Rattle.scw_built.proofs.SmallNames.{Variable, this_symbol}

abbrev pub parameter_for : Def → Parameter
parameter_for d = parameter d.symbol (kind_id d.kind)

abbrev pub def_kind : Def → TypeName
def_kind d = d.kind

-- what is visible has a value
abbrev Shows : Named Variable → List Known → Type 0
Shows scope ys = (x : Name) (v : Variable) → find_name x scope ≡ Some v → SetAs ys v.symbol (kind_for v.kind)

abbrev AllSet : List Def → List Known → Type 0
AllSet [] ys = Unit {0}
AllSet (d ∷ ds) ys = SetAs ys d.symbol (kind_for d.kind) × AllSet ds ys

set-all : (l h : ℕ) (ds : List Def) (ys : List Known) → Awaits l h ds ys → AllSet ds (all_set ys)
set-all l h [] ys a = tt
set-all l h (d ∷ ds) ys a = (all-set ys d.symbol (kind_for d.kind) a.1, set-all (suc d.symbol.0) h ds ys a.2)

shows-more : (scope : Named Variable) (x : Name) (v : Variable) (ys : List Known) → Shows scope ys → SetAs ys v.symbol (kind_for v.kind) → Shows (scope ++ (x, v) ∷ []) ys
shows-more scope x v ys shows set y w e = elim (find-either y x w v scope e) [
  | inl f ↦ shows y w f
  | inr f ↦ subst (λ (q : Variable). SetAs ys q.symbol (kind_for q.kind)) f set
]

-- the parameters of a method, behind those found before
pub record Opened (s : State) (found : List Parameter) (ps : List Written_parameter) (t : State) (all : List Parameter) : Type 0 where
  pub defs : List Def
  pub all_are : all ≡ found ++ map parameter_for defs
  pub kinds : map def_kind defs ≡ kinds_of ps
  pub rising : Rising s.next t.next defs
  pub grown : Grown s t
  pub shows : (ys : List Known) → Shows s.scope ys → AllSet defs ys → Shows t.scope ys

opened-none : (s : State) (found : List Parameter) → Opened s found [] s found
opened-none s found = record { defs = []; all_are = sym (append-nil found); kinds = refl; rising = le_refl s.next; grown = grown-same s; shows = λ ys shows set. shows }

-- a state that is the same but for its names
grown-names : (s t : State) (names : Named SymId) (scope : Named Variable) → Grown (record s { names = names; scope = scope }) t → Grown s t
grown-names s t names scope g = record { later = g.later; types = g.types; texts = g.texts; units = g.units }

module _ (c : Setting) where
  opened : (ps : List Written_parameter) (found : List Parameter) (s : State) (all : List Parameter) (t : State) → parameters c.methods found ps s ≡ Some (all, t) → Opened s found ps t all
  opened [] found s all t h = subst (λ (q : List Parameter × State). Opened s found [] q.1 q.0) (some-is (found, s) (all, t) h) (opened-none s found)
  opened (x ∷ xs) found s all t h =
      let one = both-gave (define c.methods x.name x.kind false s) _ all t h in
      let g = define-gave c.methods x.name x.kind false one.0 s one.1 one.2 in
      let rest = opened xs (found ++ parameter one.0 (kind_id x.kind) ∷ []) one.1 all t one.3 in
      let number : s.next ≡ one.0.0 = ap (λ (n : SymId). n.0) g.0 in
      let next : s.next + 1 ≡ one.1.next = ap (λ (q : State). q.next) g.2 in
      let step : Grown s one.1 = subst (λ (q : State). Grown s q) g.2 (record { later = omega arith; types = refl; texts = omega arith; units = λ k. k }) in
      record {
        defs = record { symbol = one.0; kind = x.kind } ∷ rest.defs;
        all_are = rest.all_are ∙ append_assoc found (parameter one.0 (kind_id x.kind) ∷ []) (map parameter_for rest.defs);
        kinds = ap (λ (ks : List TypeName). x.kind ∷ ks) rest.kinds;
        rising = (omega arith, rising-weaker (suc one.0.0) one.1.next t.next rest.defs (omega arith) rest.rising);
        grown = grown-then s one.1 t step rest.grown;
        shows = λ ys shows set.
            let more : Shows (s.scope ++ (x.name, variable s x.kind false) ∷ []) ys = shows-more s.scope x.name (variable s x.kind false) ys shows (subst (λ (n : SymId). SetAs ys n (kind_for x.kind)) (sym g.0) set.0) in
            rest.shows ys (subst (λ (q : State). Shows q.scope ys) g.2 more) set.1;
      }

  -- the parameters and the body of a method
  pub record Bodied (s : State) (m : Method) (x : Bound) (t : State) : Type 0 where
    pub defs : List Def
    pub parameters_are : x.parameters ≡ map parameter_for defs
    pub kinds : map def_kind defs ≡ kinds_of m.parameters
    pub grown : Grown s t
    pub typed : AllAnswer c → length t.texts ≤ length c.texts → (zs : List Known) × (bound (around c) (map local_for defs) (this_known (around c) ∷ []) ≡ Some zs) × (kind_of_tree (around c) (all_set zs) x.tree ≡ Some (kind_for m.result))

  -- nothing but `this` is bound
  pub this-other : (x : SymId) → this_symbol.0 < x.0 → known (this_known (around c) ∷ []) x ≡ None
  unfolding known
  this-other x h = let e : same_symbol this_symbol x ≡ false = ne_eqb this_symbol.0 x.0 (λ k. omega arith) in rw e refl

  pub this-there : known (this_known (around c) ∷ []) this_symbol ≡ Some (this_known (around c))
  unfolding known
  this-there = refl

  pub bodied : (m : Method) (s : State) (x : Bound) (t : State) → FineExpression m.body → this_symbol.0 < s.next → body_bound c.methods m s ≡ Some (x, t) → Bodied s m x t
  unfolding body_bound enter clause
  bodied m s x t f below h =
      let s0 : State = record s { names = []; scope = [] } in
      let two = both-gave (parameters c.methods [] m.parameters s0) _ x t h in
      let opens = opened m.parameters [] s0 two.0 two.1 two.2 in
      let three = both-gave (expression c.methods m.body two.1) _ x t two.3 in
      let body = expression-passes c m.body two.1 three.0 three.1 f three.2 in
      let four = both-gave (only_if (same_kind three.0.kind m.result) three.1) _ x t three.3 in
      let p = only-gave (same_kind three.0.kind m.result) four.0 three.1 four.1 four.2 in
      let y : Bound = record { parameters = two.0; tree = three.0.tree } in
      let moved : ◌≡◌ {A = Bound × State} (y, three.1) (x, t) = ◌∙◌ {b = (y, four.1)} (ap (λ (q : State). (y, q)) p.1) (some-is (y, four.1) (x, t) four.3) in
      let base : List Known = this_known (around c) ∷ [] in
      let zs : List Known = onto opens.defs base in
      let within = rising-le s.next two.1.next opens.defs opens.rising in
      let later = body.grown.later in
      let free : Free s.next two.1.next base = record { free = λ n i j. this-other n (omega arith) } in
      let binds = onto-bound c s.next two.1.next opens.defs base opens.rising free in
      let sets = set-all s.next two.1.next opens.defs zs (onto-awaits s.next two.1.next opens.defs base opens.rising free) in
      let seen : Seen two.1.scope (all_set zs) = record {
        variable = opens.shows (all_set zs) (λ n v e. absurd (cc)) sets;
        this = all-set zs this_symbol kind.This (record { local = this_known (around c); there = onto-keeps s.next two.1.next opens.defs base this_symbol (this_known (around c)) opens.rising free this-there; kind_is = refl });
      } in
      let beyond : Free two.1.next three.1.next (all_set zs) = record { free = λ n i j. all-none zs n (onto-other s.next two.1.next opens.defs base n opens.rising (λ m a b d. omega arith) ∙ this-other n (omega arith)) } in
      let done : Bodied s m y three.1 = record {
        defs = opens.defs;
        parameters_are = opens.all_are;
        kinds = opens.kinds;
        grown = grown-names s three.1 [] [] (grown-then s0 two.1 three.1 opens.grown body.grown);
        typed = λ ans len. (zs, binds, (body.holds ans (all_set zs) len seen beyond).kind_is ∙ ap (λ (k : TypeName). Some (kind_for k)) (same-kind-is three.0.kind m.result p.0));
      } in
      subst (λ (q : Bound × State). Bodied s m q.0 q.1) moved done
