-- Texts, names and calls in expressions, and the definitions of a block.
use Rattle.std.proofs.Common.{◌≡◌, refl, ap, sym, subst, ◌∙◌, ℕ, ◌+◌, Bool, true, false, cond, List, [], ◌∷◌, ◌++◌, length, Option, Some, None, length-append, inl, inr, subst₂, append-nil, arith}
use Rattle.std.proofs.lemmas.Bool.{and_parts, and_from}
use Rattle.std.specs.Cmp.Lexicographic.{pointwise}
use Rattle.std.specs.List.{list_all}
use Rattle.scw_core.specs.declared.operator.Op.TheVariants as op
use Rattle.scw_text.specs.declared.number.SymId.{SymId}
use Rattle.scw_reader.specs.Syntax.{Name}
use Rattle.scw_reader.specs.declared.tree.TypeName.{TypeName}
use Rattle.scw_gen.specs.Typed.{Known, behind, marked}
use Rattle.scw_gen.specs.declared.kind.Kind.{Kind}
use Rattle.scw_gen.specs.declared.kind.Kind.TheVariants as kind
use Rattle.scw_small.specs.Step.{Named, State, only_if, given_in, find_name, literal_text, define}
use Rattle.scw_small.specs.Typed.{Typed, Body, same_kind, leaf, set, text, call}
use Rattle.scw_small.specs.Typing.{Operands, used, assigned, called, called_by, defined, with_local, dropped}
use Rattle.scw_built.proofs.Sound.{are_units}
use Rattle.scw_built.proofs.Setting.{Setting, AllAnswer, kind_for}
use Rattle.scw_built.proofs.Marks.{BoundAs, SetAs, marks-one, marks-behind, set-here, some-is}
use Rattle.scw_built.proofs.RuleKinds.{same-kind-is}
use Rattle.scw_built.proofs.TreeKinds.{Has, Passed, local-has, set-has, text-has, call-has}
use Rattle.scw_built.proofs.Steps.{Same, grown-then, both-gave, given-gave, only-gave, find-either, variable, defined_state, define-gave}
use Rattle.scw_built.proofs.Passes.{Seen, Passes, Said, seen-marks, pass-here, pass-moved, pass-given, run-one}
use Rattle.scw_built.proofs.SmallNames.{Signature, Variable, this_symbol}

-- ---- texts

-- with one text more
abbrev more_text : State → List ℕ → State
more_text s cs = record s { texts = s.texts ++ cs ∷ [] }

all-snoc : (ts : List (List ℕ)) (t : List ℕ) → list_all are_units ts ≡ true → are_units t ≡ true → list_all are_units (ts ++ t ∷ []) ≡ true
all-snoc [] t h k = rw k refl
all-snoc (u ∷ ts) t h k = let p = and_parts (are_units u) _ h in and_from (are_units u) _ p.0 (all-snoc ts t p.1 k)

module _ (c : Setting) where
  pub text-passes : (cs : List ℕ) (s t : State) (a : Typed) → are_units cs ≡ true → literal_text cs s ≡ Some (a, t) → Passes c s t (λ ys. Has c ys a)
  unfolding literal_text
  text-passes cs s t a u h =
      let long : length (s.texts ++ cs ∷ []) ≡ length s.texts + 1 = length-append s.texts (cs ∷ []) in
      pass-given c s (more_text s cs) t (text (length s.texts)) a (λ (q : Typed) (ys : List Known). Has c ys q) h (record {
        grown = record { later = omega arith; types = refl; texts = omega (arith, long); units = λ k. all-snoc s.texts cs k u };
        scope = refl;
        holds = λ ans ys len seen free. text-has c ys (length s.texts) (omega (arith, long, len));
      })

  -- ---- names

  pub used-passes : (x : Name) (s t : State) (a : Typed) → used x s ≡ Some (a, t) → Passes c s t (λ ys. Has c ys a)
  unfolding used
  used-passes x s t a h =
      let one = both-gave (given_in (find_name x s.scope) s) _ a t h in
      let v = one.0 in
      let g = given-gave (find_name x s.scope) v s one.1 one.2 in
      pass-given c s one.1 t (leaf v.kind (op.Local v.symbol)) a (λ (q : Typed) (ys : List Known). Has c ys q) one.3
      (pass-moved c s s one.1 (λ ys. Has c ys (leaf v.kind (op.Local v.symbol))) g.1
      (pass-here c s (λ ys. Has c ys (leaf v.kind (op.Local v.symbol))) (λ ans ys len seen. local-has c ys v.symbol v.kind (seen.variable x v g.0))))

  bound-set : (ys : List Known) (x : SymId) (k l : Kind) → k ≡ l → SetAs ys x l → BoundAs ys x k
  bound-set ys x k l e s = record { local = s.local; there = s.there; kind_is = s.kind_is ∙ sym e }

  pub assigned-passes : (x : Name) (e : Typed) (s t : State) (a : Typed) → assigned x e s ≡ Some (a, t) → Passes c s t (λ ys. Has c ys e → Has c ys a)
  unfolding assigned
  assigned-passes x e s t a h =
      let one = both-gave (given_in (find_name x s.scope) s) _ a t h in
      let v = one.0 in
      let g = given-gave (find_name x s.scope) v s one.1 one.2 in
      let two = both-gave (only_if v.is_assignable one.1) _ a t one.3 in
      let p = only-gave v.is_assignable two.0 one.1 two.1 two.2 in
      let three = both-gave (only_if (same_kind e.kind v.kind) two.1) _ a t two.3 in
      let q = only-gave (same_kind e.kind v.kind) three.0 two.1 three.1 three.2 in
      let k : kind_for e.kind ≡ kind_for v.kind = ap kind_for (same-kind-is e.kind v.kind q.0) in
      pass-given c s three.1 t (set v.symbol e.tree) a (λ (r : Typed) (ys : List Known). Has c ys e → Has c ys r) three.3
      (pass-moved c s s three.1 (λ ys. Has c ys e → Has c ys (set v.symbol e.tree)) (g.1 ∙ p.1 ∙ q.1)
      (pass-here c s (λ ys. Has c ys e → Has c ys (set v.symbol e.tree)) (λ ans ys len seen has. set-has c ys v.symbol e (bound-set ys v.symbol _ _ k (seen.variable x v g.0)) has)))

  -- ---- calls

  same-kinds-are : (ks ls : List TypeName) → pointwise same_kind ks ls ≡ true → ks ≡ ls
  same-kinds-are [] [] h = refl
  same-kinds-are [] (l ∷ ls) h = absurd (cc)
  same-kinds-are (k ∷ ks) [] h = absurd (cc)
  same-kinds-are (k ∷ ks) (l ∷ ls) h =
      let p = and_parts (same_kind k l) _ h in
      ap (λ (x : TypeName). x ∷ ks) (same-kind-is k l p.0) ∙ ap (λ (xs : List TypeName). l ∷ xs) (same-kinds-are ks ls p.1)

  pub called-has : (m : Name) (o : Operands) (a : Typed) (ys : List Known) → AllAnswer c → Passed c ys o → called c.methods m o ≡ Some a → Has c ys a
  unfolding called
  called-has m o a ys ans p h = found (find_name m c.methods) refl h
    where
      with_kinds : (g : Signature) (b : Bool) → pointwise same_kind o.kinds g.kinds ≡ b → find_name m c.methods ≡ Some g → cond b (Some (call g.symbol g.answer o.trees)) None ≡ Some a → Has c ys a
      with_kinds g true e f k = subst (λ (q : Typed). Has c ys q) (some-is _ a k) (call-has c ys g o (ans m g f) (same-kinds-are o.kinds g.kinds e) p)
      with_kinds g false e f k = absurd (cc)

      found : (r : Option Signature) → find_name m c.methods ≡ r → called_by o r ≡ Some a → Has c ys a
      found None f k = absurd (cc)
      found (Some g) f k = with_kinds g (pointwise same_kind o.kinds g.kinds) refl f k

  -- ---- statements

  -- an expression as a statement
  pub plain-said : (b d : Body) (u : Typed) (s r t : State) → Passes c s r (λ ys. Has c ys u) → Same (dropped b u) r d t → Said c s b t d
  plain-said b d u s r t p h = subst (λ (q : Body × State). Said c s b q.1 q.0) (some-is (dropped b u, r) (d, t) h) said
    where
      said : Said c s b r (dropped b u)
      said = record {
        defs = [];
        trees = u.tree ∷ [];
        locals_are = sym (append-nil b.locals);
        trees_are = refl;
        rising = p.grown.later;
        grown = p.grown;
        more = [];
        scope = p.scope ∙ sym (append-nil s.scope);
        runs = λ ans ys len seen free.
            run-one c ys r.scope u (p.holds ans ys len seen free)
            (seen-marks r.scope ys (behind u.tree ys) (marks-behind u.tree ys) (subst (λ (l : Named Variable). Seen l ys) (sym p.scope) seen));
      }

  -- what a definition adds is set by it
  seen-more : (scope : Named Variable) (x : Name) (v : Variable) (ys : List Known) → Seen scope ys → BoundAs ys v.symbol (kind_for v.kind) → Seen (scope ++ (x, v) ∷ []) (marked v.symbol ys)
  seen-more scope x v ys seen bound = record {
    variable = λ y w e. elim (find-either y x w v scope e) [
      | inl f ↦ (marks-one v.symbol ys).set w.symbol (kind_for w.kind) (seen.variable y w f)
      | inr f ↦ subst (λ (q : Variable). SetAs (marked v.symbol ys) q.symbol (kind_for q.kind)) f (set-here v.symbol ys (kind_for v.kind) bound)
    ];
    this = (marks-one v.symbol ys).set this_symbol kind.This seen.this;
  }

  -- a definition, behind the expression of its value
  definition : (b : Body) (x : Name) (k : TypeName) (is : Bool) (u : Typed) (s r : State) (names : Named SymId) → k ≡ u.kind → Passes c s r (λ ys. Has c ys u)
      → Said c s b (defined_state r x k is names) (with_local b (record { 0 = r.next }) k u)
  definition b x k is u s r names e p =
      let n : SymId = record { 0 = r.next } in
      let v : Variable = variable r k is in
      let t : State = defined_state r x k is names in
      record {
        defs = record { symbol = n; kind = k } ∷ [];
        trees = (set n u.tree).tree ∷ [];
        locals_are = refl;
        trees_are = refl;
        rising = (p.grown.later, omega arith);
        grown = grown-then s r t p.grown (record { later = omega arith; types = refl; texts = omega arith; units = λ h. h });
        more = (x, v) ∷ [];
        scope = ap (λ (l : Named Variable). l ++ (x, v) ∷ []) p.scope;
        runs = λ ans ys len seen awaits.
            run-one c ys t.scope (set n u.tree)
            (set-has c ys n u (record { local = awaits.1.local; there = awaits.1.there; kind_is = awaits.1.kind_is ∙ ap kind_for e }) (p.holds ans ys len seen awaits.0))
            (seen-more r.scope x v ys (subst (λ (l : Named Variable). Seen l ys) (sym p.scope) seen) awaits.1);
      }

  pub defined-said : (b d : Body) (x : Name) (k : TypeName) (is : Bool) (u : Typed) (s r t : State) → Passes c s r (λ ys. Has c ys u) → defined c.methods b x k is u r ≡ Some (d, t) → Said c s b t d
  unfolding defined
  defined-said b d x k is u s r t p h =
      let one = both-gave (only_if (same_kind u.kind k) r) _ d t h in
      let o = only-gave (same_kind u.kind k) one.0 r one.1 one.2 in
      let two = both-gave (define c.methods x k is one.1) _ d t one.3 in
      let g = define-gave c.methods x k is two.0 one.1 two.1 two.2 in
      let whole : Said c s b (defined_state one.1 x k is g.1) (with_local b (record { 0 = one.1.next }) k u) =
      subst (λ (q : State). Said c s b (defined_state q x k is g.1) (with_local b (record { 0 = q.next }) k u)) o.1 (definition b x k is u s r g.1 (sym (same-kind-is u.kind k o.0)) p) in
      subst (λ (q : Body × State). Said c s b q.1 q.0) (some-is (with_local b two.0 k u, two.1) (d, t) two.3) (subst₂ (λ (q : State) (n : SymId). Said c s b q (with_local b n k u)) g.2 g.0 whole)
