-- What holds of the trees that steps of typing give, in every list of locals in which they may stand.
use Rattle.std.proofs.Common.{◌≡◌, refl, ap, sym, subst, ◌∙◌, ◌≤◌, List, [], ◌∷◌, ◌++◌, length, map, Option, Some, append_assoc, append-nil, le_refl, arith}
use Rattle.std.proofs.lemmas.List.{map-append}
use Rattle.scw_core.specs.Tree.{Tree}
use Rattle.scw_core.specs.TreeOf.{trees_of}
use Rattle.scw_core.specs.declared.tree.Local.{Local}
use Rattle.scw_reader.specs.Syntax.{Name}
use Rattle.scw_gen.specs.Typed.{Known, behind, kind_of_statements, kind_of_tree}
use Rattle.scw_gen.specs.declared.kind.Kind.{Kind}
use Rattle.scw_gen.specs.declared.kind.Kind.TheVariants as kind
use Rattle.scw_small.specs.Step.{Named, State, find_name}
use Rattle.scw_small.specs.Typed.{Typed, Body}
use Rattle.scw_built.proofs.Setting.{Setting, AllAnswer, around, kind_for}
use Rattle.scw_built.proofs.Marks.{SetAs, Free, Marks, free-part, marks-none, marks-then, marks-behind, some-is}
use Rattle.scw_built.proofs.Locals.{Def, Rising, Awaits, local_for, rising-then, awaits-split, awaits-marked}
use Rattle.scw_built.proofs.Steps.{Grown, Same, grown-same, grown-then}
use Rattle.scw_built.proofs.TreeKinds.{Has}
use Rattle.scw_built.proofs.SmallNames.{Variable, this_symbol}

-- ---- what is visible has a value

pub record Seen (scope : Named Variable) (ys : List Known) : Type 0 where
  pub variable : (x : Name) (v : Variable) → find_name x scope ≡ Some v → SetAs ys v.symbol (kind_for v.kind)
  pub this : SetAs ys this_symbol kind.This

pub seen-marks : (scope : Named Variable) (ys zs : List Known) → Marks ys zs → Seen scope ys → Seen scope zs
seen-marks scope ys zs m s = record { variable = λ x v e. m.set v.symbol (kind_for v.kind) (s.variable x v e); this = m.set this_symbol kind.This s.this }

-- ---- steps that leave the names as they were

pub record Passes (c : Setting) (s t : State) (P : List Known → Type 0) : Type 0 where
  pub grown : Grown s t
  pub scope : t.scope ≡ s.scope
  pub holds : AllAnswer c → (ys : List Known) → length t.texts ≤ length c.texts → Seen s.scope ys → Free s.next t.next ys → P ys

module _ (c : Setting) where
  pub pass-here : (s : State) (P : List Known → Type 0) → (AllAnswer c → (ys : List Known) → length s.texts ≤ length c.texts → Seen s.scope ys → P ys) → Passes c s s P
  pass-here s P f = record { grown = grown-same s; scope = refl; holds = λ ans ys len seen free. f ans ys len seen }

  pub pass-moved : (r s t : State) (P : List Known → Type 0) → s ≡ t → Passes c r s P → Passes c r t P
  pass-moved r s t P e p = subst (λ (u : State). Passes c r u P) e p

  pub pass-given : {A : Type 0} (r s t : State) (a b : A) (P : A → List Known → Type 0) → Same a s b t → Passes c r s (P a) → Passes c r t (P b)
  pass-given {A} r s t a b P e p = subst (λ (q : A × State). Passes c r q.1 (P q.0)) (some-is (a, s) (b, t) e) p

  pub pass-map : (s t : State) (P Q : List Known → Type 0) → ((ys : List Known) → P ys → Q ys) → Passes c s t P → Passes c s t Q
  pass-map s t P Q f p = record { grown = p.grown; scope = p.scope; holds = λ ans ys len seen free. f ys (p.holds ans ys len seen free) }

  pub pass-app : (r s t : State) (P Q : List Known → Type 0) → Passes c r s P → Passes c s t (λ ys. P ys → Q ys) → Passes c r t Q
  pass-app r s t P Q a b = record {
    grown = grown-then r s t a.grown b.grown;
    scope = b.scope ∙ a.scope;
    holds = λ ans ys len seen free.
        let u = a.grown.later in let v = b.grown.later in let w = b.grown.texts in
        b.holds ans ys len (subst (λ (l : Named Variable). Seen l ys) (sym a.scope) seen) (free-part r.next t.next s.next t.next ys free u (omega arith))
        (a.holds ans ys (omega arith) seen (free-part r.next t.next r.next s.next ys free (omega arith) v));
  }

  pub pass-pair : (r s t : State) (P Q : List Known → Type 0) → Passes c r s P → Passes c s t Q → Passes c r t (λ ys. P ys × Q ys)
  pass-pair r s t P Q a b = pass-app r s t P (λ ys. P ys × Q ys) a (record { grown = b.grown; scope = b.scope; holds = λ ans ys len seen free p. (p, b.holds ans ys len seen free) })

-- ---- statements

-- the statements run, and then others behind them
pub record Runs (c : Setting) (ys : List Known) (scope : Named Variable) (trees : List Tree) : Type 0 where
  pub after : List Known
  pub marks : Marks ys after
  pub seen : Seen scope after
  pub go : (t : Tree) (ts : List Tree) → kind_of_statements (around c) ys (trees_of (trees ++ t ∷ ts)) ≡ kind_of_statements (around c) after (trees_of (t ∷ ts))

-- from one body so far to the next
pub record Said (c : Setting) (s : State) (b : Body) (t : State) (d : Body) : Type 0 where
  pub defs : List Def
  pub trees : List Tree
  pub locals_are : d.locals ≡ b.locals ++ map local_for defs
  pub trees_are : d.trees ≡ b.trees ++ trees
  pub rising : Rising s.next t.next defs
  pub grown : Grown s t
  pub more : Named Variable
  pub scope : t.scope ≡ s.scope ++ more
  pub runs : AllAnswer c → (ys : List Known) → length t.texts ≤ length c.texts → Seen s.scope ys → Awaits s.next t.next defs ys → Runs c ys t.scope trees

module _ (c : Setting) where
  pub run-one : (ys : List Known) (scope : Named Variable) (a : Typed) → Has c ys a → Seen scope (behind a.tree ys) → Runs c ys scope (a.tree ∷ [])
  unfolding kind_of_tree
  run-one ys scope a h seen = record { after = behind a.tree ys; marks = marks-behind a.tree ys; seen = seen; go = λ t ts. rw h.kind_is refl }

  -- the kind of statements from a list of locals on
  abbrev From : List Known → List Tree → Option Kind
  From ys ts = kind_of_statements (around c) ys (trees_of ts)

  go-then : (xs us : List Tree) (ys zs ws : List Known) → ((t : Tree) (ts : List Tree) → From ys (xs ++ t ∷ ts) ≡ From zs (t ∷ ts)) → ((t : Tree) (ts : List Tree) → From zs (us ++ t ∷ ts) ≡ From ws (t ∷ ts))
      → (t : Tree) (ts : List Tree) → From ys ((xs ++ us) ++ t ∷ ts) ≡ From ws (t ∷ ts)
  go-then xs [] ys zs ws p q t ts = ap (λ l. From ys l) (append_assoc xs [] (t ∷ ts)) ∙ p t ts ∙ q t ts
  go-then xs (u ∷ us) ys zs ws p q t ts = ap (λ l. From ys l) (append_assoc xs (u ∷ us) (t ∷ ts)) ∙ p u (us ++ t ∷ ts) ∙ q t ts

  pub said-none : (s : State) (b : Body) → Said c s b s b
  said-none s b = record {
    defs = [];
    trees = [];
    locals_are = sym (append-nil b.locals);
    trees_are = sym (append-nil b.trees);
    rising = le_refl s.next;
    grown = grown-same s;
    more = [];
    scope = sym (append-nil s.scope);
    runs = λ ans ys len seen awaits. record { after = ys; marks = marks-none ys; seen = seen; go = λ t ts. refl };
  }

  pub said-then : (r s t : State) (a b d : Body) → Said c r a s b → Said c s b t d → Said c r a t d
  said-then r s t a b d x y = record {
    defs = x.defs ++ y.defs;
    trees = x.trees ++ y.trees;
    locals_are = y.locals_are ∙ ap (λ (l : List Local). l ++ map local_for y.defs) x.locals_are ∙ append_assoc a.locals (map local_for x.defs) (map local_for y.defs)
        ∙ ap (λ (l : List Local). a.locals ++ l) (sym (map-append local_for x.defs y.defs));
    trees_are = y.trees_are ∙ ap (λ (l : List Tree). l ++ y.trees) x.trees_are ∙ append_assoc a.trees x.trees y.trees;
    rising = rising-then r.next s.next t.next x.defs y.defs x.rising y.rising;
    grown = grown-then r s t x.grown y.grown;
    more = x.more ++ y.more;
    scope = y.scope ∙ ap (λ (l : Named Variable). l ++ y.more) x.scope ∙ append_assoc r.scope x.more y.more;
    runs = λ ans ys len seen awaits.
        let w = y.grown.texts in
        let split = awaits-split r.next s.next t.next x.defs y.defs ys x.rising y.rising awaits in
        let one = x.runs ans ys (omega arith) seen split.0 in
        let two = y.runs ans one.after len one.seen (awaits-marked s.next t.next y.defs ys one.after one.marks split.1) in
        record { after = two.after; marks = marks-then ys one.after two.after one.marks two.marks; seen = two.seen; go = go-then x.trees y.trees ys one.after two.after one.go two.go };
  }
