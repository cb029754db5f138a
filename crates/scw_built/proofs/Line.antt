-- The methods of the object stand in a line by their symbols, so each is found by its symbol, and no two have one name.
use Rattle.std.proofs.Common.{◌≡◌, refl, ap, sym, subst, ◌∙◌, ℕ, suc, ◌<◌, true, false, cond, List, [], ◌∷◌, ◌++◌, map, option_map, Option, Some, codes, arith}
use Rattle.std.proofs.lemmas.Bool.{ne_eqb, lt-ltb, and_from}
use Rattle.std.specs.List.{list_all}
use Rattle.scw_core.specs.Program.{in_members, look}
use Rattle.scw_core.specs.Text.{units_of_name}
use Rattle.scw_core.specs.Tree.{Tree}
use Rattle.scw_core.specs.Types.{same_symbol, same_text}
use Rattle.scw_core.specs.declared.class.Member.{Member}
use Rattle.scw_text.specs.declared.number.SymId.{SymId}
use Rattle.scw_reader.specs.declared.tree.TypeName.{TypeName}
use Rattle.scw_reader.specs.Syntax.{Name, Method}
use Rattle.scw_gen.specs.Around.{kind_in}
use Rattle.scw_gen.specs.Method.{is_method}
use Rattle.scw_gen.specs.Typed.{is_body_typed, is_typed, is_well_typed, kinds_of_parameters, rises}
use Rattle.scw_small.specs.Step.{Named, find_name}
use Rattle.scw_small.specs.Whole.{signature}
use Rattle.scw_built.proofs.AllMethods.{is_by_value, takes_values}
use Rattle.scw_built.proofs.Sound.{IsNew, Apart, are_units, have_units}
use Rattle.scw_built.proofs.Setting.{Setting, AllAnswer, Answers, around, kind_for, told, same-symbol}
use Rattle.scw_built.proofs.Fine.{FineMethod, FineMethods}
use Rattle.scw_built.proofs.Units.{Plain, name-plain, name-not-main, not-init, not-get}
use Rattle.scw_built.proofs.Locals.{Def}
use Rattle.scw_built.proofs.Marks.{some-is}
use Rattle.scw_built.proofs.Bodies.{parameter_for, def_kind}
use Rattle.scw_built.proofs.Methods.{Work, Worked, Works, Entered, member_in, body_in}
use Rattle.scw_built.proofs.Signatures.{Each}
use Rattle.scw_built.proofs.SmallNames.{Signature}

-- the symbol of the method with the name, where `main` has this one
abbrev pub owner : Named Signature → SymId → Name → Option SymId
owner g main x = cond (same_text x (codes "main")) (Some main) (option_map (λ (m : Signature). m.symbol) (find_name x g))

-- a fact of each
abbrev pub AllOf : (Work → Type 0) → List Work → Type 0
AllOf P [] = Unit {0}
AllOf P (w ∷ ws) = P w × AllOf P ws

-- its body, and its member, are found by its symbol
abbrev pub Looks : List (SymId × Tree) → Work → Type 0
Looks bodies w = look bodies w.outline.symbol ≡ Some w.tree

abbrev pub Finds : List Member → Work → Type 0
Finds ms w = in_members ms w.outline.symbol ≡ Some (member_in w)

pub all-front : (P : Work → Type 0) (us vs : List Work) → AllOf P (us ++ vs) → AllOf P us
all-front P [] vs a = tt
all-front P (u ∷ us) vs a = (a.0, all-front P us vs a.1)

pub all-back : (P : Work → Type 0) (us vs : List Work) → AllOf P (us ++ vs) → AllOf P vs
all-back P [] vs a = a
all-back P (u ∷ us) vs a = all-back P us vs a.1

-- no parameter of a method is by name
values-of : (ds : List Def) → list_all is_by_value (map parameter_for ds) ≡ true
values-of [] = refl
values-of (d ∷ ds) = values-of ds

-- each member is a method
pub methods-all : (ws : List Work) → list_all is_method (map member_in ws) ≡ true
methods-all [] = refl
methods-all (w ∷ ws) = methods-all ws

module _ (c : Setting) (main : SymId) where
  -- the method has the symbol of this number, and its name is its own
  pub record Placed (n : ℕ) (w : Work) : Type 0 where
    pub symbol : w.outline.symbol ≡ record { 0 = n }
    pub typed : AllAnswer c → is_body_typed (around c) (member_in w) w.tree ≡ true
    pub plain : Plain w.outline.name
    pub own : owner c.methods main w.outline.name ≡ Some (record { 0 = n })
    pub values : takes_values (member_in w) ≡ true

  abbrev pub Line : ℕ → List Work → ℕ → Type 0
  Line n [] k = n ≡ k
  Line n (w ∷ ws) k = Placed n w × Line (suc n) ws k

  pub line-then : (n k l : ℕ) (us vs : List Work) → Line n us k → Line k vs l → Line n (us ++ vs) l
  line-then n k l [] vs a b = subst (λ (m : ℕ). Line m vs l) (sym a) b
  line-then n k l (u ∷ us) vs a b = (a.0, line-then (suc n) k l us vs a.1 b)

  placed : (n : ℕ) (m : Method) (w : Work) → FineMethod m → find_name m.name c.methods ≡ Some (signature (record { 0 = n }) m) → Worked c (record { 0 = n }) m w → Placed n w
  placed n m w f e x =
      let own : owner c.methods main m.name ≡ Some (record { 0 = n }) = rw (name-not-main m.name f.name, e) refl in
      record { symbol = x.symbol; typed = x.typed; plain = subst Plain (sym x.name) (name-plain m.name f.name); own = ap (owner c.methods main) x.name ∙ own; values = ap (list_all is_by_value) x.parameters ∙ values-of x.defs }

  pub works-line : (n k : ℕ) (ms : List Method) (ws : List Work) → FineMethods ms → Entered c.methods n ms k → Works c n ms ws → Line n ws k
  works-line n k [] [] f e x = e
  works-line n k [] (w ∷ ws) f e x = absurd x
  works-line n k (m ∷ ms) [] f e x = absurd x
  works-line n k (m ∷ ms) (w ∷ ws) f e x = (placed n m w f.0 e.0 x.0, works-line (suc n) k ms ws f.1 e.1 x.1)

  -- ---- each is found by its symbol

  apart : (b x : SymId) (n : ℕ) → x ≡ record { 0 = n } → b.0 < n → same_symbol b x ≡ false
  apart b x n e l = let k : x.0 ≡ n = ap (λ (q : SymId). q.0) e in ne_eqb b.0 x.0 (λ f. omega arith)

  looks-more : (b : SymId × Tree) (all : List (SymId × Tree)) (n k : ℕ) (ws : List Work) → Line n ws k → b.0.0 < n → AllOf (Looks all) ws → AllOf (Looks (b ∷ all)) ws
  unfolding look
  looks-more b all n k [] l h a = tt
  looks-more b all n k (w ∷ ws) l h a = (rw (apart b.0 w.outline.symbol n l.0.symbol h) a.0, looks-more b all (suc n) k ws l.1 (omega arith) a.1)

  pub looks-all : (n k : ℕ) (ws : List Work) → Line n ws k → AllOf (Looks (map body_in ws)) ws
  unfolding look
  looks-all n k [] l = tt
  looks-all n k (w ∷ ws) l =
      let e : w.outline.symbol.0 ≡ n = ap (λ (q : SymId). q.0) l.0.symbol in
      (rw (same-symbol w.outline.symbol) refl, looks-more (body_in w) (map body_in ws) (suc n) k ws l.1 (omega arith) (looks-all (suc n) k ws l.1))

  finds-more : (m : Member) (all : List Member) (n k : ℕ) (ws : List Work) → Line n ws k → m.symbol.0 < n → AllOf (Finds all) ws → AllOf (Finds (m ∷ all)) ws
  finds-more m all n k [] l h a = tt
  finds-more m all n k (w ∷ ws) l h a = (rw (apart m.symbol w.outline.symbol n l.0.symbol h) a.0, finds-more m all (suc n) k ws l.1 (omega arith) a.1)

  pub finds-all : (n k : ℕ) (ws : List Work) → Line n ws k → AllOf (Finds (map member_in ws)) ws
  finds-all n k [] l = tt
  finds-all n k (w ∷ ws) l =
      let e : w.outline.symbol.0 ≡ n = ap (λ (q : SymId). q.0) l.0.symbol in
      (rw (same-symbol w.outline.symbol) refl, finds-more (member_in w) (map member_in ws) (suc n) k ws l.1 (omega arith) (finds-all (suc n) k ws l.1))

  -- ---- their bodies are typed

  rises-on : (n k : ℕ) (w : Work) (ws : List Work) → Placed n w → Line (suc n) ws k → rises (map member_in ws) (member_in w) ≡ true
  rises-on n k w [] p l = refl
  rises-on n k w (v ∷ ws) p l =
      let a : w.outline.symbol.0 ≡ n = ap (λ (q : SymId). q.0) p.symbol in
      let b : v.outline.symbol.0 ≡ suc n = ap (λ (q : SymId). q.0) l.0.symbol in
      lt-ltb w.outline.symbol.0 v.outline.symbol.0 (omega arith)

  pub well-typed : (bodies : List (SymId × Tree)) (n k : ℕ) (ws : List Work) → AllAnswer c → Line n ws k → AllOf (Looks bodies) ws → is_well_typed (around c) bodies (map member_in ws) ≡ true
  unfolding is_well_typed
  well-typed bodies n k [] ans l a = refl
  well-typed bodies n k (w ∷ ws) ans l a =
      let e : is_typed (around c) bodies (member_in w) ≡ true = rw a.0 (l.0.typed ans) in
      rw (e, rises-on n k w ws l.0 l.1) (well-typed bodies (suc n) k ws ans l.1 a.1)

  -- ---- their parameters

  pub values-all : (n k : ℕ) (ws : List Work) → Line n ws k → list_all takes_values (map member_in ws) ≡ true
  values-all n k [] l = refl
  values-all n k (w ∷ ws) l = and_from _ _ l.0.values (values-all (suc n) k ws l.1)

  -- ---- their names

  pub units-all : (n k : ℕ) (ws : List Work) → Line n ws k → have_units (map member_in ws) ≡ true
  units-all n k [] l = refl
  units-all n k (w ∷ ws) l = and_from _ _ (ap are_units l.0.plain.units_are ∙ l.0.plain.units) (units-all (suc n) k ws l.1)

  pub no-init : (n k : ℕ) (ws : List Work) → Line n ws k → IsNew (codes "<init>") (map member_in ws)
  no-init n k [] l = tt
  no-init n k (w ∷ ws) l = (not-init w.outline.name l.0.plain, no-init (suc n) k ws l.1)

  pub no-get : (n k : ℕ) (ws : List Work) → Line n ws k → IsNew (codes "$get") (map member_in ws)
  no-get n k [] l = tt
  no-get n k (w ∷ ws) l = (not-get w.outline.name l.0.plain, no-get (suc n) k ws l.1)

  names-differ : (n m : ℕ) (w v : Work) → Placed n w → Placed m v → n < m → units_of_name v.outline.name ≡ units_of_name w.outline.name → ⊥
  names-differ n m w v p q l e =
      let same : v.outline.name ≡ w.outline.name = sym q.plain.units_are ∙ e ∙ p.plain.units_are in
      let one : ◌≡◌ {A = Option SymId} (Some (record { 0 = m })) (Some (record { 0 = n })) = sym q.own ∙ ap (owner c.methods main) same ∙ p.own in
      let number : m ≡ n = ap (λ (x : SymId). x.0) (some-is (record { 0 = m }) (record { 0 = n }) one) in
      absurd (omega arith)

  new-later : (n m k : ℕ) (w : Work) (ws : List Work) → Placed n w → n < m → Line m ws k → IsNew (units_of_name w.outline.name) (map member_in ws)
  new-later n m k w [] p h l = tt
  new-later n m k w (v ∷ ws) p h l = (names-differ n m w v p l.0 h, new-later n (suc m) k w ws p (omega arith) l.1)

  pub all-apart : (n k : ℕ) (ws : List Work) → Line n ws k → Apart (map member_in ws)
  all-apart n k [] l = tt
  all-apart n k (w ∷ ws) l = (new-later n (suc n) k w ws l.0 (omega arith) l.1, all-apart (suc n) k ws l.1)

  -- ---- they answer

  parameters-are : (ds : List Def) → kinds_of_parameters (around c) (map parameter_for ds) ≡ Some (map kind_for (map def_kind ds))
  parameters-are [] = refl
  parameters-are (d ∷ ds) = rw (told c d.kind, parameters-are ds) refl

  answers : (n : SymId) (m : Method) (w : Work) → Worked c n m w → Finds c.members w → Answers c (signature n m)
  answers n m w x f = record {
    found = member_in w;
    there = subst (λ (s : SymId). in_members c.members s ≡ Some (member_in w)) x.symbol f;
    is = refl;
    parameters = ap (kinds_of_parameters (around c)) x.parameters ∙ parameters-are x.defs ∙ ap (λ (ks : List TypeName). Some (map kind_for ks)) x.kinds;
    result = ap (kind_in (around c)) x.answer ∙ told c m.result;
  }

  pub each-of : (n : ℕ) (ms : List Method) (ws : List Work) → Works c n ms ws → AllOf (Finds c.members) ws → Each c n ms
  each-of n [] ws x f = tt
  each-of n (m ∷ ms) [] x f = absurd x
  each-of n (m ∷ ms) (w ∷ ws) x f = (answers (record { 0 = n }) m w x.0 f.0, each-of (suc n) ms ws x.1 f.1)
