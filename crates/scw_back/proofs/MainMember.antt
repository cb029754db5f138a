-- The member that is called first: the one of the form of `main`, which its class has under its symbol, with a body.
use Rattle.std.proofs.Common.{◌≡◌, refl, sym, ap, ◌∙◌, subst, ℕ, zero, suc, ◌+◌, ◌<◌, arith, Bool, true, false, cond, not, ltb, length, List, [], ◌∷◌, Option, Some, None, ltb-true, codes}
use Rattle.std.proofs.lemmas.Bool.{and_parts, true≢false}
use Rattle.std.specs.List.{position_or_len}
use Rattle.std.specs.Prelude.{◌&&◌, is_none, option_map, option_and_then, position, slice_get}
use Rattle.scw_text.specs.declared.number.SymId.{SymId}
use Rattle.scw_core.specs.declared.class.CoreClass.{CoreClass}
use Rattle.scw_core.specs.declared.class.Member.{Member}
use Rattle.scw_core.specs.declared.class.Parameter.{Parameter}
use Rattle.scw_core.specs.declared.program.MethodId.{MethodId}
use Rattle.scw_core.specs.declared.symbol.TheConstants.{ANY, ANY_REF}
use Rattle.scw_core.specs.Dispatch.{is_concrete}
use Rattle.scw_core.specs.Entry.{Entry, main_of, class_place, enterable_member, is_main, is_member, is_plain_method, is_top_object, member_entered, member_place, none_of, place_along, place_of, source_run, start, start_at, starting, symbol_of, takes_strings}
use Rattle.scw_core.specs.Entry as entry
use Rattle.scw_core.specs.Program.{Program, Table, first_some, in_members, look, type_at}
use Rattle.scw_core.specs.Tree.{Tree}
use Rattle.scw_core.specs.Types.{same_symbol, same_text}
use Rattle.scw_gen.specs.Around.{Around}
use Rattle.scw_gen.specs.Method.{is_method}
use Rattle.scw_gen.specs.Typed.{is_typed, is_typed_by, is_well_typed, rises}
use Rattle.scw_back.proofs.CoreCalls.{Built, all-five, all-four, all-three, class-found, none-there}
use Rattle.scw_back.proofs.Maps.{by-test, symbol-itself, symbols-differ}

-- ---- members of a class whose methods are well typed

later-rises : (g : Around) (bodies : List (SymId × Tree)) (y : Member) (ys : List Member) (n : ℕ) (m : Member) → rises ys y ≡ true → is_well_typed g bodies ys ≡ true → slice_get ys n ≡ Some m → y.symbol.0 < m.symbol.0
unfolding is_well_typed
later-rises g bodies y [] n m r w e = absurd (cc)
later-rises g bodies y (z ∷ zs) zero m r w e = let same : z ≡ m = cc in subst (λ (u : Member). y.symbol.0 < u.symbol.0) same (ltb-true y.symbol.0 z.symbol.0 r)
later-rises g bodies y (z ∷ zs) (suc n) m r w e =
    let parts = all-three (is_typed g bodies z) (rises zs z) (is_well_typed g bodies zs) w in
    let a = ltb-true y.symbol.0 z.symbol.0 r in
    let b = later-rises g bodies z zs n m parts.1 parts.2 e in
    omega (arith, a, b)

-- each member is the first one with its symbol
pub member-first : (g : Around) (bodies : List (SymId × Tree)) (ms : List Member) (n : ℕ) (m : Member) → is_well_typed g bodies ms ≡ true → slice_get ms n ≡ Some m → in_members ms m.symbol ≡ Some m
unfolding is_well_typed
member-first g bodies [] n m w e = absurd (cc)
member-first g bodies (y ∷ ys) zero m w e = let same : y ≡ m = cc in (λ i. cond (same_symbol (same i).symbol m.symbol) (Some (same i)) (in_members ys m.symbol)) ∙ ap (λ b. cond b (Some m) (in_members ys m.symbol)) (symbol-itself m.symbol)
member-first g bodies (y ∷ ys) (suc n) m w e =
    let parts = all-three (is_typed g bodies y) (rises ys y) (is_well_typed g bodies ys) w in
    let lt = later-rises g bodies y ys n m parts.1 parts.2 e in
    let off = symbols-differ y.symbol m.symbol (λ s. (let t = ap (λ (a : SymId). a.0) s in omega (arith, t, lt))) in
    ap (λ b. cond b (Some y) (in_members ys m.symbol)) off ∙ member-first g bodies ys n m parts.2 e

pub member-typed : (g : Around) (bodies : List (SymId × Tree)) (ms : List Member) (n : ℕ) (m : Member) → is_well_typed g bodies ms ≡ true → slice_get ms n ≡ Some m → is_typed g bodies m ≡ true
unfolding is_well_typed
member-typed g bodies [] n m w e = absurd (cc)
member-typed g bodies (y ∷ ys) zero m w e = let same : y ≡ m = cc in subst (λ (u : Member). is_typed g bodies u ≡ true) same (all-three (is_typed g bodies y) (rises ys y) (is_well_typed g bodies ys) w).0
member-typed g bodies (y ∷ ys) (suc n) m w e = member-typed g bodies ys n m (all-three (is_typed g bodies y) (rises ys y) (is_well_typed g bodies ys) w).2 e

tree-there : (g : Around) (m : Member) (o : Option Tree) → is_typed_by g m o ≡ true → (t : Tree) × (o ≡ Some t)
tree-there g m None h = absurd (true≢false (sym h))
tree-there g m (Some t) h = (t, refl)

pub body-there : (g : Around) (bodies : List (SymId × Tree)) (m : Member) → is_typed g bodies m ≡ true → (t : Tree) × (look bodies m.symbol ≡ Some t)
body-there g bodies m h = tree-there g m (look bodies m.symbol) h

-- ---- places in lists

number-one : (k : ℕ) → 1 + k ≡ suc k
number-one k = omega arith

found-at : {A : Type 0} (test : A → Bool) (xs : List A) (n : ℕ) → position_or_len test xs ≡ n → n < length xs → (x : A) × (slice_get xs n ≡ Some x) × (test x ≡ true)
found-at test [] n e l = absurd (omega arith)
found-at {A} test (x ∷ xs) n e l = by-test (test x) yes_case (no_case (λ k f g. found-at test xs k f g))
  where
    yes_case : test x ≡ true → (y : A) × (slice_get (x ∷ xs) n ≡ Some y) × (test y ≡ true)
    yes_case t =
        let first : 0 ≡ n = sym (ap (λ b. cond (not b) (1 + position_or_len test xs) 0) t) ∙ e in
        (x, ap (slice_get (x ∷ xs)) (sym first), t)

    no_case : ((k : ℕ) → position_or_len test xs ≡ k → k < length xs → (y : A) × (slice_get xs k ≡ Some y) × (test y ≡ true)) → test x ≡ false → (y : A) × (slice_get (x ∷ xs) n ≡ Some y) × (test y ≡ true)
    no_case further t =
        let k : ℕ = position_or_len test xs in
        let after : 1 + k ≡ n = sym (ap (λ b. cond (not b) (1 + position_or_len test xs) 0) t) ∙ e in
        let r = further k refl (omega (arith, after, l)) in
        (r.0, ap (slice_get (x ∷ xs)) (sym after ∙ number-one k) ∙ r.1, r.2)

pub position-found : {A : Type 0} (test : A → Bool) (xs : List A) (n : ℕ) → position test xs ≡ Some n → (x : A) × (slice_get xs n ≡ Some x) × (test x ≡ true)
position-found test xs n e = found-at test xs n both.0 both.1
  where
    by : (b : Bool) (k : ℕ) → cond b (Some k) None ≡ Some n → (b ≡ true) × (k ≡ n)
    by true k h = let same : k ≡ n = cc in (refl, same)
    by false k h = absurd (cc)

    both : (position_or_len test xs ≡ n) × (n < length xs)
    both =
        let parts = by _ (position_or_len test xs) e in
        let lt = ltb-true (position_or_len test xs) (length xs) parts.0 in
        (parts.1, subst (λ j. j < length xs) parts.1 lt)

-- ---- `main`

pub record MainParts (T : Table) (m : Member) : Type 0 where
  pub plain : is_plain_method m ≡ true
  pub name : same_text m.name (codes "main") ≡ true
  pub takes : takes_strings T m.parameters ≡ true
  pub gives_unit : entry.is_unit (type_at T m.result) ≡ true

pub main-parts : (T : Table) (m : Member) → is_main T m ≡ true → MainParts T m
main-parts T m h =
    let a = all-four (is_plain_method m) (same_text m.name (codes "main")) (takes_strings T m.parameters) (entry.is_unit (type_at T m.result)) h in
    record { plain = a.0; name = a.1; takes = a.2; gives_unit = a.3 }

pub plain-method : (m : Member) → is_plain_method m ≡ true → is_method m ≡ true
plain-method m h =
    let x = and_parts (entry.is_public m.modifiers.access && entry.is_def m.kind && not m.is_static && is_none m.block && none_of m.type_parameters) (is_concrete m.body) h in
    let a = all-five (entry.is_public m.modifiers.access) (entry.is_def m.kind) (not m.is_static) (is_none m.block) (none_of m.type_parameters) x.0 in
    λ i. a.1 i && x.1 i && a.2 i && a.3 i && a.4 i

-- it has one parameter
pub one-parameter : (T : Table) (xs : List Parameter) → takes_strings T xs ≡ true → (x : Parameter) × (xs ≡ x ∷ [])
one-parameter T [] h = absurd (true≢false (sym h))
one-parameter T (x ∷ xs) h = let a = all-three (not x.is_by_name) (entry.is_array_of_strings (type_at T x.type_id)) (none_of xs) h in (x, ap (λ ys. x ∷ ys) (none-there xs a.2))

-- ---- the member that is called

module _ (T : Table) (K : CoreClass) where
  abbrev has_form : Member → Bool
  has_form m = is_main T m

  abbrev at_number : ℕ → MethodId
  at_number n = record { object = 0; class = 0; member = n }

  abbrev numbered : Option ℕ → Option MethodId
  numbered o = option_map at_number o

  abbrev here : Option ℕ
  here = position (is_member [] has_form) K.members

  -- the class is the only one, so that a class of its linearisation has what it has, or nothing
  place-own : place_of 0 [] has_form (K ∷ []) K.symbol ≡ numbered here
  place-own = ap (λ (b : Bool). option_and_then (member_place 0 [] has_form (K ∷ [])) (cond (ltb (cond (not b) 1 0) 1) (Some (cond (not b) 1 0)) None)) (symbol-itself K.symbol)

  place-none : (c : SymId) → here ≡ None → place_of 0 [] has_form (K ∷ []) c ≡ None
  place-none c h = by (same_symbol K.symbol c)
    where
      by : (b : Bool) → option_and_then (member_place 0 [] has_form (K ∷ [])) (cond (ltb (cond (not b) 1 0) 1) (Some (cond (not b) 1 0)) None) ≡ None
      by true = ap numbered h
      by false = refl

  place-line : (n : ℕ) → here ≡ Some n → place_along 0 [] has_form (K ∷ []) (K.symbol ∷ ANY_REF ∷ ANY ∷ []) ≡ Some (at_number n)
  place-line n h = ap (λ o. first_some o (first_some (place_of 0 [] has_form (K ∷ []) ANY_REF) (first_some (place_of 0 [] has_form (K ∷ []) ANY) None))) (place-own ∙ ap numbered h)

  place-nowhere : here ≡ None → place_along 0 [] has_form (K ∷ []) (K.symbol ∷ ANY_REF ∷ ANY ∷ []) ≡ None
  place-nowhere h = λ i. first_some (place-none K.symbol h i) (first_some (place-none ANY_REF h i) (first_some (place-none ANY h i) None))

  pub record MainAt (x : SymId) : Type 0 where
    pub number : ℕ
    pub member : Member
    pub there : slice_get K.members number ≡ Some member
    pub main : is_main T member ≡ true
    pub symbol : member.symbol ≡ x

  by-place : (o : Option ℕ) (x : SymId) → here ≡ o → option_and_then (symbol_of (K ∷ [])) (place_along 0 [] has_form (K ∷ []) (K.symbol ∷ ANY_REF ∷ ANY ∷ [])) ≡ Some x → MainAt x
  by-place None x h e = let off : None ≡ Some x = sym (ap (option_and_then (symbol_of (K ∷ []))) (place-nowhere h)) ∙ e in absurd (cc)
  by-place (Some n) x h e =
      let f = position-found (is_member [] has_form) K.members n h in
      let main = (and_parts (is_main T f.0) (not (entry.is_overridden [] f.0.symbol)) f.2).0 in
      let s : Some f.0.symbol ≡ Some x = sym (ap (option_map (λ (m : Member). m.symbol)) f.1) ∙ sym (ap (option_and_then (symbol_of (K ∷ []))) (place-line n h)) ∙ e in
      record { number = n; member = f.0; there = f.1; main = main; symbol = cc }

pub main-there : (p : Program) (K : CoreClass) (x : SymId) → p.table.classes ≡ K ∷ [] → Built p K → member_entered p.table (main_of K.symbol) ≡ Some x → MainAt p.table K x
unfolding member_entered
main-there p K x alone built e =
    let T = p.table in
    let there = ap (option_and_then (enterable_member T (main_of K.symbol))) (class-found p K alone) in
    let top = ap (λ b. cond b (option_and_then (symbol_of T.classes) (place_along 0 K.override_pairs (is_main T) T.classes K.linearisation)) None) built.top in
    let parts : option_and_then (symbol_of T.classes) (place_along 0 K.override_pairs (is_main T) T.classes K.linearisation) ≡ option_and_then (symbol_of (K ∷ [])) (place_along 0 [] (is_main T) (K ∷ []) (K.symbol ∷ ANY_REF ∷ ANY ∷ [])) = (λ i. option_and_then (symbol_of (alone i)) (place_along 0 (built.pairs i) (is_main T) (alone i) (built.line i))) in
    by-place T K (position (is_member [] (is_main T)) K.members) x refl (sym parts ∙ sym top ∙ sym there ∙ e)
