-- The methods of a class, under two pools: each is there, with one name and descriptor, and their codes name the same.
use Rattle.std.proofs.Common.{◌≡◌, Bool, true, false, ◌||◌, cond, List, [], ◌∷◌, ◌++◌, map, Option, Some, None, refl, sym, ap, ◌∙◌, append-nil, append_assoc, nat_le}
use Rattle.std.proofs.lemmas.Bool.{cond-true}
use Rattle.scw_text.specs.declared.number.SymId.{SymId}
use Rattle.scw_classfile.specs.declared.pool_entry.PoolEntry.{PoolEntry}
use Rattle.scw_core.specs.Program.{Table, look}
use Rattle.scw_core.specs.Text.{units_of_name}
use Rattle.scw_core.specs.Tree.{Tree}
use Rattle.scw_core.specs.Types.{same_symbol}
use Rattle.scw_core.specs.declared.class.CoreClass.{CoreClass}
use Rattle.scw_core.specs.declared.class.Member.{Member}
use Rattle.scw_gen.specs.Around.{Around, kind_in}
use Rattle.scw_gen.specs.Code.{code, joined}
use Rattle.scw_gen.specs.Instr.{bytes_of}
use Rattle.scw_gen.specs.Kind.{word_of}
use Rattle.scw_gen.specs.Method.{Method, Start, code_of_body, end_of_body, far, is_method, local_of, method_in, method_of, method_with, methods_from, mode_of_body, outermost, start_of, started}
use Rattle.scw_gen.specs.Mode.{one}
use Rattle.scw_gen.specs.Name.{method_name}
use Rattle.scw_gen.specs.Outcome.{◌>>=◌}
use Rattle.scw_gen.specs.Room.{slot_behind}
use Rattle.scw_gen.specs.Scope.{Scope, from, inside, placed}
use Rattle.scw_gen.specs.Typed.{all_set, is_bound, known, locals_of, this_known}
use Rattle.scw_gen.specs.declared.instr.Instr.{Instr}
use Rattle.scw_gen.specs.declared.instr.Instr.TheVariants as instr
use Rattle.scw_gen.specs.declared.kind.Kind.{Kind}
use Rattle.scw_gen.specs.declared.kind.Kind.TheVariants as kind
use Rattle.scw_gen.specs.declared.method.TheConstants.{MAX_NEAR}
use Rattle.scw_gen.specs.declared.named.Named as gen
use Rattle.scw_gen.proofs.TypedLemmas.{locals_mapped}
use Rattle.scw_built.proofs.Alike.{Alike, Both, Names, alike-none, alike-quiet, both, joined-both}
use Rattle.scw_built.proofs.Covered.{Covers, Placed, covers-less, has_slot, placed-covers, set-less}
use Rattle.scw_built.proofs.Members.{AllWhole, BodyOf, Whole, name-anywhere, whole_more, whole_none}
use Rattle.scw_built.proofs.Modes.{Modes, m_effect, m_return}
use Rattle.scw_built.proofs.Operators.{Ready, plain, under}
use Rattle.scw_built.proofs.Sound.{are_units}
use Rattle.scw_built.proofs.Trees.{tree-both}

-- two methods of one name and descriptor, whose codes name the same
pub record Twins (g : Around) (x y : Method) : Type 0 where
  pub name : x.name ≡ y.name
  pub descriptor : x.descriptor ≡ y.descriptor
  pub units : are_units x.name ≡ true
  pub also : are_units x.descriptor ≡ true
  pub names : List gen.Named
  pub first : Names g x.instrs names
  pub second : Names g y.instrs names

-- members, and their methods under two pools
pub data Beside (g : Around) : List Member → List Method → List Method → Type 0 where
  no_members : Beside g [] [] []
  member_more : (m : Member) (x y : Method) (ms : List Member) (xs ys : List Method) → Twins g x y → y.name ≡ units_of_name m.name → Beside g ms xs ys → Beside g (m ∷ ms) (x ∷ xs) (y ∷ ys)

-- steps that give something
pub then-is : {A B : Type 0} (o : Option A) (f : A → Option B) (x : A) (y : Option B) → o ≡ Some x → f x ≡ y → (o >>= f) ≡ y
then-is o f x y h k = ap (λ z. z >>= f) h ∙ k

-- codes that are both there
record Codes (g : Around) (a b : Option (List Instr)) : Type 0 where
  first : List Instr
  second : List Instr
  first_is : a ≡ Some first
  second_is : b ≡ Some second
  alike : Alike g first second

codes-of : (g : Around) (a b : Option (List Instr)) → Both g a b → Codes g a b
codes-of g a b (both x y h) = record { first = x; second = y; first_is = refl; second_is = refl; alike = h }

-- of a near and a far code of each one is chosen
chosen-both : (g : Around) (a b c d : Option (List Instr)) (test : List Instr → Bool) → Both g a b → Both g a d → Both g c b → Both g c d → Both g (a >>= λ is. cond (test is) (Some is) c) (b >>= λ is. cond (test is) (Some is) d)
chosen-both g a b c d test (both x y h) ad cb cd = by (test x) (test y)
  where
    by : (s t : Bool) → Both g (cond s (Some x) c) (cond t (Some y) d)
    by true true = both x y h
    by true false = ad
    by false true = cb
    by false false = cd

body-modes : (k : Kind) → Modes (mode_of_body k) (mode_of_body k)
body-modes kind.Unit = m_effect
body-modes kind.Boolean = m_return (word_of kind.Boolean)
body-modes kind.Int = m_return (word_of kind.Int)
body-modes kind.Long = m_return (word_of kind.Long)
body-modes kind.String = m_return (word_of kind.String)
body-modes kind.Strings = m_return (word_of kind.Strings)
body-modes kind.This = m_return (word_of kind.This)

end-alike : (g : Around) (k : Kind) → Alike g (one (end_of_body k)) (one (end_of_body k))
end-alike g kind.Unit = alike-quiet g instr.ReturnNothing instr.ReturnNothing refl refl
end-alike g kind.Boolean = alike-none g
end-alike g kind.Int = alike-none g
end-alike g kind.Long = alike-none g
end-alike g kind.String = alike-none g
end-alike g kind.Strings = alike-none g
end-alike g kind.This = alike-none g

module _ (table : Table) (class : CoreClass) (ready : Ready table class) (bodies : List (SymId × Tree)) (p q : List PoolEntry) where
  abbrev N : Around
  N = plain table class

  abbrev G : Around
  G = under table class p false

  abbrev H : Around
  H = under table class q false

  this_has : (x : SymId) → is_bound (known (this_known N ∷ []) x) ≡ true → has_slot x (outermost N).slots ≡ true
  unfolding known
  this_has x h = by (same_symbol class.this x) h
    where
      by : (b : Bool) → is_bound (cond b (Some (this_known N)) None) ≡ true → (b || false) ≡ true
      by true h = refl
      by false h = h

  this-covered : Covers (outermost N).slots (this_known N ∷ [])
  this-covered = record { has = this_has }

  body-placed : (m : Member) (b : BodyOf table class bodies m) → Placed N (outermost N).slots (from 1) (map local_of m.parameters) (all_set b.known)
  body-placed m b =
      let f = placed-covers N (outermost N).slots (from 1) (locals_of m.parameters) (this_known N ∷ []) b.known this-covered b.bound_is in
      record {
        scope = f.scope;
        is = ap (placed table class.symbol (from 1)) (locals_mapped m.parameters) ∙ f.is;
        covers = covers-less (f.scope.slots ++ (outermost N).slots) (all_set b.known) b.known (set-less b.known) f.covers;
      }

  module _ (m : Member) (w : Whole table class bodies m) where
    abbrev body : BodyOf table class bodies m
    body = w.body

    abbrev scope : Scope
    scope = inside (body-placed m body).scope (outermost N)

    abbrev start : Around → Start
    start g = record { scope = scope; mode = mode_of_body body.result; end = end_of_body body.result; next = slot_behind g 1 (map local_of m.parameters) }

    abbrev code_in : List PoolEntry → Bool → Option (List Instr)
    code_in pool far = joined (code (under table class pool far) scope (mode_of_body body.result) body.tree) (Some (one (end_of_body body.result)))

    code-both : (d e : Bool) → Both N (code_in p d) (code_in q e)
    code-both d e =
        joined-both N _ _ _ _
        (tree-both table class ready p q d e scope (all_set body.known) (mode_of_body body.result) (mode_of_body body.result) body.tree body.kind (body-placed m body).covers (body-modes body.result) body.kind_is)
        (both _ _ (end-alike N body.result))

    chosen : Both N (code_of_body G (start G) body.tree) (code_of_body H (start H) body.tree)
    chosen = chosen-both N (code_in p false) (code_in q false) (code_in p true) (code_in q true) (λ is. nat_le (bytes_of is) MAX_NEAR) (code-both false false) (code-both false true) (code-both true false) (code-both true true)

    started-is : (pool : List PoolEntry) → start_of (under table class pool false) m ≡ Some (start (under table class pool false))
    started-is pool =
        let g = under table class pool false in
        then-is (placed table class.symbol (from 1) (map local_of m.parameters)) (λ s. started g (map local_of m.parameters) s (kind_in g m.result)) (body-placed m body).scope (Some (start g))
        (body-placed m body).is (ap (started g (map local_of m.parameters) (body-placed m body).scope) body.result_is)

    made-of : (pool : List PoolEntry) (is : List Instr) → code_of_body (under table class pool false) (start (under table class pool false)) body.tree ≡ Some is
        → method_of (under table class pool false) bodies m ≡ Some (method_with (under table class pool false) (start (under table class pool false)) body.tree is w.name.name)
    made-of pool is h =
        let g = under table class pool false in
        let t = body.tree in
        let n = w.name.name in
        let x = method_with g (start g) t is n in
        cond-true (is_method m) (method_in g m (look bodies m.symbol)) None w.method
        ∙ ap (method_in g m) body.is
        ∙ then-is (start_of g m) (λ s. code_of_body g s t >>= λ js. method_name g m >>= λ n. Some (method_with g s t js n)) (start g) (Some x) (started-is pool)
        (then-is (code_of_body g (start g) t) (λ js. method_name g m >>= λ n. Some (method_with g (start g) t js n)) is (Some x) h
        (then-is (method_name g m) (λ n. Some (method_with g (start g) t is n)) n (Some x) (name-anywhere table class pool false m ∙ w.name.is) refl))

    -- the two methods of a member
    record Pair : Type 0 where
      first : Method
      second : Method
      first_is : method_of G bodies m ≡ Some first
      second_is : method_of H bodies m ≡ Some second
      twins : Twins N first second
      named : second.name ≡ units_of_name m.name

    pair : Pair
    pair =
        let c = codes-of N (code_of_body G (start G) body.tree) (code_of_body H (start H) body.tree) chosen in
        let n = w.name.name in
        record {
          first = method_with G (start G) body.tree c.first n;
          second = method_with H (start H) body.tree c.second n;
          first_is = made-of p c.first c.first_is;
          second_is = made-of q c.second c.second_is;
          twins = record { name = refl; descriptor = refl; units = w.name.fits.1; also = w.name.fits.2; names = c.alike.names; first = c.alike.first; second = c.alike.second };
          named = w.name.same;
        }

  -- the methods of members, behind others
  pub record AllPairs (ms : List Member) : Type 0 where
    pub first : List Method
    pub second : List Method
    pub first_is : (before : List Method) → methods_from G bodies before ms ≡ Some (before ++ first)
    pub second_is : (before : List Method) → methods_from H bodies before ms ≡ Some (before ++ second)
    pub beside : Beside N ms first second

  no-pairs : AllPairs []
  unfolding methods_from
  no-pairs = record { first = []; second = []; first_is = λ before. ap (λ l. Some l) (sym (append-nil before)); second_is = λ before. ap (λ l. Some l) (sym (append-nil before)); beside = no_members }

  from-more : (g : Around) (m : Member) (x : Method) (ms : List Member) (xs before : List Method) → method_of g bodies m ≡ Some x → methods_from g bodies (before ++ x ∷ []) ms ≡ Some ((before ++ x ∷ []) ++ xs) → methods_from g bodies before (m ∷ ms) ≡ Some (before ++ x ∷ xs)
  unfolding methods_from
  from-more g m x ms xs before h k =
      then-is (method_of g bodies m) (λ y. methods_from g bodies (before ++ y ∷ []) ms) x (Some (before ++ x ∷ xs)) h (k ∙ ap (λ l. Some l) (append_assoc before (x ∷ []) xs))

  pub all-pairs : (ms : List Member) → AllWhole table class bodies ms → AllPairs ms
  all-pairs ms whole_none = no-pairs
  all-pairs ms (whole_more m ns w r) =
      let a = pair m w in
      let b = all-pairs ns r in
      record {
        first = a.first ∷ b.first;
        second = a.second ∷ b.second;
        first_is = λ before. from-more G m a.first ns b.first before a.first_is (b.first_is (before ++ a.first ∷ []));
        second_is = λ before. from-more H m a.second ns b.second before a.second_is (b.second_is (before ++ a.second ∷ []));
        beside = member_more m a.first a.second ns b.first b.second a.twins a.named b.beside;
      }
