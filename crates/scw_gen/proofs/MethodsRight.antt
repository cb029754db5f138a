-- The methods of a class have code that is whole, and descriptors of methods.
use Rattle.std.proofs.Common.{◌≡◌, ◌+◌, ◌≤◌, Bool, true, false, cond, List, [], ◌∷◌, ◌++◌, map, Option, Some, None, refl, sym, ap, ◌∙◌, subst, arith}
use Rattle.std.specs.Prelude.{nat_le}
use Rattle.std.proofs.lemmas.Bool.{leb-true}
use Rattle.scw_text.specs.declared.number.SymId.{SymId}
use Rattle.scw_classfile.specs.Descriptor.{is_field, is_method as is_descriptor, is_return, after_parameters}
use Rattle.scw_core.specs.Program.{look}
use Rattle.scw_core.specs.Tree.{Tree}
use Rattle.scw_core.specs.declared.class.Member.{Member}
use Rattle.scw_core.specs.declared.tree.Local.{Local}
use Rattle.scw_gen.specs.declared.instr.Instr.{Instr}
use Rattle.scw_gen.specs.declared.instr.Instr.TheVariants as instr
use Rattle.scw_gen.specs.declared.kind.Kind.{Kind}
use Rattle.scw_gen.specs.declared.kind.Kind.TheVariants as kind
use Rattle.scw_gen.specs.declared.kind.Word.{Word}
use Rattle.scw_gen.specs.declared.kind.Word.TheVariants as word
use Rattle.scw_gen.specs.declared.method.TheConstants.{MAX_NEAR}
use Rattle.scw_gen.specs.declared.mode.Mode.{Mode}
use Rattle.scw_gen.specs.declared.mode.Mode.TheVariants.{Effect, Return}
use Rattle.scw_gen.specs.Outcome.{◌>>=◌}
use Rattle.scw_gen.specs.Around.{Around, kind_in}
use Rattle.scw_gen.specs.Code.{code, joined}
use Rattle.scw_gen.specs.Instr.{bytes_of}
use Rattle.scw_gen.specs.Mode.{one}
use Rattle.scw_gen.specs.Name.{get_name, method_name}
use Rattle.scw_gen.specs.Room.{slot_behind}
use Rattle.scw_gen.specs.Scope.{Scope, from, inside, placed}
use Rattle.scw_gen.specs.Method.{Method, Start, body_code, code_of_body, constructor, end_of_body, far, getter, is_method, local_of, method_by, method_in, method_of, method_with, methods_from, methods_of, mode_of_body, near, outermost, start_of, started}
use Rattle.scw_gen.proofs.Steps.{bound}
use Rattle.scw_gen.proofs.ScopeFits.{ScopeFits, from-fits, inside-fits, placed-fits}
use Rattle.scw_gen.proofs.Landing.{effect-value}
use Rattle.scw_gen.proofs.OperatorLands.{Lands_in}
use Rattle.scw_gen.proofs.CodeLands.{alone_lands, both_land, code-lands}
use Rattle.scw_gen.proofs.CodeWritable.{Closed}
use Rattle.scw_gen.proofs.PoolWritable.{method_name-is}

-- ---- bodies

module _ (g : Around) where
  -- code that doesn't go on at its end, whatever it returns
  abbrev Returns : List Instr → Type 0
  Returns is = Lands_in g (Return word.Int) is

  nothing_returned : Returns (instr.ReturnNothing ∷ [])
  nothing_returned = record { goes = λ ok o e at few h x. (tt, tt); some = omega arith }

  returned : (w : Word) (is : List Instr) → Lands_in g (Return w) is → Returns is
  returned w is l = record { goes = λ ok o e at few h x. l.goes ok o e at few h x; some = l.some }

  -- nothing stands behind code that returns a value
  value_returns : (s : Scope) (w : Word) (t : Tree) (is : List Instr) → ScopeFits s → joined (code g s (Return w) t) (Some []) ≡ Some is → Returns is
  value_returns s w t is fits h = returned w is (alone_lands g (Return w) (code g s (Return w) t) is (λ x e. code-lands g s (Return w) t x fits e) h)

  body-returns : (s : Scope) (k : Kind) (t : Tree) (is : List Instr) → ScopeFits s → joined (code g s (mode_of_body k) t) (Some (one (end_of_body k))) ≡ Some is → Returns is
  body-returns s kind.Unit t is fits h =
      both_land g (Return word.Int) (code g s Effect t) (Some (instr.ReturnNothing ∷ [])) is (λ x e. effect-value g.table g.pool g.is_far x (code-lands g s Effect t x fits e))
      (λ y e. let same : instr.ReturnNothing ∷ [] ≡ y = cc in subst Returns same nothing_returned) h
  body-returns s kind.Boolean t is fits h = value_returns s word.Int t is fits h
  body-returns s kind.Int t is fits h = value_returns s word.Int t is fits h
  body-returns s kind.Long t is fits h = value_returns s word.Long t is fits h
  body-returns s kind.String t is fits h = value_returns s word.Reference t is fits h
  body-returns s kind.Strings t is fits h = value_returns s word.Reference t is fits h
  body-returns s kind.This t is fits h = value_returns s word.Reference t is fits h

module _ (g : Around) where
  -- in both forms, the code of a body is whole
  closed_near : (is : List Instr) → Returns (near g) is → bytes_of is ≤ 32767 → Closed g is
  closed_near is l few = record { goes = λ ok small h. l.goes ok 0 (0 + bytes_of is) refl (omega (arith, few)) h tt; some = l.some }

  closed_far : (is : List Instr) → Returns (far g) is → Closed g is
  closed_far is l = record { goes = λ ok small h. l.goes ok 0 (0 + bytes_of is) refl (omega (arith, small)) h tt; some = l.some }

  -- a body begins in a scope that fits, and ends as its result asks
  record Begun (s : Start) : Type 0 where
    fits : ScopeFits s.scope
    kind : Kind
    mode : s.mode ≡ mode_of_body kind
    end : s.end ≡ end_of_body kind

  outermost-fits : ScopeFits (outermost g)
  outermost-fits = record { slots = (omega arith, tt); next = omega arith }

  started-begun : (xs : List Local) (scope : Scope) (k : Option Kind) (s : Start) → ScopeFits scope → started g xs scope k ≡ Some s → Begun s
  started-begun xs scope None s fits h = absurd (cc)
  started-begun xs scope (Some k) s fits h =
      let same : record { scope = inside scope (outermost g); mode = mode_of_body k; end = end_of_body k; next = slot_behind g 1 xs } ≡ s = cc in
      subst Begun same (record { fits = inside-fits scope (outermost g) fits outermost-fits; kind = k; mode = refl; end = refl })

  start-begun : (m : Member) (s : Start) → start_of g m ≡ Some s → Begun s
  start-begun m s h =
      let xs = map local_of m.parameters in
      let b = bound (placed g.table g.class.symbol (from 1) xs) (λ scope. started g xs scope (kind_in g m.result)) s h in
      started-begun xs b.0 (kind_in g m.result) s (placed-fits g.table g.class.symbol (from 1) xs b.0 (from-fits 1 (omega arith)) b.1) b.2

  -- the code of a body, in one of the two forms of jumps
  body_made : (g' : Around) (s : Start) (t : Tree) (is : List Instr) → Begun s → body_code g' s t ≡ Some is → Returns g' is
  body_made g' s t is b h =
      body-returns g' s.scope b.kind t is b.fits
      (ap (λ (m : Mode). joined (code g' s.scope m t) (Some (one (end_of_body b.kind)))) (sym b.mode) ∙ ap (λ (e : Option Instr). joined (code g' s.scope s.mode t) (Some (one e))) (sym b.end) ∙ h)

  body-closed : (s : Start) (t : Tree) (is : List Instr) → Begun s → code_of_body g s t ≡ Some is → Closed g is
  body-closed s t is b h =
      let n = bound (body_code (near g) s t) (λ js. cond (nat_le (bytes_of js) MAX_NEAR) (Some js) (body_code (far g) s t)) is h in
      by (nat_le (bytes_of n.0) MAX_NEAR) n.0 (λ e. leb-true (bytes_of n.0) 32767 e) (body_made (near g) s t n.0 b n.1) n.2
    where
      by : (c : Bool) (js : List Instr) → (c ≡ true → bytes_of js ≤ 32767) → Returns (near g) js → cond c (Some js) (body_code (far g) s t) ≡ Some is → Closed g is
      by true js few l e = let same : js ≡ is = cc in subst (Closed g) same (closed_near js l (few refl))
      by false js few l e = closed_far is (body_made (far g) s t is b e)

  -- ---- methods

  -- a method that can be written
  pub record MethodRight (m : Method) : Type 0 where
    pub flags : m.flags ≤ 65535
    pub described : is_descriptor m.descriptor ≡ true
    pub closed : Closed g m.instrs

  constructor-right : MethodRight (constructor g)
  unfolding is_descriptor is_field is_return after_parameters
  constructor-right = record { flags = omega arith; described = refl; closed = record { goes = λ ok small h. (omega arith, (tt, (tt, tt))); some = omega arith } }

  getter-right : is_descriptor (get_name g).descriptor ≡ true → MethodRight (getter g)
  getter-right d = record { flags = omega arith; described = d; closed = record { goes = λ ok small h. (tt, (tt, (tt, (tt, tt)))); some = omega arith } }

  method_by-right : (m : Member) (t : Tree) (x : Method) → method_by g m t ≡ Some x → MethodRight x
  method_by-right m t x h =
      let a = bound (start_of g m) (λ s. code_of_body g s t >>= λ is. method_name g m >>= λ n. Some (method_with g s t is n)) x h in
      let b = bound (code_of_body g a.0 t) (λ is. method_name g m >>= λ n. Some (method_with g a.0 t is n)) x a.2 in
      let c = bound (method_name g m) (λ n. Some (method_with g a.0 t b.0 n)) x b.2 in
      let same : method_with g a.0 t b.0 c.0 ≡ x = (let e = c.2 in cc) in
      subst MethodRight same (record { flags = omega arith; described = (method_name-is g m c.0 c.1).1; closed = body-closed a.0 t b.0 (start-begun m a.0 a.1) b.1 })

  method_in-right : (m : Member) (t : Option Tree) (x : Method) → method_in g m t ≡ Some x → MethodRight x
  method_in-right m None x h = absurd (cc)
  method_in-right m (Some t) x h = method_by-right m t x h

  method_of-right : (bodies : List (SymId × Tree)) (m : Member) (x : Method) → method_of g bodies m ≡ Some x → MethodRight x
  method_of-right bodies m x h = by (is_method m) h
    where
      by : (b : Bool) → cond b (method_in g m (look bodies m.symbol)) None ≡ Some x → MethodRight x
      by true e = method_in-right m (look bodies m.symbol) x e
      by false e = absurd (cc)

  -- all of them
  abbrev pub AllRight : List Method → Type 0
  AllRight [] = Unit {0}
  AllRight (m ∷ ms) = MethodRight m × AllRight ms

  right-append : (a b : List Method) → AllRight a → AllRight b → AllRight (a ++ b)
  right-append [] b h k = k
  right-append (m ∷ a) b h k = (h.0, right-append a b h.1 k)

  methods_from-right : (bodies : List (SymId × Tree)) (found out : List Method) (ms : List Member) → AllRight found → methods_from g bodies found ms ≡ Some out → AllRight out
  unfolding methods_from
  methods_from-right bodies found out [] right h = let same : found ≡ out = cc in subst AllRight same right
  methods_from-right bodies found out (m ∷ ms) right h =
      let b = bound (method_of g bodies m) (λ x. methods_from g bodies (found ++ x ∷ []) ms) out h in
      methods_from-right bodies (found ++ b.0 ∷ []) out ms (right-append found (b.0 ∷ []) right (method_of-right bodies m b.0 b.1, tt)) b.2

  pub methods-right : (bodies : List (SymId × Tree)) (ms : List Method) → is_descriptor (get_name g).descriptor ≡ true → methods_of g bodies ≡ Some ms → AllRight ms
  methods-right bodies ms d h = methods_from-right bodies (constructor g ∷ getter g ∷ []) ms g.class.members (constructor-right, (getter-right d, tt)) h
