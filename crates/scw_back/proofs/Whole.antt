-- The class file of a program does what the program does.
use Rattle.std.proofs.Common.{◌≡◌, refl, sym, ap, ◌∙◌, subst, ℕ, zero, suc, ◌+◌, ◌-◌, ◌*◌, ◌≤◌, arith, Bool, true, false, List, [], ◌∷◌, map, Some, None, inl}
use Rattle.scw_text.specs.declared.number.SymId.{SymId}
use Rattle.scw_classfile.specs.declared.pool_entry.PoolEntry.{PoolEntry}
use Rattle.scw_core.proofs.SeenLemmas.{covers_further}
use Rattle.scw_core.proofs.Systems.{Follows, System, alike, core_system, iterate, iterate_add, later, later_covers_earlier, never, source_run-later, steps-later, total, total-same}
use Rattle.scw_core.specs.Entry.{main_of, source_run, start}
use Rattle.scw_core.specs.Frame.{returning, tree_task, waits}
use Rattle.scw_core.specs.Program as core
use Rattle.scw_core.specs.Program.{Template, in_members, look}
use Rattle.scw_core.specs.Run.{Config, at}
use Rattle.scw_core.specs.Seen.{AlikeBy, Corresponds, Covers, Seen, seen}
use Rattle.scw_core.specs.State.{Bound, Slots, Thing, bind_all, ref_v}
use Rattle.scw_core.specs.Tree.{Tree}
use Rattle.scw_core.specs.Types.{same_symbol}
use Rattle.scw_core.specs.declared.class.CoreClass.{CoreClass}
use Rattle.scw_core.specs.declared.class.Member.{Member}
use Rattle.scw_core.specs.declared.class.Parameter.{Parameter}
use Rattle.scw_core.specs.declared.symbol.TheConstants.{ARITHMETIC_EXCEPTION}
use Rattle.scw_gen.specs.declared.kind.Kind.{Kind}
use Rattle.scw_gen.specs.declared.kind.Kind.TheVariants as kind
use Rattle.scw_gen.specs.declared.operator.Form.TheVariants.{Values}
use Rattle.scw_gen.specs.Around.{Around, kind_in}
use Rattle.scw_gen.specs.Generate.{is_built}
use Rattle.scw_gen.specs.Method.{outermost}
use Rattle.scw_gen.specs.Scope.{inside}
use Rattle.scw_gen.specs.Typed.{all_set, kinds_of_parameters, rank}
use Rattle.scw_frame.specs.declared.program.Method.{Method}
use Rattle.scw_frame.specs.declared.program.Program.{Program}
use Rattle.scw_frame.specs.declared.value.Value.TheVariants.{Reference, Unset}
use Rattle.scw_frame.specs.declared.value.ValueKind.TheVariants as value
use Rattle.scw_frame.specs.Frame.{locals_of}
use Rattle.scw_frame.specs.Frame as machine_frame
use Rattle.scw_machine.specs.Course.{Course, advance, course, going, halted}
use Rattle.scw_machine.specs.Load.{first_state, zero_of}
use Rattle.scw_back.specs.MachineSeen.{machine_seen}
use Rattle.scw_back.specs.Same.{is_stuck}
use Rattle.scw_back.proofs.AllBodies.{bodies}
use Rattle.scw_back.proofs.Bodies.{Bodies, BodyCode, BodyStands, G, unit_body, value_body}
use Rattle.scw_back.proofs.CoreCalls.{calls}
use Rattle.scw_back.proofs.CoreLaunch.{Launched}
use Rattle.scw_back.proofs.Enter.{Begun, begun}
use Rattle.scw_back.proofs.Follow.{cost, following, machine_system}
use Rattle.scw_back.proofs.Loaded.{Loaded}
use Rattle.scw_back.proofs.MachineLaunch.{first_objects, machine-launches}
use Rattle.scw_back.proofs.MainLaunch.{launch-waits, number-there, strings-alike, this-alike}
use Rattle.scw_back.proofs.MainName.{main-arguments, main-name, main-named, main-result}
use Rattle.scw_back.proofs.Placed.{number_of, value_of_kind}
use Rattle.scw_back.proofs.Rows.{frame_at, state}
use Rattle.scw_back.proofs.Stands.{Alike as AlikeWord, Extends, Held, Kept, MachineState, Stands, Word, e_none, e_value, left_by, st_at, st_over, st_thrown, w_return_unit}

-- ---- courses as a system

advance-last : (L : Program) (n : ℕ) (c : Course) → advance L (iterate (advance L) n c) ≡ iterate (advance L) n (advance L c)
unfolding iterate
advance-last L zero c = refl
advance-last L (suc n) c = advance-last L n (advance L c)

pub course-later : (L : Program) (s : MachineState) (n : ℕ) → course L s n ≡ later (machine_system L) n (going s [])
unfolding course iterate
course-later L s zero = refl
course-later L s (suc n) = ap (advance L) (course-later L s n) ∙ advance-last L n (going s [])

-- what is stuck stays so
stuck-stays : (L : Program) (c : Course) → is_stuck c ≡ true → is_stuck (advance L c) ≡ true
unfolding advance
stuck-stays L (going s out) e = absurd (cc)
stuck-stays L (halted h s out) e = e

stuck-later : (L : Program) (n : ℕ) (c : Course) → is_stuck c ≡ true → is_stuck (iterate (advance L) n c) ≡ true
unfolding iterate
stuck-later L zero c e = e
stuck-later L (suc n) c e = stuck-later L n (advance L c) (stuck-stays L c e)

-- ---- counts

alike-most : (f g : ℕ → Seen) (c d : ℕ → ℕ) → AlikeBy f g c → ((n : ℕ) → c n ≤ d n) → AlikeBy f g d
alike-most f g c d x le = record { forth = λ n. (let r = x.forth n in (r.0, (let h = le n in omega (arith, r.1, h)), r.2)); back = x.back }

alike-same : (f g f' g' : ℕ → Seen) (c d : ℕ → ℕ) → AlikeBy f g c → ((n : ℕ) → f n ≡ f' n) → ((n : ℕ) → g n ≡ g' n) → ((n : ℕ) → c n ≤ d n) → AlikeBy f' g' d
alike-same f g f' g' c d x ef eg le = record {
  forth = λ n. (let r = x.forth n in (r.0, (let h = le n in omega (arith, r.1, h)), subst (λ a. Covers a (g' r.0)) (ef n) (subst (λ b. Covers (f n) b) (eg r.0) r.2)));
  back = λ m. (let r = x.back m in (r.0, subst (λ b. Covers b (f' r.0)) (eg m) (subst (λ a. Covers (g m) a) (ef r.0) r.1)));
}

-- ---- runs behind a beginning

-- Two runs that are alike behind some steps of the one and some of the other are alike.
module _ (A B : System) (a : A.State) (b : B.State) (i j l : ℕ) where
  abbrev F : ℕ → Seen
  F n = A.seen (later A n a)

  abbrev H : ℕ → Seen
  H n = B.seen (later B n b)

  pub alike-behind : AlikeBy (λ n. A.seen (later A n (later A i a))) (λ n. B.seen (later B n (later B j b))) (λ n. cost * n + l) → AlikeBy F H (λ n. cost * n + (j + l))
  alike-behind x = record {
    forth = λ n.
        let f = x.forth (n - i) in
        let ahead = later_covers_earlier A n (i + (n - i)) a (omega arith) in
        let there : later A (i + (n - i)) a ≡ later A (n - i) (later A i a) = iterate_add A.step i (n - i) a in
        let back : later B (j + f.0) b ≡ later B f.0 (later B j b) = iterate_add B.step j f.0 b in
        (j + f.0, omega (arith, f.1), covers_further _ _ _ (subst (λ c. Covers (F n) (A.seen c)) there ahead) (subst (λ c. Covers (A.seen (later A (n - i) (later A i a))) (B.seen c)) (sym back) f.2));
    back = λ m.
        let f = x.back (m - j) in
        let ahead = later_covers_earlier B m (j + (m - j)) b (omega arith) in
        let there : later B (j + (m - j)) b ≡ later B (m - j) (later B j b) = iterate_add B.step j (m - j) b in
        let back : later A (i + f.0) a ≡ later A f.0 (later A i a) = iterate_add A.step i f.0 a in
        (i + f.0, covers_further _ _ _ (subst (λ c. Covers (H m) (B.seen c)) there ahead) (subst (λ c. Covers (B.seen (later B (m - j) (later B j b))) (A.seen c)) (sym back) f.1));
  }

-- ---- the first state that stands

module _ (p : core.Program) (K : CoreClass) (pool : List PoolEntry) (L : Program) (own : List ℕ) (loaded : Loaded p K pool L own) (one : p.table.classes ≡ K ∷ []) (has_code : is_built p K ≡ true) (other : same_symbol K.symbol ARITHMETIC_EXCEPTION ≡ false) (x : SymId) (launched : Launched p K x) where
  abbrev z : List Word
  z = map zero_of L.statics

  abbrev all_bodies : Bodies p K pool L
  all_bodies = bodies p K pool L own loaded one has_code

  abbrev near : Around
  near = G p K pool L

  abbrev slots0 : Slots
  slots0 = (K.this, ref_v 0 ∷ []) ∷ []

  main-there : (n : ℕ) × (number_of K x ≡ Some n)
  main-there = number-there K x launched.member launched.there

  abbrev body : BodyStands p K pool L x main-there.0
  body = all_bodies x main-there.0 main-there.1

  same-member : launched.member ≡ body.member
  same-member = let e : Some launched.member ≡ Some body.member = sym launched.there ∙ body.member_there in cc

  same-body : launched.body ≡ body.body
  same-body = let e : Some launched.body ≡ Some body.body = sym launched.body_there ∙ body.body_there in cc

  kinds-are : body.kinds ≡ kind.Strings ∷ []
  kinds-are = let e : Some body.kinds ≡ Some (kind.Strings ∷ []) = sym body.kinds_are ∙ ap (λ (m : Member). kinds_of_parameters near m.parameters) (sym same-member) ∙ main-arguments near launched.member launched.main in cc

  result-is : body.result ≡ kind.Unit
  result-is = let e : Some body.result ≡ Some kind.Unit = sym body.result_is ∙ ap (λ (m : Member). kind_in near m.result) (sym same-member) ∙ main-result near launched.member launched.main in cc

  abbrev m : Method
  m = body.method

  abbrev first_words : List Word
  first_words = locals_of m.locals (Reference 1 ∷ Reference 2 ∷ [])

  abbrev launcher_frames : List machine_frame.Frame
  launcher_frames = frame_at 0 loaded.launcher 3 (Unset ∷ []) [] ∷ []

  abbrev first_course : Course
  first_course = going (state (frame_at main-there.0 m 0 first_words []) launcher_frames first_objects z 0) []

  machine-arrives : course L (first_state L None None None) 11 ≡ first_course
  machine-arrives =
      let named = main-named near launched.member launched.main in
      let names = main-name near launched.member launched.main _ named in
      let tgt = loaded.main_target x main-there.0 launched.member _ main-there.1 launched.there named names.0 names.1 in
      let args : m.arguments ≡ value.Reference ∷ value.Reference ∷ [] = body.arguments_are ∙ ap (λ (l : List Kind). value.Reference ∷ map value_of_kind l) kinds-are in
      let fits = body.fits in
      let wide : left_by Values body.kinds ≡ 1 = ap (left_by Values) kinds-are in
      machine-launches p K pool L own loaded loaded.launcher_stack main-there.0 m body.runs.there args (omega (arith, fits, wide)) tgt

  abbrev store : List Thing
  store = launched.state.store

  kept : Kept first_objects store K.symbol Values body.kinds (ref_v 1 ∷ []) (Reference 2 ∷ [])
  kept = subst (λ (l : List Kind). Kept first_objects store K.symbol Values l (ref_v 1 ∷ []) (Reference 2 ∷ [])) (sym kinds-are) (e_value (strings-alike p K pool L own loaded loaded.launcher_stack store) e_none)

  this : AlikeWord first_objects store K.symbol kind.This (ref_v 0) (Reference 1)
  this = subst (λ (s : List Thing). AlikeWord first_objects s K.symbol kind.This (ref_v 0) (Reference 1)) (sym launched.store) (this-alike p K pool L own loaded loaded.launcher_stack launched.fields)

  begins : Begun first_objects store K.symbol p K pool L x main-there.0 body 0 1 (ref_v 1 ∷ []) (Reference 2 ∷ []) slots0
  begins = begun first_objects store K.symbol p K pool L x main-there.0 body 0 1 (ref_v 1 ∷ []) (Reference 2 ∷ []) slots0 this kept

  bound-is : bind_all (K.this ∷ core.locals_of body.member.parameters) (ref_v 0 ∷ ref_v 1 ∷ []) [] slots0 ≡ record { env = launched.env; slots = launched.state.slots }
  bound-is =
      ap (λ (a : Member). bind_all (K.this ∷ core.locals_of a.parameters) (ref_v 0 ∷ ref_v 1 ∷ []) [] slots0) (sym same-member)
      ∙ ap (λ (l : List Parameter). bind_all (K.this ∷ core.locals_of l) (ref_v 0 ∷ ref_v 1 ∷ []) [] slots0) launched.parameters ∙ launched.bound

  abbrev first_config : Config
  first_config = at (tree_task body.body launched.env) (waits (returning None) ∷ []) launched.state launched.log

  stands-by : (k : Kind) → k ≡ kind.Unit → BodyCode p K pool L m (all_set body.inner) (inside body.added (outermost near)) m.stack body.body k
      → Held first_objects store K.symbol (all_set body.inner) (inside body.added (outermost near)) launched.env launched.state.slots slots0 first_words → Extends slots0 launched.state.slots → Stands p K pool L z first_config first_course 19
  stands-by k e (unit_body code ret) held ex =
      st_at {cr = 1} {cr' = 2} body.runs code (w_return_unit refl ret (omega arith)) held ex begins.wide body.narrow (omega arith) (launch-waits p K pool L own loaded loaded.launcher_stack store slots0 2 (omega arith)) (inl refl) (omega arith) (sym launched.quiet)
  stands-by k e (value_body some code) held ex = let none : rank k ≡ 0 = ap rank e in absurd (omega (arith, some, none))

  first-stands : Stands p K pool L z first_config first_course 19
  first-stands =
      stands-by body.result result-is body.code
      (subst (λ (b : Bound). Held first_objects store K.symbol (all_set body.inner) (inside body.added (outermost near)) b.env b.slots slots0 first_words) bound-is begins.held)
      (subst (λ (b : Bound). Extends slots0 b.slots) bound-is begins.extends)

  -- ---- the whole run

  abbrev a0 : Config
  a0 = start p (main_of K.symbol)

  core-arrives : later (core_system p) 4 a0 ≡ first_config
  core-arrives = sym (steps-later p 4 a0) ∙ launched.arrives ∙ ap (λ (t : Tree). at (tree_task t launched.env) (waits (returning None) ∷ []) launched.state launched.log) same-body

  abbrev b0 : Course
  b0 = going (first_state L None None None) []

  course-arrives : later (machine_system L) 11 b0 ≡ first_course
  course-arrives = sym (course-later L (first_state L None None None) 11) ∙ machine-arrives

  abbrev follow : Follows (core_system p) (machine_system L)
  follow = following p K pool L z one other loaded.arithmetic_class all_bodies (calls p K one has_code)

  abbrev first_run : ℕ → Seen
  first_run n = machine_seen L (course L (first_state L None None None) n)

  from-there : AlikeBy (λ n. seen p.table (later (core_system p) n (later (core_system p) 4 a0))) (λ n. machine_seen L (later (machine_system L) n (later (machine_system L) 11 b0))) (λ n. cost * n + 19)
  from-there =
      let r = alike (core_system p) (machine_system L) follow first_config first_course 19 first-stands in
      let counted = alike-most _ _ (λ n. total (core_system p) (λ a. cost) n first_config + 19) (λ n. cost * n + 19) r (λ n. (let e = total-same (core_system p) cost n first_config in omega (arith, e))) in
      subst (λ a. AlikeBy (λ n. seen p.table (later (core_system p) n a)) (λ n. machine_seen L (later (machine_system L) n (later (machine_system L) 11 b0))) (λ n. cost * n + 19)) (sym core-arrives)
      (subst (λ b. AlikeBy (λ n. seen p.table (later (core_system p) n first_config)) (λ n. machine_seen L (later (machine_system L) n b)) (λ n. cost * n + 19)) (sym course-arrives) counted)

  pub whole : AlikeBy (source_run p (main_of K.symbol)) first_run (λ n. 64 * n + 31)
  whole =
      let x = alike-behind (core_system p) (machine_system L) a0 b0 4 11 19 from-there in
      alike-same _ _ _ _ (λ n. cost * n + (11 + 19)) (λ n. 64 * n + 31) x (λ n. sym (source_run-later p (main_of K.symbol) n)) (λ n. ap (machine_seen L) (sym (course-later L (first_state L None None None) n))) (λ n. omega arith)

  not-stuck : (a : Config) (b : Course) (l : ℕ) → Stands p K pool L z a b l → is_stuck b ≡ false
  not-stuck a b l (st_at runs code aw held ex wide narrow room callers unit le written) = refl
  not-stuck a b l (st_over written) = refl
  not-stuck a b l (st_thrown written e) = refl

  pub never-stuck : (n : ℕ) → is_stuck (course L (first_state L None None None) n) ≡ false
  never-stuck n = ap is_stuck (course-later L (first_state L None None None) n) ∙ by_test (is_stuck (later (machine_system L) n b0)) refl
    where
      ends : is_stuck (later (machine_system L) n b0) ≡ true → is_stuck (later (machine_system L) n b0) ≡ false
      ends t =
          let swap : n + 11 ≡ 11 + n = omega arith in
          let on : is_stuck (later (machine_system L) (n + 11) b0) ≡ true = ap is_stuck (iterate_add (advance L) n 11 b0) ∙ stuck-later L 11 (later (machine_system L) n b0) t in
          let off = never (core_system p) (machine_system L) follow is_stuck (stuck-stays L) not-stuck first_config first_course 19 first-stands n in
          let there : is_stuck (later (machine_system L) (11 + n) b0) ≡ false = ap is_stuck (iterate_add (advance L) 11 n b0) ∙ ap (λ c. is_stuck (later (machine_system L) n c)) course-arrives ∙ off in
          let no : true ≡ false = sym on ∙ ap (λ k. is_stuck (later (machine_system L) k b0)) swap ∙ there in absurd (cc)

      by_test : (t : Bool) → is_stuck (later (machine_system L) n b0) ≡ t → is_stuck (later (machine_system L) n b0) ≡ false
      by_test true e = ends e
      by_test false e = e

  pub corresponds : Corresponds (source_run p (main_of K.symbol)) first_run (λ n. is_stuck (course L (first_state L None None None) n))
  corresponds = record { alike = record { forth = λ n. (let f = whole.forth n in (f.0, f.2)); back = whole.back }; never_stuck = never-stuck }
