-- The linked program of a class with `main`: its launcher comes to the body of `main`, as the run of the class's program does.
use Rattle.std.proofs.Common.{◌≡◌, refl, sym, ap, ◌∙◌, ℕ, ◌+◌, ◌-◌, ◌^◌, ◌≤◌, ◌<◌, arith, Bool, true, false, cond, not, List, [], ◌∷◌, length, map, Option, Some, None, lt-ltb}
use Rattle.std.proofs.lemmas.List.{length-replicate}
use Rattle.std.specs.List.{position_or_len}
use Rattle.std.specs.Prelude.{find, option_map, replicate}
use Rattle.scw_text.specs.declared.number.SymId.{SymId}
use Rattle.scw_classfile.specs.declared.pool_entry.PoolEntry.{PoolEntry}
use Rattle.scw_core.specs.Program as core
use Rattle.scw_core.specs.Program.{in_members, look}
use Rattle.scw_core.specs.Entry.{is_main}
use Rattle.scw_core.specs.State.{Slots, Thing, Value, array, instance, ref_v}
use Rattle.scw_core.specs.Tree.{Tree, strict, block, and_also, or_else, if_else, while_do, function, thunk, match_on, try_in, label, switch}
use Rattle.scw_core.specs.Types.{ref, same_symbol}
use Rattle.scw_core.specs.declared.class.CoreClass.{CoreClass}
use Rattle.scw_core.specs.declared.class.Member.{Member}
use Rattle.scw_core.specs.declared.symbol.TheConstants.{STRING}
use Rattle.scw_core.specs.declared.tree.Local.{Local}
use Rattle.scw_gen.specs.Around.{Around, kind_in}
use Rattle.scw_gen.specs.Method.{Start, local_of, start_of, started}
use Rattle.scw_gen.specs.Room.{locals_of, slot_behind, sum, width, width_at}
use Rattle.scw_gen.specs.Scope.{Scope, from, placed}
use Rattle.scw_gen.specs.declared.kind.Kind.{Kind}
use Rattle.scw_gen.specs.declared.kind.Kind.TheVariants as kind
use Rattle.scw_gen.proofs.Steps.{bound}
use Rattle.scw_frame.specs.declared.program.Program.{Program}
use Rattle.scw_frame.specs.declared.program.Target.TheVariants as target
use Rattle.scw_frame.specs.declared.value.Value as machine
use Rattle.scw_frame.specs.declared.value.Value.TheVariants.{Unset, Reference}
use Rattle.scw_frame.specs.declared.value.ValueKind.TheVariants as value
use Rattle.scw_machine.specs.Course.{course, going}
use Rattle.scw_machine.specs.Load.{first_state, zero_of}
use Rattle.scw_step.specs.CallStep.{target_of}
use Rattle.scw_back.proofs.Loaded.{Generated, Loaded, around_by}
use Rattle.scw_back.proofs.MachineLaunch.{first_objects, launcher-calls, launcher-returns, launcher-runs, machine-launches}
use Rattle.scw_back.proofs.MainName.{main-arguments, main-kinds, main-named}
use Rattle.scw_back.proofs.Placed.{number_of, value_of_kind}
use Rattle.scw_back.proofs.Rows.{frame_at, state}
use Rattle.scw_back.proofs.Stands.{Alike, Callers, i_this, k_strings, k_this, s_launch}

-- ---- the number of a member

found-below : {A : Type 0} (test : A → Bool) (xs : List A) (x : A) → find test xs ≡ Some x → position_or_len test xs < length xs
found-below test [] x e = absurd (cc)
found-below test (y ∷ ys) x e = by (test y) e (λ f. found-below test ys x f)
  where
    by : (b : Bool) → cond b (Some y) (find test ys) ≡ Some x → (find test ys ≡ Some x → position_or_len test ys < length ys) → cond (not b) (1 + position_or_len test ys) 0 < length (y ∷ ys)
    by true f further = omega arith
    by false f further = let lt = further f in omega (arith, lt)

pub number-there : (K : CoreClass) (x : SymId) (m : Member) → in_members K.members x ≡ Some m → (n : ℕ) × (number_of K x ≡ Some n)
number-there K x m e =
    let test : Member → Bool = λ (y : Member). same_symbol y.symbol x in
    let n = position_or_len test K.members in
    let lt = lt-ltb n (length K.members) (found-below test K.members m e) in
    (3 + n, ap (λ b. option_map (λ j. 3 + j) (cond b (Some n) None)) lt)

-- ---- how many local variables there are

behind-most : (g : Around) (next : ℕ) (xs : List Local) → next ≤ 2 ^ 64 - 1 → next ≤ slot_behind g next xs
unfolding slot_behind
behind-most g next [] le = omega arith
behind-most g next (x ∷ xs) le =
    let h = behind-most g (sum next (width_at g x.type_id)) xs (omega arith) in
    omega (arith, le, h)

pub locals-most : (g : Around) (next : ℕ) (t : Tree) → next ≤ 2 ^ 64 - 1 → next ≤ locals_of g next t
unfolding locals_of
locals-most g next (strict i o ts) le = omega arith
locals-most g next (block i xs ts) le = let h = behind-most g next xs le in omega (arith, h)
locals-most g next (and_also i a b) le = omega arith
locals-most g next (or_else i a b) le = omega arith
locals-most g next (if_else i a b c) le = let h = locals-most g next a le in omega (arith, h)
locals-most g next (while_do i a b) le = let h = locals-most g next a le in omega (arith, h)
locals-most g next (function i name xs a) le = omega arith
locals-most g next (thunk i a) le = omega arith
locals-most g next (match_on i a cs) le = omega arith
locals-most g next (try_in i a cs fin) le = omega arith
locals-most g next (label i k a) le = omega arith
locals-most g next (switch i a ks ts d) le = omega arith

abbrev next_in : Option Start → ℕ
next_in None = 0
next_in (Some x) = x.next

start-next : (g : Around) (m : Member) (start : Start) → start_of g m ≡ Some start → start.next ≡ slot_behind g 1 (map local_of m.parameters)
start-next g m start e =
    let b = bound (placed g.table g.class.symbol (from 1) (map local_of m.parameters)) (λ s. started g (map local_of m.parameters) s (kind_in g m.result)) start e in
    by b.0 (kind_in g m.result) b.2
  where
    by : (s : Scope) (k : Option Kind) → started g (map local_of m.parameters) s k ≡ Some start → start.next ≡ slot_behind g 1 (map local_of m.parameters)
    by s None f = absurd (cc)
    by s (Some k) f = sym (ap next_in f)

-- `this` and the array take one each
main-next : (g : Around) (m : Member) (start : Start) → is_main g.table m ≡ true → start_of g m ≡ Some start → start.next ≡ 2
unfolding slot_behind
main-next g m start main e =
    let a = main-kinds g m main in
    start-next g m start e ∙ ap (λ xs. slot_behind g 1 (map local_of xs)) a.1 ∙ ap (λ k. sum 1 (width k)) a.3

module _ (p : core.Program) (K : CoreClass) (pool : List PoolEntry) (L : Program) (own : List ℕ) (loaded : Loaded p K pool L own) (deep : loaded.launcher.stack ≡ 2) where
  -- the machine when the body of `main` begins, in its method
  pub record MachineLaunched (x : SymId) : Type 0 where
    pub number : ℕ
    pub number_is : number_of K x ≡ Some number
    pub generated : Generated p K pool L x number
    pub words : List machine.Value
    pub wide : length (Reference 1 ∷ Reference 2 ∷ words) ≡ generated.is.method.locals
    pub next : generated.start.next ≡ 2
    pub arrives : course L (first_state L None None None) 11 ≡ going (state (frame_at number generated.is.method 0 (Reference 1 ∷ Reference 2 ∷ words) []) (frame_at 0 loaded.launcher 3 (Unset ∷ []) [] ∷ []) first_objects (map zero_of L.statics) 0) []

  pub main-launches : (x : SymId) (m : Member) → in_members K.members x ≡ Some m → is_main p.table m ≡ true → MachineLaunched x
  main-launches x m there main =
      let n = number-there K x m there in
      let g = loaded.members x n.0 n.1 in
      let near = around_by p K pool false in
      let far = around_by p K pool g.far in
      let method = g.is.method in
      let name = main-named near m main in
      let leads : target_of L 24 0 ≡ Some (target.Code (record { 0 = n.0 })) = loaded.main_target x n.0 m _ n.1 there name refl refl in
      let found : Some m ≡ Some g.member = sym there ∙ g.member_there in
      let same : m ≡ g.member = cc in
      let main2 : is_main p.table g.member ≡ true = ap (is_main p.table) (sym same) ∙ main in
      let given : Some g.kinds ≡ Some (kind.Strings ∷ []) = sym g.kinds_are ∙ main-arguments near g.member main2 in
      let kinds : g.kinds ≡ kind.Strings ∷ [] = cc in
      let arguments : method.arguments ≡ value.Reference ∷ value.Reference ∷ [] = g.is.arguments_are ∙ ap (λ (ks : List Kind). value.Reference ∷ map value_of_kind ks) kinds in
      let next = main-next far g.member g.start main2 g.starts in
      let most = locals-most far g.start.next g.body (omega (arith, next)) in
      let is = g.is.locals_is in
      let narrow : 2 ≤ method.locals = omega (arith, next, most, is) in
      record {
        number = n.0;
        number_is = n.1;
        generated = g;
        words = replicate (method.locals - 2) Unset;
        wide = long method.locals narrow;
        next = next;
        arrives = machine-launches p K pool L own loaded deep n.0 method g.is.there arguments narrow leads;
      }
    where
      length-same : (n : ℕ) → length (replicate n Unset) ≡ n
      length-same n = length-replicate n Unset

      long : (n : ℕ) → 2 ≤ n → length (Reference 1 ∷ Reference 2 ∷ replicate (n - 2) Unset) ≡ n
      long n le = let h = length-same (n - 2) in omega (arith, h, le)

  -- ---- what stands for what

  pub this-alike : (fields : List (SymId × Value)) → Alike first_objects (instance K.symbol fields [] ∷ array (ref STRING) [] ∷ []) K.symbol kind.This (ref_v 0) (Reference 1)
  unfolding look
  this-alike fields = k_this 0 1 [] (i_this 0 fields [] refl refl) (record { some = λ e. omega (arith, e); there = refl })

  pub strings-alike : (store : List Thing) → Alike first_objects store K.symbol kind.Strings (ref_v 1) (Reference 2)
  strings-alike store = k_strings (ref_v 1) 2

  pub launch-waits : (store : List Thing) (slots : Slots) (n : ℕ) → 2 ≤ n → Callers p K pool L first_objects store kind.Unit [] (frame_at 0 loaded.launcher 3 (Unset ∷ []) [] ∷ []) slots n
  launch-waits store slots n le = s_launch (launcher-runs p K pool L own loaded) (launcher-calls p K pool L own loaded) (launcher-returns p K pool L own loaded) le
