-- What the answer of `back` says of its class file.
use Rattle.std.proofs.Common.{◌≡◌, refl, sym, ap, ◌∙◌, subst, ℕ, suc, ◌+◌, ◌-◌, ◌*◌, arith, Bool, true, false, cond, not, List, [], ◌∷◌, ◌++◌, length, Option, Some, None, Result, Ok, take}
use Rattle.std.specs.Prelude.{codes, is_some}
use Rattle.std.specs.Option.{option_and_then}
use Rattle.std.proofs.lemmas.Bool.{and_parts, eqb-true, true≢false}
use Rattle.scw_text.specs.declared.number.SymId.{SymId}
use Rattle.scw_classfile.specs.declared.class_file.ClassFile.{ClassFile}
use Rattle.scw_core.specs.Entry.{IsEntry, enterable_member, main_of, member_entered, source_run}
use Rattle.scw_core.specs.Program.{Program, look}
use Rattle.scw_core.specs.Seen.{AlikeBy, Corresponds, Seen}
use Rattle.scw_core.specs.Text.{binary_name, name_in, units_of_name}
use Rattle.scw_core.specs.Tree.{Tree, Trees, strict, block, and_also, or_else, if_else, while_do, function, thunk, match_on, try_in, label, switch, none, more}
use Rattle.scw_core.specs.Types.{same_symbol}
use Rattle.scw_core.specs.declared.class.CoreClass.{CoreClass}
use Rattle.scw_core.specs.declared.operator.Literal.TheVariants as literal
use Rattle.scw_core.specs.declared.operator.Op.{Op}
use Rattle.scw_core.specs.declared.operator.Op.TheVariants as op
use Rattle.scw_core.specs.declared.symbol.TheConstants.{ANY_REF, ARITHMETIC_EXCEPTION}
use Rattle.scw_core.specs.declared.tree.NodeInfo.{NodeInfo}
use Rattle.scw_gen.specs.Excess.{excess_of}
use Rattle.scw_gen.specs.Generate.{Made, ends_in_dollar, file, file_of, is_built, made, sized}
use Rattle.scw_gen.specs.declared.excess.Excess.{Excess}
use Rattle.scw_gen.specs.declared.fault.Large.{Large}
use Rattle.scw_gen.proofs.Steps as steps
use Rattle.scw_frame.specs.declared.program.Program as machine
use Rattle.scw_link.specs.Linked.{has_main, linked}
use Rattle.scw_machine.specs.Course.{Course, course}
use Rattle.scw_machine.specs.Load.{first_state}
use Rattle.scw_back.specs.MachineSeen.{machine_seen}
use Rattle.scw_back.specs.Back.{can_begin, file_of_classes, file_of_program, gives_object, gives_object_if_some, has_none, is_module_of, is_one_unit, is_unit_op, is_unit_tree}
use Rattle.scw_back.specs.Same.{DoesTheSame, is_stuck, machine_course, machine_run, object_name, without_last}
use Rattle.scw_back.proofs.CoreCalls.{all-four, class-found, class-missing}
use Rattle.scw_back.proofs.CoreLaunch.{Launched, entry_tree, launches}
use Rattle.scw_back.proofs.LinkedFile.{loaded, starts_there}
use Rattle.scw_back.proofs.Loaded.{Loaded, around_by}
use Rattle.scw_back.proofs.MadeParts.{parts_of}
use Rattle.scw_back.proofs.MainName.{main-name, main-named}
use Rattle.scw_back.proofs.Maps.{by-test, symbol-same}
use Rattle.scw_back.proofs.Whole.{corresponds, whole}

-- ---- the parts of an answer

pub record Answered (p : Program) (k : CoreClass) (c : ClassFile) : Type 0 where
  pub made_of : Made
  pub made_is : made p k ≡ Some made_of
  pub fits : excess_of made_of.pool made_of.methods ≡ None
  pub file_is : file p k made_of ≡ Some c
  pub built : is_built p k ≡ true

answered : (p : Program) (k : CoreClass) (c : ClassFile) → file_of p k ≡ Some (Ok c) → Answered p k c
unfolding file_of
answered p k c h =
    let a = steps.bound (made p k) (λ m. sized p k m (excess_of m.pool m.methods)) (Ok c) h in
    by_excess a.0 a.1 (excess_of a.0.pool a.0.methods) refl a.2
  where
    is_there : (t : Bool) (m : Made) (o : Option Made) → cond t o None ≡ Some m → t ≡ true
    is_there true m o e = refl
    is_there false m o e = absurd (cc)

    by_excess : (m : Made) → made p k ≡ Some m → (e : Option Excess) → excess_of m.pool m.methods ≡ e → sized p k m e ≡ Some (Ok c) → Answered p k c
    by_excess m is None fit s =
        let b = steps.bound (file p k m) (λ d. Some (Ok d)) (Ok c) s in
        let same : ◌≡◌ {A = Option (Result ClassFile Large)} (Some (Ok b.0)) (Some (Ok c)) = b.2 in
        let d : b.0 ≡ c = cc in
        record { made_of = m; made_is = is; fits = fit; file_is = b.1 ∙ ap (λ (f : ClassFile). Some f) d; built = is_there (is_built p k) m _ is }
    by_excess m is (Some e) over s = absurd (cc)

-- a name that ends in `$`
ends-so : (us : List ℕ) → ends_in_dollar us ≡ true → without_last us ++ codes "$" ≡ us
ends-so [] h = absurd (cc)
ends-so (u ∷ []) h = ap (λ (n : ℕ). n ∷ []) (sym (eqb-true u 36 h))
ends-so (u ∷ v ∷ us) h =
    let less : length (u ∷ v ∷ us) - 1 ≡ suc (length (v ∷ us) - 1) = omega arith in
    ap (λ n. take n (u ∷ v ∷ us) ++ codes "$") less ∙ ap (λ (l : List ℕ). u ∷ l) (ends-so (v ∷ us) h)

-- ---- the tree by which the object is reached

record Reached (s : SymId) (t : Option Tree) : Type 0 where
  pub outer : NodeInfo
  pub inner : NodeInfo
  pub is : t ≡ Some (entry_tree outer inner s)

unit-op : (o : Op) → is_unit_op o ≡ true → o ≡ op.Literal literal.Unit
unit-op (op.Literal literal.Unit) h = refl
unit-op (op.Literal (literal.Boolean b)) h = absurd (cc)
unit-op (op.Literal (literal.Char c)) h = absurd (cc)
unit-op (op.Literal (literal.Int n)) h = absurd (cc)
unit-op (op.Literal (literal.Long n)) h = absurd (cc)
unit-op (op.Literal literal.Null) h = absurd (cc)
unit-op (op.Literal (literal.String x)) h = absurd (cc)
unit-op (op.Module x) h = absurd (cc)
unit-op (op.Local x) h = absurd (cc)
unit-op (op.SetLocal x) h = absurd (cc)
unit-op (op.Get x) h = absurd (cc)
unit-op (op.Set x) h = absurd (cc)
unit-op (op.Call x) h = absurd (cc)
unit-op (op.Super x y) h = absurd (cc)
unit-op (op.Direct x) h = absurd (cc)
unit-op (op.New x) h = absurd (cc)
unit-op (op.NewInner x) h = absurd (cc)
unit-op (op.LazyGet x) h = absurd (cc)
unit-op op.Force h = absurd (cc)
unit-op (op.Primitive x) h = absurd (cc)
unit-op op.Throw h = absurd (cc)
unit-op (op.IsA x) h = absurd (cc)
unit-op (op.Cast x) h = absurd (cc)
unit-op (op.Coerce x) h = absurd (cc)
unit-op (op.ArrayNew x) h = absurd (cc)
unit-op op.ArrayGet h = absurd (cc)
unit-op op.ArraySet h = absurd (cc)
unit-op op.ArrayLength h = absurd (cc)
unit-op (op.Exit x) h = absurd (cc)
unit-op op.Cell h = absurd (cc)
unit-op op.CellGet h = absurd (cc)
unit-op op.CellSet h = absurd (cc)
unit-op (op.Static x y) h = absurd (cc)
unit-op (op.Run x) h = absurd (cc)
unit-op (op.GetStatic x y) h = absurd (cc)
unit-op (op.SetStatic x y) h = absurd (cc)
unit-op op.Box h = absurd (cc)
unit-op (op.Unbox x) h = absurd (cc)

no-more : (ts : Trees) → has_none ts ≡ true → ts ≡ none
no-more none h = refl
no-more (more t ts) h = absurd (cc)

-- `()` as a tree
unit-tree : (t : Tree) → is_unit_tree t ≡ true → (i : NodeInfo) × (t ≡ strict i (op.Literal literal.Unit) none)
unit-tree (strict i o ts) h =
    let x = and_parts (is_unit_op o) (has_none ts) h in
    (i, λ k. strict i (unit-op o x.0 k) (no-more ts x.1 k))
unit-tree (block i xs ts) h = absurd (cc)
unit-tree (and_also i a b) h = absurd (cc)
unit-tree (or_else i a b) h = absurd (cc)
unit-tree (if_else i a b c) h = absurd (cc)
unit-tree (while_do i a b) h = absurd (cc)
unit-tree (function i name xs t) h = absurd (cc)
unit-tree (thunk i t) h = absurd (cc)
unit-tree (match_on i t cs) h = absurd (cc)
unit-tree (try_in i t cs fin) h = absurd (cc)
unit-tree (label i k t) h = absurd (cc)
unit-tree (switch i t ks ts d) h = absurd (cc)

one-unit : (ts : Trees) → is_one_unit ts ≡ true → (i : NodeInfo) × (ts ≡ more (strict i (op.Literal literal.Unit) none) none)
one-unit none h = absurd (cc)
one-unit (more t ts) h =
    let x = and_parts (is_unit_tree t) (has_none ts) h in
    let u = unit-tree t x.0 in
    (u.0, λ k. more (u.1 k) (no-more ts x.1 k))

module-op : (s : SymId) (o : Op) → is_module_of s o ≡ true → o ≡ op.Module s
module-op s (op.Module x) h = ap (λ y. op.Module y) (symbol-same x s h)
module-op s (op.Literal x) h = absurd (cc)
module-op s (op.Local x) h = absurd (cc)
module-op s (op.SetLocal x) h = absurd (cc)
module-op s (op.Get x) h = absurd (cc)
module-op s (op.Set x) h = absurd (cc)
module-op s (op.Call x) h = absurd (cc)
module-op s (op.Super x y) h = absurd (cc)
module-op s (op.Direct x) h = absurd (cc)
module-op s (op.New x) h = absurd (cc)
module-op s (op.NewInner x) h = absurd (cc)
module-op s (op.LazyGet x) h = absurd (cc)
module-op s op.Force h = absurd (cc)
module-op s (op.Primitive x) h = absurd (cc)
module-op s op.Throw h = absurd (cc)
module-op s (op.IsA x) h = absurd (cc)
module-op s (op.Cast x) h = absurd (cc)
module-op s (op.Coerce x) h = absurd (cc)
module-op s (op.ArrayNew x) h = absurd (cc)
module-op s op.ArrayGet h = absurd (cc)
module-op s op.ArraySet h = absurd (cc)
module-op s op.ArrayLength h = absurd (cc)
module-op s (op.Exit x) h = absurd (cc)
module-op s op.Cell h = absurd (cc)
module-op s op.CellGet h = absurd (cc)
module-op s op.CellSet h = absurd (cc)
module-op s (op.Static x y) h = absurd (cc)
module-op s (op.Run x) h = absurd (cc)
module-op s (op.GetStatic x y) h = absurd (cc)
module-op s (op.SetStatic x y) h = absurd (cc)
module-op s op.Box h = absurd (cc)
module-op s (op.Unbox x) h = absurd (cc)

object-tree : (s : SymId) (t : Tree) → gives_object s t ≡ true → (i j : NodeInfo) × (t ≡ entry_tree i j s)
object-tree s (strict i o ts) h =
    let x = and_parts (is_module_of s o) (is_one_unit ts) h in
    let u = one-unit ts x.1 in
    (i, u.0, λ k. strict i (module-op s o x.0 k) (u.1 k))
object-tree s (block i xs ts) h = absurd (cc)
object-tree s (and_also i a b) h = absurd (cc)
object-tree s (or_else i a b) h = absurd (cc)
object-tree s (if_else i a b c) h = absurd (cc)
object-tree s (while_do i a b) h = absurd (cc)
object-tree s (function i name xs t) h = absurd (cc)
object-tree s (thunk i t) h = absurd (cc)
object-tree s (match_on i t cs) h = absurd (cc)
object-tree s (try_in i t cs fin) h = absurd (cc)
object-tree s (label i k t) h = absurd (cc)
object-tree s (switch i t ks ts d) h = absurd (cc)

reached : (s : SymId) (t : Option Tree) → gives_object_if_some s t ≡ true → Reached s t
reached s None h = absurd (cc)
reached s (Some t) h = let r = object-tree s t h in record { outer = r.0; inner = r.1; is = ap (λ (u : Tree). Some u) r.2 }

-- ---- the answer

there-if : {A : Type 0} (o : Option A) → is_some o ≡ true → (a : A) × (o ≡ Some a)
there-if None h = absurd (cc)
there-if (Some a) h = (a, refl)

is-off : (b : Bool) → not b ≡ true → b ≡ false
is-off true h = absurd (cc)
is-off false h = refl

module _ (p : Program) (K : CoreClass) (c : ClassFile) (alone : p.table.classes ≡ K ∷ []) (begins : can_begin p K ≡ true) (is : file_of p K ≡ Some (Ok c)) where
  abbrev known : Answered p K c
  known = answered p K c is

  abbrev conditions : (gives_object_if_some K.symbol (look p.entries K.symbol) ≡ true) × (is_some (look p.templates K.symbol) ≡ true) × (not (same_symbol K.symbol ANY_REF) ≡ true) × (not (same_symbol K.symbol ARITHMETIC_EXCEPTION) ≡ true)
  conditions = all-four (gives_object_if_some K.symbol (look p.entries K.symbol)) (is_some (look p.templates K.symbol)) (not (same_symbol K.symbol ANY_REF)) (not (same_symbol K.symbol ARITHMETIC_EXCEPTION)) begins

  abbrev own : List ℕ
  own = units_of_name K.binary_name

  abbrev main : List ℕ
  main = without_last own

  named : main ++ codes "$" ≡ own
  named = ends-so own (parts_of p K known.made_of c known.made_is known.fits known.file_is).dollar

  abbrev L : machine.Program
  L = linked (c ∷ []) main

  loaded-so : Loaded p K known.made_of.pool L own
  loaded-so = loaded p K known.made_of c main known.made_is known.fits known.file_is named

  -- only the object itself is entered
  its-own : (o : SymId) → IsEntry p.table (main_of o) → K.symbol ≡ o
  unfolding member_entered
  its-own o e = by-test (same_symbol K.symbol o) (λ t. symbol-same K.symbol o t) (λ t. absurd (true≢false (sym e ∙ ap (λ (k : Option CoreClass). is_some (option_and_then (enterable_member p.table (main_of o)) k)) (class-missing p K alone o t))))

  name-is : object_name p K.symbol ≡ main
  unfolding binary_name
  name-is = ap (λ (k : Option CoreClass). without_last (units_of_name (name_in k K.symbol))) (class-found p K alone)

  entered : IsEntry p.table (main_of K.symbol) → (x : SymId) × (member_entered p.table (main_of K.symbol) ≡ Some x)
  entered e = there-if (member_entered p.table (main_of K.symbol)) e

  launched : (x : SymId) → member_entered p.table (main_of K.symbol) ≡ Some x → Launched p K x
  launched x e =
      let t = there-if (look p.templates K.symbol) conditions.1 in
      let r = reached K.symbol (look p.entries K.symbol) conditions.0 in
      launches p K x t.0 r.outer r.inner alone known.built (is-off _ conditions.2) e t.1 r.is

  starts-own : IsEntry p.table (main_of K.symbol) → has_main (c ∷ []) main ≡ true
  starts-own e =
      let x = entered e in
      let l = launched x.0 x.1 in
      let g = around_by p K known.made_of.pool false in
      let name = main-named g l.member l.main in
      let names = main-name g l.member l.main _ name in
      starts_there p K known.made_of c main x.0 l.member _ known.made_is known.fits known.file_is named l.there name names.0 names.1

  runs-own : IsEntry p.table (main_of K.symbol) → Corresponds (source_run p (main_of K.symbol)) (λ n. machine_seen L (course L (first_state L None None None) n)) (λ n. is_stuck (course L (first_state L None None None) n))
  runs-own e =
      let x = entered e in
      corresponds p K known.made_of.pool L own loaded-so alone known.built (is-off _ conditions.3) x.0 (launched x.0 x.1)

  counted-own : IsEntry p.table (main_of K.symbol) → AlikeBy (source_run p (main_of K.symbol)) (λ n. machine_seen L (course L (first_state L None None None) n)) (λ n. 64 * n + 31)
  counted-own e =
      let x = entered e in
      whole p K known.made_of.pool L own loaded-so alone known.built (is-off _ conditions.3) x.0 (launched x.0 x.1)

  abbrev course_of : List ℕ → ℕ → Course
  course_of n k = course (linked (c ∷ []) n) (first_state (linked (c ∷ []) n) None None None) k

  abbrev run_of : List ℕ → ℕ → Seen
  run_of n k = machine_seen (linked (c ∷ []) n) (course_of n k)

  -- of each object that is entered
  abbrev Starts : SymId → Type 0
  Starts o = has_main (c ∷ []) (object_name p o) ≡ true

  abbrev Runs : SymId → Type 0
  Runs o = Corresponds (source_run p (main_of o)) (machine_run p c o) (λ n. is_stuck (machine_course p c o n))

  abbrev Counted : SymId → Type 0
  Counted o = AlikeBy (source_run p (main_of o)) (machine_run p c o) (λ n. 64 * n + 31)

  starts-so : IsEntry p.table (main_of K.symbol) → Starts K.symbol
  starts-so e = subst (λ (n : List ℕ). has_main (c ∷ []) n ≡ true) (sym name-is) (starts-own e)

  runs-so : IsEntry p.table (main_of K.symbol) → Runs K.symbol
  runs-so e = subst (λ (n : List ℕ). Corresponds (source_run p (main_of K.symbol)) (run_of n) (λ k. is_stuck (course_of n k))) (sym name-is) (runs-own e)

  counted-so : IsEntry p.table (main_of K.symbol) → Counted K.symbol
  counted-so e = subst (λ (n : List ℕ). AlikeBy (source_run p (main_of K.symbol)) (run_of n) (λ n. 64 * n + 31)) (sym name-is) (counted-own e)

  pub does-the-same : DoesTheSame p c
  does-the-same = record {
    starts = λ o e. (let s = its-own o e in subst (λ (y : SymId). IsEntry p.table (main_of y) → Starts y) s starts-so e);
    runs = λ o e. (let s = its-own o e in subst (λ (y : SymId). IsEntry p.table (main_of y) → Runs y) s runs-so e);
    counted = λ o e. (let s = its-own o e in subst (λ (y : SymId). IsEntry p.table (main_of y) → Counted y) s counted-so e);
  }

-- the file of a program does what the program does
pub does_the_same : (p : Program) (c : ClassFile) → file_of_program p ≡ Some (Ok c) → DoesTheSame p c
unfolding file_of_program
does_the_same p c h = by p.table.classes refl h
  where
    begins-so : (k : CoreClass) (b : Bool) → cond b (file_of p k) None ≡ Some (Ok c) → (b ≡ true) × (file_of p k ≡ Some (Ok c))
    begins-so k true is = (refl, is)
    begins-so k false is = absurd (cc)

    by : (ks : List CoreClass) → p.table.classes ≡ ks → file_of_classes p ks ≡ Some (Ok c) → DoesTheSame p c
    by [] alone is = absurd (cc)
    by (k ∷ []) alone is = let b = begins-so k (can_begin p k) is in does-the-same p k c alone b.0 b.1
    by (k ∷ l ∷ ks) alone is = absurd (cc)
