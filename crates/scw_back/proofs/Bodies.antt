-- What is known of the code of each method, and of calls in the program.
use Rattle.std.specs.Prelude.{◌≡◌, ℕ, ◌+◌, ◌≤◌, ◌<◌, true, false, List, [], ◌∷◌, map, Some, None, unwrap_or, slice_get}
use Rattle.scw_text.specs.declared.number.SymId.{SymId}
use Rattle.scw_classfile.specs.declared.pool_entry.PoolEntry.{PoolEntry}
use Rattle.scw_core.specs.Call.{call_on, enter}
use Rattle.scw_core.specs.Frame.{called, noting}
use Rattle.scw_core.specs.Program as core
use Rattle.scw_core.specs.Program.{in_members, look}
use Rattle.scw_core.specs.State.{Env, State, Value, instance, ref_v}
use Rattle.scw_core.specs.Tree.{Tree}
use Rattle.scw_core.specs.declared.class.CoreClass.{CoreClass}
use Rattle.scw_core.specs.declared.class.Member.{Member}
use Rattle.scw_gen.specs.declared.kind.Kind.{Kind}
use Rattle.scw_gen.specs.declared.kind.Kind.TheVariants as kind
use Rattle.scw_gen.specs.declared.operator.Form.TheVariants.{Values}
use Rattle.scw_gen.specs.Around.{Around, kind_in}
use Rattle.scw_gen.specs.Method.{is_method, local_of, outermost}
use Rattle.scw_gen.specs.Scope.{Scope, from, inside, placed}
use Rattle.scw_gen.specs.Typed.{Known, all_set, bound, kinds_of_parameters, locals_of, rank, this_known}
use Rattle.scw_frame.specs.declared.operation.Operation.TheVariants as operation
use Rattle.scw_frame.specs.declared.program.Method.{Method}
use Rattle.scw_frame.specs.declared.program.Program.{Program}
use Rattle.scw_frame.specs.declared.value.ValueKind.TheVariants as value
use Rattle.scw_back.proofs.Goals.{CodeAt, drop, leave}
use Rattle.scw_back.proofs.Loaded.{around_by}
use Rattle.scw_back.proofs.Placed.{At, number_of, value_of_kind}
use Rattle.scw_back.proofs.Stands.{Runs, left_by}

module _ (p : core.Program) (K : CoreClass) (pool : List PoolEntry) (L : Program) where
  abbrev pub G : Around
  G = around_by p K pool false

  -- the code of a body with this result: it ends with `return` behind a result of Unit, or returns its value itself
  pub data BodyCode (m : Method) (ys : List Known) (s : Scope) (d : ℕ) (body : Tree) : Kind → Type 0 where
    unit_body : {e r : ℕ} → CodeAt p K pool L m ys s kind.Unit (drop e) d 0 body → At p.table K L m e operation.Return r → BodyCode m ys s d body kind.Unit
    value_body : {k : Kind} → 0 < rank k → CodeAt p K pool L m ys s k leave d 0 body → BodyCode m ys s d body k

  -- the method of a member, with its code
  pub record BodyStands (x : SymId) (number : ℕ) : Type 0 where
    pub member : Member
    pub member_there : in_members K.members x ≡ Some member
    pub method_form : is_method member ≡ true
    pub body : Tree
    pub body_there : look p.bodies x ≡ Some body
    pub kinds : List Kind
    pub kinds_are : kinds_of_parameters G member.parameters ≡ Some kinds
    pub result : Kind
    pub result_is : kind_in G member.result ≡ Some result
    pub inner : List Known
    pub bound_is : bound G (locals_of member.parameters) (this_known G ∷ []) ≡ Some inner
    pub added : Scope
    pub placed_is : placed p.table K.symbol (from 1) (map local_of member.parameters) ≡ Some added
    pub method : Method
    pub runs : Runs p K pool L number method
    pub arguments_are : method.arguments ≡ value.Reference ∷ map value_of_kind kinds
    -- the object and the arguments fit the local variables
    pub fits : 1 + left_by Values kinds ≤ method.locals
    pub narrow : method.locals ≤ 65535
    pub code : BodyCode method (all_set inner) (inside added (outermost G)) method.stack body result

  abbrev pub Bodies : Type 0
  Bodies = (x : SymId) (number : ℕ) → number_of K x ≡ Some number → BodyStands x number

  -- what a call of a method of the object does in the program
  abbrev pub Calls : Type 0
  Calls = (x : SymId) (m : Member) (body : Tree) (q : ℕ) (fields : List (SymId × Value)) (outers : List (SymId × Env)) (vs : List Value) (S : State) → in_members K.members x ≡ Some m → is_method m ≡ true → look p.bodies x ≡ Some body
      → slice_get S.store q ≡ Some (instance K.symbol fields outers) → unwrap_or (look outers K.symbol) [] ≡ [] → call_on p x (ref_v q) vs S ≡ noting (called K.symbol x) (enter body (K.this ∷ core.locals_of m.parameters) (ref_v q ∷ vs) [] None S)
