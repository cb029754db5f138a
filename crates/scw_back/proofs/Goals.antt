-- The code of a tree at a place of a method, and where it goes on behind the tree's value.
use Rattle.std.specs.Prelude.{◌≡◌, ◌⊎◌, ℕ, ◌+◌, ◌^◌, ◌≤◌, ◌<◌, Bool, true, false, cond, List, [], ◌∷◌, Option, Some, None}
use Rattle.scw_text.specs.declared.number.SymId.{SymId}
use Rattle.scw_value.specs.declared.arithmetic.Arithmetic.{Arithmetic}
use Rattle.scw_value.specs.declared.comparison.Comparison.{Comparison}
use Rattle.scw_value.specs.declared.comparison.Comparison.TheVariants.{Equal, NotEqual}
use Rattle.scw_value.specs.declared.division.Division.{Division}
use Rattle.scw_classfile.specs.declared.pool_entry.PoolEntry.{PoolEntry}
use Rattle.scw_core.specs.Program as core
use Rattle.scw_core.specs.Program.{in_members}
use Rattle.scw_core.specs.Tree.{Tree, Trees, strict, block, if_else, while_do, none, more}
use Rattle.scw_core.specs.declared.class.CoreClass.{CoreClass}
use Rattle.scw_core.specs.declared.class.Member.{Member}
use Rattle.scw_core.specs.declared.operator.Literal.TheVariants as literal
use Rattle.scw_core.specs.declared.operator.Logic.TheVariants as logic
use Rattle.scw_core.specs.declared.operator.Op.{Op}
use Rattle.scw_core.specs.declared.operator.Op.TheVariants as op
use Rattle.scw_core.specs.declared.operator.Primitive.{Primitive}
use Rattle.scw_core.specs.declared.operator.Primitive.TheVariants as primitive
use Rattle.scw_core.specs.declared.operator.RunMethod.{RunMethod}
use Rattle.scw_core.specs.declared.operator.TextId.{TextId}
use Rattle.scw_core.specs.declared.operator.Width.{Width}
use Rattle.scw_core.specs.declared.operator.Width.TheVariants as width
use Rattle.scw_core.specs.declared.tree.Local.{Local}
use Rattle.scw_core.specs.declared.tree.NodeInfo.{NodeInfo}
use Rattle.scw_gen.specs.declared.instr.Compared.{Compared}
use Rattle.scw_gen.specs.declared.instr.Compared.TheVariants.{Zero, Two}
use Rattle.scw_gen.specs.declared.kind.Kind.{Kind}
use Rattle.scw_gen.specs.declared.kind.Kind.TheVariants as kind
use Rattle.scw_gen.specs.declared.mode.Mode.{Mode}
use Rattle.scw_gen.specs.declared.mode.Mode.TheVariants.{Value, Effect, Test, Return}
use Rattle.scw_gen.specs.declared.operator.Form.{Form}
use Rattle.scw_gen.specs.declared.operator.Form.TheVariants.{Values, Effects, Texts}
use Rattle.scw_gen.specs.declared.scope.Slot.{Slot}
use Rattle.scw_gen.specs.Around.{Around, kind_in}
use Rattle.scw_gen.specs.Kind.{width_of}
use Rattle.scw_gen.specs.Mode.{bit, negated}
use Rattle.scw_gen.specs.Operator.{form_of, kind_of_width}
use Rattle.scw_gen.specs.Room.{slot_behind}
use Rattle.scw_gen.specs.Scope.{Scope, from, inside, placed, slot_of}
use Rattle.scw_gen.specs.Typed.{Known, behind, bound, kind_of_primitive, kinds_of_parameters, known, rank}
use Rattle.scw_frame.specs.declared.operation.BuiltIn.TheVariants as machine
use Rattle.scw_frame.specs.declared.operation.Operation.{Operation}
use Rattle.scw_frame.specs.declared.operation.Operation.TheVariants as operation
use Rattle.scw_frame.specs.declared.operation.Primitive.TheVariants as box
use Rattle.scw_frame.specs.declared.operation.StackOperation.{StackOperation}
use Rattle.scw_frame.specs.declared.operation.StackOperation.TheVariants as stack
use Rattle.scw_frame.specs.declared.program.Method.{Method}
use Rattle.scw_frame.specs.declared.program.Program.{Program}
use Rattle.scw_frame.specs.declared.program.Target.TheVariants as target
use Rattle.scw_frame.specs.declared.value.Value.TheVariants.{Int, Long}
use Rattle.scw_back.proofs.Loaded.{around_by}
use Rattle.scw_back.proofs.Placed.{At, LoadsText, Selects, SelectsText, arithmetic_of, division_of, jump_when, value_of_kind}

-- where code goes on behind a value
pub data Goal : Type 0 where
  -- at a place, with the value on the stack
  push : ℕ → Goal
  -- at a place, without it
  drop : ℕ → Goal
  -- at the first place where it is true, and at the second where it is false
  test : ℕ → ℕ → Goal
  -- in the caller
  leave : Goal

-- that of code in a mode which ends at the place
abbrev pub goal_of : Mode → ℕ → Goal
goal_of Value e = push e
goal_of Effect e = drop e
goal_of (Test sense way) e = cond sense (test (e + way) e) (test e (e + way))
goal_of (Return w) e = leave

abbrev pub drop_operation : Kind → StackOperation
drop_operation kind.Unit = stack.Pop
drop_operation kind.Boolean = stack.Pop
drop_operation kind.Int = stack.Pop
drop_operation kind.Long = stack.PopTwo
drop_operation kind.String = stack.Pop
drop_operation kind.Strings = stack.Pop
drop_operation kind.This = stack.Pop

-- what boxes a value of the kind
abbrev pub box_of : Kind → Option Operation
box_of kind.Boolean = Some (operation.CallStatic (target.BuiltIn (machine.Box box.Boolean)))
box_of kind.Int = Some (operation.CallStatic (target.BuiltIn (machine.Box box.Int)))
box_of kind.Long = Some (operation.CallStatic (target.BuiltIn (machine.Box box.Long)))
box_of _ = None

module _ (p : core.Program) (K : CoreClass) (pool : List PoolEntry) (L : Program) (m : Method) where
  abbrev G : Around
  G = around_by p K pool false

  -- ---- behind a value

  -- the places are one, or a jump leads from one to the other
  abbrev pub Leads : ℕ → ℕ → Type 0
  Leads from to = (from ≡ to) ⊎ ((r : ℕ) × At p.table K L m from (operation.Jump to) r)

  -- a branch at the place, which leads on by whether the comparison holds
  pub data Decides (k : Compared) (c : Comparison) (pc yes no : ℕ) : Type 0 where
    straight : {y n : ℕ} → At p.table K L m pc (jump_when k c y) n → Leads y yes → Leads n no → Decides k c pc yes no
    turned : {y n : ℕ} → At p.table K L m pc (jump_when k (negated c) n) y → Leads y yes → Leads n no → Decides k c pc yes no

  -- with a value of the kind on the stack, what stands at the place leads to the goal
  pub data Gives : Goal → Kind → ℕ → Type 0 where
    g_push : {pc q : ℕ} {k : Kind} → Leads pc q → Gives (push q) k pc
    g_drop : {pc q r : ℕ} {k : Kind} → At p.table K L m pc (operation.Stack (drop_operation k)) r → Leads r q → Gives (drop q) k pc
    g_test : {pc yes no : ℕ} → Decides Zero NotEqual pc yes no → Gives (test yes no) kind.Boolean pc
    g_leave : {pc r : ℕ} {k : Kind} → At p.table K L m pc (operation.ReturnValue (value_of_kind k)) r → Gives leave k pc

  -- the value is `()`, which isn't on the stack; there is room for so many words more
  pub data UnitAt (d : ℕ) : Goal → ℕ → Type 0 where
    u_drop : {pc q : ℕ} → Leads pc q → UnitAt d (drop q) pc
    u_made : {pc r : ℕ} {goal : Goal} → 1 ≤ d → At p.table K L m pc (operation.CallStatic (target.BuiltIn machine.Unit)) r → Gives goal kind.Unit r → UnitAt d goal pc

  -- the value is this Boolean
  pub data TruthAt (d : ℕ) (b : Bool) : Goal → ℕ → Type 0 where
    t_drop : {pc q : ℕ} → Leads pc q → TruthAt d b (drop q) pc
    t_test : {pc yes no : ℕ} → Leads pc (cond b yes no) → TruthAt d b (test yes no) pc
    t_made : {pc r : ℕ} {goal : Goal} → 1 ≤ d → At p.table K L m pc (operation.Push (Int (bit b))) r → Gives goal kind.Boolean r → TruthAt d b goal pc

  -- the value is what one operation puts on the stack
  pub data PutAt (d : ℕ) (o : Operation) (k : Kind) : Goal → ℕ → Type 0 where
    p_drop : {pc q : ℕ} → Leads pc q → PutAt d o k (drop q) pc
    p_made : {pc r : ℕ} {goal : Goal} → width_of k ≤ d → At p.table K L m pc o r → Gives goal k r → PutAt d o k goal pc

  -- behind a call of a method whose result is of the kind
  pub data Behind (d : ℕ) : Kind → Goal → ℕ → Type 0 where
    b_unit : {pc : ℕ} {goal : Goal} → UnitAt d goal pc → Behind d kind.Unit goal pc
    b_value : {pc : ℕ} {goal : Goal} {k : Kind} → 0 < rank k → width_of k ≤ d → Gives goal k pc → Behind d k goal pc

  -- ---- operators, behind their operands

  -- two numbers of the width are compared
  abbrev pub Compares : Width → Comparison → ℕ → ℕ → ℕ → Type 0
  Compares width.Int c pc y n = Decides Two c pc y n
  Compares width.Long c pc y n = (r : ℕ) × At p.table K L m pc operation.CompareLongs r × Decides Zero c r y n

  pub data ComparedAt (w : Width) (c : Comparison) : Goal → ℕ → Type 0 where
    x_test : {pc yes no : ℕ} → Compares w c pc yes no → ComparedAt w c (test yes no) pc
    x_value : (yes no : ℕ) {pc r r' e : ℕ} {goal : Goal} → Compares w c pc yes no → At p.table K L m yes (operation.Push (Int 1)) r → At p.table K L m r (operation.Jump e) r' → At p.table K L m no (operation.Push (Int 0)) e
        → Gives goal kind.Boolean e → ComparedAt w c goal pc

  -- the operator's code where the locals are known so and stand so, by how its operands are evaluated, and their kinds
  pub data OpAt (ys : List Known) (s : Scope) (d : ℕ) : Form → Op → List Kind → Kind → Goal → ℕ → Type 0 where
    o_unit : {f : Form} {goal : Goal} {pc : ℕ} → UnitAt d goal pc → OpAt ys s d f (op.Literal literal.Unit) [] kind.Unit goal pc
    o_boolean : {f : Form} {goal : Goal} {pc : ℕ} {b : Bool} → TruthAt d b goal pc → OpAt ys s d f (op.Literal (literal.Boolean b)) [] kind.Boolean goal pc
    o_int : {f : Form} {goal : Goal} {pc n : ℕ} → n < 2 ^ 32 → PutAt d (operation.Push (Int n)) kind.Int goal pc → OpAt ys s d f (op.Literal (literal.Int n)) [] kind.Int goal pc
    o_long : {f : Form} {goal : Goal} {pc n : ℕ} → n < 2 ^ 64 → PutAt d (operation.Push (Long n)) kind.Long goal pc → OpAt ys s d f (op.Literal (literal.Long n)) [] kind.Long goal pc
    o_text : {f : Form} {goal : Goal} {pc x : ℕ} {t : TextId} → LoadsText p.table K L t x → PutAt d (operation.PushText (record { 0 = x })) kind.String goal pc → OpAt ys s d f (op.Literal (literal.String t)) [] kind.String goal pc
    -- the value of a text is dropped, and never made
    o_no_text : {f : Form} {pc q : ℕ} {t : TextId} {text : List ℕ} → core.text_at p.table t ≡ Some text → Leads pc q → OpAt ys s d f (op.Literal (literal.String t)) [] kind.String (drop q) pc
    o_local : {f : Form} {goal : Goal} {pc : ℕ} {x : SymId} {y : Known} {slot : Slot} → known ys x ≡ Some y → y.is_set ≡ true → slot_of s x ≡ Some slot → slot.kind ≡ y.kind
        → PutAt d (operation.Load (value_of_kind y.kind) slot.place) y.kind goal pc → OpAt ys s d f (op.Local x) [] y.kind goal pc
    o_set : {goal : Goal} {pc r : ℕ} {x : SymId} {y : Known} {slot : Slot} → known ys x ≡ Some y → slot_of s x ≡ Some slot → slot.kind ≡ y.kind
        → At p.table K L m pc (operation.Store (value_of_kind y.kind) slot.place) r → UnitAt d goal r → OpAt ys s d Values (op.SetLocal x) (y.kind ∷ []) kind.Unit goal pc
    o_call : {goal : Goal} {pc r selector : ℕ} {x : SymId} {member : Member} {ks : List Kind} {k : Kind} → in_members K.members x ≡ Some member → kinds_of_parameters G member.parameters ≡ Some ks → kind_in G member.result ≡ Some k
        → Selects p.table K L x selector → At p.table K L m pc (operation.CallVirtual (record { 0 = selector })) r → Behind d k goal r → OpAt ys s d Values (op.Call x) (kind.This ∷ ks) k goal pc
    -- the operands are dropped, and so is the value, which is never made
    o_idle : {pc q : ℕ} {o : Primitive} {ks : List Kind} {k : Kind} → form_of Effect (op.Primitive o) ≡ Effects → kind_of_primitive o ks ≡ Some k → Leads pc q → OpAt ys s d Effects (op.Primitive o) ks k (drop q) pc
    o_arithmetic : {goal : Goal} {pc r : ℕ} {w : Width} {o : Arithmetic} → At p.table K L m pc (arithmetic_of w o) r → Gives goal (kind_of_width w) r
        → OpAt ys s d Values (op.Primitive (primitive.Arithmetic w o)) (kind_of_width w ∷ kind_of_width w ∷ []) (kind_of_width w) goal pc
    o_division : {goal : Goal} {pc r : ℕ} {w : Width} {o : Division} → At p.table K L m pc (division_of w o) r → Gives goal (kind_of_width w) r
        → OpAt ys s d Values (op.Primitive (primitive.Division w o)) (kind_of_width w ∷ kind_of_width w ∷ []) (kind_of_width w) goal pc
    o_comparison : {goal : Goal} {pc : ℕ} {w : Width} {c : Comparison} → ComparedAt w c goal pc
        → OpAt ys s d Values (op.Primitive (primitive.Comparison w c)) (kind_of_width w ∷ kind_of_width w ∷ []) kind.Boolean goal pc
    o_equal : {goal : Goal} {pc : ℕ} → ComparedAt width.Int Equal goal pc → OpAt ys s d Values (op.Primitive (primitive.Logic logic.Equal)) (kind.Boolean ∷ kind.Boolean ∷ []) kind.Boolean goal pc
    o_not_equal : {goal : Goal} {pc : ℕ} → ComparedAt width.Int NotEqual goal pc → OpAt ys s d Values (op.Primitive (primitive.Logic logic.NotEqual)) (kind.Boolean ∷ kind.Boolean ∷ []) kind.Boolean goal pc
    o_concatenate : {goal : Goal} {pc r : ℕ} {k l : Kind} → At p.table K L m pc (operation.CallStatic (target.BuiltIn machine.Concat)) r → Gives goal kind.String r
        → OpAt ys s d Texts (op.Primitive primitive.Concatenate) (k ∷ l ∷ []) kind.String goal pc
    o_print : {goal : Goal} {pc r : ℕ} {o : RunMethod} → At p.table K L m pc (operation.CallStatic (target.BuiltIn machine.Print)) r → UnitAt d goal r → OpAt ys s d Values (op.Run o) (kind.String ∷ []) kind.Unit goal pc

  -- from the first place to the second, the value of the kind on the stack becomes its text
  pub data TextAt : Kind → ℕ → ℕ → Type 0 where
    text_string : {pc : ℕ} → TextAt kind.String pc pc
    text_unit : {pc q selector : ℕ} → SelectsText p.table K L selector → At p.table K L m pc (operation.CallVirtual (record { 0 = selector })) q → TextAt kind.Unit pc q
    text_boxed : {pc r q selector : ℕ} {k : Kind} {o : Operation} → box_of k ≡ Some o → At p.table K L m pc o r → SelectsText p.table K L selector → At p.table K L m r (operation.CallVirtual (record { 0 = selector })) q → TextAt k pc q

  -- what a branch of a choice leads to leads to what the choice leads to
  pub data Joins : Goal → Goal → Type 0 where
    j_push : {p q : ℕ} → Leads p q → Joins (push p) (push q)
    j_drop : {p q : ℕ} → Leads p q → Joins (drop p) (drop q)
    j_test : {y n yes no : ℕ} → Leads y yes → Leads n no → Joins (test y n) (test yes no)
    j_leave : Joins leave leave

  -- ---- trees

  mutual
    -- the tree's code at the place: the locals that are known, and their slots; the kind of its value, where it goes on, and how
    -- many words it may put on the stack
    pub data CodeAt : List Known → Scope → Kind → Goal → ℕ → ℕ → Tree → Type 0 where
      c_strict : {ys : List Known} {s : Scope} {k : Kind} {goal : Goal} {d pc r : ℕ} {i : NodeInfo} {o : Op} {ts : Trees} {f : Form} {ks : List Kind} → ArgsAt ys s f d pc ts ks r → OpAt ys s d f o ks k goal r → CodeAt ys s k goal d pc (strict i o ts)
      c_block : {ys inner : List Known} {s added : Scope} {k : Kind} {goal : Goal} {d pc : ℕ} {i : NodeInfo} {xs : List Local} {ts : Trees} → bound G xs ys ≡ Some inner → placed p.table K.symbol (from s.next) xs ≡ Some added → slot_behind G s.next xs ≤ m.locals
          → StatementsAt inner (inside added s) k goal d pc ts → CodeAt ys s k goal d pc (block i xs ts)
      c_if : {ys : List Known} {s : Scope} {k : Kind} {goal first second : Goal} {d pc y n : ℕ} {i : NodeInfo} {a b c : Tree} → CodeAt ys s kind.Boolean (test y n) d pc a → CodeAt ys s k first d y b → Joins first goal → CodeAt ys s k second d n c → Joins second goal
          → CodeAt ys s k goal d pc (if_else i a b c)
      -- both branches begin at one place
      c_if_same : {ys : List Known} {s : Scope} {k : Kind} {goal : Goal} {d pc r : ℕ} {i : NodeInfo} {a b c : Tree} → CodeAt ys s kind.Boolean (drop r) d pc a → CodeAt ys s k goal d r b → CodeAt ys s k goal d r c → CodeAt ys s k goal d pc (if_else i a b c)
      c_while : {ys : List Known} {s : Scope} {k : Kind} {goal : Goal} {d pc y n r r' : ℕ} {i : NodeInfo} {a b : Tree} → CodeAt ys s kind.Boolean (test y n) d pc a → CodeAt ys s k (drop r) d y b → At p.table K L m r (operation.Jump pc) r' → UnitAt d goal n
          → CodeAt ys s kind.Unit goal d pc (while_do i a b)

    -- operands, from a place to a place
    pub data ArgsAt : List Known → Scope → Form → ℕ → ℕ → Trees → List Kind → ℕ → Type 0 where
      a_none : {ys : List Known} {s : Scope} {f : Form} {d pc : ℕ} → ArgsAt ys s f d pc none [] pc
      a_value : {ys : List Known} {s : Scope} {d d' pc r q : ℕ} {t : Tree} {ts : Trees} {k : Kind} {ks : List Kind} → CodeAt ys s k (push r) d pc t → width_of k + d' ≤ d → ArgsAt ys s Values d' r ts ks q → ArgsAt ys s Values d pc (more t ts) (k ∷ ks) q
      a_effect : {ys : List Known} {s : Scope} {d pc r q : ℕ} {t : Tree} {ts : Trees} {k : Kind} {ks : List Kind} → CodeAt ys s k (drop r) d pc t → ArgsAt ys s Effects d r ts ks q → ArgsAt ys s Effects d pc (more t ts) (k ∷ ks) q
      a_text : {ys : List Known} {s : Scope} {d d' pc r r' q : ℕ} {t : Tree} {ts : Trees} {k : Kind} {ks : List Kind} → CodeAt ys s k (push r) d pc t → width_of k ≤ d → TextAt k r r' → 1 + d' ≤ d → ArgsAt ys s Texts d' r' ts ks q
          → ArgsAt ys s Texts d pc (more t ts) (k ∷ ks) q

    -- statements, the last of which gives the value
    pub data StatementsAt : List Known → Scope → Kind → Goal → ℕ → ℕ → Trees → Type 0 where
      s_none : {ys : List Known} {s : Scope} {goal : Goal} {d pc : ℕ} → UnitAt d goal pc → StatementsAt ys s kind.Unit goal d pc none
      s_last : {ys : List Known} {s : Scope} {k : Kind} {goal : Goal} {d pc : ℕ} {t : Tree} → CodeAt ys s k goal d pc t → StatementsAt ys s k goal d pc (more t none)
      s_more : {ys : List Known} {s : Scope} {k l : Kind} {goal : Goal} {d pc r : ℕ} {t u : Tree} {ts : Trees} → CodeAt ys s l (drop r) d pc t → StatementsAt (behind t ys) s k goal d r (more u ts) → StatementsAt ys s k goal d pc (more t (more u ts))
