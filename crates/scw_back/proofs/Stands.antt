-- When a state of the machine stands for a configuration of the program.
use Rattle.std.specs.Prelude.{◌≡◌, ◌⊎◌, ℕ, ◌+◌, ◌^◌, ◌≤◌, ◌<◌, Bool, true, List, [], ◌∷◌, ◌++◌, Some, None, length, slice_get, unwrap_or}
use Rattle.std.specs.List.{list_all}
use Rattle.scw_text.specs.Modified.{is_unit}
use Rattle.scw_text.specs.declared.number.SymId.{SymId}
use Rattle.scw_classfile.specs.declared.pool_entry.PoolEntry.{PoolEntry}
use Rattle.scw_core.specs.Frame.{Frames, Note, gives, in_block, if_test, operands, returning, throws, tree_task, waits, while_body, while_test}
use Rattle.scw_core.specs.Number.{plain_text}
use Rattle.scw_core.specs.Program as core
use Rattle.scw_core.specs.Program.{look}
use Rattle.scw_core.specs.State.{Value, unit_v, boolean_v, int_v, long_v, string_v, ref_v, Env, Slots, Thing, instance, values_of}
use Rattle.scw_core.specs.State.{State}
use Rattle.scw_core.specs.Run.{Config, at, over}
use Rattle.scw_core.specs.Seen.{thrown_end, written_by}
use Rattle.scw_core.specs.Tree.{Tree, Trees, none, more}
use Rattle.scw_core.specs.declared.class.CoreClass.{CoreClass}
use Rattle.scw_core.specs.declared.operator.Op.{Op}
use Rattle.scw_gen.specs.declared.kind.Kind.{Kind}
use Rattle.scw_gen.specs.declared.kind.Kind.TheVariants as kind
use Rattle.scw_gen.specs.declared.operator.Form.{Form}
use Rattle.scw_gen.specs.declared.operator.Form.TheVariants.{Values, Effects, Texts}
use Rattle.scw_gen.specs.declared.scope.Slot.{Slot}
use Rattle.scw_gen.specs.Kind.{width_of}
use Rattle.scw_gen.specs.Mode.{bit}
use Rattle.scw_gen.specs.Scope.{Scope, slot_of}
use Rattle.scw_gen.specs.Typed.{Known, behind, behind_op, known, rank}
use Rattle.scw_heap.specs.Heap.{Entity, object_at}
use Rattle.scw_heap.specs.declared.kind.Kind.TheVariants as made
use Rattle.scw_frame.specs.declared.operation.Operation.{Operation}
use Rattle.scw_frame.specs.declared.operation.Operation.TheVariants as operation
use Rattle.scw_frame.specs.declared.program.Method.{Method}
use Rattle.scw_frame.specs.declared.program.Program.{Program}
use Rattle.scw_frame.specs.declared.value.Value as machine
use Rattle.scw_frame.specs.declared.value.Value.TheVariants.{Int, Long, Reference}
use Rattle.scw_frame.specs.Frame.{Frame, places}
use Rattle.scw_step.specs.declared.state.State as machine_state
use Rattle.scw_machine.specs.Course.{Course, going, halted, returned, uncaught}
use Rattle.scw_back.specs.MachineSeen.{exception_at}
use Rattle.scw_back.proofs.Goals.{Goal, push, drop, test, leave, ArgsAt, Behind, CodeAt, Joins, OpAt, StatementsAt, TextAt, UnitAt}
use Rattle.scw_back.proofs.Placed.{At}
use Rattle.scw_back.proofs.Rows.{frame_at, state}

abbrev pub Word : Type 0
Word = machine.Value

abbrev pub MachineState : Type 0
MachineState = machine_state.State

-- ---- values

-- The value is of the kind.
pub data IsOf (store : List Thing) (own : SymId) : Kind → Value → Type 0 where
  i_unit : IsOf store own kind.Unit unit_v
  i_boolean : (b : Bool) → IsOf store own kind.Boolean (boolean_v b)
  i_int : (n : ℕ) → n < 2 ^ 32 → IsOf store own kind.Int (int_v n)
  i_long : (n : ℕ) → n < 2 ^ 64 → IsOf store own kind.Long (long_v n)
  i_string : (us : List ℕ) → IsOf store own kind.String (string_v us)
  i_strings : (v : Value) → IsOf store own kind.Strings v
  i_this : (q : ℕ) (fields : List (SymId × Value)) (outers : List (SymId × Env)) → slice_get store q ≡ Some (instance own fields outers) → unwrap_or (look outers own) [] ≡ [] → IsOf store own kind.This (ref_v q)

-- the object with the number is this one, and isn't null
pub record Holds (h : List Entity) (r : ℕ) (o : Entity) : Type 0 where
  pub some : r ≡ 0 → ⊥
  pub there : object_at h r ≡ Some o

abbrev pub unit_object : Entity
unit_object = record { kind = made.Object 6; words = [] }

abbrev pub text_object : List ℕ → Entity
text_object us = record { kind = made.Text; words = us }

-- A word of the machine stands for the value, of the kind.
pub data Alike (h : List Entity) (store : List Thing) (own : SymId) : Kind → Value → Word → Type 0 where
  k_unit : (r : ℕ) → Holds h r unit_object → Alike h store own kind.Unit unit_v (Reference r)
  k_boolean : (b : Bool) → Alike h store own kind.Boolean (boolean_v b) (Int (bit b))
  k_int : (n : ℕ) → n < 2 ^ 32 → Alike h store own kind.Int (int_v n) (Int n)
  k_long : (n : ℕ) → n < 2 ^ 64 → Alike h store own kind.Long (long_v n) (Long n)
  k_string : (us : List ℕ) (r : ℕ) → list_all is_unit us ≡ true → Holds h r (text_object us) → Alike h store own kind.String (string_v us) (Reference r)
  k_strings : (v : Value) (r : ℕ) → Alike h store own kind.Strings v (Reference r)
  k_this : (q r : ℕ) (ws : List ℕ) → IsOf store own kind.This (ref_v q) → Holds h r (record { kind = made.Object 24; words = ws }) → Alike h store own kind.This (ref_v q) (Reference r)

-- ---- locals

-- what is known of a local
pub record HeldAt (h : List Entity) (store : List Thing) (own : SymId) (s : Scope) (env : Env) (slots floor : Slots) (ws : List Word) (x : SymId) (y : Known) : Type 0 where
  pub slot : Slot
  pub slot_is : slot_of s x ≡ Some slot
  pub kind_is : slot.kind ≡ y.kind
  pub within : slot.place + width_of slot.kind ≤ s.next
  pub binding : ℕ
  pub bound : look env x ≡ Some binding
  -- it was bound behind the floor, that is since the body began
  pub new : length (values_of floor x) ≤ binding
  pub value : Value
  pub there : slice_get (values_of slots x) binding ≡ Some value
  -- if it has a value by now, its slot has the word for it
  pub held : y.is_set ≡ true → (w : Word) × (slice_get ws slot.place ≡ Some w) × Alike h store own y.kind value w

abbrev pub Disjoint : Slot → Slot → Type 0
Disjoint a b = (a.place + width_of a.kind ≤ b.place) ⊎ (b.place + width_of b.kind ≤ a.place)

pub record Held (h : List Entity) (store : List Thing) (own : SymId) (ys : List Known) (s : Scope) (env : Env) (slots floor : Slots) (ws : List Word) : Type 0 where
  pub at : (x : SymId) (y : Known) → known ys x ≡ Some y → HeldAt h store own s env slots floor ws x y
  pub apart : (x x' : SymId) (y y' : Known) (a b : Slot) → known ys x ≡ Some y → known ys x' ≡ Some y' → (x ≡ x' → ⊥) → slot_of s x ≡ Some a → slot_of s x' ≡ Some b → Disjoint a b
  pub wide : s.next ≤ length ws

-- what is known of locals around a block is known inside of it
pub record Within (ys : List Known) (s : Scope) (env : Env) (ys' : List Known) (s' : Scope) (env' : Env) : Type 0 where
  pub at : (x : SymId) (y' : Known) → known ys' x ≡ Some y' → (y : Known) × (known ys x ≡ Some y) × (y.kind ≡ y'.kind) × (y'.is_set ≡ true → y.is_set ≡ true)
  pub slots : (x : SymId) (y' : Known) → known ys' x ≡ Some y' → slot_of s x ≡ slot_of s' x
  pub envs : (x : SymId) (y' : Known) → known ys' x ≡ Some y' → look env x ≡ look env' x
  pub places : (x : SymId) (y' : Known) (a : Slot) → known ys' x ≡ Some y' → slot_of s' x ≡ Some a → a.place + width_of a.kind ≤ s'.next
  pub next : s'.next ≤ s.next

-- what is bound stays bound, with its value
pub record Extends (a b : Slots) : Type 0 where
  pub by : (x : SymId) (k : ℕ) (v : Value) → slice_get (values_of a x) k ≡ Some v → slice_get (values_of b x) k ≡ Some v

-- objects that are made stay
pub record Grows (a b : List Entity) : Type 0 where
  pub by : (r : ℕ) (o : Entity) → object_at a r ≡ Some o → object_at b r ≡ Some o

-- ---- operands that are there

-- values of these kinds, and the words on the stack that stand for them, in order; an operand that is dropped has none, and in
-- a text stands the text of each
pub data Kept (h : List Entity) (store : List Thing) (own : SymId) : Form → List Kind → List Value → List Word → Type 0 where
  e_none : {f : Form} → Kept h store own f [] [] []
  e_value : {k : Kind} {ks : List Kind} {v : Value} {vs : List Value} {w : Word} {ws : List Word} → Alike h store own k v w → Kept h store own Values ks vs ws → Kept h store own Values (k ∷ ks) (v ∷ vs) (w ∷ ws)
  e_effect : {k : Kind} {ks : List Kind} {v : Value} {vs : List Value} {ws : List Word} → IsOf store own k v → Kept h store own Effects ks vs ws → Kept h store own Effects (k ∷ ks) (v ∷ vs) ws
  e_text : {k : Kind} {ks : List Kind} {v : Value} {vs : List Value} {ws : List Word} {us : List ℕ} {r : ℕ} → plain_text v ≡ Some us → list_all is_unit us ≡ true → Holds h r (text_object us) → Kept h store own Texts ks vs ws → Kept h store own Texts (k ∷ ks) (v ∷ vs) (Reference r ∷ ws)

-- words pushed in order
abbrev pub onto : List Word → List Word → List Word
onto [] st = st
onto (w ∷ ws) st = onto ws (w ∷ st)

-- how many words operands of these kinds leave on the stack
abbrev pub left_by : Form → List Kind → ℕ
left_by f [] = 0
left_by Values (k ∷ ks) = width_of k + left_by Values ks
left_by Effects (k ∷ ks) = left_by Effects ks
left_by Texts (k ∷ ks) = 1 + left_by Texts ks

-- where code goes on behind an operand
abbrev pub operand_goal : Form → ℕ → Goal
operand_goal Values r = push r
operand_goal Effects r = drop r
operand_goal Texts r = push r

-- what is known behind statements
abbrev pub behind_all : List Known → Trees → List Known
behind_all ys none = ys
behind_all ys (more t ts) = behind_all (behind t ys) ts

-- the value of Unit is not made yet, or there
abbrev pub UnitThere : List Entity → ℕ → Type 0
UnitThere h unit = (unit ≡ 0) ⊎ Holds h unit unit_object

-- ---- what waits for a value in one body

module _ (p : core.Program) (K : CoreClass) (pool : List PoolEntry) (L : Program) where
  -- how an operand becomes what its operator takes
  abbrev pub Prepared : Method → Form → Kind → ℕ → ℕ → Type 0
  Prepared m Values k r r' = r ≡ r'
  Prepared m Effects k r r' = r ≡ r'
  Prepared m Texts k r r' = TextAt p K pool L m k r r'

  -- The frames wait for a value of the kind, behind which the machine goes on to the goal, with these words under it on the
  -- stack: what is known of locals then; how many rows are paid for; the frames under those of the body.
  pub data Awaits (m : Method) (h : List Entity) (store : List Thing) (result : Kind) : List Known → Scope → Env → Kind → Goal → Frames → List Word → ℕ → Frames → Type 0 where
    w_return : {ys : List Known} {s : Scope} {env : Env} {k : Frames} {st : List Word} {cr : ℕ} → 0 < rank result → Awaits m h store result ys s env result leave (waits (returning None) ∷ k) st cr k
    w_return_unit : {ys : List Known} {s : Scope} {env : Env} {k : Frames} {st : List Word} {cr q r : ℕ} → result ≡ kind.Unit → At p.table K L m q operation.Return r → 1 ≤ cr → Awaits m h store result ys s env kind.Unit (drop q) (waits (returning None) ∷ k) st cr k
    w_join : {ys : List Known} {s : Scope} {env : Env} {t : Kind} {goal goal' : Goal} {k k' : Frames} {st : List Word} {cr cr' : ℕ} → Joins p K pool L m goal' goal → Awaits m h store result ys s env t goal k st cr k' → cr + 1 ≤ cr' → Awaits m h store result ys s env t goal' k st cr' k'
    w_within : {ys ys' : List Known} {s s' : Scope} {env env' : Env} {t : Kind} {goal : Goal} {k k' : Frames} {st : List Word} {cr : ℕ} → Within ys s env ys' s' env' → Awaits m h store result ys' s' env' t goal k st cr k' → Awaits m h store result ys s env t goal k st cr k'
    w_operand : {ys : List Known} {s : Scope} {env : Env} {t u : Kind} {ts us : List Kind} {f : Form} {o : Op} {goal : Goal} {vs : List Value} {ws : List Word} {rest : Trees} {k k' : Frames} {st st' : List Word} (r : ℕ) {r' q d d' cr cr' : ℕ} →
        Kept h store K.symbol f ts vs ws → Prepared m f u r r' → ArgsAt p K pool L m ys s f d' r' rest us q → OpAt p K pool L m ys s d f o (ts ++ u ∷ us) t goal q → st' ≡ onto ws st → places st + d ≤ m.stack → left_by f (ts ++ u ∷ []) + d' ≤ d
        → Awaits m h store result (behind_op o ys) s env t goal k st cr k' → cr + 16 ≤ cr' → Awaits m h store result ys s env u (operand_goal f r) (operands o vs rest env ∷ k) st' cr' k'
    w_block : {ys : List Known} {s : Scope} {env : Env} {t u : Kind} {goal : Goal} {t' : Tree} {ts : Trees} {k k' : Frames} {st : List Word} {r d cr cr' : ℕ} →
        StatementsAt p K pool L m ys s t goal d r (more t' ts) → places st + d ≤ m.stack → Awaits m h store result (behind_all ys (more t' ts)) s env t goal k st cr k' → cr + 16 ≤ cr' → Awaits m h store result ys s env u (drop r) (in_block (more t' ts) env ∷ k) st cr' k'
    w_if : {ys : List Known} {s : Scope} {env : Env} {t : Kind} {goal first second : Goal} {b c : Tree} {k k' : Frames} {st : List Word} {y n d cr cr' : ℕ} →
        CodeAt p K pool L m ys s t first d y b → Joins p K pool L m first goal → CodeAt p K pool L m ys s t second d n c → Joins p K pool L m second goal → places st + d ≤ m.stack → Awaits m h store result ys s env t goal k st cr k' → cr + 16 ≤ cr'
        → Awaits m h store result ys s env kind.Boolean (test y n) (if_test b c env ∷ k) st cr' k'
    w_if_same : {ys : List Known} {s : Scope} {env : Env} {t : Kind} {goal : Goal} {b c : Tree} {k k' : Frames} {st : List Word} {r d cr cr' : ℕ} →
        CodeAt p K pool L m ys s t goal d r b → CodeAt p K pool L m ys s t goal d r c → places st + d ≤ m.stack → Awaits m h store result ys s env t goal k st cr k' → cr + 16 ≤ cr' → Awaits m h store result ys s env kind.Boolean (drop r) (if_test b c env ∷ k) st cr' k'
    w_test : {ys : List Known} {s : Scope} {env : Env} {t : Kind} {goal : Goal} {a b : Tree} {k k' : Frames} {st : List Word} {pc y n r r' d cr cr' : ℕ} →
        CodeAt p K pool L m ys s kind.Boolean (test y n) d pc a → CodeAt p K pool L m ys s t (drop r) d y b → At p.table K L m r (operation.Jump pc) r' → UnitAt p K pool L m d goal n → places st + d ≤ m.stack → Awaits m h store result ys s env kind.Unit goal k st cr k' → cr + 16 ≤ cr'
        → Awaits m h store result ys s env kind.Boolean (test y n) (while_test a b env ∷ k) st cr' k'
    w_body : {ys : List Known} {s : Scope} {env : Env} {t : Kind} {goal : Goal} {a b : Tree} {k k' : Frames} {st : List Word} {pc y n r r' d cr cr' : ℕ} →
        CodeAt p K pool L m ys s kind.Boolean (test y n) d pc a → CodeAt p K pool L m ys s t (drop r) d y b → At p.table K L m r (operation.Jump pc) r' → UnitAt p K pool L m d goal n → places st + d ≤ m.stack → Awaits m h store result ys s env kind.Unit goal k st cr k' → cr + 16 ≤ cr'
        → Awaits m h store result ys s env t (drop r) (while_body a b env ∷ k) st cr' k'

  -- ---- all open bodies

  -- a method of the linked program that catches nothing
  pub record Runs (number : ℕ) (m : Method) : Type 0 where
    pub there : slice_get L.methods number ≡ Some m
    pub guards : m.guards ≡ []

  -- the frames that wait for the result, of the kind, of the body that runs
  pub data Callers (h : List Entity) (store : List Thing) : Kind → Frames → List Frame → Slots → ℕ → Type 0 where
    -- the launcher
    s_launch : {m : Method} {ws : List Word} {slots : Slots} {cr pc q r : ℕ} {o : Operation} → Runs 0 m → At p.table K L m pc o q → At p.table K L m q operation.Return r → 2 ≤ cr → Callers h store kind.Unit [] (frame_at 0 m pc ws [] ∷ []) slots cr
    s_more : {m : Method} {number : ℕ} {result t : Kind} {goal : Goal} {ys : List Known} {s : Scope} {env : Env} {k k' : Frames} {ws st : List Word} {slots floor : Slots} {fs : List Frame} {pc q d cr cr' cr2 : ℕ} {o : Operation} →
        Runs number m → At p.table K L m pc o q → Behind p K pool L m d t goal q → Awaits m h store result ys s env t goal k st cr k' → places st + d ≤ m.stack → Held h store K.symbol ys s env slots floor ws → Extends floor slots → length ws ≡ m.locals → m.locals ≤ 65535 → Callers h store result k' fs floor cr'
        → cr + cr' + 16 ≤ cr2 → Callers h store t k (frame_at number m pc ws st ∷ fs) slots cr2

  -- The machine stands for a configuration, with so many rows that are paid for.
  pub data Stands (z : List Word) : Config → Course → ℕ → Type 0 where
    -- a tree is about to begin, and its code as well
    st_at : {m : Method} {number : ℕ} {result k : Kind} {goal : Goal} {ys : List Known} {s : Scope} {env : Env} {t : Tree} {frames k' : Frames} {S : State} {log : List Note} {ws st : List Word} {floor : Slots} {fs : List Frame} {h : List Entity} {unit pc d cr cr' l : ℕ} {out : List ℕ} →
        Runs number m → CodeAt p K pool L m ys s k goal d pc t → Awaits m h S.store result (behind t ys) s env k goal frames st cr k' → Held h S.store K.symbol ys s env S.slots floor ws → Extends floor S.slots → length ws ≡ m.locals → m.locals ≤ 65535 → places st + d ≤ m.stack
        → Callers h S.store result k' fs floor cr' → UnitThere h unit → cr + cr' + 16 ≤ l → out ≡ written_by log → Stands z (at (tree_task t env) frames S log) (going (state (frame_at number m pc ws st) fs h z unit) out) l
    -- both have ended, alike
    st_over : {v : Value} {S : State} {log : List Note} {s : MachineState} {out : List ℕ} {l : ℕ} → out ≡ written_by log → Stands z (over (gives v) S log) (halted returned s out) l
    st_thrown : {v : Value} {S : State} {log : List Note} {s : MachineState} {r : ℕ} {out : List ℕ} {l : ℕ} → out ≡ written_by log → exception_at L s.heap.objects r ≡ thrown_end p.table v S → Stands z (over (throws v) S log) (halted (uncaught r) s out) l
