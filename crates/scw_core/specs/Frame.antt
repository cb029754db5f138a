-- What a run consists of: tasks, which begin; frames, which wait for one; notes, which are left in a log; and what an
-- operator's action comes to.
use Rattle.std.specs.Prelude.{ℕ, List, [], ◌∷◌, ◌++◌, Bool, true, false, Option, Some, None}
use Rattle.scw_text.specs.declared.number.SymId.{SymId}
use Rattle.scw_text.specs.declared.number.TypeId.{TypeId}
use Rattle.scw_core.specs.declared.operator.Op.{Op}
use Rattle.scw_core.specs.Types.{Erased}
use Rattle.scw_core.specs.Tree.{Tree, Trees, Pattern, Patterns, Cases}
use Rattle.scw_core.specs.State.{Value, Env, State}

-- how a node ends
pub data Outcome : Type 0 where
  gives : Value → Outcome
  throws : Value → Outcome
  -- an exit of a label, with its value
  exits : SymId → Value → Outcome

-- the slot of an object that is being made: the instance in which it stands or the unit value, and its symbol
abbrev pub Slot : Type 0
Slot = Option (Value × SymId)

-- what counts as a node when it begins
pub data Task : Type 0 where
  tree_task : Tree → Env → Task
  pattern_task : Pattern → Value → Env → Task
  -- a further part of the type of a typed pattern
  types_task : List TypeId → Value → Task
  -- the template of a class for the object with the number, with the constructor's arguments
  template_task : SymId → ℕ → List Value → Slot → Task
  -- the statements of a mixin
  mixin_task : SymId → ℕ → Task

-- what happens where no case fits
pub data Fallback : Type 0 where
  no_match : Fallback
  -- the exception goes on
  rethrow : Value → Fallback

-- what follows the prefixes of a template
pub data Start : Type 0 where
  class_start : SymId → Slot → Start
  mixin_start : SymId → Start

-- What waits for a task that an action begins; it holds no tree. `returning`, `keeping`, `making` and `initialising`
-- are open calls, accesses, constructions and templates.
pub data Wait : Type 0 where
  -- a body, a function's or a by-name argument's; the value is coerced to the type, if one is there
  returning : Option Erased → Wait
  -- the value of `equals`, turned round
  negating : Wait
  -- the text of the first of two values, and that of the second
  text_first : Value → Wait
  text_second : List ℕ → Wait
  -- a lazy value of the object
  keeping : ℕ → SymId → Wait
  -- the object that is being made
  making : ℕ → Wait
  -- the template of a class
  initialising : SymId → Wait
  -- the object of a run, of which the member is called
  entering : SymId → Wait

pub data Frame : Type 0 where
  waits : Wait → Frame
  -- the operator, the values so far, and the operands to come
  operands : Op → List Value → Trees → Env → Frame
  in_block : Trees → Env → Frame
  and_test : Tree → Env → Frame
  or_test : Tree → Env → Frame
  if_test : Tree → Tree → Env → Frame
  while_test : Tree → Tree → Env → Frame
  while_body : Tree → Tree → Env → Frame
  switching : List ℕ → Trees → Tree → Env → Frame
  matching : Cases → Env → Frame
  -- the value, the case's guard and body, the cases to come, the environments of the case and around it
  case_pattern : Value → Trees → Tree → Cases → Env → Env → Fallback → Frame
  case_guard : Value → Tree → Cases → Env → Env → Fallback → Frame
  trying : Cases → Env → Frame
  before_finally : Trees → Env → Frame
  after_finally : Outcome → Frame
  labelled : SymId → Frame
  -- a prefix of the parent, the prefixes to come, and the object
  prefixes : SymId → List (SymId × Tree) → ℕ → Env → Start → Frame
  -- the class and its object, the values so far, and the superclass's arguments to come
  super_arguments : SymId → ℕ → List Value → Trees → Env → Slot → Frame
  super_done : SymId → ℕ → Env → Slot → Frame
  -- the mixins to come
  mixins : List SymId → SymId → ℕ → Env → Frame
  pattern_equal : Value → Frame
  pattern_same : Value → Frame
  pattern_parts : Patterns → List Value → Env → Frame
  pattern_alternative : Patterns → Value → Env → Frame
  pattern_extract : List SymId → Patterns → Env → Frame

abbrev pub Frames : Type 0
Frames = List Frame

pub data Note : Type 0 where
  -- bytes were put
  wrote : List ℕ → Note
  -- so many units of a heap were made (16 bytes each)
  made : ℕ → Note
  -- the body of a member begins that the class defines
  called : SymId → SymId → Note
  -- the own statements of a class begin
  began : SymId → Note

-- what an action comes to
pub data Act : Type 0 where
  -- the node has ended
  done : Outcome → State → Act
  -- something is noted before what comes
  noting : Note → Act → Act
  -- a task begins, for which these wait
  next : Task → List Wait → State → Act
  -- the node has no rule
  no_rule : Act

-- what a beginning or an end comes to
pub data Step : Type 0 where
  stays : Act → Step
  telling : Note → Step → Step
  -- a task begins, for which these wait
  push : Task → Frames → State → Step

-- ---- actions

abbrev pub give : Value → State → Act
give v s = done (gives v) s

abbrev pub or_no_rule : {A : Type 0} → Option A → (A → Act) → Act
or_no_rule None f = no_rule
or_no_rule (Some a) f = f a

abbrev pub or_stay : {A : Type 0} → Option A → (A → Step) → Step
or_stay None f = stays no_rule
or_stay (Some a) f = f a

abbrev pub by_bool : Bool → Act → Act → Act
by_bool true a b = a
by_bool false a b = b

abbrev pub step_by_bool : Bool → Step → Step → Step
step_by_bool true a b = a
step_by_bool false a b = b

-- Goes on with the value that an action gives. Where a task begins first, the wait stands for what is to be done.
unfoldable pub under : Act → Wait → (Value → State → Act) → Act
under (done (gives v) s) w f = f v s
under (done (throws v) s) w f = done (throws v) s
under (done (exits k v) s) w f = done (exits k v) s
under (noting n a) w f = noting n (under a w f)
under (next t ws s) w f = next t (ws ++ w ∷ []) s
under no_rule w f = no_rule

-- an action that is to give a value at once, as one that coerces
unfoldable pub with_given : Act → (Value → State → Act) → Act
with_given (done (gives v) s) f = f v s
with_given (done (throws v) s) f = done (throws v) s
with_given (done (exits k v) s) f = done (exits k v) s
with_given (noting n a) f = noting n (with_given a f)
with_given (next t ws s) f = no_rule
with_given no_rule f = no_rule

-- ---- operands, of which there are as many as the operator takes

abbrev pub none_of : List Value → Act → Act
none_of [] a = a
none_of (v ∷ vs) a = no_rule

abbrev pub one_of : List Value → (Value → Act) → Act
one_of [] f = no_rule
one_of (v ∷ vs) f = none_of vs (f v)

abbrev pub two_of : List Value → (Value → Value → Act) → Act
two_of [] f = no_rule
two_of (v ∷ vs) f = one_of vs (f v)

abbrev pub three_of : List Value → (Value → Value → Value → Act) → Act
three_of [] f = no_rule
three_of (v ∷ vs) f = two_of vs (f v)

-- one and more
abbrev pub some_of : List Value → (Value → List Value → Act) → Act
some_of [] f = no_rule
some_of (v ∷ vs) f = f v vs
