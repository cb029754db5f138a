-- Which trees have code: those whose operators take operands of the kinds that their instructions take, and that read no
-- local before it is set. The kind of a tree's value is also that of the type that its node tells (SLS 6.1).
use Rattle.std.specs.Prelude.{ℕ, ◌^◌, List, [], ◌∷◌, Bool, true, false, cond, ◌&&◌, nat_eq, nat_lt, Option, Some, None}
use Rattle.scw_text.specs.declared.number.SymId.{SymId}
use Rattle.scw_text.specs.declared.number.TypeId.{TypeId}
use Rattle.scw_core.specs.Program.{in_members, look, text_at}
use Rattle.scw_core.specs.Tree.{Tree, Trees, strict, block, and_also, or_else, if_else, while_do, function, thunk, match_on, try_in, label, switch, none, more}
use Rattle.scw_core.specs.Types.{same_symbol}
use Rattle.scw_core.specs.declared.class.Member.{Member}
use Rattle.scw_core.specs.declared.class.Parameter.{Parameter}
use Rattle.scw_core.specs.declared.operator.Literal.{Literal}
use Rattle.scw_core.specs.declared.operator.Literal.TheVariants as literal
use Rattle.scw_core.specs.declared.operator.Logic.{Logic}
use Rattle.scw_core.specs.declared.operator.Logic.TheVariants as logic
use Rattle.scw_core.specs.declared.operator.Op.{Op}
use Rattle.scw_core.specs.declared.operator.Op.TheVariants as op
use Rattle.scw_core.specs.declared.operator.Primitive.{Primitive}
use Rattle.scw_core.specs.declared.operator.Primitive.TheVariants as primitive
use Rattle.scw_core.specs.declared.tree.Local.{Local}
use Rattle.scw_gen.specs.Outcome.{◌>>=◌}
use Rattle.scw_gen.specs.Around.{Around, kind_in}
use Rattle.scw_gen.specs.Method.{is_method, local_of}
use Rattle.scw_gen.specs.Name.{kind_of_parameter}
use Rattle.scw_gen.specs.Operator.{kind_of_width}
use Rattle.scw_gen.specs.declared.kind.Kind.{Kind}
use Rattle.scw_gen.specs.declared.kind.Kind.TheVariants as kind
use Rattle.scw_gen.specs.declared.typed.Known as rust

-- a local that is bound: what its value is, and whether it has one by now
pub record Known : Type 0 where
  pub symbol : SymId
  pub kind : Kind
  pub is_set : Bool

abbrev pub known_of : rust.Known → Known
known_of x = record { symbol = x.symbol; kind = x.kind; is_set = x.is_set }

-- the number of the kind
abbrev pub rank : Kind → ℕ
rank kind.Unit = 0
rank kind.Boolean = 1
rank kind.Int = 2
rank kind.Long = 3
rank kind.String = 4
rank kind.Strings = 5
rank kind.This = 6

abbrev pub same_kind : Kind → Kind → Bool
same_kind a b = nat_eq (rank a) (rank b)

-- the kind, where the other one is the same
abbrev pub exactly : Kind → Option Kind → Option Kind
exactly k None = None
exactly k (Some l) = cond (same_kind k l) (Some k) None

abbrev pub same_kinds : List Kind → List Kind → Bool
same_kinds [] [] = true
same_kinds [] (l ∷ ls) = false
same_kinds (k ∷ ks) [] = false
same_kinds (k ∷ ks) (l ∷ ls) = same_kind k l && same_kinds ks ls

-- the kind of an operator's value, where its operands are of these kinds
abbrev pub taking : List Kind → List Kind → Kind → Option Kind
taking wanted ks k = cond (same_kinds wanted ks) (Some k) None

-- a value of the kind has a text
abbrev pub has_text : Kind → Bool
has_text kind.Unit = true
has_text kind.Boolean = true
has_text kind.Int = true
has_text kind.Long = true
has_text kind.String = true
has_text kind.Strings = false
has_text kind.This = false

unfoldable pub known : List Known → SymId → Option Known
known [] x = None
known (y ∷ ys) x = cond (same_symbol y.symbol x) (Some y) (known ys x)

abbrev pub is_bound : Option Known → Bool
is_bound None = false
is_bound (Some y) = true

-- with locals more, the last of which comes first; none has the symbol of one that is bound
unfoldable pub bound : Around → List Local → List Known → Option (List Known)
bound g [] ys = Some ys
bound g (x ∷ xs) ys =
    cond (is_bound (known ys x.symbol)) None
    (kind_in g x.type_id >>= λ k. bound g xs (record { symbol = x.symbol; kind = k; is_set = false } ∷ ys))

-- the local has a value from here on
unfoldable pub marked : SymId → List Known → List Known
marked x [] = []
marked x (y ∷ ys) = cond (same_symbol y.symbol x) (record y { is_set = true } ∷ ys) (y ∷ marked x ys)

-- behind an operator
abbrev pub behind_op : Op → List Known → List Known
behind_op (op.SetLocal x) ys = marked x ys
behind_op _ ys = ys

-- behind a statement
abbrev pub behind : Tree → List Known → List Known
behind (strict i o ts) ys = behind_op o ys
behind _ ys = ys

abbrev pub kind_of_text : Option (List ℕ) → Option Kind
kind_of_text None = None
kind_of_text (Some us) = Some kind.String

abbrev pub kind_of_literal : Around → Literal → Option Kind
kind_of_literal g literal.Unit = Some kind.Unit
kind_of_literal g (literal.Boolean b) = Some kind.Boolean
kind_of_literal g (literal.Char c) = None
kind_of_literal g (literal.Int n) = cond (nat_lt n (2 ^ 32)) (Some kind.Int) None
kind_of_literal g (literal.Long n) = cond (nat_lt n (2 ^ 64)) (Some kind.Long) None
kind_of_literal g literal.Null = None
kind_of_literal g (literal.String t) = kind_of_text (text_at g.table t)

-- a local is read that has a value
abbrev pub kind_of_read : Option Known → Option Kind
kind_of_read None = None
kind_of_read (Some y) = cond y.is_set (Some y.kind) None

abbrev pub kind_of_set : Option Known → List Kind → Option Kind
kind_of_set None ks = None
kind_of_set (Some y) ks = taking (y.kind ∷ []) ks kind.Unit

-- the kinds of parameters, none of which is by name
abbrev pub kinds_of_parameters : Around → List Parameter → Option (List Kind)
kinds_of_parameters g [] = Some []
kinds_of_parameters g (x ∷ xs) = kind_of_parameter g x >>= λ k. kinds_of_parameters g xs >>= λ ks. Some (k ∷ ks)

abbrev pub kind_of_call_by : Around → Member → List Kind → Option Kind
kind_of_call_by g m ks = kinds_of_parameters g m.parameters >>= λ ps. kind_in g m.result >>= taking (kind.This ∷ ps) ks

abbrev pub kind_of_call : Around → List Kind → Option Member → Option Kind
kind_of_call g ks None = None
kind_of_call g ks (Some m) = cond (is_method m) (kind_of_call_by g m ks) None

abbrev pub kind_of_logic : Logic → List Kind → Option Kind
kind_of_logic logic.And ks = None
kind_of_logic logic.Or ks = None
kind_of_logic logic.Xor ks = None
kind_of_logic logic.Equal ks = taking (kind.Boolean ∷ kind.Boolean ∷ []) ks kind.Boolean
kind_of_logic logic.NotEqual ks = taking (kind.Boolean ∷ kind.Boolean ∷ []) ks kind.Boolean

abbrev pub kind_of_joined : List Kind → Option Kind
kind_of_joined (k ∷ l ∷ []) = cond (has_text k && has_text l) (Some kind.String) None
kind_of_joined _ = None

abbrev pub kind_of_primitive : Primitive → List Kind → Option Kind
kind_of_primitive (primitive.Arithmetic w o) ks = taking (kind_of_width w ∷ kind_of_width w ∷ []) ks (kind_of_width w)
kind_of_primitive (primitive.Division w o) ks = taking (kind_of_width w ∷ kind_of_width w ∷ []) ks (kind_of_width w)
kind_of_primitive (primitive.Comparison w c) ks = taking (kind_of_width w ∷ kind_of_width w ∷ []) ks kind.Boolean
kind_of_primitive (primitive.Logic l) ks = kind_of_logic l ks
kind_of_primitive primitive.Concatenate ks = kind_of_joined ks
kind_of_primitive _ ks = None

abbrev pub kind_of_leaf : List Kind → Option Kind → Option Kind
kind_of_leaf [] k = k
kind_of_leaf (l ∷ ls) k = None

abbrev pub kind_of_op : Around → List Known → Op → List Kind → Option Kind
kind_of_op g ys (op.Literal l) ks = kind_of_leaf ks (kind_of_literal g l)
kind_of_op g ys (op.Local x) ks = kind_of_leaf ks (kind_of_read (known ys x))
kind_of_op g ys (op.SetLocal x) ks = kind_of_set (known ys x) ks
kind_of_op g ys (op.Call x) ks = kind_of_call g ks (in_members g.class.members x)
kind_of_op g ys (op.Primitive o) ks = kind_of_primitive o ks
kind_of_op g ys (op.Run r) ks = taking (kind.String ∷ []) ks kind.Unit
kind_of_op g ys _ ks = None

-- the kind of a tree, where it is that of the type that its node tells
abbrev pub as_told : Around → TypeId → Kind → Option Kind
as_told g t k = exactly k (kind_in g t)

-- the kind of a choice
abbrev pub kind_of_choice : Option Kind → Option Kind → Option Kind → Option Kind
kind_of_choice a b c = exactly kind.Boolean a >>= λ _. c >>= λ k. exactly k b

-- the kind of a block whose last statement is of the kind
abbrev pub kind_at_end : Trees → Option Kind → Kind → Option Kind
kind_at_end none last k = Some k
kind_at_end (more t ts) rest k = rest

unfoldable mutual
  pub kind_of_tree : Around → List Known → Tree → Option Kind
  kind_of_tree g ys (strict i o ts) = kinds_of_trees g ys ts >>= λ ks. kind_of_op g ys o ks >>= as_told g i.type_id
  kind_of_tree g ys (block i xs ts) = bound g xs ys >>= λ inner. kind_of_statements g inner ts >>= as_told g i.type_id
  kind_of_tree g ys (and_also i a b) = None
  kind_of_tree g ys (or_else i a b) = None
  kind_of_tree g ys (if_else i a b c) = kind_of_choice (kind_of_tree g ys a) (kind_of_tree g ys b) (kind_of_tree g ys c) >>= as_told g i.type_id
  kind_of_tree g ys (while_do i a b) = exactly kind.Boolean (kind_of_tree g ys a) >>= λ _. kind_of_tree g ys b >>= λ _. as_told g i.type_id kind.Unit
  kind_of_tree g ys (function i name xs a) = None
  kind_of_tree g ys (thunk i a) = None
  kind_of_tree g ys (match_on i a cs) = None
  kind_of_tree g ys (try_in i a cs fin) = None
  kind_of_tree g ys (label i k a) = None
  kind_of_tree g ys (switch i a ks ts d) = None

  pub kinds_of_trees : Around → List Known → Trees → Option (List Kind)
  kinds_of_trees g ys none = Some []
  kinds_of_trees g ys (more t ts) = kind_of_tree g ys t >>= λ k. kinds_of_trees g ys ts >>= λ ks. Some (k ∷ ks)

  -- the kind of the last statement
  pub kind_of_statements : Around → List Known → Trees → Option Kind
  kind_of_statements g ys none = Some kind.Unit
  kind_of_statements g ys (more t ts) = kind_of_tree g ys t >>= kind_at_end ts (kind_of_statements g (behind t ys) ts)

abbrev pub this_known : Around → Known
this_known g = record { symbol = g.class.this; kind = kind.This; is_set = true }

-- the parameters have values
abbrev pub all_set : List Known → List Known
all_set [] = []
all_set (y ∷ ys) = record y { is_set = true } ∷ all_set ys

abbrev pub locals_of : List Parameter → List Local
locals_of [] = []
locals_of (x ∷ xs) = local_of x ∷ locals_of xs

abbrev pub known_in_body : Around → Member → Option (List Known)
known_in_body g m = bound g (locals_of m.parameters) (this_known g ∷ []) >>= λ ys. Some (all_set ys)

abbrev pub told : Option Kind → Option Kind → Bool
told None l = false
told (Some k) None = false
told (Some k) (Some l) = same_kind k l

abbrev pub is_body_typed : Around → Member → Tree → Bool
is_body_typed g m t = told (known_in_body g m >>= λ ys. kind_of_tree g ys t) (kind_in g m.result)

abbrev pub is_typed_by : Around → Member → Option Tree → Bool
is_typed_by g m None = false
is_typed_by g m (Some t) = is_body_typed g m t

-- the body of the method has the kind of its result
abbrev pub is_typed : Around → List (SymId × Tree) → Member → Bool
is_typed g bodies m = is_typed_by g m (look bodies m.symbol)

-- the symbols of members rise, so that no two are one
abbrev pub rises : List Member → Member → Bool
rises [] m = true
rises (n ∷ ns) m = nat_lt m.symbol.0 n.symbol.0

unfoldable pub is_well_typed : Around → List (SymId × Tree) → List Member → Bool
is_well_typed g bodies [] = true
is_well_typed g bodies (m ∷ ms) = is_typed g bodies m && rises ms m && is_well_typed g bodies ms
