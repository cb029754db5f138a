-- Core trees with their types, and the nodes that the small language needs.
use Rattle.std.specs.Prelude.{ℕ, Bool, List, [], ◌∷◌, ◌++◌}
use denote.Enum.Bare.{sameb}
use Rattle.scw_text.specs.declared.number.SymId.{SymId}
use Rattle.scw_core.specs.declared.operator.Literal.TheVariants as literal
use Rattle.scw_core.specs.declared.operator.Op.{Op}
use Rattle.scw_core.specs.declared.operator.Op.TheVariants as op
use Rattle.scw_core.specs.declared.operator.Primitive.TheVariants as primitive
use Rattle.scw_core.specs.declared.operator.RunMethod.TheVariants.{Print}
use Rattle.scw_core.specs.declared.tree.Local.{Local}
use Rattle.scw_core.specs.declared.tree.NodeInfo.{NodeInfo}
use Rattle.scw_core.specs.Tree.{Tree, Trees, none, more, strict, block, if_else, while_do}
use Rattle.scw_core.specs.TreeOf.{trees_of}
use Rattle.scw_reader.specs.contracts.tree.TypeName as type_name
use Rattle.scw_reader.specs.declared.tree.TypeName.{TypeName}
use Rattle.scw_reader.specs.declared.tree.TypeName.TheVariants as type
use Rattle.scw_small.specs.Symbol.{nowhere, kind_id}
use Rattle.scw_small.specs.declared.symbol.TheConstants.{MAIN_THIS, MAIN_ID}

-- two types that are written are one
abbrev pub same_kind : TypeName → TypeName → Bool
same_kind = sameb type_name.the_type

-- a tree, and the type of its value
pub record Typed : Type 0 where
  pub kind : TypeName
  pub tree : Tree

abbrev pub info : TypeName → NodeInfo
info t = record { span = nowhere; type_id = kind_id t }

abbrev pub one : Tree → Trees
one a = more a none

abbrev pub two : Tree → Tree → Trees
two a b = more a (one b)

-- ---- nodes with an operator

abbrev pub leaf : TypeName → Op → Typed
leaf t o = record { kind = t; tree = strict (info t) o none }

abbrev pub unary : TypeName → Op → Tree → Typed
unary t o a = record { kind = t; tree = strict (info t) o (one a) }

abbrev pub binary : TypeName → Op → Tree → Tree → Typed
binary t o a b = record { kind = t; tree = strict (info t) o (two a b) }

abbrev pub truth : Bool → Typed
truth b = leaf type.Boolean (op.Literal (literal.Boolean b))

abbrev pub text : ℕ → Typed
text n = leaf type.String (op.Literal (literal.String (record { 0 = n })))

-- `this`
abbrev pub this : Tree
this = strict (record { span = nowhere; type_id = MAIN_ID }) (op.Local MAIN_THIS) none

abbrev pub concatenated : Tree → Tree → Tree
concatenated a b = (binary type.String (op.Primitive primitive.Concatenate) a b).tree

-- `println(e)` (SLS 12.5 has it in `Predef`): the text of e and a line feed are put. The texts 0 and 1 are `""` and a line
-- feed in each program.
abbrev pub printed : Typed → Typed
printed t = unary type.Unit (op.Run Print) (concatenated (concatenated (text 0).tree t.tree) (text 1).tree)

-- `x = e`, and the definition of a local (SLS 4.1, 4.2, 6.15)
abbrev pub set : SymId → Tree → Typed
set x a = unary type.Unit (op.SetLocal x) a

-- ---- nodes of other forms

-- `if (a) b else c` (SLS 6.16), and `a && b` and `a || b` (SLS 6.12.3, 12.2.2) as such a node
abbrev pub conditional : TypeName → Tree → Tree → Tree → Typed
conditional t a b c = record { kind = t; tree = if_else (info t) a b c }

-- `while (a) b` (SLS 6.17)
abbrev pub loop : Tree → Tree → Typed
loop a b = record { kind = type.Unit; tree = while_do (info type.Unit) a b }

-- what a block has so far: its locals, and its statements
pub record Body : Type 0 where
  pub locals : List Local
  pub trees : List Tree

-- `{ s; .. e }` (SLS 6.11)
abbrev pub blocked : Body → Typed → Typed
blocked b t = record { kind = t.kind; tree = block (info t.kind) b.locals (trees_of (b.trees ++ t.tree ∷ [])) }

-- `m(e, ..)`: the object itself is the receiver (SLS 6.6)
abbrev pub call : SymId → TypeName → List Tree → Typed
call m t as' = record { kind = t; tree = strict (info t) (op.Call m) (trees_of as') }
