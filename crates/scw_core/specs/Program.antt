-- A core program as definitions see it: a table of its classes and types, and beside it the trees.
use Rattle.std.specs.Prelude.{ℕ, List, [], ◌∷◌, Option, Some, None, cond, map, find, option_map, slice_get}
use Rattle.scw_text.specs.declared.number.SymId.{SymId}
use Rattle.scw_text.specs.declared.number.TypeId.{TypeId}
use Rattle.scw_core.specs.declared.class.CoreClass.{CoreClass}
use Rattle.scw_core.specs.declared.class.Member.{Member}
use Rattle.scw_core.specs.declared.class.Parameter.{Parameter}
use Rattle.scw_core.specs.declared.operator.TextId.{TextId}
use Rattle.scw_core.specs.declared.program.Head.{Head}
use Rattle.scw_core.specs.declared.program.PreludeSymbols.{PreludeSymbols}
use Rattle.scw_core.specs.Types.{CoreType, same_symbol}
use Rattle.scw_core.specs.Tree.{Tree, Trees}

-- all of a program but its trees
pub record Table : Type 0 where
  pub classes : List CoreClass
  pub heads : List Head
  pub types : List CoreType
  -- the texts of literals, by their UTF-16 units
  pub texts : List (List ℕ)
  pub prelude : PreludeSymbols

-- what a class does when an object is made
pub record Template : Type 0 where
  -- the instances through which parents are named that stand in classes
  pub prefixes : List (SymId × Tree)
  -- the arguments of the superclass's constructor
  pub arguments : Trees
  -- the class's own statements
  pub statements : Trees

pub record Program : Type 0 where
  pub table : Table
  -- the bodies, by their members
  pub bodies : List (SymId × Tree)
  -- the templates, by their classes
  pub templates : List (SymId × Template)
  -- for an object, or a class that runs can begin with, the tree that gives an object
  pub entries : List (SymId × Tree)

-- ---- what a symbol or a number leads to

-- the first that stands beside the symbol
unfoldable pub look : {A : Type 0} → List (SymId × A) → SymId → Option A
look [] s = None
look (x ∷ xs) s = cond (same_symbol x.0 s) (Some x.1) (look xs s)

unfoldable pub class_of : Table → SymId → Option CoreClass
class_of p c = find (λ (k : CoreClass). same_symbol k.symbol c) p.classes

unfoldable pub head_of : Table → SymId → Option Head
head_of p s = find (λ (h : Head). same_symbol h.symbol s) p.heads

unfoldable pub type_at : Table → TypeId → Option CoreType
type_at p t = slice_get p.types t.0

unfoldable pub text_at : Table → TextId → Option (List ℕ)
text_at p t = slice_get p.texts t.0

-- a member, with the class that defines it
pub record Defined : Type 0 where
  pub class : SymId
  pub member : Member

-- the first of two, if it is there
abbrev pub first_some : {A : Type 0} → Option A → Option A → Option A
first_some None b = b
first_some (Some a) b = Some a

abbrev pub in_members : List Member → SymId → Option Member
in_members ms m = find (λ (x : Member). same_symbol x.symbol m) ms

unfoldable pub in_classes : List CoreClass → SymId → Option Defined
in_classes [] m = None
in_classes (k ∷ ks) m = first_some (option_map (λ (x : Member). record { class = k.symbol; member = x }) (in_members k.members m)) (in_classes ks m)

-- the member of a symbol, wherever it stands
abbrev pub member_of : Table → SymId → Option Defined
member_of p m = in_classes p.classes m

-- the locals that the parameters are
abbrev pub locals_of : List Parameter → List SymId
locals_of xs = map (λ (x : Parameter). x.symbol) xs

-- the local that is the `this` of a class
abbrev pub this_of : Option CoreClass → SymId → SymId
this_of None c = c
this_of (Some k) c = k.this
