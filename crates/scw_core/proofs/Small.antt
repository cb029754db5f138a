-- Small programs, written as core trees: one object whose methods are given.
use Rattle.std.proofs.Common.{ℕ, ◌+◌, List, [], ◌∷◌, false, Some, None, codes, lit≤}
use Rattle.scw_text.specs.declared.number.SymId.{SymId}
use Rattle.scw_text.specs.declared.number.TypeId.{TypeId}
use Rattle.scw_text.specs.declared.span.Span.{Span}
use Rattle.scw_core.specs.declared.symbol.TheConstants.{ANY, ANY_REF}
use Rattle.scw_core.specs.declared.class.Access.TheVariants.{Public}
use Rattle.scw_core.specs.declared.class.BodyKind.{BodyKind}
use Rattle.scw_core.specs.declared.class.BodyKind.TheVariants.{Written}
use Rattle.scw_core.specs.declared.class.ClassKind.{ClassKind}
use Rattle.scw_core.specs.declared.class.ClassKind.TheVariants.{Object}
use Rattle.scw_core.specs.declared.class.CoreClass.{CoreClass}
use Rattle.scw_core.specs.declared.class.Member.{Member}
use Rattle.scw_core.specs.declared.class.MemberKind.{MemberKind}
use Rattle.scw_core.specs.declared.class.MemberKind.TheVariants.{Def}
use Rattle.scw_core.specs.declared.class.Modifiers.{Modifiers}
use Rattle.scw_core.specs.declared.class.OverridePair.{OverridePair}
use Rattle.scw_core.specs.declared.class.Parameter.{Parameter}
use Rattle.scw_core.specs.declared.operator.Literal.TheVariants as literal
use Rattle.scw_core.specs.declared.operator.Op.{Op}
use Rattle.scw_core.specs.declared.operator.Op.TheVariants as op
use Rattle.scw_core.specs.declared.operator.Primitive.{Primitive}
use Rattle.scw_core.specs.declared.operator.Primitive.TheVariants as prim
use Rattle.scw_core.specs.declared.operator.RunMethod.TheVariants.{Print}
use Rattle.scw_core.specs.declared.program.Head.{Head}
use Rattle.scw_core.specs.declared.program.PreludeSymbols.{PreludeSymbols}
use Rattle.scw_core.specs.declared.program.SymKind.TheVariants as symbol
use Rattle.scw_core.specs.declared.tree.NodeInfo.{NodeInfo}
use Rattle.scw_core.specs.Types.{Name, CoreType, erased_type, void, int, unit_ref, ref, arr}
use Rattle.scw_core.specs.Tree.{Tree, Trees, none, more, strict}
use Rattle.scw_core.specs.Program.{Table, Template, Program}

abbrev pub sym : ℕ → SymId
sym n = record { 0 = n }

abbrev pub type : ℕ → TypeId
type n = record { 0 = n }

abbrev pub nowhere : Span
nowhere = record { file = 0; start = 0; end = 0; ordered = lit≤ tt }

abbrev pub here : NodeInfo
here = record { span = nowhere; type_id = type 0 }

-- ---- the table

abbrev pub types : List CoreType
types =
    erased_type int ∷ erased_type void ∷ erased_type (arr (ref (sym 10))) ∷ erased_type unit_ref ∷ erased_type (ref (sym 10)) ∷
    erased_type (ref (sym 2)) ∷ erased_type (ref (sym 14)) ∷ erased_type (arr int) ∷ erased_type (ref (sym 92)) ∷ erased_type (arr (ref (sym 2))) ∷ []

abbrev pub int_type : TypeId
int_type = type 0

abbrev pub void_type : TypeId
void_type = type 1

abbrev pub strings_type : TypeId
strings_type = type 2

abbrev pub string_type : TypeId
string_type = type 4

abbrev pub object_type : TypeId
object_type = type 5

abbrev pub exception_type : TypeId
exception_type = type 6

abbrev pub unmodified : Modifiers
unmodified = record {
  access = Public;
  is_of_this = false;
  is_abstract = false;
  is_final = false;
  is_sealed = false;
  is_override = false;
  is_implicit = false;
  is_case = false;
  is_generated = false;
}

abbrev pub parameter : ℕ → TypeId → Parameter
parameter n t = record { symbol = sym n; type_id = t; is_by_name = false }

abbrev pub member : ℕ → Name → MemberKind → List Parameter → TypeId → BodyKind → Member
member n name kind xs t body = record {
  symbol = sym n;
  name = name;
  name_span = nowhere;
  kind = kind;
  modifiers = unmodified;
  is_static = false;
  block = None;
  type_parameters = [];
  parameters = xs;
  type_id = t;
  result = t;
  overrides = [];
  body = body;
}

abbrev pub method : ℕ → Name → List Parameter → TypeId → Member
method n name xs t = member n name Def xs t Written

-- A class with its symbol, its name, kind, linearisation, pairs, parameters and members. The next symbol is its `this`.
abbrev pub class_of : ℕ → Name → ClassKind → List SymId → List OverridePair → List Parameter → List Member → CoreClass
class_of n name kind line pairs xs ms = record {
  symbol = sym n;
  name_span = nowhere;
  binary_name = name;
  kind = kind;
  modifiers = unmodified;
  block = None;
  this = sym (n + 1);
  type_parameters = [];
  parameters = xs;
  parents = [];
  linearisation = line;
  override_pairs = pairs;
  members = ms;
}

-- the object Main, whose symbol is 40 and whose `this` is 41
abbrev pub main_class : List Member → CoreClass
main_class ms = class_of 40 (codes "Main$") Object (sym 40 ∷ ANY_REF ∷ ANY ∷ []) [] [] ms

abbrev pub main_head : Head
main_head = record { symbol = sym 40; name = codes "Main"; kind = symbol.Object; owner = None; upper = type 0 }

-- the classes of functions are 90 and 92, and the field of Some is 95
abbrev pub prelude : PreludeSymbols
prelude = record { functions = record { class = sym 90; apply = sym 91 } ∷ record { class = sym 92; apply = sym 93 } ∷ []; some_value = Some (sym 95) }

-- the class 58 stands in the class 56
abbrev pub inner_head : Head
inner_head = record { symbol = sym 58; name = codes "O.I"; kind = symbol.Class; owner = Some (sym 56); upper = type 0 }

abbrev pub texts : List (List ℕ)
texts = [] ∷ codes "\n" ∷ codes "f" ∷ codes "a" ∷ codes "b" ∷ codes "x" ∷ codes "once" ∷ codes "one" ∷ codes "nc" ∷ codes "A/fun" ∷ codes "A.fun" ∷ []

abbrev pub table : List CoreClass → Table
table ks = record { classes = ks; heads = main_head ∷ inner_head ∷ []; types = types; texts = texts; prelude = prelude }

abbrev pub empty_template : Template
empty_template = record { prefixes = []; arguments = none; statements = none }

-- ---- trees

abbrev pub node : Op → Trees → Tree
node o ts = strict here o ts

abbrev pub one : Tree → Trees
one t = more t none

abbrev pub two : Tree → Tree → Trees
two t u = more t (one u)

abbrev pub number : ℕ → Tree
number n = node (op.Literal (literal.Int n)) none

abbrev pub text : ℕ → Tree
text n = node (op.Literal (literal.String (record { 0 = n }))) none

abbrev pub local : ℕ → Tree
local n = node (op.Local (sym n)) none

abbrev pub set : ℕ → Tree → Tree
set n t = node (op.SetLocal (sym n)) (one t)

abbrev pub apply : Primitive → Tree → Tree → Tree
apply o a b = node (op.Primitive o) (two a b)

abbrev pub concat : Tree → Tree → Tree
concat a b = apply prim.Concatenate a b

-- `println(e)`: the text of e and a line feed are put
abbrev pub print_line : Tree → Tree
print_line e = node (op.Run Print) (one (concat (concat (text 0) e) (text 1)))

-- `this.m(e)`
abbrev pub call : ℕ → Tree → Tree
call m e = node (op.Call (sym m)) (two (local 41) e)

abbrev pub main_object : Tree
main_object = node (op.Module (sym 40)) (one (node (op.Literal literal.Unit) none))

-- classes with the bodies of their members and their own templates, and the object Main
abbrev pub program_of : List CoreClass → List (SymId × Tree) → List (SymId × Template) → Program
program_of ks bodies templates =
    record { table = table ks; bodies = bodies; templates = templates; entries = (sym 40, main_object) ∷ [] }

abbrev pub program : List Member → List (SymId × Tree) → Program
program ms bodies = program_of (main_class ms ∷ []) bodies ((sym 40, empty_template) ∷ [])
