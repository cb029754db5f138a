-- The program of a source (SLS 5.4, 9.5): the object `Main`, its methods in their order, and the class that has them.
use Rattle.std.specs.Prelude.{ℕ, false, List, [], ◌∷◌, ◌++◌, Option, Some, None, map, codes}
use Rattle.scw_text.specs.declared.number.SymId.{SymId}
use Rattle.scw_text.specs.declared.number.TypeId.{TypeId}
use Rattle.scw_core.specs.declared.symbol.TheConstants.{ANY, ANY_REF}
use Rattle.scw_core.specs.declared.class.Access.TheVariants.{Public}
use Rattle.scw_core.specs.declared.class.BodyKind.TheVariants.{Written}
use Rattle.scw_core.specs.declared.class.ClassKind.TheVariants as class
use Rattle.scw_core.specs.declared.class.CoreClass.{CoreClass}
use Rattle.scw_core.specs.declared.class.Member.{Member}
use Rattle.scw_core.specs.declared.class.MemberKind.TheVariants.{Def}
use Rattle.scw_core.specs.declared.class.Modifiers.{Modifiers}
use Rattle.scw_core.specs.declared.class.Parameter.{Parameter}
use Rattle.scw_core.specs.declared.operator.Literal.TheVariants as literal
use Rattle.scw_core.specs.declared.operator.Op.TheVariants as op
use Rattle.scw_core.specs.declared.program.Head.{Head}
use Rattle.scw_core.specs.declared.program.PreludeSymbols.{PreludeSymbols}
use Rattle.scw_core.specs.declared.program.SymKind.TheVariants as symbol
use Rattle.scw_core.specs.Tree.{Tree, none, strict}
use Rattle.scw_core.specs.Program.{Program, Table, Template}
use Rattle.scw_core.specs.Types.{CoreType}
use Rattle.scw_reader.specs.declared.tree.Parameter.{Parameter as Written_parameter}
use Rattle.scw_reader.specs.declared.tree.TypeName.{TypeName}
use Rattle.scw_reader.specs.declared.tree.TypeName.TheVariants as type
use Rattle.scw_reader.specs.Syntax.{Expression, Method, Source}
use Rattle.scw_small.specs.declared.method.Outline.{Outline}
use Rattle.scw_small.specs.declared.scope.Signature.{Signature}
use Rattle.scw_small.specs.declared.symbol.TheConstants.{MAIN_OBJECT, MAIN_THIS, FIRST_OTHER, STRINGS_ID, ANY_REF_ID, MAIN_ID}
use Rattle.scw_small.specs.Symbol.{nowhere, kind_id, method_type, main_type, first_types}
use Rattle.scw_small.specs.Typed.{same_kind, one, leaf}
use Rattle.scw_small.specs.Step.{Named, State, Step, ◌>>=◌, ◌>>◌, pure, given, only_if, find_name, add_name, fresh, add_type, enter, define}
use Rattle.scw_small.specs.Typing.{expression}

-- ---- what can be called

abbrev pub kinds_of : List Written_parameter → List TypeName
kinds_of xs = map (λ (x : Written_parameter). x.kind) xs

abbrev pub signature : SymId → Method → Signature
signature n m = record { symbol = n; kinds = kinds_of m.parameters; answer = m.result }

-- No two methods have one name.
unfoldable pub add_signature : Named Signature → Method → Step (Named Signature)
add_signature table m = do
  n ← fresh
  given (add_name m.name (signature n m) table)

abbrev pub add_signatures : Named Signature → List Method → Step (Named Signature)
add_signatures table [] = pure table
add_signatures table (m ∷ ms) = add_signature table m >>= (λ t. add_signatures t ms)

-- ---- members

abbrev pub unmodified : Modifiers
unmodified = record {
  access = Public;
  is_of_this = false;
  is_abstract = false;
  is_final = false;
  is_sealed = false;
  is_override = false;
  is_implicit = false;
  is_case = false;
  is_generated = false;
}

abbrev pub parameter : SymId → TypeId → Parameter
parameter n t = record { symbol = n; type_id = t; is_by_name = false }

abbrev pub member : Outline → Member
member o = record {
  symbol = o.symbol;
  name = o.name;
  name_span = nowhere;
  kind = Def;
  modifiers = unmodified;
  is_static = false;
  block = None;
  type_parameters = [];
  parameters = o.parameters;
  type_id = o.type_id;
  result = o.answer;
  overrides = [];
  body = Written;
}

-- the parameters and the body of a method
pub record Bound : Type 0 where
  pub parameters : List Parameter
  pub tree : Tree

-- the members of the object so far, and their bodies
pub record Made : Type 0 where
  pub members : List Member
  pub bodies : List (SymId × Tree)

abbrev pub nothing_made : Made
nothing_made = record { members = []; bodies = [] }

abbrev pub and_made : Made → Outline → Tree → Made
and_made made o t = record { members = made.members ++ member o ∷ []; bodies = made.bodies ++ (o.symbol, t) ∷ [] }

-- ---- methods (SLS 4.6)

module _ (methods : Named Signature) where
  -- further parameters
  abbrev pub parameters : List Parameter → List Written_parameter → Step (List Parameter)
  parameters found [] = pure found
  parameters found (x ∷ xs) = define methods x.name x.kind false >>= (λ n. parameters (found ++ parameter n (kind_id x.kind) ∷ []) xs)

  -- all parameters of a method
  unfoldable pub clause : List Written_parameter → Step (List Parameter)
  clause xs = parameters [] xs

  -- Its parameters are visible in its body, which has the type of its result.
  unfoldable pub bound : Method → Step Bound
  bound m = do
    enter
    xs ← clause m.parameters
    t ← expression methods m.body
    only_if (same_kind t.kind m.result)
    pure (record { parameters = xs; tree = t.tree })

  -- a method whose symbol is known
  unfoldable pub method_with : Made → Method → SymId → Step Made
  method_with made m n = do
    x ← bound m
    of ← add_type (method_type m.parameters m.result)
    pure (and_made made (record { symbol = n; name = m.name; parameters = x.parameters; type_id = of; answer = kind_id m.result }) x.tree)

  abbrev pub method_by : Made → Method → Option Signature → Step Made
  method_by made m None = λ s. None
  method_by made m (Some g) = method_with made m g.symbol

  unfoldable pub method : Made → Method → Step Made
  method made m = method_by made m (find_name m.name methods)

  abbrev pub all_methods : Made → List Method → Step Made
  all_methods made [] = pure made
  all_methods made (m ∷ ms) = method made m >>= (λ x. all_methods x ms)

  -- `def main(args: Array[String]): Unit`
  unfoldable pub main_method : Made → Expression → SymId → Step Made
  main_method made e n = do
    enter
    args ← fresh
    t ← expression methods e
    only_if (same_kind t.kind type.Unit)
    of ← add_type main_type
    pure (and_made made (record { symbol = n; name = codes "main"; parameters = parameter args STRINGS_ID ∷ []; type_id = of; answer = kind_id type.Unit }) t.tree)

  unfoldable pub members : Source → SymId → Step Made
  members e main = do
    before ← all_methods nothing_made e.before
    with_main ← main_method before e.main main
    all_methods with_main e.after

-- ---- the program

abbrev pub main_class : List Member → CoreClass
main_class ms = record {
  symbol = MAIN_OBJECT;
  name_span = nowhere;
  binary_name = codes "Main$";
  kind = class.Object;
  modifiers = unmodified;
  block = None;
  this = MAIN_THIS;
  type_parameters = [];
  parameters = [];
  parents = ANY_REF_ID ∷ [];
  linearisation = MAIN_OBJECT ∷ ANY_REF ∷ ANY ∷ [];
  override_pairs = [];
  members = ms;
}

abbrev pub main_head : Head
main_head = record { symbol = MAIN_OBJECT; name = codes "Main"; kind = symbol.Object; owner = None; upper = MAIN_ID }

abbrev pub no_prelude : PreludeSymbols
no_prelude = record { functions = []; some_value = None }

abbrev pub empty_template : Template
empty_template = record { prefixes = []; arguments = none; statements = none }

-- the object, which is made at first use
abbrev pub main_object : Tree
main_object = strict (record { span = nowhere; type_id = MAIN_ID }) (op.Module MAIN_OBJECT) (one (leaf type.Unit (op.Literal literal.Unit)).tree)

abbrev pub table : List Member → List CoreType → List (List ℕ) → Table
table ms types texts = record { classes = main_class ms ∷ []; heads = main_head ∷ []; types = types; texts = texts; prelude = no_prelude }

abbrev pub templates : List (SymId × Template)
templates = (MAIN_OBJECT, empty_template) ∷ []

abbrev pub entries : List (SymId × Tree)
entries = (MAIN_OBJECT, main_object) ∷ []

abbrev pub program : Made → State → Program
program made s = record { table = table made.members s.types s.texts; bodies = made.bodies; templates = templates; entries = entries }

-- the texts 0 and 1
abbrev pub first_texts : List (List ℕ)
first_texts = [] ∷ codes "\n" ∷ []

abbrev pub beginning : State
beginning = record { next = FIRST_OTHER; types = first_types; texts = first_texts; names = []; scope = [] }

-- all methods can be called in each
unfoldable pub object : Source → Step Made
object e = do
  before ← add_signatures [] e.before
  main ← fresh
  methods ← add_signatures before e.after
  members methods e main

abbrev pub program_in : Option (Made × State) → Option Program
program_in None = None
program_in (Some r) = Some (program r.0 r.1)

-- the one program of a source, if it has one
unfoldable pub typed : Source → Option Program
typed e = program_in (object e beginning)
