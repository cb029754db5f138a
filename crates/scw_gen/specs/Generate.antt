-- The class file of a class: JVMS 4.1. `None` is a class, or a tree of it, of a form that has no code yet.
use Rattle.std.specs.Prelude.{ℕ, ◌-◌, ◌^◌, min, nat_eq, List, [], ◌∷◌, ◌++◌, Bool, true, false, not, cond, ◌&&◌, ◌||◌, map, ◌≡◌, Option, Some, None, Result, Ok, Err, codes}
use Rattle.std.specs.Cmp.Lexicographic.{pointwise}
use Rattle.std.specs.List.{list_all}
use Rattle.scw_text.specs.declared.number.SymId.{SymId}
use Rattle.scw_classfile.specs.Descriptor.{is_array, is_method}
use Rattle.scw_classfile.specs.declared.access_flags.AccessFlags.{AccessFlags}
use Rattle.scw_classfile.specs.declared.pool_entry.PoolEntry.{PoolEntry}
use Rattle.scw_classfile.specs.declared.class_file.Attribute.{Attribute, roll-Attribute}
use Rattle.scw_classfile.specs.declared.class_file.AttrBody.TheVariants as body
use Rattle.scw_classfile.specs.declared.class_file.Code.{roll-Code}
use Rattle.scw_classfile.specs.declared.class_file.MemberInfo.{MemberInfo}
use Rattle.scw_classfile.specs.declared.class_file.ClassFile.{ClassFile}
use Rattle.scw_code.specs.declared.instr.Instr as any
use Rattle.scw_core.specs.Entry.{is_top_object, none_of}
use Rattle.scw_core.specs.Program.{Program, Template, look}
use Rattle.scw_core.specs.Text.{units_of_name}
use Rattle.scw_core.specs.Tree.{Trees, none, more}
use Rattle.scw_core.specs.Types.{same_symbol}
use Rattle.scw_core.specs.declared.class.CoreClass.{CoreClass}
use Rattle.scw_core.specs.declared.symbol.TheConstants.{ANY, ANY_REF}
use Rattle.scw_gen.specs.Outcome.{◌>>=◌}
use Rattle.scw_gen.specs.Around.{Around}
use Rattle.scw_gen.specs.Excess.{excess_of}
use Rattle.scw_gen.specs.Method.{Method, method_of_rust, methods_of}
use Rattle.scw_gen.specs.Name.{get_name}
use Rattle.scw_gen.specs.Named.{encoded_from, with_instrs}
use Rattle.scw_gen.specs.Typed.{is_well_typed}
use Rattle.scw_gen.specs.Pool.{class_index, fits, found, utf8_index, with_class, with_utf8}
use Rattle.scw_gen.specs.declared.excess.Excess.{Excess}
use Rattle.scw_gen.specs.declared.fault.GenFault.{GenFault}
use Rattle.scw_gen.specs.declared.fault.GenFault.TheVariants.{TooLarge, NotBuilt, NoMemory}
use Rattle.scw_gen.specs.declared.fault.Large.{Large}
use Rattle.scw_gen.specs.declared.class_file.Made as rust
use Rattle.scw_gen.specs.declared.class_file.Names as rust_names

-- what code depends on, with near jumps
abbrev pub around : Program → CoreClass → List PoolEntry → Around
around p k pool = record { table = p.table; class = k; pool = pool; is_far = false }

-- ---- classes that have code

-- the class itself, AnyRef and Any
abbrev pub is_plain_line : SymId → List SymId → Bool
is_plain_line own (a ∷ b ∷ c ∷ []) = same_symbol a own && same_symbol b ANY_REF && same_symbol c ANY
is_plain_line own _ = false

abbrev pub no_trees : Trees → Bool
no_trees none = true
no_trees (more t ts) = false

abbrev pub is_empty_template : Template → Bool
is_empty_template t = none_of t.prefixes && no_trees t.arguments && no_trees t.statements

abbrev pub has_empty_template : Option Template → Bool
has_empty_template None = true
has_empty_template (Some t) = is_empty_template t

-- the program has one class, and nothing overrides in it
abbrev pub is_only : CoreClass → List CoreClass → Bool
is_only k [] = false
is_only k (c ∷ []) = same_symbol c.symbol k.symbol && none_of k.override_pairs
is_only k (c ∷ d ∷ ds) = false

-- the name can be that of a class, and its last unit is `$`, which tells the classes of objects from all others
abbrev pub ends_in_dollar : List ℕ → Bool
ends_in_dollar [] = false
ends_in_dollar (u ∷ []) = nat_eq u 36
ends_in_dollar (u ∷ v ∷ us) = ends_in_dollar (v ∷ us)

abbrev pub is_class_name : Around → List ℕ → Bool
is_class_name g own = not (is_array own) && is_method (get_name g).descriptor && ends_in_dollar own

abbrev pub is_fitting : Around → Program → CoreClass → Bool
is_fitting g p k = is_class_name g (units_of_name k.binary_name) && is_well_typed g p.bodies k.members

-- an object at the top, the only class of its program, whose template does nothing and whose methods are well typed
abbrev pub is_built : Program → CoreClass → Bool
is_built p k =
    is_top_object p.table k && is_plain_line k.symbol k.linearisation && has_empty_template (look p.templates k.symbol)
    && is_only k p.table.classes && is_fitting (around p k []) p k

-- ---- the pool

-- the names of the class, of its superclass and of the attribute `Code`
abbrev pub first_pool : Around → List PoolEntry
first_pool g = with_utf8 (with_class (with_class [] (units_of_name g.class.binary_name)) (codes "java/lang/Object")) (codes "Code")

abbrev pub with_method : Around → List PoolEntry → Method → Option (List PoolEntry)
with_method g p m = with_instrs g (with_utf8 (with_utf8 p m.name) m.descriptor) m.instrs

-- the pool with what methods need
unfoldable pub with_methods : Around → List PoolEntry → List Method → Option (List PoolEntry)
with_methods g p [] = Some p
with_methods g p (m ∷ ms) = with_method g p m >>= λ q. with_methods g q ms

-- ---- methods

-- the number, or the largest of 16 bits
abbrev pub short : ℕ → ℕ
short n = min n (2 ^ 16 - 1)

-- the attribute `Code`, whose name stands at the index
abbrev pub code_attribute : ℕ → Method → List any.Instr → Attribute
code_attribute name m code = roll-Attribute (record {
  name = name;
  body = body.Code (roll-Code (record { stack = short m.stack; locals = short m.locals; code = code; handlers = []; attributes = [] }));
})

abbrev pub flags_of : ℕ → AccessFlags
flags_of n = record { 0 = n }

-- the indices of the name and the descriptor of a method, and of the name of its attribute
pub record Names : Type 0 where
  pub name : ℕ
  pub descriptor : ℕ
  pub code : ℕ

abbrev pub names_of_rust : rust_names.Names → Names
names_of_rust n = record { name = n.name; descriptor = n.descriptor; code = n.code }

abbrev pub names_of : List PoolEntry → Method → Option Names
names_of p m =
    found (utf8_index p m.name) >>= λ name. found (utf8_index p m.descriptor) >>= λ descriptor. found (utf8_index p (codes "Code")) >>= λ code.
    Some (record { name = name; descriptor = descriptor; code = code })

abbrev pub info_with : Names → Method → List any.Instr → MemberInfo
info_with n m code = record {
  flags = flags_of m.flags;
  name = n.name;
  descriptor = n.descriptor;
  attributes = code_attribute n.code m code ∷ [];
}

abbrev pub member_info : Around → Method → Option MemberInfo
member_info g m = encoded_from g [] m.instrs >>= λ code. names_of g.pool m >>= λ names. Some (info_with names m code)

-- methods of the file, and behind them these
unfoldable pub member_infos : Around → List MemberInfo → List Method → Option (List MemberInfo)
member_infos g found [] = Some found
member_infos g found (m ∷ ms) = member_info g m >>= λ x. member_infos g (found ++ x ∷ []) ms

-- ---- the file

-- the pool and the methods of a class file
pub record Made : Type 0 where
  pub pool : List PoolEntry
  pub methods : List Method

abbrev pub made_of_rust : rust.Made → Made
made_of_rust m = record { pool = m.pool; methods = map method_of_rust m.methods.items }

abbrev pub needed_in : Around → Program → Option (List PoolEntry)
needed_in g p = methods_of g p.bodies >>= λ ms. with_methods g (first_pool g) ms

-- the pool that the code of the class needs: what code names doesn't depend on where it stands
abbrev pub needed : Program → CoreClass → Option (List PoolEntry)
needed p k = needed_in (around p k []) p

-- a method has the name and the descriptor of another one (JVMS 4.6)
abbrev pub is_same : Method → Method → Bool
is_same m n = pointwise nat_eq m.name n.name && pointwise nat_eq m.descriptor n.descriptor

unfoldable pub is_among : Method → List Method → Bool
is_among m [] = false
is_among m (n ∷ ns) = is_same m n || is_among m ns

unfoldable pub are_distinct : List Method → Bool
are_distinct [] = true
are_distinct (m ∷ ms) = not (is_among m ms) && are_distinct ms

abbrev pub made_with : List PoolEntry → List Method → Option Made
made_with pool ms = cond (are_distinct ms && list_all fits pool) (Some (record { pool = pool; methods = ms })) None

abbrev pub made_under : Program → CoreClass → List PoolEntry → Option Made
made_under p k pool = methods_of (around p k pool) p.bodies >>= made_with pool

-- the pool and the methods, whose code has the indices of this pool
abbrev pub made : Program → CoreClass → Option Made
made p k = cond (is_built p k) (needed p k >>= λ pool. made_under p k pool) None

abbrev pub file_with : List PoolEntry → List MemberInfo → ℕ → ℕ → ClassFile
file_with pool infos this parent = record {
  minor = 0;
  major = 52;
  pool = pool;
  flags = flags_of 0x21;
  this = this;
  parent = parent;
  interfaces = [];
  fields = [];
  methods = infos;
  attributes = [];
}

-- with the indices of the class itself and of its superclass
abbrev pub file_by : CoreClass → List PoolEntry → List MemberInfo → Option ClassFile
file_by k pool infos =
    found (class_index pool (units_of_name k.binary_name)) >>= λ this. found (class_index pool (codes "java/lang/Object")) >>= λ parent.
    Some (file_with pool infos this parent)

abbrev pub file : Program → CoreClass → Made → Option ClassFile
file p k m = member_infos (around p k m.pool) [] m.methods >>= λ infos. file_by k m.pool infos

abbrev pub large : CoreClass → Excess → Large
large k e = record { class = k.binary_name; kind = e.kind; number = e.number }

abbrev pub sized : Program → CoreClass → Made → Option Excess → Option (Result ClassFile Large)
sized p k m None = file p k m >>= λ c. Some (Ok c)
sized p k m (Some e) = Some (Err (large k e))

-- the class file of a class, or what of it doesn't fit one
unfoldable pub file_of : Program → CoreClass → Option (Result ClassFile Large)
file_of p k = made p k >>= λ m. sized p k m (excess_of m.pool m.methods)

abbrev pub Refuses : GenFault → Option (Result ClassFile Large) → Type 0
Refuses (TooLarge large) answer = answer ≡ Some (Err large)
Refuses NotBuilt answer = answer ≡ None
Refuses NoMemory answer = Unit {0}

-- what is answered is what the definition gives, unless memory ran out
abbrev pub Answers : Result ClassFile GenFault → Option (Result ClassFile Large) → Type 0
Answers (Ok c) answer = answer ≡ Some (Ok c)
Answers (Err fault) answer = Refuses fault answer
