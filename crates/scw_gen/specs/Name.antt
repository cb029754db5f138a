-- Names and descriptors of methods: JVMS 4.2 and 4.3. A name of the source stands as it is.
use Rattle.std.specs.Prelude.{ℕ, List, [], ◌∷◌, ◌++◌, cond, Option, Some, None, codes}
use Rattle.scw_classfile.specs.Descriptor.{is_method}
use Rattle.scw_core.specs.Text.{units_of_name}
use Rattle.scw_core.specs.Types.{Name}
use Rattle.scw_core.specs.declared.class.Member.{Member}
use Rattle.scw_core.specs.declared.class.Parameter.{Parameter}
use Rattle.scw_gen.specs.Outcome.{◌>>=◌}
use Rattle.scw_gen.specs.Around.{Around, kind_in}
use Rattle.scw_gen.specs.declared.instr.BuiltIn.{BuiltIn}
use Rattle.scw_gen.specs.declared.instr.BuiltIn.TheVariants as built
use Rattle.scw_gen.specs.declared.kind.Kind.{Kind}
use Rattle.scw_gen.specs.declared.kind.Kind.TheVariants as kind
use Rattle.scw_gen.specs.declared.pool.MethodName.{MethodName}

-- ---- descriptors

abbrev pub this_text : Name → List ℕ
this_text own = codes "L" ++ units_of_name own ++ codes ";"

-- of a value
abbrev pub field_text : Name → Kind → List ℕ
field_text own kind.Unit = codes "Lscalaw/rt/Unit;"
field_text own kind.Boolean = codes "Z"
field_text own kind.Int = codes "I"
field_text own kind.Long = codes "J"
field_text own kind.String = codes "Ljava/lang/String;"
field_text own kind.Strings = codes "[Ljava/lang/String;"
field_text own kind.This = this_text own

-- of a result
abbrev pub result_text : Name → Kind → List ℕ
result_text own kind.Unit = codes "V"
result_text own kind.Boolean = field_text own kind.Boolean
result_text own kind.Int = field_text own kind.Int
result_text own kind.Long = field_text own kind.Long
result_text own kind.String = field_text own kind.String
result_text own kind.Strings = field_text own kind.Strings
result_text own kind.This = field_text own kind.This

abbrev pub kind_of_parameter : Around → Parameter → Option Kind
kind_of_parameter g x = cond x.is_by_name None (kind_in g x.type_id)

abbrev pub opened : List ℕ
opened = codes "("

-- a text, and behind it that of the parameters
unfoldable pub parameters_text : Around → List ℕ → List Parameter → Option (List ℕ)
parameters_text g text [] = Some text
parameters_text g text (x ∷ xs) = kind_of_parameter g x >>= λ k. parameters_text g (text ++ field_text g.class.binary_name k) xs

abbrev pub closed : Around → List ℕ → Option Kind → Option (List ℕ)
closed g text None = None
closed g text (Some k) = Some ((text ++ codes ")") ++ result_text g.class.binary_name k)

-- of a method
abbrev pub descriptor : Around → Member → Option (List ℕ)
descriptor g m = parameters_text g opened m.parameters >>= λ text. closed g text (kind_in g m.result)

-- ---- methods

abbrev pub named : List ℕ → List ℕ → List ℕ → MethodName
named class name descriptor = record { class = class; name = name; descriptor = descriptor }

abbrev pub own_method : Around → List ℕ → List ℕ → MethodName
own_method g name descriptor = named (units_of_name g.class.binary_name) name descriptor

-- a name with a descriptor of JVMS 4.3.3
abbrev pub described : MethodName → Option MethodName
described n = cond (is_method n.descriptor) (Some n) None

-- of the class itself
abbrev pub method_name : Around → Member → Option MethodName
method_name g m = descriptor g m >>= λ text. described (own_method g (units_of_name m.name) text)

abbrev pub run_method : List ℕ → List ℕ → MethodName
run_method name descriptor = named (codes "scalaw/rt/Run") name descriptor

-- of the machine's own classes
abbrev pub built_in_name : BuiltIn → MethodName
built_in_name built.Print = run_method (codes "print") (codes "(Ljava/lang/String;)V")
built_in_name built.Concat = run_method (codes "concat") (codes "(Ljava/lang/String;Ljava/lang/String;)Ljava/lang/String;")
built_in_name built.Unit = run_method (codes "unit") (codes "()Lscalaw/rt/Unit;")
built_in_name built.BoxBoolean = run_method (codes "box") (codes "(Z)Ljava/lang/Boolean;")
built_in_name built.BoxInt = run_method (codes "box") (codes "(I)Ljava/lang/Integer;")
built_in_name built.BoxLong = run_method (codes "box") (codes "(J)Ljava/lang/Long;")
built_in_name built.ToString = named (codes "java/lang/Object") (codes "toString") (codes "()Ljava/lang/String;")

abbrev pub object_init : MethodName
object_init = named (codes "java/lang/Object") (codes "<init>") (codes "()V")

abbrev pub this_init : Around → MethodName
this_init g = own_method g (codes "<init>") (codes "()V")

-- the method of the class that gives its object
abbrev pub get_name : Around → MethodName
get_name g = own_method g (codes "$get") (codes "()" ++ this_text g.class.binary_name)
