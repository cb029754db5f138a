-- What instructions name in the pool: JVMS 6.5, the indices behind opcodes.
use Rattle.std.specs.Prelude.{ℕ, List, [], ◌∷◌, ◌++◌, Option, Some, None}
use Rattle.scw_text.specs.declared.number.SymId.{SymId}
use Rattle.scw_classfile.specs.declared.pool_entry.PoolEntry.{PoolEntry}
use Rattle.scw_code.specs.declared.instr.Instr as any
use Rattle.scw_core.specs.Program.{in_members, text_at}
use Rattle.scw_core.specs.Text.{units_of_name}
use Rattle.scw_core.specs.declared.class.Member.{Member}
use Rattle.scw_core.specs.declared.operator.TextId.{TextId}
use Rattle.scw_gen.specs.Outcome.{◌>>=◌}
use Rattle.scw_gen.specs.Around.{Around}
use Rattle.scw_gen.specs.Encode.{encoded}
use Rattle.scw_gen.specs.Name.{built_in_name, method_name, object_init, this_init}
use Rattle.scw_gen.specs.Pool.{class_index, found, integer_index, long_index, method_index, string_index, with_class, with_integer, with_long, with_method, with_string}
use Rattle.scw_gen.specs.declared.instr.Constant.{Constant}
use Rattle.scw_gen.specs.declared.instr.Constant.TheVariants as constant
use Rattle.scw_gen.specs.declared.instr.Instr.{Instr}
use Rattle.scw_gen.specs.declared.instr.Instr.TheVariants as instr
use Rattle.scw_gen.specs.declared.named.Named.{Named}
use Rattle.scw_gen.specs.declared.named.Named.TheVariants.{Nothing, Integer, Long, Text, Class, Method}

abbrev pub named_text : Around → TextId → Option Named
named_text g t = text_at g.table t >>= λ text. Some (Text text)

abbrev pub named_constant : Around → Constant → Option Named
named_constant g (constant.Int n) = Some (Integer n)
named_constant g (constant.Text t) = named_text g t

abbrev pub named_member : Around → Option Member → Option Named
named_member g None = None
named_member g (Some m) = method_name g m >>= λ n. Some (Method n)

abbrev pub named_method : Around → SymId → Option Named
named_method g x = named_member g (in_members g.class.members x)

abbrev pub named_by : Around → Instr → Option Named
named_by g (instr.Constant c) = named_constant g c
named_by g (instr.WideConstant c) = named_constant g c
named_by g (instr.LongConstant n) = Some (Long n)
named_by g (instr.Call x) = named_method g x
named_by g (instr.CallBuiltIn m) = Some (Method (built_in_name m))
named_by g instr.InitObject = Some (Method object_init)
named_by g instr.InitThis = Some (Method (this_init g))
named_by g instr.New = Some (Class (units_of_name g.class.binary_name))
named_by g _ = Some Nothing

-- where it stands in the pool; what is nothing has the index 0
abbrev pub index_of_named : List PoolEntry → Named → Option ℕ
index_of_named p Nothing = Some 0
index_of_named p (Integer n) = found (integer_index p n)
index_of_named p (Long n) = found (long_index p n)
index_of_named p (Text text) = found (string_index p text)
index_of_named p (Class name) = found (class_index p name)
index_of_named p (Method m) = found (method_index p m)

abbrev pub with_named : List PoolEntry → Named → List PoolEntry
with_named p Nothing = p
with_named p (Integer n) = with_integer p n
with_named p (Long n) = with_long p n
with_named p (Text text) = with_string p text
with_named p (Class name) = with_class p name
with_named p (Method m) = with_method p m

-- the pool with what instructions name
unfoldable pub with_instrs : Around → List PoolEntry → List Instr → Option (List PoolEntry)
with_instrs g p [] = Some p
with_instrs g p (i ∷ is) = named_by g i >>= λ n. with_instrs g (with_named p n) is

-- a code, and behind it instructions with their opcodes and operands
unfoldable pub encoded_from : Around → List any.Instr → List Instr → Option (List any.Instr)
encoded_from g code [] = Some code
encoded_from g code (i ∷ is) = named_by g i >>= λ n. index_of_named g.pool n >>= λ index. encoded_from g (code ++ encoded i index ∷ []) is
