-- What the code of a class depends on beside its trees.
use Rattle.std.specs.Prelude.{List, Bool, Option}
use Rattle.scw_text.specs.declared.number.TypeId.{TypeId}
use Rattle.scw_classfile.specs.declared.pool_entry.PoolEntry.{PoolEntry}
use Rattle.scw_core.specs.Program.{Table}
use Rattle.scw_core.specs.ProgramOf.{table_of}
use Rattle.scw_core.specs.declared.class.CoreClass.{CoreClass}
use Rattle.scw_gen.specs.Kind.{kind_at}
use Rattle.scw_gen.specs.declared.around.Around as rust
use Rattle.scw_gen.specs.declared.kind.Kind.{Kind}

pub record Around : Type 0 where
  pub table : Table
  pub class : CoreClass
  pub pool : List PoolEntry
  -- jumps have ways of 32 bits
  pub is_far : Bool

abbrev pub around_of : rust.Around → Around
around_of g = record { table = table_of g.table.now; class = g.class.now; pool = g.pool.now; is_far = g.is_far }

-- what a value of the type is
abbrev pub kind_in : Around → TypeId → Option Kind
kind_in g t = kind_at g.table g.class.symbol t
