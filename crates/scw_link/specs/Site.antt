-- What the instructions of a file are resolved by.
use Rattle.std.specs.Prelude.{ℕ, List, Option}
use Rattle.scw_classfile.specs.declared.class_file.ClassFile.{ClassFile}
use Rattle.scw_classfile.specs.declared.pool_entry.PoolEntry.{PoolEntry}

-- a name and a descriptor that virtual calls select by
pub record Selector : Type 0 where
  pub name : List ℕ
  pub descriptor : List ℕ

pub record Site : Type 0 where
  -- the files of the program
  pub files : List ClassFile
  -- the direct superclass of each class
  pub parents : List (Option ℕ)
  pub selectors : List Selector
  -- the pool of the file
  pub pool : List PoolEntry
  -- how many pool entries the files before it have
  pub before : ℕ
