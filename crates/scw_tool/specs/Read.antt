-- What was read of the file that the words name.
use Rattle.std.specs.Prelude.{◌≡◌, ℕ, List, Option, Some}
use Rattle.scw_outside.specs.Content.{Files, Reads}
use Rattle.scw_tool.specs.declared.limit.TheConstants.{MOST_CLASS_READ, MOST_SOURCE_READ}
use Rattle.scw_tool.specs.declared.words.Mode.{Mode}
use Rattle.scw_tool.specs.declared.words.Mode.TheVariants as mode
use Rattle.scw_tool.specs.Words.{job_name, IsMode}

-- one byte more than the longest source, or class file
abbrev pub most_read : Mode → ℕ
most_read mode.Run = MOST_SOURCE_READ
most_read mode.Dis = MOST_CLASS_READ

-- the words are a job of the mode, whose file gave these bytes
pub record HasRead (mode : Mode) (words : List (List ℕ)) (told : Option Files) (source : List ℕ) : Type 0 where
  pub is_mode : IsMode words mode
  pub name : List ℕ
  pub job : job_name words ≡ Some name
  pub read : Reads told name (most_read mode) source
