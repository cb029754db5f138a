-- Which bytes are a source of the small language, and which program they mean.
use Rattle.std.specs.Prelude.{◌≡◌, ℕ, List, Some}
use Rattle.scw_core.specs.Program.{Program}
use Rattle.scw_reader.specs.Source.{Says}
use Rattle.scw_reader.specs.Syntax.{Source}
use Rattle.scw_small.specs.Whole.{typed}

-- the bytes say a syntax tree whose program it is
pub record SaysProgram (bytes : List ℕ) (p : Program) : Type 0 where
  pub source : Source
  pub says : Says bytes source
  pub means : typed source ≡ Some p
