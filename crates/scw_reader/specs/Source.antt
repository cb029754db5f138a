-- Which bytes are a source, and of which syntax tree.
use Rattle.std.specs.Prelude.{◌≤◌, ℕ, List, [], length}
use Rattle.scw_reader.specs.declared.limit.TheConstants.{MAX_BYTES}
use Rattle.scw_reader.specs.Syntax.{Source}
use Rattle.scw_reader.specs.Layout.{Spelled}
use Rattle.scw_reader.specs.Grammar.{source_tokens}
use Rattle.scw_reader.specs.Limits.{Fits}

-- the bytes are the tokens of the tree, and both are within the limits
pub record Says (bytes : List ℕ) (e : Source) : Type 0 where
  pub few : length bytes ≤ MAX_BYTES
  pub text : Spelled bytes (source_tokens e [])
  pub fits : Fits e
