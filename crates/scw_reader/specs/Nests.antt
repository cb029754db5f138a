-- A function value that reads an expression which fits so many levels.
use Rattle.std.specs.Prelude.{ℕ, Result}
use Rattle.std.specs.declared.alloc.Global.{Global}
use denote.Ref.{MutBor}
use Rattle.scw_reader.specs.declared.cursor.Cursor.{Cursor}
use Rattle.scw_reader.specs.declared.failure.Failure.{Failure}
use Rattle.scw_reader.specs.declared.tree.Expression.{Expression}
use Rattle.scw_reader.specs.Parser.{Reads}
use Rattle.scw_reader.specs.Reading.{expression_at}
use Rattle.scw_reader.specs.View.{expression_of}

-- it may be called on any tokens, and gives what the definition gives at that number of levels
pub record Nests (levels : ℕ) (pre : Global → MutBor Cursor → ℕ → Type 0)
    (post : Global → MutBor Cursor → ℕ → Result Expression Failure → MutBor Cursor → Type 0) : Type 0 where
  pub callable : (alloc : Global) (old : MutBor Cursor) → pre alloc old levels
  pub reads : (alloc : Global) (old new : MutBor Cursor) (r : Result Expression Failure) → post alloc old levels r new
      → Reads expression_of (expression_at levels old.now.rest.now) r new.now.rest.now
