use Rattle.std.proofs.Common.{◌≡◌, ◌+◌, ◌≤◌, false, [], length}
use Rattle.scw_lex.specs.Comment.{block_len}
use Rattle.scw_lex.specs.declared.comment.Begun.TheVariants as begun
use Rattle.scw_lex.proofs.comment.block_len.Given as goal

abbrev pub invariant-loop-rest : goal.invariant-loop-rest
invariant-loop-rest l = (block_len l.inner l.begun l.len l.rest ≡ block_len 0 begun.Nothing 0 l.text) × (l.len + length l.rest ≡ length l.text) × (l.inner ≤ l.len)

abbrev pub decreases-loop-rest : goal.decreases-loop-rest
decreases-loop-rest l = length l.rest
