use Rattle.std.proofs.Common.{length}
use Rattle.scw_reader.proofs.LayoutLemmas.{ReadSoFar}
use Rattle.scw_reader.proofs.layout.read_tokens.Given as goal

abbrev pub invariant-loop-token : goal.invariant-loop-token
invariant-loop-token l = ReadSoFar l.bytes l.tokens l.lines l.rest

abbrev pub decreases-loop-token : goal.decreases-loop-token
decreases-loop-token l = length l.rest
