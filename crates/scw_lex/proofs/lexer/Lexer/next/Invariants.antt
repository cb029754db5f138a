use Rattle.std.proofs.Common.{◌≡◌, length}
use Rattle.scw_lex.proofs.NextLemmas.{ReadSoFar}
use Rattle.scw_lex.proofs.lexer.Lexer.next.Given as goal

abbrev pub invariant-loop-alloc : goal.invariant-loop-alloc
invariant-loop-alloc l =
    (l.self.file ≡ l.fn.self.file) × ReadSoFar l.self.file l.since l.from l.self.at l.self.text.now

abbrev pub decreases-loop-alloc : goal.decreases-loop-alloc
decreases-loop-alloc l = length l.self.text.now
