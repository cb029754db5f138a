use Rattle.std.proofs.Common.{◌≡◌, length}
use Rattle.std.specs.Str.{bytes_eq}
use Rattle.scw_lex.proofs.reserved.has_chars.Given as goal

abbrev pub invariant-loop-word : goal.invariant-loop-word
invariant-loop-word l = bytes_eq l.word l.text ≡ bytes_eq l.initial.word l.initial.text

abbrev pub decreases-loop-word : goal.decreases-loop-word
decreases-loop-word l = length l.text
