use Rattle.std.proofs.Common.{◌≡◌, drop, false}
use Rattle.scw_lex.specs.Gap.{has_blank_line}
use Rattle.scw_lex.proofs.gap.has_blank_line.Given as goal

abbrev pub invariant-loop-c : goal.invariant-loop-c
invariant-loop-c l = has_blank_line l.is_open (drop l.c-index l.text) ≡ has_blank_line false l.text
