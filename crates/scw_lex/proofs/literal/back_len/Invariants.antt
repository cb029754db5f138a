use Rattle.std.proofs.Common.{◌≡◌, ◌+◌, ◌-◌, ◌≤◌, length, drop}
use Rattle.std.specs.List.{prefix_len}
use Rattle.std.specs.Prelude.{not, codes}
use Rattle.scw_lex.specs.Character.{is_of}
use Rattle.scw_lex.proofs.literal.back_len.Given as goal

abbrev pub invariant-loop-len : goal.invariant-loop-len
invariant-loop-len l = (l.len + prefix_len (λ c. not (is_of (codes "`\n") c)) (drop l.len l.text) ≡ prefix_len (λ c. not (is_of (codes "`\n") c)) l.text) × (l.len ≤ length l.text)

abbrev pub decreases-loop-len : goal.decreases-loop-len
decreases-loop-len l = length l.text - l.len
