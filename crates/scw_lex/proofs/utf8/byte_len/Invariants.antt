use Rattle.std.proofs.Common.{◌≡◌, ◌+◌, ◌*◌, ◌≤◌, length, drop}
use Rattle.std.specs.Str.{encode_utf8_all}
use Rattle.scw_lex.proofs.utf8.byte_len.Given as goal

abbrev pub invariant-loop-c : goal.invariant-loop-c
invariant-loop-c l = (l.len + length (encode_utf8_all (drop l.c-index l.text)) ≡ length (encode_utf8_all l.text)) × (l.len ≤ 4 * l.c-index)
