use Rattle.std.proofs.Common.{◌≡◌, ◌-◌, length}
use Rattle.scw_code.specs.Code.{decoded, decoded_from, with_front}
use Rattle.scw_code.proofs.decoding.decode.Given as goal

abbrev pub invariant-loop : goal.invariant-loop
invariant-loop l = with_front l.instrs.items (decoded_from (length l.bytes - l.counter) (length l.bytes) l.rest) ≡ decoded l.bytes
