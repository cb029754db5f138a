use Rattle.std.proofs.Common.{◌≡◌, ◌++◌, drop}
use Rattle.scw_dis.specs.Mnemonic.{word}
use Rattle.scw_dis.proofs.mnemonic.write_word.Given as goal

abbrev pub invariant-loop-byte : goal.invariant-loop-byte
invariant-loop-byte l = l.out.items ++ word l.left (drop l.byte-index l.words) ≡ l.fn.out.items ++ word l.fn.number l.words
