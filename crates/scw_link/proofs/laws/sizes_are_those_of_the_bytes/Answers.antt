use Rattle.scw_link.proofs.SizeLemmas.{bytes-whole, size-before, size-method}
use Rattle.scw_link.proofs.laws.sizes_are_those_of_the_bytes.Goals as goal

pub returns : goal.returns
returns c = record { whole = bytes-whole; before = size-before; method = size-method }
