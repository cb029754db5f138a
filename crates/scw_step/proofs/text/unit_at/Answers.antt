use Rattle.std.proofs.Common.{sym}
use Rattle.scw_step.proofs.TextLemmas.{word-text_in, get-text_in}
use Rattle.scw_step.proofs.text.unit_at.Goals as goal

pub get-requires : goal.get-requires
get-requires c = word-text_in c.args.heap.now c.args.r c.args.i c.requires

pub returns : goal.returns
returns c = rw c.get.ensures.value (sym (get-text_in c.args.heap.now c.args.r c.args.i c.requires))
