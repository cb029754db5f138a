use Rattle.std.proofs.Common.{◌∙◌}
use Rattle.scw_step.proofs.TextLemmas.{length-text_in}
use Rattle.scw_step.proofs.text.length_at.Goals as goal

pub returns-then-is_text-clause-value : goal.returns-then-is_text-clause-value
returns-then-is_text-clause-value c =
    length-text_in c.args.heap.now c.args.r c.in_ok-shape.shape.kind c.in_ok-shape.ensures.kind (cc) ∙ c.in_ok-shape.ensures.words
