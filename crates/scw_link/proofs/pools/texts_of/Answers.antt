use Rattle.std.proofs.Common.{◌∷◌, [], ap, map}
use Rattle.scw_link.specs.Types.{pool_texts, text_of}
use Rattle.scw_link.proofs.ListLemmas.{pieces_more}
use Rattle.scw_link.proofs.pools.texts_of.Goals as goal

pub loop-file-preserved : goal.loop-file-preserved
loop-file-preserved c =
    pieces_more pool_texts ([] ∷ []) c.args.files.now c.loop-file.file-index c.file-item.result c.loop-file.texts c.push_texts.new.texts _
    c.loop-file-test.true c.file-item.is c.loop-file.invariant
    (ap (λ p. map (text_of p) p) c.as_slice.ensures) c.in_ok-push_texts.ensures
