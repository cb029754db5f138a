use Rattle.std.proofs.Common.{refl, sym}
use Rattle.scw_text.proofs.PlaceLemmas.{column_of-zero}
use Rattle.scw_text.proofs.source.Source.place.Goals as goal

pub loop-before-init : goal.loop-before-init
loop-before-init c = record { line = refl; column = sym (column_of-zero c.as_slice-bytes.result.now) }
