use Rattle.std.proofs.Common.{ap, map, ◌∙◌, length}
use Rattle.std.specs.List.{range_with_len}
use Rattle.scw_link.proofs.ListLemmas.{range_more}
use Rattle.scw_link.specs.AncestorRows.{next_bit, next_row}
use Rattle.scw_link.proofs.ancestors.next_rows.Goals as goal

pub loop-c-preserved : goal.loop-c-preserved
loop-c-preserved c =
    let same = ap (λ ss. map (next_bit c.args.rows.now ss c.loop-c.c) (range_with_len 0 (length c.args.supers.now))) c.supers_at.ensures in
    range_more (next_row c.args.supers.now c.args.rows.now) c.loop-c.c c.loop-c.next c.push.new.self _ c.loop-c.invariant (c.in_ok-next_row.ensures ∙ same) c.in_ok-push.ensures.ok
